-- The front literal beside another, found by codes alone.
use Rattle.std.proofs.Common.{◌≡◌, ℕ, ◌+◌, ◌*◌, ◌/◌, ◌%◌, ◌<◌, ◌≤◌, Bool, true, false, List, [], ◌∷◌, bit_xor, nat_eq, length, slice_index_or, refl, ap, sym, ◌∙◌, arith, ◌⊎◌, inl, inr}
use lib.Bits.{xor_assoc, xor_comm, xor_self, xor_zero_r}
use Rattle.theory.specs.Literals.{Literal, Clause, same}
use Rattle.theory.proofs.literals.LiteralLemmas.{same-eq, same-refl}
use Rattle.cnf.specs.Lits.{code}
use Rattle.kernel.specs.declared.watches.watch.Watched.{Watched}
use Rattle.kernel.specs.Arranging.{front}
use Rattle.kernel.specs.Seeing.{CanSee, other_front}

last-two : (a b : ℕ) → bit_xor (bit_xor a b) b ≡ a
last-two a b = xor_assoc a b b ∙ ap (bit_xor a) (xor_self b) ∙ xor_zero_r a

outer-two : (a b : ℕ) → bit_xor (bit_xor a b) a ≡ b
outer-two a b = ap (λ n. bit_xor n a) (xor_comm a b) ∙ last-two b a

beside-first : (w : Watched) (g : Literal) → w.first ≡ g → bit_xor (bit_xor (code w.first) (code w.second)) (code g) ≡ code (other_front w g)
beside-first w g e = rw (e, same-refl g) (outer-two (code g) (code w.second))

-- of three codes of which two are one, the other one is left
pub code-beside : (w : Watched) (g : Literal) → (w.first ≡ g) ⊎ (w.second ≡ g) → bit_xor (bit_xor (code w.first) (code w.second)) (code g) ≡ code (other_front w g)
code-beside w g (inl e) = beside-first w g e
code-beside w g (inr e) = go (same w.first g) refl
  where
    go : (b : Bool) → same w.first g ≡ b → bit_xor (bit_xor (code w.first) (code w.second)) (code g) ≡ code (other_front w g)
    go true s = beside-first w g (same-eq w.first g s)
    go false s = rw (e, s) (last-two (code w.first) (code g))

-- what holds of both front literals holds of the one beside another
pub either-front : (P : Literal → Type 0) (w : Watched) (g : Literal) → P w.first → P w.second → P (other_front w g)
either-front P w g p q = go (same w.first g) refl
  where
    go : (b : Bool) → same w.first g ≡ b → P (other_front w g)
    go true s = rw s q
    go false s = rw s p

pub front-two : (c : Clause) (a b : Literal) → 2 ≤ length c → a ≡ slice_index_or c 0 a → b ≡ slice_index_or c 1 b → front c ≡ record { first = a; second = b }
front-two [] a b long x y = absurd (omega (arith, long))
front-two (k ∷ []) a b long x y = absurd (omega (arith, long))
front-two (k ∷ l ∷ c) a b long x y = λ i. record { first = (sym x) i; second = (sym y) i }

half : (v d : ℕ) → d < 2 → (2 * v + d) / 2 ≡ v
half v d small = omega (arith, small)

odd : (v : ℕ) → (2 * v + 1) % 2 ≡ 1
odd v = omega arith

even : (v : ℕ) → (2 * v + 0) % 2 ≡ 0
even v = omega arith

-- a code gives its literal back
pub literal-code : (l : Literal) → record { var = code l / 2; positive = nat_eq (code l % 2) 1 } ≡ l
literal-code l = go l.positive refl
  where
    go : (b : Bool) → l.positive ≡ b → record { var = code l / 2; positive = nat_eq (code l % 2) 1 } ≡ l
    go true e = rw (e, half l.var 1 (omega arith), odd l.var) refl
    go false e = rw (e, half l.var 0 (omega arith), even l.var) refl

-- the codes of a clause's first two literals and of one of them give that of the other
pub clause-beside : (c : Clause) (g a b : Literal) (m n k : ℕ) → 2 ≤ length c → ((front c).first ≡ g) ⊎ ((front c).second ≡ g) → a ≡ slice_index_or c 0 a → b ≡ slice_index_or c 1 b
    → m ≡ code a → n ≡ code b → k ≡ code g → bit_xor (bit_xor m n) k ≡ code (other_front (front c) g)
clause-beside c g a b m n k long either x y e f h =
    rw (e, f, h) (ap (λ (w : Watched). bit_xor (bit_xor (code w.first) (code w.second)) (code g)) (sym (front-two c a b long x y)) ∙ code-beside (front c) g either)

pub var-beside : (c : Clause) (g a b : Literal) → 2 ≤ length c → a ≡ slice_index_or c 0 a → b ≡ slice_index_or c 1 b → 1 ≤ a.var → 1 ≤ b.var → 1 ≤ (other_front (front c) g).var
var-beside c g a b long x y first second = rw (front-two c a b long x y) (either-front (λ (l : Literal). 1 ≤ l.var) record { first = a; second = b } g first second)

pub some-half : (l : Literal) (n : ℕ) → n ≡ code l → 1 ≤ l.var → 1 ≤ n / 2
some-half l n e some = omega (arith, e, some)

-- the literal beside one that became false is of a variable up to V
pub beside-over : (V : ℕ) (P : List Literal) (g : Literal) (c : Clause) (k : Literal) → CanSee V P g c → k ≡ other_front (front c) g → k.var ≤ V
beside-over V P g [] k s is = absurd (let a = s.long in omega (arith, a))
beside-over V P g (a ∷ []) k s is = absurd (let b = s.long in omega (arith, b))
beside-over V P g (a ∷ b ∷ r) k s is = rw is (either-front (λ l. l.var ≤ V) (front (a ∷ b ∷ r)) g (s.over 0 a (omega arith)).1 (s.over 1 a (omega arith)).1)
