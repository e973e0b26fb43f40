-- Clauses and lists of numbers behind others.
use Rattle.std.proofs.Common.{◌≡◌, ℕ, ◌+◌, ◌*◌, ◌/◌, ◌%◌, ◌<◌, ◌≤◌, Bool, true, false, List, [], ◌∷◌, ◌++◌, length, take, max, refl, ap, sym, subst, ◌∙◌, arith, nat_eq, ne_eqb}
use Rattle.std.proofs.lemmas.List.{take-take}
use Rattle.theory.specs.Literals.{Literal, Clause}
use Rattle.theory.specs.Learning.{Line}
use Rattle.lines.specs.declared.section.Section.{Section}
use Rattle.lines.specs.declared.section.Section.TheVariants.{Literals, Hints, Forgotten}
use Rattle.cnf.specs.Lits.{code}
use Rattle.lines.specs.Rows.{Part, whole, with_number, at_zero, row, listed, with_list, IsListing, IsBetween, literal_at, code_behind, hint_behind, clause_part, hints_part, forgets_part, IsFront}

pub front-front : (xs ys zs : List ℕ) → IsFront xs ys → IsFront ys zs → IsFront xs zs
front-front xs ys zs (a, e) (b, f) = (omega (arith, a, b), sym (take-take (length xs) (length ys) zs a) ∙ ap (λ (l : List ℕ). take (length xs) l) f ∙ e)

half : (v d : ℕ) → 1 ≤ v → d < 2 → max 1 ((2 * v + d) / 2) ≡ v
half v d some small = omega (arith, some, small)

odd : (v : ℕ) → (2 * v + 1) % 2 ≡ 1
odd v = omega arith

even : (v : ℕ) → (2 * v + 0) % 2 ≡ 0
even v = omega arith

-- a code gives its literal back
pub literal-code : (l : Literal) → 1 ≤ l.var → literal_at (code l) ≡ l
literal-code l some = go l.positive refl
  where
    go : (b : Bool) → l.positive ≡ b → literal_at (code l) ≡ l
    go true e = rw (e, half l.var 1 some (omega arith), odd l.var) refl
    go false e = rw (e, half l.var 0 some (omega arith), even l.var) refl

not-zero : (n : ℕ) → 1 ≤ n → nat_eq n 0 ≡ false
not-zero n some = ne_eqb n 0 (λ e. omega (arith, e, some))

pub clause-more : (lines : List Line) (c : Clause) (old new : List ℕ) (last n : ℕ) (l : Literal) → 1 ≤ n → code_behind last n ≡ code l → 1 ≤ l.var
    → row old ≡ clause_part lines c last → (IsBetween (row old) → row new ≡ with_number (row old) n) → row new ≡ clause_part lines (c ++ l ∷ []) (code l)
clause-more lines c old new last n l some coded var e step =
    step (rw e (refl, refl)) ∙ ap (λ (p : Part). with_number p n) e ∙ rw (not-zero n some, coded, literal-code l var) refl

pub clause-ends : (lines : List Line) (c : Clause) (old new : List ℕ) (last : ℕ)
    → row old ≡ clause_part lines c last → (IsBetween (row old) → row new ≡ with_number (row old) 0) → row new ≡ hints_part lines c [] 0
clause-ends lines c old new last e step = step (rw e (refl, refl)) ∙ ap (λ (p : Part). with_number p 0) e

-- a list of numbers, with one more and at its end
pub between-listed : (s : Section) (p : Part) (ns : List ℕ) (last : ℕ) → IsBetween p → IsBetween (listed s p ns last)
between-listed Literals p ns last b = b
between-listed Hints p ns last b = b
between-listed Forgotten p ns last b = b

pub listed-more : (p : Part) (ns : List ℕ) (last n h : ℕ) → IsListing p → 1 ≤ n → hint_behind last n ≡ h → with_number (listed p.section p ns last) n ≡ listed p.section p (ns ++ h ∷ []) h
listed-more p ns last n h l some coded = go p.section refl
  where
    go : (s : Section) → p.section ≡ s → with_number (listed s p ns last) n ≡ listed s p (ns ++ h ∷ []) h
    go Literals e = absurd (l.is_behind e)
    go Hints e = rw (not-zero n some, e, coded) refl
    go Forgotten e = rw (not-zero n some, e, coded) refl

pub listed-end : (p : Part) (ns : List ℕ) (last : ℕ) → IsListing p → with_number (listed p.section p ns last) 0 ≡ with_list p ns
listed-end p ns last l = go p.section refl
  where
    go : (s : Section) → p.section ≡ s → with_number (listed s p ns last) 0 ≡ at_zero s (listed s p ns 0)
    go Literals e = absurd (l.is_behind e)
    go Hints e = rw e refl
    go Forgotten e = rw e refl

pub numbers-more : (p : Part) → IsListing p → (ns : List ℕ) (old new : List ℕ) (last n h : ℕ) → 1 ≤ n → hint_behind last n ≡ h
    → row old ≡ listed p.section p ns last → (IsBetween (row old) → row new ≡ with_number (row old) n) → row new ≡ listed p.section p (ns ++ h ∷ []) h
numbers-more p l ns old new last n h some coded e step =
    step (subst IsBetween (sym e) (between-listed p.section p ns last l.between)) ∙ ap (λ (q : Part). with_number q n) e ∙ listed-more p ns last n h l some coded

pub numbers-end : (p : Part) → IsListing p → (ns : List ℕ) (old new : List ℕ) (last : ℕ)
    → row old ≡ listed p.section p ns last → (IsBetween (row old) → row new ≡ with_number (row old) 0) → row new ≡ with_list p ns
numbers-end p l ns old new last e step =
    step (subst IsBetween (sym e) (between-listed p.section p ns last l.between)) ∙ ap (λ (q : Part). with_number q 0) e ∙ listed-end p ns last l

-- where the hints begin, and what is forgotten
pub hints-listing : (lines : List Line) (c : Clause) → IsListing (hints_part lines c [] 0)
hints-listing lines c = record { is_behind = λ e. absurd (cc); begins = refl; between = (refl, refl) }

pub forgets-listing : (lines : List Line) (c : Clause) (hs : List ℕ) → IsListing (forgets_part lines c hs [] 0)
forgets-listing lines c hs = record { is_behind = λ e. absurd (cc); begins = refl; between = (refl, refl) }
