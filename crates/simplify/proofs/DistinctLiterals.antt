-- How many literals a clause has, each counted once: as many as each clause with the same literals,
-- and as its length where none repeats.
use Rattle.std.proofs.Common.{◌≡◌, ℕ, suc, ◌+◌, ◌<◌, ◌≤◌, Bool, true, false, not, ◌||◌, cond, [], ◌∷◌, length, refl, ap, sym, subst, ◌∙◌, ◌⊎◌, inl, inr, arith, if◌then◌else◌}
use Rattle.std.specs.List.{dedup}
use Rattle.std.specs.List.Sorted.{IsNonDecreasingBy, IsPermutation}
use Rattle.std.proofs.lemmas.List.Sorted.{list_any-IsPermutation}
use Rattle.theory.specs.Literals.{Literal, Clause, same, has, without, has_both_signs}
use Rattle.theory.specs.Learning.{IsRising}
use Rattle.theory.specs.Trying.{size}
use Rattle.theory.proofs.literals.LiteralLemmas.{same-eq, same-refl}
use Rattle.theory.proofs.literals.LiteralSets.{true_false, false_unless, has-head, has-tail, has-cases, has-without, has-from_without}
use Rattle.cnf.specs.Lits.{code}
use Rattle.simplify.specs.Entries.{set}
use Rattle.simplify.proofs.LiteralSets.{both, IsWithin, HaveSame, within-left, within-right, HaveSame-sym, has-set, set-rising}
use Rattle.simplify.proofs.SortedLiterals.{code-one, same_code, in_front, once_each, dedup-once}

-- without a literal that it doesn't have
without-none : (d : Clause) (l : Literal) → has d l ≡ false → without d l ≡ d
without-none [] l h = refl
without-none (k ∷ d) l h = go (same l k) h (without-none d l)
  where
    go : (b : Bool) → b || has d l ≡ false → (has d l ≡ false → without d l ≡ d) → cond (not b) (k ∷ without d l) (without d l) ≡ k ∷ d
    go true t more = absurd (cc)
    go false t more = ap (λ x. k ∷ x) (more t)

-- without one of them there is one less
size-without : (d : Clause) (l : Literal) → has d l ≡ true → size d ≡ size (without d l) + 1
size-without [] l a = absurd (cc)
size-without (k ∷ d) l a = go (same l k) refl (size-without d l)
  where
    -- k is another literal
    apart : same l k ≡ false → has (without d l) k ≡ has d k
    apart e = both (has (without d l) k) (has d k) (λ b. (has-from_without d l k b).0) (λ b. has-without d l k b e)

    here : (has d l ≡ true → size d ≡ size (without d l) + 1) → (b : Bool) → has d l ≡ b → (if b then size d else size d + 1) ≡ size (without d l) + 1
    here more true b = more b
    here more false b = ap (λ c. size c + 1) (sym (without-none d l b))

    there : (b : Bool) → size d ≡ size (without d l) + 1 → (if b then size d else size d + 1) ≡ (if b then size (without d l) else size (without d l) + 1) + 1
    there true e = e
    there false e = ap (λ n. n + 1) e

    go : (b : Bool) → same l k ≡ b → (has d l ≡ true → size d ≡ size (without d l) + 1) → size (k ∷ d) ≡ size (cond (not b) (k ∷ without d l) (without d l)) + 1
    go true e more = ap (λ j. if has d j then size d else size d + 1) (sym (same-eq l k e)) ∙ here more (has d l) refl
    go false e more =
        there (has d k) (more (behind (has-cases k l d a)))
        ∙ ap (λ b. (if b then size (without d l) else size (without d l) + 1) + 1) (sym (apart e))
      where
        behind : (l ≡ k) ⊎ (has d l ≡ true) → has d l ≡ true
        behind (inl i) = true_false (same l k) (subst (λ j. same l j ≡ true) i (same-refl l)) e
        behind (inr i) = i

-- a clause within another has no more
size-within : (c d : Clause) → IsWithin c d → size c ≤ size d
size-within [] d w = omega arith
size-within (l ∷ c) d w = go (has c l) refl (size-within c)
  where
    more : (k : Literal) → has c k ≡ true → has d k ≡ true
    more k a = w k (has-tail l k c a)

    go : (b : Bool) → has c l ≡ b → ((e : Clause) → IsWithin c e → size c ≤ size e) → (if b then size c else size c + 1) ≤ size d
    go true e most = most d more
    go false e most =
        let less = most (without d l) (λ k a. has-without d l k (more k a) (false_unless (same l k) (λ t. true_false (has c l) (subst (λ j. has c j ≡ true) (sym (same-eq l k t)) a) e))) in
        let one = size-without d l (w l (has-head l c)) in
        omega arith

pub size-same : (c d : Clause) → HaveSame c d → size c ≡ size d
size-same c d h = let a = size-within c d (within-left c d h) in let b = size-within d c (within-right c d h) in omega arith

size-rising : (S : Clause) → IsRising S → size S ≡ length S
size-rising [] r = refl
size-rising (l ∷ S) r =
    ap (λ b. if b then size S else size S + 1) (false_unless (has S l) (λ a. (let less = r.0 l a in absurd (omega arith))))
    ∙ (let rest = size-rising S r.1 in omega arith)

-- the set of a clause without a variable in both signs
pub length-set_of : (c : Clause) → has_both_signs c ≡ false → length (set c) ≡ size c
length-set_of c h = sym (size-rising (set c) (set-rising c h)) ∙ size-same (set c) c (has-set c)

-- literals sorted by their codes
least-code : (k : Literal) (ys : Clause) → IsNonDecreasingBy code (k ∷ ys) → (l : Literal) → has ys l ≡ true → code k ≤ code l
least-code k [] h l a = absurd (cc)
least-code k (j ∷ ys) h l a =
    let here : code k ≤ code j = h 0 1 k (omega arith) (omega arith) in
    elim (has-cases j l ys a) [
      | inl e ↦ (let v : code l ≡ code j = ap code e in omega arith)
      | inr r ↦ (let more = least-code j ys (λ m n d x y. h (suc m) (suc n) d (omega arith) (omega arith)) l r in omega arith)
    ]

-- those that repeat stand side by side
size-once : (ys : Clause) → IsNonDecreasingBy code ys → size ys ≡ length (once_each ys)
size-once [] h = refl
size-once (l ∷ []) h = refl
size-once (l ∷ k ∷ ys) h = go (same l k) refl (size-once (k ∷ ys) rest)
  where
    rest : IsNonDecreasingBy code (k ∷ ys)
    rest = λ m n d x y. h (suc m) (suc n) d (omega arith) (omega arith)

    -- the first of them
    head : (R : Clause) → (b : Bool) → same l k ≡ b → length (in_front l (in_front k R)) ≡ length (in_front k R) + cond b 0 1
    head [] b e = ap (λ (x : Bool). length (if x then k ∷ [] else l ∷ k ∷ [])) e ∙ two b
      where
        two : (b : Bool) → length (if b then k ∷ [] else l ∷ k ∷ []) ≡ 1 + cond b 0 1
        two true = refl
        two false = refl
    head (j ∷ R) b e = inner (same k j) refl
      where
        two : (x : Literal) (S : Clause) (b : Bool) → length (if b then x ∷ S else l ∷ x ∷ S) ≡ length (x ∷ S) + cond b 0 1
        two x S true = omega arith
        two x S false = omega arith

        inner : (a : Bool) → same k j ≡ a → length (in_front l (if a then j ∷ R else k ∷ j ∷ R)) ≡ length (if a then j ∷ R else k ∷ j ∷ R) + cond b 0 1
        inner true i = ap (λ (x : Bool). length (if x then j ∷ R else l ∷ j ∷ R)) (subst (λ x. same l x ≡ b) (same-eq k j i) e) ∙ two j R b
        inner false i = ap (λ (x : Bool). length (if x then k ∷ j ∷ R else l ∷ k ∷ j ∷ R)) e ∙ two k (j ∷ R) b

    -- another one is less than all
    apart : same l k ≡ false → has (k ∷ ys) l ≡ false
    apart e = false_unless (has (k ∷ ys) l) (λ a. elim (has-cases k l ys a) [
      | inl i ↦ true_false (same l k) (subst (λ j. same l j ≡ true) i (same-refl l)) e
      | inr r ↦ (let one : code l ≤ code k = h 0 1 l (omega arith) (omega arith) in let two = least-code k ys rest l r in true_false (same l k) (subst (λ j. same l j ≡ true) (code-one l k (omega arith)) (same-refl l)) e)
    ])

    go : (b : Bool) → same l k ≡ b → size (k ∷ ys) ≡ length (in_front k (once_each ys)) → size (l ∷ k ∷ ys) ≡ length (in_front l (in_front k (once_each ys)))
    go true e r =
        ap (λ x. if x then size (k ∷ ys) else size (k ∷ ys) + 1) (subst (λ j. has (j ∷ ys) l ≡ true) (same-eq l k e) (has-head l ys))
        ∙ (let one = head (once_each ys) true e in omega arith)
    go false e r =
        ap (λ x. if x then size (k ∷ ys) else size (k ∷ ys) + 1) (apart e)
        ∙ (let one = head (once_each ys) false e in omega arith)

pub size-sorted : (xs ys zs : Clause) → IsPermutation xs ys → IsNonDecreasingBy code ys → zs ≡ dedup same_code ys → length zs ≡ size xs
size-sorted xs ys zs p h is =
    ap (λ (c : Clause). length c) (is ∙ dedup-once ys)
    ∙ (sym (size-once ys h) ∙ sym (size-same xs ys (λ l. list_any-IsPermutation (same l) xs ys p)))
