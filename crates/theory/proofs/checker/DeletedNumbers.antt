-- The numbers of a cube's lines that are deleted, and the step that deletes them.
use Rattle.std.proofs.Common.{◌≡◌, ℕ, zero, suc, ◌+◌, ◌-◌, ◌<◌, ◌≤◌, Bool, true, false, not, List, [], ◌∷◌, ◌++◌, map, filter, cond, eq-eqb, refl, ap, ◌∙◌, nat_eq, eqb-true, inl, inr, arith, All}
use Rattle.std.proofs.lemmas.List.Elements.{All-nil, All-cons, All-weaker}
use Rattle.theory.specs.Literals.{Literal}
use Rattle.theory.specs.Steps.{delete}
use Rattle.theory.specs.Deletions.{is_among, are_different}
use Rattle.theory.specs.Proofs.{numbers_from, deletion}
use Rattle.theory.proofs.literals.LiteralLemmas.{and-left, and-right, or-cases, or-left, or-right, not_true}
use Rattle.theory.proofs.literals.LiteralSets.{true_false, and-true, false_unless}

-- numbers from n on
pub numbers_from-within : (n count k : ℕ) → is_among k (numbers_from n count) ≡ true → (n ≤ k) × (k < n + count)
numbers_from-within n zero k h = absurd (cc)
numbers_from-within n (suc count) k h = elim (or-cases (nat_eq k n) (is_among k (numbers_from (n + 1) count)) h) [
  | inl e ↦ let same : k ≡ n = eqb-true k n e in (omega arith, omega arith)
  | inr r ↦ let more = numbers_from-within (n + 1) count k r in let low = more.0 in let high = more.1 in (omega arith, omega arith)
]

pub are_different-numbers_from : (n count : ℕ) → are_different (numbers_from n count) ≡ true
are_different-numbers_from n zero = refl
are_different-numbers_from n (suc count) =
    let alone : is_among n (numbers_from (n + 1) count) ≡ false
    = false_unless (is_among n (numbers_from (n + 1) count)) (λ a. let low = (numbers_from-within (n + 1) count n a).0 in omega arith) in
    and-true (not (is_among n (numbers_from (n + 1) count))) (are_different (numbers_from (n + 1) count)) (ap not alone) (are_different-numbers_from (n + 1) count)

-- of no numbers there is no deletion
pub deletion-none : (Q : List Literal) (last : ℕ) → deletion Q last [] ≡ []
deletion-none [] last = refl
deletion-none (l ∷ Q) last = refl

-- in a half of a cube there is one
pub deletion-half : (Q : List Literal) (l : Literal) (last n : ℕ) (ns : List ℕ) → deletion (Q ++ l ∷ []) last (n ∷ ns) ≡ delete (record { id = last; ids = n ∷ ns }) ∷ []
deletion-half [] l last n ns = refl
deletion-half (k ∷ Q) l last n ns = refl

-- one number more
numbers_from-suc : (n count : ℕ) → numbers_from n (suc count) ≡ numbers_from n count ++ (n + count) ∷ []
numbers_from-suc n zero = let same : n ≡ n + 0 = omega arith in ap (λ k. k ∷ []) same
numbers_from-suc n (suc count) =
    let same : n + 1 + count ≡ n + suc count = omega arith in
    ap (λ ns. n ∷ ns) (numbers_from-suc (n + 1) count ∙ ap (λ k. numbers_from (n + 1) count ++ k ∷ []) same)

-- those up to an end, from the first one on
pub numbers_from-next : (n end : ℕ) → n < end → numbers_from n (end - n) ≡ n ∷ numbers_from (n + 1) (end - (n + 1))
numbers_from-next n end h = let same : end - n ≡ suc (end - (n + 1)) = omega arith in ap (numbers_from n) same

-- a cube's numbers are below that of its last line
pub numbers_from-All : (n count : ℕ) → All (λ k. (n ≤ k) × (k < n + count)) (numbers_from n count)
numbers_from-All n zero = All-nil (λ k. (n ≤ k) × (k < n + 0))
numbers_from-All n (suc count) =
    All-cons (λ k. (n ≤ k) × (k < n + suc count)) n (numbers_from (n + 1) count) (omega arith, omega arith)
    (All-weaker (λ k. (n + 1 ≤ k) × (k < n + 1 + count)) (λ k. (n ≤ k) × (k < n + suc count)) (λ k w. let low = w.0 in let high = w.1 in (omega arith, omega arith))
    (numbers_from (n + 1) count) (numbers_from-All (n + 1) count))

-- those of the numbers that pass a test
pub is_among-filter : (p : ℕ → Bool) (k : ℕ) (ns : List ℕ) → is_among k (filter p ns) ≡ true → (is_among k ns ≡ true) × (p k ≡ true)
is_among-filter p k [] h = absurd (cc)
is_among-filter p k (n ∷ ns) h = go (p n) refl h (is_among-filter p k ns)
  where
    later : (is_among k ns ≡ true) × (p k ≡ true) → (is_among k (n ∷ ns) ≡ true) × (p k ≡ true)
    later m = (or-right (nat_eq k n) (is_among k ns) m.0, m.1)

    go : (b : Bool) → p n ≡ b → is_among k (cond b (n ∷ filter p ns) (filter p ns)) ≡ true → (is_among k (filter p ns) ≡ true → (is_among k ns ≡ true) × (p k ≡ true))
        → (is_among k (n ∷ ns) ≡ true) × (p k ≡ true)
    go false e t more = later (more t)
    go true e t more = elim (or-cases (nat_eq k n) (is_among k (filter p ns)) t) [
      | inl i ↦ (or-left (nat_eq k n) (is_among k ns) i, ap p (eqb-true k n i) ∙ e)
      | inr r ↦ later (more r)
    ]

pub are_different-filter : (p : ℕ → Bool) (ns : List ℕ) → are_different ns ≡ true → are_different (filter p ns) ≡ true
are_different-filter p [] h = h
are_different-filter p (n ∷ ns) h = go (p n) (are_different-filter p ns (and-right (not (is_among n ns)) (are_different ns) h))
  where
    alone : is_among n ns ≡ false
    alone = not_true (is_among n ns) (and-left (not (is_among n ns)) (are_different ns) h)

    go : (b : Bool) → are_different (filter p ns) ≡ true → are_different (cond b (n ∷ filter p ns) (filter p ns)) ≡ true
    go false more = more
    go true more =
        and-true (not (is_among n (filter p ns))) (are_different (filter p ns))
        (ap not (false_unless (is_among n (filter p ns)) (λ t. true_false (is_among n ns) (is_among-filter p n ns t).0 alone))) more

pub is_among-map : (f : ℕ → ℕ) (k : ℕ) (ns : List ℕ) → is_among k ns ≡ true → is_among (f k) (map f ns) ≡ true
is_among-map f k [] h = h
is_among-map f k (n ∷ ns) h = elim (or-cases (nat_eq k n) (is_among k ns) h) [
  | inl e ↦ or-left (nat_eq (f k) (f n)) (is_among (f k) (map f ns)) (eq-eqb (f k) (f n) (ap f (eqb-true k n e)))
  | inr r ↦ or-right (nat_eq (f k) (f n)) (is_among (f k) (map f ns)) (is_among-map f k ns r)
]
