-- A list whose elements have the numbers below its length, each once, can be put in the order of
-- these numbers.
use Rattle.std.proofs.Common.{◌≡◌, ℕ, zero, suc, ◌<◌, List, [], ◌∷◌, ◌++◌, length, Some, slice_get, Contains, IsPermutation, sym, ap, ◌∙◌, subst, inl, inr, arith}
use Rattle.std.proofs.lemmas.List.{nil_from_length}
use Rattle.std.proofs.lemmas.List.Sorted.{IsPermutation-refl, IsPermutation-sym, IsPermutation-trans, IsPermutation-cons, IsPermutation-middle, IsPermutation-to_front, length_permutation, Contains-permutation}
use Rattle.theory.proofs.literals.Membership.{Contains-cases, slice_get-Contains}
use Rattle.pool.proofs.ListPlaces.{slice_get_snoc}

-- the element at a place, and then all others
pulled : {X : Type 0} (xs : List X) (k : ℕ) (x : X) → slice_get xs k ≡ Some x → (rest : List X) × IsPermutation xs (x ∷ rest)
pulled [] k x e = absurd (cc)
pulled (y ∷ xs) zero x e = let same : y ≡ x = cc in (xs, subst (λ z. IsPermutation (y ∷ xs) (z ∷ xs)) same (IsPermutation-refl (y ∷ xs)))
pulled (y ∷ xs) (suc k) x e =
    let p = pulled xs k x e in
    (y ∷ p.0, IsPermutation-trans (y ∷ xs) (y ∷ x ∷ p.0) (x ∷ y ∷ p.0) (IsPermutation-cons y xs (x ∷ p.0) p.1) (IsPermutation-middle (y ∷ []) x p.0))

module _ {X : Type 0} (number : X → ℕ) where
  -- each number below n is one of these elements'
  abbrev pub HasEachBelow : ℕ → List X → Type 0
  HasEachBelow n xs = (k : ℕ) → k < n → (x : X) × Contains xs x × (number x ≡ k)

  abbrev pub StandByNumber : List X → Type 0
  StandByNumber xs = (k : ℕ) (x : X) → slice_get xs k ≡ Some x → number x ≡ k

  -- each lower number is another element's
  lower : (n : ℕ) (xs rest : List X) (last : X) → IsPermutation xs (last ∷ rest) → number last ≡ n → HasEachBelow (suc n) xs → HasEachBelow n rest
  lower n xs rest last p is each k less =
      let there = each k (omega arith) in
      elim (Contains-cases last rest there.0 (Contains-permutation xs (last ∷ rest) there.0 p there.1)) [
        | inl same ↦ absurd (let one : number last ≡ number there.0 = ap number same in let two = there.2 in omega arith)
        | inr other ↦ (there.0, other, there.2)
      ]

  push-by_number : (ys : List X) (last : X) → StandByNumber ys → number last ≡ length ys → StandByNumber (ys ++ last ∷ [])
  push-by_number ys last stand is k x e = elim (slice_get_snoc ys last x k e) [
    | inl here ↦ stand k x here
    | inr end ↦ ap number (sym end.1) ∙ is ∙ sym end.0
  ]

  -- the element of the last number goes behind the others
  with-last : (n : ℕ) (xs rest ys : List X) (last : X) → IsPermutation xs (last ∷ rest) → length xs ≡ suc n → number last ≡ n → IsPermutation rest ys → StandByNumber ys → (zs : List X) × IsPermutation xs zs × StandByNumber zs
  with-last n xs rest ys last p len is q stand =
      let a = length_permutation xs (last ∷ rest) p in
      let b = length_permutation rest ys q in
      let at : number last ≡ length ys = omega arith in (
        ys ++ last ∷ [],
        IsPermutation-trans xs (last ∷ rest) (ys ++ last ∷ []) p
            (IsPermutation-trans (last ∷ rest) (last ∷ ys) (ys ++ last ∷ []) (IsPermutation-cons last rest ys q) (IsPermutation-sym (ys ++ last ∷ []) (last ∷ ys) (IsPermutation-to_front ys last))),
        push-by_number ys last stand at,
      )

  pub by_number : (n : ℕ) (xs : List X) → length xs ≡ n → HasEachBelow n xs → (ys : List X) × IsPermutation xs ys × StandByNumber ys
  by_number zero xs len each = ([], subst (IsPermutation xs) (nil_from_length xs len) (IsPermutation-refl xs), λ k x e. absurd (cc))
  by_number (suc n) xs len each =
      let last = each n (omega arith) in
      let at = slice_get-Contains xs last.0 last.1 in
      let p = pulled xs at.0 last.0 at.1 in
      let fewer : length p.0 ≡ n = (let l = length_permutation xs (last.0 ∷ p.0) p.1 in omega arith) in
      let others = by_number n p.0 fewer (lower n xs p.0 last.0 p.1 last.2 each) in
      with-last n xs p.0 others.0 last.0 p.1 len last.2 others.1 others.2
