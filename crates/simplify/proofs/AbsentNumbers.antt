-- The numbers of clauses that aren't there.
use Rattle.std.proofs.Common.{◌≡◌, ℕ, zero, suc, ◌+◌, ◌<◌, Bool, true, false, List, [], ◌∷◌, ◌++◌, length, take, refl, ap, ◌∙◌, is_some, arith, if◌then◌else◌}
use Rattle.simplify.specs.Entries.{Entries, entry_at}
use Rattle.simplify.specs.Opening.{absent_in}
use Rattle.simplify.proofs.EntryNumbers.{at_place}

more : (n : ℕ) (K : Entries) (i : ℕ) → i < length K → absent_in n (take (i + 1) K) ≡ absent_in n (take i K) ++ (if is_some (at_place K i) then [] else (n + i) ∷ [])
more n [] i below = absurd (omega arith)
more n (e ∷ K) zero below = ap (λ m. if is_some e then [] else m ∷ []) (omega arith)
more n (e ∷ K) (suc i) below =
    ap (λ k. absent_in n (take k (e ∷ K))) (next i)
    ∙ (go (is_some e) (more (n + 1) K i (omega arith))
    ∙ ap (λ m. (if is_some e then absent_in (n + 1) (take i K) else n ∷ absent_in (n + 1) (take i K)) ++ (if is_some (at_place K i) then [] else m ∷ [])) (omega arith))
  where
    next : (i : ℕ) → suc i + 1 ≡ suc (i + 1)
    next i = omega arith

    go : (b : Bool) → absent_in (n + 1) (take (i + 1) K) ≡ absent_in (n + 1) (take i K) ++ (if is_some (at_place K i) then [] else (n + 1 + i) ∷ [])
        → (if b then absent_in (n + 1) (take (i + 1) K) else n ∷ absent_in (n + 1) (take (i + 1) K))
        ≡ (if b then absent_in (n + 1) (take i K) else n ∷ absent_in (n + 1) (take i K)) ++ (if is_some (at_place K i) then [] else (n + 1 + i) ∷ [])
    go true h = h
    go false h = ap (λ ms. n ∷ ms) h

pub absent-there : (K : Entries) (i : ℕ) → i < length K → is_some (entry_at K (i + 1)) ≡ true → absent_in 1 (take (i + 1) K) ≡ absent_in 1 (take i K)
absent-there K i below there =
    more 1 K i below
    ∙ (ap (λ b. absent_in 1 (take i K) ++ (if b then [] else (1 + i) ∷ [])) (ap (λ k. is_some (at_place K k)) (omega arith) ∙ there) ∙ none (absent_in 1 (take i K)))
  where
    none : (xs : List ℕ) → xs ++ [] ≡ xs
    none [] = refl
    none (x ∷ xs) = ap (λ ys. x ∷ ys) (none xs)

pub absent-next : (K : Entries) (i : ℕ) → i < length K → is_some (entry_at K (i + 1)) ≡ false → absent_in 1 (take (i + 1) K) ≡ absent_in 1 (take i K) ++ (i + 1) ∷ []
absent-next K i below none =
    more 1 K i below
    ∙ (ap (λ b. absent_in 1 (take i K) ++ (if b then [] else (1 + i) ∷ [])) (ap (λ k. is_some (at_place K k)) (omega arith) ∙ none) ∙ ap (λ k. absent_in 1 (take i K) ++ k ∷ []) (omega arith))
