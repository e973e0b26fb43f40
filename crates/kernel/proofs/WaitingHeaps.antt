-- Unit clauses that wait in two heaps, where those of place 0 go before the others.
use Rattle.std.proofs.Common.{◌≡◌, ◌≢◌, suc, zero, ◌<◌, false, List, [], ◌∷◌, ◌++◌, map, All, refl, sym, subst, inl, inr, arith}
use Rattle.std.specs.List.{AllByRecursion}
use Rattle.std.specs.List.Sorted.{IsPermutation}
use Rattle.std.specs.Ordering.{is_lt, nat_cmp}
use Rattle.std.specs.declared.cmp.Reverse.{Reverse}
use Rattle.std.proofs.lemmas.Map.Keys.{ge_from_not_lt}
use Rattle.std.proofs.lemmas.List.Elements.{All-from_recursion, All-append, All-weaker, All-map}
use Rattle.std.proofs.lemmas.List.Sorted.{All-permutation, IsPermutation-append_left, IsPermutation-map}
use Rattle.kernel.specs.declared.units.unit_queue.Waiting.{Waiting}
use Rattle.kernel.specs.declared.units.numbered.Numbered.{Numbered}
use Rattle.kernel.specs.Placing.{GoesFirst, at_start}

-- what a heap by number answers goes first
go-after : (x : Reverse Numbered) (xs : List (Reverse Numbered)) → AllByRecursion (λ y. is_lt (nat_cmp y.0.clause x.0.clause) ≡ false) xs → AllByRecursion (λ v. GoesFirst (at_start x.0) v) (map (λ r. at_start r.0) xs)
go-after x [] h = tt
go-after x (y ∷ xs) h = (inr (refl, ge_from_not_lt y.0.clause x.0.clause h.0), go-after x xs h.1)

-- and before those of a place
go-before : (u : Numbered) (xs : List (Reverse Waiting)) → All (λ r. 0 < r.0.place) xs → All (λ v. GoesFirst (at_start u) v) (map (λ r. r.0) xs)
go-before u xs h = All-map (λ v. GoesFirst (at_start u) v) (λ r. r.0) xs (All-weaker (λ r. 0 < r.0.place) (λ r. GoesFirst (at_start u) r.0) (λ r f. inl f) xs h)

pub first-numbered : (x : Reverse Numbered) (xs : List (Reverse Numbered)) (ys : List (Reverse Waiting)) → AllByRecursion (λ y. is_lt (nat_cmp y.0.clause x.0.clause) ≡ false) xs → All (λ r. 0 < r.0.place) ys
    → All (λ v. GoesFirst (at_start x.0) v) (map (λ r. at_start r.0) xs ++ map (λ r. r.0) ys)
first-numbered x xs ys h placed = All-append (λ v. GoesFirst (at_start x.0) v) (map (λ r. at_start r.0) xs) (map (λ r. r.0) ys) (All-from_recursion (λ v. GoesFirst (at_start x.0) v) (map (λ r. at_start r.0) xs) (go-after x xs h)) (go-before x.0 ys placed)

-- a clause of place 0, as a heap has it
pub is-at_start : (w : Waiting) → w.place ≡ 0 → at_start record { clause = w.clause; lit = w.lit } ≡ w
is-at_start w h = subst (λ p. at_start record { clause = w.clause; lit = w.lit } ≡ record { place = p; clause = w.clause; lit = w.lit }) (sym h) refl

-- one more of place 0
pub numbered-more : (w : Waiting) (x : Reverse Numbered) (xs new : List (Reverse Numbered)) (ys : List Waiting) → at_start x.0 ≡ w → IsPermutation (x ∷ xs) new → IsPermutation (w ∷ (map (λ r. at_start r.0) xs ++ ys)) (map (λ r. at_start r.0) new ++ ys)
numbered-more w x xs new ys e p =
    subst (λ v. IsPermutation (v ∷ (map (λ r. at_start r.0) xs ++ ys)) (map (λ r. at_start r.0) new ++ ys)) e
    (IsPermutation-append_left ys (at_start x.0 ∷ map (λ r. at_start r.0) xs) (map (λ r. at_start r.0) new) (IsPermutation-map (λ r. at_start r.0) (x ∷ xs) new p))

-- one more of another place
pub placed-more : (x : Reverse Waiting) (xs new : List (Reverse Waiting)) → x.0.place ≢ 0 → IsPermutation (x ∷ xs) new → All (λ r. 0 < r.0.place) xs → All (λ r. 0 < r.0.place) new
placed-more x xs new some p all = All-permutation (λ (r : Reverse Waiting). 0 < r.0.place) (x ∷ xs) new p more
  where
    more : All (λ (r : Reverse Waiting). 0 < r.0.place) (x ∷ xs)
    more zero d l = omega (arith, some)
    more (suc k) d l = all k d (omega (arith, l))
