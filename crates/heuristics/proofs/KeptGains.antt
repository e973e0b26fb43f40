-- Of the variables that gained, those are kept that have a score.
use Rattle.std.proofs.Common.{◌≡◌, ◌≢◌, ℕ, zero, suc, ◌+◌, ◌/◌, ◌<◌, ◌≤◌, inl, inr, Bool, true, false, cond, List, [], ◌∷◌, length, map, filter, slice_index, slice_set, nat_eq, nat_lt, refl, ap, sym, ◌∙◌, subst, eqb-true, arith}
use Rattle.std.specs.List.{list_any}
use Rattle.std.proofs.lemmas.Bool.{cases_eq, lt-ltb, le-ltb}
use Rattle.std.proofs.lemmas.List.{get_or-set_same, get_or-set_other, get_or_default, length-map}
use Rattle.std.proofs.lemmas.List.Filters.{FiltersInPlace, FiltersInPlace-more_set, FiltersInPlace-more_no}
use Rattle.std.proofs.Math.Nat.{zero-div}
use Rattle.std.proofs.lemmas.Map.Views.{any-filter_same}
use Rattle.heuristics.specs.Tournaments.{IsPlayedBut}
use Rattle.heuristics.specs.Rankings.{AreRanked}

within-set : (n k v : ℕ) (G : List ℕ) → k < length G → v < n → ((i : ℕ) → slice_index G i < n) → (i : ℕ) → slice_index (slice_set G k v) i < n
within-set n k v G inside less h i = elim (cases_eq i k) [
  | inl e ↦ subst (λ y. y < n) (sym (ap (slice_index (slice_set G k v)) e ∙ get_or-set_same G k v 0 inside)) less
  | inr ne ↦ subst (λ y. y < n) (sym (get_or-set_other G k i v 0 ne)) (h i)
]

-- the first i of G0 are gone through: G has those of them with a score in its first k places
pub record AreSifted (S G0 G : List ℕ) (k i : ℕ) : Type 0 where
  pub filtered : FiltersInPlace (λ v. nat_lt 0 (slice_index S v)) G0 G k i
  pub within : (j : ℕ) → slice_index G j < length S

pub AreSifted-scored : (S G0 G : List ℕ) (k i v : ℕ) → i < length G → v ≡ slice_index G i → 0 < slice_index S v → AreSifted S G0 G k i → AreSifted S G0 (slice_set G k v) (k + 1) (i + 1)
AreSifted-scored S G0 G k i v less e some h =
    let behind = h.filtered.behind in
    record {
      filtered = FiltersInPlace-more_set h.filtered less (lt-ltb 0 (slice_index S v) some) (e ∙ get_or_default G i 0 v less);
      within = within-set (length S) k v G (omega arith) (subst (λ y. y < length S) (sym e) (h.within i)) h.within;
    }

pub AreSifted-none : (S G0 G : List ℕ) (k i v : ℕ) → i < length G → v ≡ slice_index G i → slice_index S v ≤ 0 → AreSifted S G0 G k i → AreSifted S G0 G k (i + 1)
AreSifted-none S G0 G k i v less e none h = record {
  filtered = FiltersInPlace-more_no h.filtered less (le-ltb 0 (slice_index S v) none) (e ∙ get_or_default G i 0 v less);
  within = h.within;
}

-- those with a score are kept, of all that have one
scored-kept : (S G : List ℕ) (v : ℕ) → slice_index S v ≢ 0 → list_any (nat_eq v) G ≡ true → list_any (nat_eq v) (filter (λ u. nat_lt 0 (slice_index S u)) G) ≡ true
scored-kept S G v some there = any-filter_same (nat_eq v) (λ u. nat_lt 0 (slice_index S u)) true (λ u e. lt-ltb 0 (slice_index S u) (let same = ap (slice_index S) (eqb-true v u e) in omega arith)) G ∙ there

within-filter : (n : ℕ) (p : ℕ → Bool) (G : List ℕ) → 1 ≤ n → ((i : ℕ) → slice_index G i < n) → (i : ℕ) → slice_index (filter p G) i < n
within-filter n p [] some h = λ i. some
within-filter n p (x ∷ G) some h = go (p x) (within-filter n p G some (λ i. h (suc i)))
  where
    go : (b : Bool) → ((i : ℕ) → slice_index (filter p G) i < n) → (i : ℕ) → slice_index (cond b (x ∷ filter p G) (filter p G)) i < n
    go true more zero = h 0
    go true more (suc i) = more i
    go false more i = more i

-- scores T are parts of scores S, and of those that gained only those with a score are kept
pub AreRanked-divided : (S W G T X H : List ℕ) (d : ℕ) → AreRanked S W G → T ≡ map (λ x. x / d) S → IsPlayedBut T X 0 → H ≡ filter (λ u. nat_lt 0 (slice_index T u)) G → AreRanked T X H
AreRanked-divided S W G T X H d h parts played e = rw e (record {
  played = played;
  none = none 0 h.none;
  within = within-filter (length T) (λ u. nat_lt 0 (slice_index T u)) G played.field.some (λ i. (let less = h.within i in let long = same in omega arith));
  gained = λ v some. scored-kept T G v some (h.gained v (λ z. some (none v z)));
})
  where
    same : length T ≡ length S
    same = ap (λ (xs : List ℕ). length xs) parts ∙ length-map S (λ (x : ℕ). x / d)

    quotient : (xs : List ℕ) (v : ℕ) → slice_index xs v ≡ 0 → slice_index (map (λ x. x / d) xs) v ≡ 0
    quotient [] v z = refl
    quotient (x ∷ xs) zero z = ap (λ y. y / d) z ∙ zero-div d
    quotient (x ∷ xs) (suc v) z = quotient xs v z

    none : (v : ℕ) → slice_index S v ≡ 0 → slice_index T v ≡ 0
    none v z = ap (λ (xs : List ℕ). slice_index xs v) parts ∙ quotient S v z
