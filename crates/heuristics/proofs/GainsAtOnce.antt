-- The variables of a list gain at once: they are noted, and then all matches are played.
use Rattle.std.proofs.Common.{◌≡◌, ◌≢◌, ℕ, ◌+◌, ◌<◌, ◌≤◌, inl, inr, Bool, true, false, ◌||◌, List, [], ◌∷◌, ◌++◌, length, take, slice_index, nat_eq, refl, ap, sym, ◌∙◌, eqb-true, arith, if◌then◌else◌}
use Rattle.std.specs.List.{list_any}
use Rattle.std.proofs.Math.Seq.{take-length}
use Rattle.std.proofs.lemmas.Bool.{cases_lt}
use Rattle.std.proofs.lemmas.List.{get_or_past}
use Rattle.std.proofs.lemmas.List.Folds.{list_any_more}
use Rattle.heuristics.specs.Tournaments.{IsPlayedBut}
use Rattle.heuristics.specs.Rankings.{AreRanked}
use Rattle.heuristics.proofs.RankingLemmas.{any-before, any-last, within-push, not-before}

-- G has only numbers of variables, each one whose score isn't 0, and the first k of xs
pub record AreNoted (S G xs : List ℕ) (k : ℕ) : Type 0 where
  pub within : (i : ℕ) → slice_index G i < length S
  pub gained : (v : ℕ) → slice_index S v ≢ 0 → list_any (nat_eq v) G ≡ true
  pub noted : (v : ℕ) → list_any (nat_eq v) (take k xs) ≡ true → list_any (nat_eq v) G ≡ true

-- one more of them is there
noted-more : (G xs : List ℕ) (k : ℕ) → k < length xs → list_any (nat_eq (slice_index xs k)) G ≡ true → ((v : ℕ) → list_any (nat_eq v) (take k xs) ≡ true → list_any (nat_eq v) G ≡ true)
    → (v : ℕ) → list_any (nat_eq v) (take (k + 1) xs) ≡ true → list_any (nat_eq v) G ≡ true
noted-more G xs k less there h v among = go (list_any (nat_eq v) (take k xs)) refl
  where
    go : (b : Bool) → list_any (nat_eq v) (take k xs) ≡ b → list_any (nat_eq v) G ≡ true
    go true e = h v e
    go false e =
        let last : nat_eq v (slice_index xs k) ≡ true = sym (ap (λ (b : Bool). b || nat_eq v (slice_index xs k)) e) ∙ sym (list_any_more (nat_eq v) xs k 0 less) ∙ among in
        ap (λ u. list_any (nat_eq u) G) (eqb-true v (slice_index xs k) last) ∙ there

pub AreNoted-known : (S G xs : List ℕ) (k : ℕ) → k < length xs → AreNoted S G xs k → slice_index S (slice_index xs k) ≢ 0 → AreNoted S G xs (k + 1)
AreNoted-known S G xs k less h some = record {
  within = h.within;
  gained = h.gained;
  noted = noted-more G xs k less (h.gained (slice_index xs k) some) h.noted;
}

pub AreNoted-pushed : (S G H xs : List ℕ) (k : ℕ) → k < length xs → slice_index xs k < length S → AreNoted S G xs k → H ≡ G ++ slice_index xs k ∷ [] → AreNoted S H xs (k + 1)
AreNoted-pushed S G H xs k less inside h e = rw e (record {
  within = within-push (length S) (slice_index xs k) G inside h.within;
  gained = λ v some. any-before (nat_eq v) G (slice_index xs k ∷ []) (h.gained v some);
  noted = noted-more (G ++ slice_index xs k ∷ []) xs k less (any-last (slice_index xs k) G) (λ v among. any-before (nat_eq v) G (slice_index xs k ∷ []) (h.noted v among));
})

-- scores T after scores S, of which those seen have gained
pub AreRanked-gained : (S W G T X H seen : List ℕ) (step : ℕ) → length T ≡ length S → ((i : ℕ) → i < length seen → (1 ≤ slice_index seen i) × (slice_index seen i < length S)) → AreRanked S W G
    → ((v : ℕ) → v < length S → slice_index T v ≡ slice_index S v + (if list_any (nat_eq v) seen then step else 0)) → IsPlayedBut T X 0
    → ((i : ℕ) → slice_index H i < length S) → ((v : ℕ) → slice_index S v ≢ 0 → list_any (nat_eq v) H ≡ true) → ((v : ℕ) → list_any (nat_eq v) seen ≡ true → list_any (nat_eq v) H ≡ true) → AreRanked T X H
AreRanked-gained S W G T X H seen step same variables h sums played within gained noted = record {
  played = played;
  none = none;
  within = λ i. (let less = within i in omega arith);
  gained = scored;
}
  where
    stays : (v : ℕ) → v < length S → list_any (nat_eq v) seen ≡ false → slice_index T v ≡ slice_index S v + 0
    stays v less out = sums v less ∙ ap (λ (b : Bool). slice_index S v + (if b then step else 0)) out

    none : slice_index T 0 ≡ 0
    none =
        let some = h.played.field.some in
        let out : list_any (nat_eq 0) seen ≡ false = ap (list_any (nat_eq 0)) (sym (take-length seen)) ∙ not-before 0 seen (length seen) (λ i l m e. (let low = (variables i m).0 in omega arith)) in
        let now = stays 0 (omega arith) out in
        let was = h.none in
        omega arith

    scored : (v : ℕ) → slice_index T v ≢ 0 → list_any (nat_eq v) H ≡ true
    scored v some = elim (cases_lt v (length S)) [
      | inl less ↦ go less (list_any (nat_eq v) seen) refl
      | inr past ↦ absurd (some (get_or_past T v 0 (omega arith)))
    ]
      where
        go : v < length S → (b : Bool) → list_any (nat_eq v) seen ≡ b → list_any (nat_eq v) H ≡ true
        go less true e = noted v e
        go less false e = gained v (λ z. some (let now = stays v less e in omega arith))
