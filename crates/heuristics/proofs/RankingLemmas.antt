-- Scores by variable: one gains, all are divided, all are 0 again.
use Rattle.std.proofs.Common.{◌≡◌, ◌≢◌, ℕ, zero, suc, ◌+◌, ◌<◌, ◌≤◌, inl, inr, Bool, true, false, ◌||◌, List, [], ◌∷◌, ◌++◌, length, take, slice_index, slice_set, nat_eq, refl, ap, sym, ◌∙◌, subst, eq-eqb, eqb-true, arith, if◌then◌else◌}
use Rattle.std.specs.List.{list_any}
use Rattle.std.proofs.lemmas.Bool.{cases_eq, cases_lt}
use Rattle.std.proofs.lemmas.List.{get_or-set_same, get_or-set_other, length-set, get_or_past, get_or_push, get_or_append_left, length_push}
use Rattle.std.proofs.lemmas.List.Folds.{list_any-append, list_any_more}
use Rattle.theory.proofs.literals.LiteralLemmas.{or-left, or-right}
use Rattle.heuristics.specs.Tournaments.{IsPlayedBut}
use Rattle.heuristics.specs.Rankings.{AreRanked, AreDistinct}

-- a number that is put at the end
pub any-before : (p : ℕ → Bool) (xs ys : List ℕ) → list_any p xs ≡ true → list_any p (xs ++ ys) ≡ true
any-before p xs ys h = list_any-append p xs ys ∙ or-left (list_any p xs) (list_any p ys) h

pub any-last : (v : ℕ) (xs : List ℕ) → list_any (nat_eq v) (xs ++ v ∷ []) ≡ true
any-last v xs = list_any-append (nat_eq v) xs (v ∷ []) ∙ or-right (list_any (nat_eq v) xs) (list_any (nat_eq v) (v ∷ [])) (or-left (nat_eq v v) false (eq-eqb v v refl))

pub within-push : (n v : ℕ) (G : List ℕ) → v < n → ((i : ℕ) → slice_index G i < n) → (i : ℕ) → slice_index (G ++ v ∷ []) i < n
within-push n v G less h i = elim (cases_lt i (length G)) [
  | inl before ↦ subst (λ y. y < n) (sym (get_or_append_left G (v ∷ []) 0 i before)) (h i)
  | inr least ↦ elim (cases_eq i (length G)) [
    | inl e ↦ subst (λ y. y < n) (sym (get_or_push G v 0 i (sym e))) less
    | inr ne ↦ (let long = length_push G v in subst (λ y. y < n) (sym (get_or_past (G ++ v ∷ []) i 0 (omega arith))) (omega arith))
  ]
]

-- the score of one variable is written
scored : (S G : List ℕ) (v x : ℕ) → list_any (nat_eq v) G ≡ true → ((u : ℕ) → slice_index S u ≢ 0 → list_any (nat_eq u) G ≡ true)
    → (u : ℕ) → slice_index (slice_set S v x) u ≢ 0 → list_any (nat_eq u) G ≡ true
scored S G v x there h u some = elim (cases_eq u v) [
  | inl e ↦ ap (λ k. list_any (nat_eq k) G) e ∙ there
  | inr ne ↦ h u (λ e. some (get_or-set_other S v u x 0 ne ∙ e))
]

none-kept : (S : List ℕ) (v x : ℕ) → 1 ≤ v → slice_index S 0 ≡ 0 → slice_index (slice_set S v x) 0 ≡ 0
none-kept S v x low h = get_or-set_other S v 0 x 0 (λ e. omega arith) ∙ h

within-scored : (S G : List ℕ) (v x : ℕ) → ((i : ℕ) → slice_index G i < length S) → (i : ℕ) → slice_index G i < length (slice_set S v x)
within-scored S G v x h i = let same = length-set S v x in let less = h i in omega arith

pub AreRanked-known : (S W G X : List ℕ) (v x : ℕ) → (1 ≤ v) × (v < length S) → AreRanked S W G → IsPlayedBut (slice_set S v x) X 0 → slice_index S v ≢ 0 → AreRanked (slice_set S v x) X G
AreRanked-known S W G X v x inside h played some = record {
  played = played;
  none = none-kept S v x inside.0 h.none;
  within = within-scored S G v x h.within;
  gained = scored S G v x (h.gained v some) h.gained;
}

pub AreRanked-noted : (S W G X H : List ℕ) (v x : ℕ) → (1 ≤ v) × (v < length S) → AreRanked S W G → IsPlayedBut (slice_set S v x) X 0 → H ≡ G ++ v ∷ [] → AreRanked (slice_set S v x) X H
AreRanked-noted S W G X H v x inside h played e = rw e (record {
  played = played;
  none = none-kept S v x inside.0 h.none;
  within = within-scored S (G ++ v ∷ []) v x (within-push (length S) v G inside.1 h.within);
  gained = scored S (G ++ v ∷ []) v x (any-last v G) (λ u some. any-before (nat_eq u) G (v ∷ []) (h.gained u some));
})

-- a list of distinct numbers so far doesn't have the next one
pub not-before : (x : ℕ) (xs : List ℕ) (k : ℕ) → ((i : ℕ) → i < k → i < length xs → slice_index xs i ≢ x) → list_any (nat_eq x) (take k xs) ≡ false
not-before x xs zero h = refl
not-before x [] (suc k) h = refl
not-before x (y ∷ xs) (suc k) h = go (nat_eq x y) refl (not-before x xs k (λ i l m. h (suc i) (omega arith) (omega arith)))
  where
    go : (b : Bool) → nat_eq x y ≡ b → list_any (nat_eq x) (take k xs) ≡ false → (b || list_any (nat_eq x) (take k xs)) ≡ false
    go true e more = absurd (h 0 (omega arith) (omega arith) (sym (eqb-true x y e)))
    go false e more = more

pub next-is-new : (xs : List ℕ) (k : ℕ) → AreDistinct xs → k < length xs → list_any (nat_eq (slice_index xs k)) (take k xs) ≡ false
next-is-new xs k h less = not-before (slice_index xs k) xs k (λ i l m. h i k l less)

-- one more of a list of distinct numbers gains a step
pub gained-more : (S now : List ℕ) (xs : List ℕ) (k step : ℕ) → AreDistinct xs → k < length xs → slice_index xs k < length now
    → ((v : ℕ) → v < length S → slice_index now v ≡ slice_index S v + (if list_any (nat_eq v) (take k xs) then step else 0))
    → (v : ℕ) → v < length S → slice_index (slice_set now (slice_index xs k) (slice_index now (slice_index xs k) + step)) v ≡ slice_index S v + (if list_any (nat_eq v) (take (k + 1) xs) then step else 0)
gained-more S now xs k step distinct less inside h v l = elim (cases_eq v (slice_index xs k)) [
  | inl e ↦ here e
  | inr ne ↦ there ne
]
  where
    x : ℕ
    x = slice_index xs k

    more : (u : ℕ) → list_any (nat_eq u) (take (k + 1) xs) ≡ (list_any (nat_eq u) (take k xs) || nat_eq u (slice_index xs k))
    more u = list_any_more (nat_eq u) xs k 0 less

    Claim : Type 0
    Claim = slice_index (slice_set now (slice_index xs k) (slice_index now (slice_index xs k) + step)) v ≡ slice_index S v + (if list_any (nat_eq v) (take (k + 1) xs) then step else 0)

    here : v ≡ slice_index xs k → Claim
    here e =
        let out : list_any (nat_eq v) (take k xs) ≡ false = ap (λ u. list_any (nat_eq u) (take k xs)) e ∙ next-is-new xs k distinct less in
        let is : list_any (nat_eq v) (take (k + 1) xs) ≡ true = more v ∙ or-right (list_any (nat_eq v) (take k xs)) (nat_eq v (slice_index xs k)) (eq-eqb v (slice_index xs k) e) in
        let before : slice_index now v ≡ slice_index S v + 0 = h v l ∙ ap (λ (b : Bool). slice_index S v + (if b then step else 0)) out in
        let written : slice_index (slice_set now (slice_index xs k) (slice_index now (slice_index xs k) + step)) v ≡ slice_index now (slice_index xs k) + step =
        ap (slice_index (slice_set now (slice_index xs k) (slice_index now (slice_index xs k) + step))) e ∙ get_or-set_same now (slice_index xs k) (slice_index now (slice_index xs k) + step) 0 inside in
        let same : slice_index now (slice_index xs k) ≡ slice_index now v = ap (slice_index now) (sym e) in
        let after : slice_index S v + (if list_any (nat_eq v) (take (k + 1) xs) then step else 0) ≡ slice_index S v + step = ap (λ (b : Bool). slice_index S v + (if b then step else 0)) is in
        let sum : slice_index now (slice_index xs k) + step ≡ slice_index S v + step = omega arith in
        written ∙ sum ∙ sym after

    or-no : (a b : Bool) → b ≡ false → (a || b) ≡ a
    or-no true b e = refl
    or-no false b e = e

    not-eq : (b : Bool) → nat_eq v (slice_index xs k) ≡ b → v ≢ slice_index xs k → b ≡ false
    not-eq true e ne = absurd (ne (eqb-true v (slice_index xs k) e))
    not-eq false e ne = refl

    there : v ≢ slice_index xs k → Claim
    there ne =
        let is : list_any (nat_eq v) (take (k + 1) xs) ≡ list_any (nat_eq v) (take k xs) = more v ∙ or-no (list_any (nat_eq v) (take k xs)) (nat_eq v (slice_index xs k)) (not-eq (nat_eq v (slice_index xs k)) refl ne) in
        get_or-set_other now (slice_index xs k) v (slice_index now (slice_index xs k) + step) 0 ne ∙ h v l ∙ ap (λ (b : Bool). slice_index S v + (if b then step else 0)) (sym is)

-- the next of them may gain a step too
pub room-left : (S now xs : List ℕ) (k step top : ℕ) → AreDistinct xs → k < length xs → slice_index xs k < length S
    → ((v : ℕ) → v < length S → slice_index now v ≡ slice_index S v + (if list_any (nat_eq v) (take k xs) then step else 0))
    → ((v : ℕ) → slice_index S v + step < top) → slice_index now (slice_index xs k) + step < top
room-left S now xs k step top distinct less inside h room =
    let out : list_any (nat_eq (slice_index xs k)) (take k xs) ≡ false = next-is-new xs k distinct less in
    let before : slice_index now (slice_index xs k) ≡ slice_index S (slice_index xs k) + 0 = h (slice_index xs k) inside ∙ ap (λ (b : Bool). slice_index S (slice_index xs k) + (if b then step else 0)) out in
    let bound = room (slice_index xs k) in
    omega arith

-- all scores are 0
pub AreRanked-none : (T X G : List ℕ) → ((v : ℕ) → slice_index T v ≡ 0) → IsPlayedBut T X 0 → G ≡ [] → AreRanked T X G
AreRanked-none T X G zeros played e = rw e (record {
  played = played;
  none = zeros 0;
  within = λ i. played.field.some;
  gained = λ v some. absurd (some (zeros v));
})
