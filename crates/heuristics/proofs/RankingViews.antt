-- What a ranking shows of its tables: scores by variable, and which variables wait.
use Rattle.std.proofs.Common.{◌≡◌, ◌≢◌, ℕ, zero, suc, ◌+◌, ◌-◌, ◌*◌, ◌/◌, ◌<◌, ◌≤◌, inl, inr, Bool, true, false, List, [], ◌∷◌, length, drop, map, filter, get_or, slice_index, slice_index_or, slice_set, nat_lt, nat_eq, ltb-true, refl, ap, sym, ◌∙◌, subst, ⊎_elim, Some, None, replicate, All, arith, if◌then◌else◌}
use Rattle.std.specs.List.{list_any}
use Rattle.std.proofs.lemmas.Bool.{cases_eq, cases_lt, lt-ltb}
use Rattle.std.proofs.lemmas.Grind.{get_or_after_one}
use Rattle.std.proofs.lemmas.List.{get_or-drop, get_or_default, get_or_push, get_or_append_left, ext_get_or, length-drop, length-map, map-set, get_or_past, length-replicate}
use Rattle.std.proofs.lemmas.List.Elements.{All-head, All-tail}
use Rattle.theory.specs.Plans.{Constants}
use Rattle.theory.specs.Modes.{Mode, restarting, stable}
use Rattle.theory.specs.Trails.{variables}
use Rattle.theory.specs.Scores.{Scores, score_of, best_of, first_scores, growth, gained, divided, scores_after}
use Rattle.theory.proofs.searching.ScoreBounds.{scores-bound, step-stays, step-after}
use Rattle.theory.proofs.searching.ModelLemmas.{length-variables}
use Rattle.heuristics.specs.Ranges.{AreInRange}
use Rattle.heuristics.specs.Tournaments.{Beats, IsField, IsPlayedBut}
use Rattle.heuristics.specs.Rankings.{Ranking, ranking, waits, waiting_in, AreBounded, first_ranking, with_waiting}
use Rattle.heuristics.proofs.TournamentLemmas.{root-beats, node-from-leaf}
use Rattle.theory.proofs.searching.BestOnes.{IsTop, best_of-top, best_of-nobody}

-- the variables by their places
at-place : (V i : ℕ) → i < V → slice_index (variables V) i ≡ i + 1
at-place zero i less = absurd (omega arith)
at-place (suc V) i less =
    let long = length-variables V in
    elim (cases_eq i V) [
      | inl e ↦ (let same : suc V ≡ i + 1 = omega arith in get_or_push (variables V) (suc V) 0 i (long ∙ sym e) ∙ same)
      | inr ne ↦ (let inside : i < length (variables V) = omega arith in get_or_append_left (variables V) (suc V ∷ []) 0 i inside ∙ at-place V i (omega arith))
    ]

-- a list by variable, without that of number 0
pub by-variables : (f : ℕ → ℕ) (S : List ℕ) → ((v : ℕ) → 1 ≤ v → v < length S → slice_index S v ≡ f v) → drop 1 S ≡ map f (variables (length (drop 1 S)))
by-variables f S h =
    let V = length (drop 1 S) in
    let short : V ≡ length S - 1 = length-drop 1 S in
    let long : length (map f (variables V)) ≡ V = length-map (variables V) f ∙ length-variables V in
    ext_get_or 0 (drop 1 S) (map f (variables V)) (sym long) (λ i less. each V short i less)
  where
    each : (V : ℕ) → V ≡ length S - 1 → (i : ℕ) → i < V → get_or (drop 1 S) i 0 ≡ get_or (map f (variables V)) i 0
    each V short i less =
        let many = length-variables V in
        let left : get_or (drop 1 S) i 0 ≡ slice_index S (1 + i) = get_or_after_one S i 0 in
        let same : 1 + i ≡ i + 1 = omega arith in
        let right : get_or (map f (variables V)) i 0 ≡ f (slice_index (variables V) i) = get_or-mapped (variables V) i (omega arith) in
        left ∙ ap (slice_index S) same ∙ h (i + 1) (omega arith) (omega arith) ∙ ap f (sym (at-place V i less)) ∙ sym right
      where
        get_or-mapped : (xs : List ℕ) (k : ℕ) → k < length xs → get_or (map f xs) k 0 ≡ f (get_or xs k 0)
        get_or-mapped [] k l = absurd (omega arith)
        get_or-mapped (x ∷ xs) zero l = refl
        get_or-mapped (x ∷ xs) (suc k) l = get_or-mapped xs k (omega arith)

-- the score of a variable
pub score-read : (S : List ℕ) (step v : ℕ) → 1 ≤ v → score_of (record { scores = drop 1 S; step = step }) v ≡ slice_index S v
score-read S step v low = let same : 1 + (v - 1) ≡ v = omega arith in get_or_after_one S (v - 1) 0 ∙ ap (slice_index S) same

-- whether a variable waits
flag-read : (xs : List ℕ) (i : ℕ) → slice_index_or (map (nat_lt 0) xs) i false ≡ nat_lt 0 (slice_index xs i)
flag-read [] i = refl
flag-read (x ∷ xs) zero = refl
flag-read (x ∷ xs) (suc i) = flag-read xs i

pub waiting-read : (S W : List ℕ) (v : ℕ) → 1 ≤ v → slice_index_or (waiting_in S W) (v - 1) false ≡ nat_lt 0 (slice_index W (length S + v))
waiting-read S W v low =
    let same : 1 + (v - 1) ≡ v = omega arith in
    flag-read (drop 1 (drop (length S) W)) (v - 1) ∙ ap (nat_lt 0) (get_or_after_one (drop (length S) W) (v - 1) 0 ∙ ap (slice_index (drop (length S) W)) same ∙ get_or-drop (length S) W v 0)

-- the leaves stay, so those that wait do
pub waiting-same : (S T W X : List ℕ) → length T ≡ length S → drop (length S) X ≡ drop (length S) W → waiting_in T X ≡ waiting_in S W
waiting-same S T W X long leaves = ap (λ n. map (nat_lt 0) (drop 1 (drop n X))) long ∙ ap (λ (l : List ℕ). map (nat_lt 0) (drop 1 l)) leaves

-- a leaf is written
set-after_one : (l : List ℕ) (v x : ℕ) → 1 ≤ v → drop 1 (slice_set l v x) ≡ slice_set (drop 1 l) (v - 1) x
set-after_one l zero x low = absurd (omega arith)
set-after_one [] (suc v) x low = refl
set-after_one (y ∷ l) (suc v) x low = let same : suc v - 1 ≡ v = omega arith in ap (λ i. slice_set l i x) (sym same)

pub waiting-set : (S W X : List ℕ) (v x : ℕ) → 1 ≤ v → drop (length S) X ≡ slice_set (drop (length S) W) v x → waiting_in S X ≡ slice_set (waiting_in S W) (v - 1) (nat_lt 0 x)
waiting-set S W X v x low leaves =
    ap (λ (l : List ℕ). map (nat_lt 0) (drop 1 l)) leaves ∙ ap (map (nat_lt 0)) (set-after_one (drop (length S) W) v x low) ∙ map-set (nat_lt 0) (drop 1 (drop (length S) W)) (v - 1) x

-- the root is the best one that waits
waits-read : (c : Constants) (S : List ℕ) (step : ℕ) (W : List ℕ) (v : ℕ) → 1 ≤ v → waits (ranking c S step W) v ≡ nat_lt 0 (slice_index W (length S + v))
waits-read c S step W v low = waiting-read S W v low

nobody-waits : (c : Constants) (S : List ℕ) (step : ℕ) (W : List ℕ) → IsPlayedBut S W 0 → slice_index S 0 ≡ 0 → slice_index W 1 ≡ 0
    → (v : ℕ) → 1 ≤ v → v ≤ length (drop 1 S) → waits (ranking c S step W) v ≡ false
nobody-waits c S step W h none root v low high =
    let short = length-drop 1 S in
    let beats : Beats S (slice_index W 1) (slice_index W (length S + v)) = root-beats S W (length S + v) (omega arith) (omega arith) h in
    let leaf : slice_index W (length S + v) ≡ 0 = elim (h.field.leaves v (omega arith)) [
      | inl e ↦ (
          let root_score : slice_index S (slice_index W 1) ≡ 0 = ap (slice_index S) root ∙ none in
          let greater = beats.greater in
          let later = beats.later (omega arith) in
          omega arith)
      | inr e ↦ e
    ] in
    waits-read c S step W v low ∙ ap (nat_lt 0) leaf

pub root-none : (c : Constants) (S : List ℕ) (step : ℕ) (W : List ℕ) → IsPlayedBut S W 0 → slice_index S 0 ≡ 0 → slice_index W 1 ≡ 0
    → best_of (ranking c S step W).scores (filter (waits (ranking c S step W)) (variables (length (drop 1 S)))) ≡ None
root-none c S step W h none root = best_of-nobody (record { scores = drop 1 S; step = step }) (waits (ranking c S step W)) (length (drop 1 S)) (nobody-waits c S step W h none root)

pub root-some : (c : Constants) (S : List ℕ) (step : ℕ) (W : List ℕ) → IsPlayedBut S W 0 → slice_index W 1 ≢ 0
    → best_of (ranking c S step W).scores (filter (waits (ranking c S step W)) (variables (length (drop 1 S)))) ≡ Some (slice_index W 1)
root-some c S step W h root = best_of-top (record { scores = drop 1 S; step = step }) (waits (ranking c S step W)) (length (drop 1 S)) (slice_index W 1) top
  where
    there : slice_index W (length S + slice_index W 1) ≡ slice_index W 1
    there = let some = h.field.some in ⊎_elim (λ e. absurd (root e)) (λ e. e) (node-from-leaf S W 1 (omega arith) (omega arith) h)

    above : (v : ℕ) → 1 ≤ v → v ≤ length (drop 1 S) → waits (ranking c S step W) v ≡ true
        → (score_of (ranking c S step W).scores v ≤ score_of (ranking c S step W).scores (slice_index W 1)) × (score_of (ranking c S step W).scores v ≡ score_of (ranking c S step W).scores (slice_index W 1) → v ≤ slice_index W 1)
    above v low high t =
        let short = length-drop 1 S in
        let one : 1 ≤ slice_index W 1 = omega arith in
        let score_v = score-read S step v low in
        let score_w = score-read S step (slice_index W 1) one in
        let waits_v : 0 < slice_index W (length S + v) = ltb-true 0 (slice_index W (length S + v)) (sym (waits-read c S step W v low) ∙ t) in
        let leaf : slice_index W (length S + v) ≡ v = ⊎_elim (λ e. e) (λ e. absurd (omega arith)) (h.field.leaves v (omega arith)) in
        let beats : Beats S (slice_index W 1) v = subst (Beats S (slice_index W 1)) leaf (root-beats S W (length S + v) (omega arith) (omega arith) h) in
        let greater = beats.greater in
        (omega arith, λ e. beats.later (omega arith))

    top : IsTop (ranking c S step W).scores (waits (ranking c S step W)) (length (drop 1 S)) (slice_index W 1)
    top =
        let short = length-drop 1 S in
        let within = h.field.within 1 in
        let some = h.field.some in
        record {
          low = omega arith;
          high = omega arith;
          passes = waits-read c S step W (slice_index W 1) (omega arith) ∙ ap (nat_lt 0) there ∙ lt-ltb 0 (slice_index W 1) (omega arith);
          above = above;
        }

-- the scores of those seen have gained
pub scores-gained : (c : Constants) (m : Mode) (S T seen : List ℕ) (step : ℕ) → length T ≡ length S
    → ((v : ℕ) → v < length S → slice_index T v ≡ slice_index S v + (if list_any (nat_eq v) seen then step else 0))
    → drop 1 T ≡ (gained c m (length (drop 1 S)) (λ v. list_any (nat_eq v) seen) (record { scores = drop 1 S; step = step })).scores
scores-gained c m S T seen step long h =
    let same : length (drop 1 T) ≡ length (drop 1 S) = (let a = length-drop 1 T in let b = length-drop 1 S in omega arith) in
    by-variables f T each ∙ ap (λ V. map f (variables V)) same
  where
    f : ℕ → ℕ
    f = λ v. score_of (record { scores = drop 1 S; step = step }) v + (if list_any (nat_eq v) seen then step else 0)

    each : (v : ℕ) → 1 ≤ v → v < length T → slice_index T v ≡ score_of (record { scores = drop 1 S; step = step }) v + (if list_any (nat_eq v) seen then step else 0)
    each v low less = h v (omega arith) ∙ ap (λ x. x + (if list_any (nat_eq v) seen then step else 0)) (sym (score-read S step v low))

-- all scores 0
pub scores-first : (c : Constants) (S : List ℕ) → ((v : ℕ) → slice_index S v ≡ 0) → drop 1 S ≡ (first_scores c (length (drop 1 S))).scores
scores-first c S h = by-variables (λ v. 0) S (λ v l u. h v)

-- two rankings with equal parts
pub same-ranking : (c d : Constants) (A B : List ℕ) (s t : ℕ) (a b : List Bool) → c ≡ d → A ≡ B → s ≡ t → a ≡ b
    → ◌≡◌ {A = Ranking} (record { constants = c; scores = record { scores = A; step = s }; waiting = a }) (record { constants = d; scores = record { scores = B; step = t }; waiting = b })
same-ranking c d A B s t a b e f g h = rw (e, f, g, h) refl

same-parts : (c : Constants) (s t : Scores) (a b : List Bool) → s ≡ t → a ≡ b → ◌≡◌ {A = Ranking} (record { constants = c; scores = s; waiting = a }) (record { constants = c; scores = t; waiting = b })
same-parts c s t a b e f = rw (e, f) refl

-- a leaf is written, in winners Y as they are put back
pub entered : (c : Constants) (S : List ℕ) (step : ℕ) (W X Y : List ℕ) (v x : ℕ) (b : Bool) → 1 ≤ v → nat_lt 0 x ≡ b → Y ≡ X → drop (length S) X ≡ slice_set (drop (length S) W) v x
    → ◌≡◌ {A = Ranking} (ranking c S step Y) (with_waiting (ranking c S step W) v b)
entered c S step W X Y v x b low is back leaves =
    same-ranking c c (drop 1 S) (drop 1 S) step step (waiting_in S Y) (slice_set (waiting_in S W) (v - 1) b) refl refl refl
    (ap (waiting_in S) back ∙ waiting-set S W X v x low leaves ∙ ap (slice_set (waiting_in S W) (v - 1)) is)

pub grown-after : (c : Constants) (m : Mode) (S T seen : List ℕ) (step part : ℕ) → length T ≡ length S → part ≡ growth c m
    → ((v : ℕ) → v < length S → slice_index T v ≡ slice_index S v + (if list_any (nat_eq v) seen then step else 0))
    → divided c (record { scores = drop 1 T; step = step + step / part }) ≡ scores_after c m (length (drop 1 S)) (λ v. list_any (nat_eq v) seen) (record { scores = drop 1 S; step = step })
grown-after c m S T seen step part same is h =
    ap (λ p. divided c (record { scores = drop 1 T; step = step + step / p })) is
    ∙ ap (λ (xs : List ℕ). divided c (record { scores = xs; step = step + step / growth c m })) (scores-gained c m S T seen step same h)

-- the scores are others, and the leaves stay
pub after-view : (c : Constants) (S U : List ℕ) (step next : ℕ) (W X : List ℕ) (s : Scores) → length U ≡ length S → drop (length S) X ≡ drop (length S) W
    → ◌≡◌ {A = Scores} (record { scores = drop 1 U; step = next }) s → ◌≡◌ {A = Ranking} (ranking c U next X) (record (ranking c S step W) { scores = s })
after-view c S U step next W X s same leaves e = same-parts c _ _ (waiting_in U X) (waiting_in S W) e (waiting-same S U W X same leaves)

-- another cube begins
pub reset-view : (c : Constants) (S T Z : List ℕ) (step first : ℕ) (W X Y : List ℕ) → first ≡ c.first_step → Z ≡ T → Y ≡ X → length T ≡ length S → drop (length S) X ≡ drop (length S) W
    → ((v : ℕ) → slice_index T v ≡ 0)
    → ◌≡◌ {A = Ranking} (ranking c Z first Y) (record { constants = c; scores = first_scores c (length (drop 1 S)); waiting = waiting_in S W })
reset-view c S T Z step first W X Y is e f long leaves h =
    let same : length (drop 1 T) ≡ length (drop 1 S) = (let a = length-drop 1 T in let b = length-drop 1 S in omega arith) in
    same-ranking c c (drop 1 Z) (map (λ v. 0) (variables (length (drop 1 S)))) first c.first_step (waiting_in Z Y) (waiting_in S W) refl
    (ap (drop 1) e ∙ scores-first c T h ∙ ap (λ V. map (λ v. 0) (variables V)) same) is
    (ap (λ (t : List ℕ). waiting_in t Y) e ∙ ap (waiting_in T) f ∙ waiting-same S T W X long leaves)

-- a score is read with its bound
at-most : (b : ℕ) (xs : List ℕ) (i : ℕ) → All (λ x. x ≤ b) xs → slice_index xs i ≤ b
at-most b [] i h = omega arith
at-most b (x ∷ xs) zero h = All-head (λ y. y ≤ b) x xs h
at-most b (x ∷ xs) (suc i) h = at-most b xs i (All-tail (λ y. y ≤ b) x xs h)

pub score-room : (b : ℕ) (S : List ℕ) (v : ℕ) → slice_index S 0 ≡ 0 → All (λ x. x ≤ b) (drop 1 S) → slice_index S v ≤ b
score-room b S zero none h = omega arith
score-room b S (suc v) none h =
    let same : 1 + v ≡ suc v = omega arith in
    let read : slice_index (drop 1 S) v ≡ slice_index S (suc v) = get_or_after_one S v 0 ∙ ap (slice_index S) same in
    let most = at-most b (drop 1 S) v h in
    omega arith

-- the leaves, as a tournament begins
pub leaves-within : (n : ℕ) (W : List ℕ) → 1 ≤ n → length W ≡ 2 * n → ((k : ℕ) → k < n → slice_index W k ≡ 0) → ((v : ℕ) → v < n → slice_index W (n + v) ≡ v) → (i : ℕ) → slice_index W i < n
leaves-within n W some long before leaves i = elim (cases_lt i n) [
  | inl low ↦ (let e = before i low in omega arith)
  | inr high ↦ elim (cases_lt i (2 * n)) [
    | inl inside ↦ (let e = leaves (i - n) (omega arith) in let same : n + (i - n) ≡ i = omega arith in let f = ap (slice_index W) same in omega arith)
    | inr past ↦ (let e = get_or_past W i 0 (omega arith) in omega arith)
  ]
]

pub leaves-field : (n : ℕ) (S W : List ℕ) → 1 ≤ n → length W ≡ 2 * n → ((k : ℕ) → k < n → slice_index W k ≡ 0) → ((v : ℕ) → v < n → slice_index W (n + v) ≡ v) → length S ≡ n → IsField S W
leaves-field n S W some long before leaves e = record {
  some = omega arith;
  long = omega arith;
  within = λ i. (let w = leaves-within n W some long before leaves i in omega arith);
  leaves = λ v l. inl (ap (λ m. slice_index W (m + v)) e ∙ leaves v (omega arith));
}

pub leaves-wait : (V : ℕ) (S W : List ℕ) → length W ≡ 2 * (V + 1) → ((v : ℕ) → v < V + 1 → slice_index W (V + 1 + v) ≡ v) → length S ≡ V + 1 → waiting_in S W ≡ map (λ v. true) (variables V)
leaves-wait V S W long leaves e =
    let many : length (map (λ (v : ℕ). true) (variables V)) ≡ V = length-map (variables V) (λ (v : ℕ). true) ∙ length-variables V in
    let few : length (waiting_in S W) ≡ V = (let a = length-map (drop 1 (drop (length S) W)) (nat_lt 0) in let b = length-drop 1 (drop (length S) W) in let c = length-drop (length S) W in omega arith) in
    ext_get_or false (waiting_in S W) (map (λ v. true) (variables V)) (few ∙ sym many) (λ i less. each i (omega arith))
  where
    constant : (xs : List ℕ) (i : ℕ) → i < length xs → get_or (map (λ (v : ℕ). true) xs) i false ≡ true
    constant [] i l = absurd (omega arith)
    constant (x ∷ xs) zero l = refl
    constant (x ∷ xs) (suc i) l = constant xs i (omega arith)

    each : (i : ℕ) → i < V → get_or (waiting_in S W) i false ≡ get_or (map (λ v. true) (variables V)) i false
    each i less =
        let many = length-variables V in
        let same : i + 1 - 1 ≡ i = omega arith in
        let read : get_or (waiting_in S W) (i + 1 - 1) false ≡ nat_lt 0 (slice_index W (length S + (i + 1))) = waiting-read S W (i + 1) (omega arith) in
        let leaf : slice_index W (length S + (i + 1)) ≡ i + 1 = ap (λ m. slice_index W (m + (i + 1))) e ∙ leaves (i + 1) (omega arith) in
        ap (λ j. get_or (waiting_in S W) j false) (sym same) ∙ read ∙ ap (nat_lt 0) leaf ∙ lt-ltb 0 (i + 1) (omega arith) ∙ sym (constant (variables V) i (omega arith))

-- the first ranking
pub open-view : (c : Constants) (V : ℕ) (S : List ℕ) (first : ℕ) (W X Y : List ℕ) → first ≡ c.first_step → S ≡ replicate (V + 1) 0 → Y ≡ X → drop (length S) X ≡ drop (length S) W
    → (length S ≡ V + 1 → waiting_in S W ≡ map (λ v. true) (variables V)) → ◌≡◌ {A = Ranking} (ranking c S first Y) (first_ranking c V)
open-view c V S first W X Y is zeros back leaves wait =
    let long : length S ≡ V + 1 = ap (λ (s : List ℕ). length s) zeros ∙ length-replicate (V + 1) 0 in
    let same : length (drop 1 S) ≡ V = (let a = length-drop 1 S in omega arith) in
    same-ranking c c (drop 1 S) (map (λ v. 0) (variables V)) first c.first_step (waiting_in S Y) (map (λ v. true) (variables V)) refl
    (scores-first c S (λ v. zero-at S (V + 1) v zeros) ∙ ap (λ n. map (λ v. 0) (variables n)) same) is
    (ap (waiting_in S) back ∙ waiting-same S S W X refl leaves ∙ wait long)
  where
    none : (n v : ℕ) → slice_index (replicate n 0) v ≡ 0
    none zero v = refl
    none (suc n) zero = refl
    none (suc n) (suc v) = none n v

    zero-at : (T : List ℕ) (n v : ℕ) → T ≡ replicate n 0 → slice_index T v ≡ 0
    zero-at T n v e = ap (λ (t : List ℕ). slice_index t v) e ∙ none n v

-- what the numbers of the search say of a mode's growth
growth-within : (c : Constants) (m : Mode) → AreInRange c → (1 ≤ growth c m) × (growth c m ≤ 20)
growth-within c restarting h = h.restarting_growth
growth-within c stable h = h.stable_growth

-- the bounds after a conflict
pub bounds-after : (c : Constants) (m : Mode) (V : ℕ) (seen : ℕ → Bool) (s t : Scores) → AreInRange c → 64 ≤ s.step → s.step < c.greatest_step → All (λ x. x ≤ 32 * (s.step + 1)) s.scores
    → t ≡ scores_after c m V seen s → (64 ≤ t.step) × (t.step < c.greatest_step) × All (λ x. x ≤ 32 * (t.step + 1)) t.scores
bounds-after c m V seen s t range low high h e =
    let within = growth-within c m range in
    let parts = range.divisor in
    let two = parts.0 in
    rw e (step-stays c m V seen s 64 (omega arith) parts.1 low, step-after c m V seen s parts.0 high, scores-bound c m V seen s within.0 within.1 (omega arith) low h)

pub bounded-first : (T : List ℕ) (step : ℕ) → ((v : ℕ) → slice_index T v ≡ 0) → AreBounded T step
bounded-first T step zeros k d less =
    let read : get_or (drop 1 T) k d ≡ 0 = get_or_default (drop 1 T) k d 0 less ∙ get_or_after_one T k 0 ∙ zeros (1 + k) in
    omega arith
