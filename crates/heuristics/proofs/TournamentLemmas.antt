-- A tournament of variables: a match is played, a leaf or a score changes, and the root beats all
-- leaves.
use Rattle.std.proofs.Common.{◌≡◌, ◌≢◌, ℕ, zero, suc, ◌+◌, ◌-◌, ◌*◌, ◌/◌, ◌<◌, ◌≤◌, ◌⊎◌, inl, inr, List, length, drop, slice_index, slice_set, refl, ap, sym, ◌∙◌, subst, ⊎_elim, arith}
use Rattle.std.proofs.lemmas.Bool.{cases_eq, cases_lt}
use Rattle.std.proofs.lemmas.List.{get_or-set_same, get_or-set_other, length-set, get_or-drop, length-drop, set-set, set-get_or}
use Rattle.heuristics.specs.Tournaments.{Beats, IsWinner, IsField, IsMatch, IsPlayedBut}

pub Beats-refl : (S : List ℕ) (a : ℕ) → Beats S a a
Beats-refl S a = record { greater = omega arith; later = λ e. omega arith }

pub Beats-trans : (S : List ℕ) (a b c : ℕ) → Beats S a b → Beats S b c → Beats S a c
Beats-trans S a b c h k =
    let g = h.greater in
    let l = k.greater in
    record { greater = omega arith; later = λ e. (let m = h.later (omega arith) in let o = k.later (omega arith) in omega arith) }

-- a winner of three numbers that are equal to those
pub IsWinner-same : (S : List ℕ) (a b w x y z : ℕ) → a ≡ x → b ≡ y → w ≡ z → IsWinner S a b w → IsWinner S x y z
IsWinner-same S a b w x y z e f g h = rw (← e, ← f, ← g) h

-- a place that is written, and one that isn't
same-place : (W : List ℕ) (i k x : ℕ) → k ≡ i → i < length W → slice_index (slice_set W i x) k ≡ x
same-place W i k x e inside = ap (slice_index (slice_set W i x)) e ∙ get_or-set_same W i x 0 inside

other-place : (W : List ℕ) (i k x : ℕ) → k ≢ i → slice_index (slice_set W i x) k ≡ slice_index W k
other-place W i k x ne = get_or-set_other W i k x 0 ne

-- a write keeps each place within
within-set : (n : ℕ) (W : List ℕ) (i x : ℕ) → i < length W → x < n → ((k : ℕ) → slice_index W k < n) → (k : ℕ) → slice_index (slice_set W i x) k < n
within-set n W i x inside less h k = elim (cases_eq k i) [
  | inl e ↦ subst (λ y. y < n) (sym (same-place W i k x e inside)) less
  | inr ne ↦ subst (λ y. y < n) (sym (other-place W i k x ne)) (h k)
]

-- a match is written
pub IsField-played : (S W : List ℕ) (p x : ℕ) → p < length S → x < length S → IsField S W → IsField S (slice_set W p x)
IsField-played S W p x inside less h =
    let long = h.long in
    let place : p < length W = omega arith in
    record {
      some = h.some;
      long = length-set W p x ∙ h.long;
      within = within-set (length S) W p x place less h.within;
      leaves = λ v l. subst (λ y. (y ≡ v) ⊎ (y ≡ 0)) (sym (other-place W p (length S + v) x (λ e. omega arith))) (h.leaves v l);
    }

IsMatch-here : (S W : List ℕ) (p x : ℕ) → 1 ≤ p → p < length W → IsWinner S (slice_index W (2 * p)) (slice_index W (2 * p + 1)) x → IsMatch S (slice_set W p x) p
IsMatch-here S W p x low inside h =
    IsWinner-same S _ _ _ _ _ _ (sym (other-place W p (2 * p) x (λ e. omega arith))) (sym (other-place W p (2 * p + 1) x (λ e. omega arith))) (sym (same-place W p p x refl inside)) h

IsMatch-there : (S W : List ℕ) (p x i : ℕ) → i ≢ p → 2 * i ≢ p → 2 * i + 1 ≢ p → IsMatch S W i → IsMatch S (slice_set W p x) i
IsMatch-there S W p x i ne left right h =
    IsWinner-same S _ _ _ _ _ _ (sym (other-place W p (2 * i) x left)) (sym (other-place W p (2 * i + 1) x right)) (sym (other-place W p i x ne)) h

winner-within : (S W : List ℕ) (a b x : ℕ) → a < length S → b < length S → IsWinner S a b x → x < length S
winner-within S W a b x l m h = elim h.one [ inl e ↦ omega arith | inr e ↦ omega arith ]

pub IsPlayedBut-played : (S W : List ℕ) (p x : ℕ) → 1 ≤ p → p < length S → IsPlayedBut S W p → IsWinner S (slice_index W (2 * p)) (slice_index W (2 * p + 1)) x → IsPlayedBut S (slice_set W p x) (p / 2)
IsPlayedBut-played S W p x low inside h w =
    let long = h.field.long in
    record {
      field = IsField-played S W p x inside (winner-within S W _ _ x (h.field.within (2 * p)) (h.field.within (2 * p + 1)) w) h.field;
      matches = λ i l u ne. elim (cases_eq i p) [
        | inl e ↦ subst (IsMatch S (slice_set W p x)) (sym e) (IsMatch-here S W p x low (omega arith) w)
        | inr other ↦ IsMatch-there S W p x i other (λ e. ne (omega arith)) (λ e. ne (omega arith)) (h.matches i l u other)
      ];
    }

-- the matches from a node on
pub matches-played : (S W : List ℕ) (p x : ℕ) → 1 ≤ p → p < length S → IsField S W → IsWinner S (slice_index W (2 * p)) (slice_index W (2 * p + 1)) x
    → ((i : ℕ) → 1 ≤ i → p + 1 ≤ i → i < length S → IsMatch S W i) → (i : ℕ) → 1 ≤ i → p ≤ i → i < length S → IsMatch S (slice_set W p x) i
matches-played S W p x low inside h w more i l m u = elim (cases_eq i p) [
  | inl e ↦ (let long = h.long in subst (IsMatch S (slice_set W p x)) (sym e) (IsMatch-here S W p x low (omega arith) w))
  | inr ne ↦ IsMatch-there S W p x i ne (λ e. omega arith) (λ e. omega arith) (more i l (omega arith) u)
]

pub IsField-won : (S W : List ℕ) (p x : ℕ) → p < length S → IsField S W → IsWinner S (slice_index W (2 * p)) (slice_index W (2 * p + 1)) x → IsField S (slice_set W p x)
IsField-won S W p x inside h w = IsField-played S W p x inside (winner-within S W _ _ x (h.within (2 * p)) (h.within (2 * p + 1)) w) h

-- the root beats each node
root-beats-within : (fuel : ℕ) (S W : List ℕ) (k : ℕ) → k ≤ fuel → 1 ≤ k → k < 2 * length S → IsPlayedBut S W 0 → Beats S (slice_index W 1) (slice_index W k)
root-beats-within zero S W k f l u h = absurd (omega arith)
root-beats-within (suc fuel) S W k f l u h = elim (cases_lt 1 k) [
  | inl more ↦ (
      let above = root-beats-within fuel S W (k / 2) (omega arith) (omega arith) (omega arith) h in
      let match = h.matches (k / 2) (omega arith) (omega arith) (λ e. omega arith) in
      elim (cases_eq k (2 * (k / 2))) [
        | inl even ↦ Beats-trans S _ _ _ above (subst (λ j. Beats S (slice_index W (k / 2)) (slice_index W j)) (sym even) match.first)
        | inr odd ↦ (let same : k ≡ 2 * (k / 2) + 1 = omega arith in Beats-trans S _ _ _ above (subst (λ j. Beats S (slice_index W (k / 2)) (slice_index W j)) (sym same) match.second))
      ])
  | inr least ↦ (let same : 1 ≡ k = omega arith in subst (λ j. Beats S (slice_index W 1) (slice_index W j)) same (Beats-refl S (slice_index W 1)))
]

pub root-beats : (S W : List ℕ) (k : ℕ) → 1 ≤ k → k < 2 * length S → IsPlayedBut S W 0 → Beats S (slice_index W 1) (slice_index W k)
root-beats S W k l u h = root-beats-within k S W k (omega arith) l u h

-- who stands at a node takes part, or is 0
TakesPart : List ℕ → List ℕ → ℕ → Type 0
TakesPart S W w = (w ≡ 0) ⊎ (slice_index W (length S + w) ≡ w)

node-from-leaf-within : (fuel : ℕ) (S W : List ℕ) (k : ℕ) → 2 * length S ≤ k + fuel → 1 ≤ k → k < 2 * length S → IsPlayedBut S W 0 → TakesPart S W (slice_index W k)
unfolding TakesPart
node-from-leaf-within zero S W k f l u h = absurd (omega arith)
node-from-leaf-within (suc fuel) S W k f l u h = elim (cases_lt k (length S)) [
  | inl inner ↦ (
      let match = h.matches k l inner (λ e. omega arith) in
      elim match.one [
        | inl e ↦ subst (TakesPart S W) (sym e) (node-from-leaf-within fuel S W (2 * k) (omega arith) (omega arith) (omega arith) h)
        | inr e ↦ subst (TakesPart S W) (sym e) (node-from-leaf-within fuel S W (2 * k + 1) (omega arith) (omega arith) (omega arith) h)
      ])
  | inr leaf ↦ (
      let place : length S + (k - length S) ≡ k = omega arith in
      elim (h.field.leaves (k - length S) (omega arith)) [
        | inl e ↦ inr (let at : slice_index W k ≡ k - length S = ap (slice_index W) (sym place) ∙ e in ap (λ j. slice_index W (length S + j)) at ∙ e ∙ sym at)
        | inr e ↦ inl (ap (slice_index W) (sym place) ∙ e)
      ])
]

pub node-from-leaf : (S W : List ℕ) (k : ℕ) → 1 ≤ k → k < 2 * length S → IsPlayedBut S W 0 → (slice_index W k ≡ 0) ⊎ (slice_index W (length S + slice_index W k) ≡ slice_index W k)
unfolding TakesPart
node-from-leaf S W k l u h = node-from-leaf-within (2 * length S) S W k (omega arith) l u h

-- one that doesn't take part is at no node
pub not-at : (S W : List ℕ) (v k : ℕ) → 1 ≤ v → slice_index W (length S + v) ≡ 0 → 1 ≤ k → k < 2 * length S → IsPlayedBut S W 0 → slice_index W k ≢ v
not-at S W v k some out l u h e = elim (node-from-leaf S W k l u h) [
  | inl none ↦ omega arith
  | inr there ↦ (let same : slice_index W (length S + v) ≡ v = ap (λ j. slice_index W (length S + j)) (sym e) ∙ there ∙ e in omega arith)
]

-- the score of one that doesn't take part
Beats-scores : (S : List ℕ) (v x w a : ℕ) → w ≢ v → a ≢ v → Beats S w a → Beats (slice_set S v x) w a
Beats-scores S v x w a ne other h =
    let at_w = other-place S v w x ne in
    let at_a = other-place S v a x other in
    let greater = h.greater in
    record { greater = omega arith; later = λ e. h.later (omega arith) }

pub IsPlayedBut-rescored : (S W : List ℕ) (v x : ℕ) → 1 ≤ v → slice_index W (length S + v) ≡ 0 → IsPlayedBut S W 0 → IsPlayedBut (slice_set S v x) W 0
IsPlayedBut-rescored S W v x some out h =
    let same : length (slice_set S v x) ≡ length S = length-set S v x in
    let field = h.field in
    record {
      field = record {
        some = (let low = field.some in omega arith);
        long = (let long = field.long in omega arith);
        within = λ i. (let less = field.within i in omega arith);
        leaves = λ u l. rw same (field.leaves u (omega arith));
      };
      matches = λ i l u ne.
          let less : i < length S = omega arith in
          let match = h.matches i l less ne in
          let here = not-at S W v i some out l (omega arith) h in
          record {
            one = match.one;
            first = Beats-scores S v x _ _ here (not-at S W v (2 * i) some out (omega arith) (omega arith) h) match.first;
            second = Beats-scores S v x _ _ here (not-at S W v (2 * i + 1) some out (omega arith) (omega arith) h) match.second;
          };
    }

-- a leaf by the list of leaves
leaf-read : (S W : List ℕ) (v : ℕ) → slice_index (drop (length S) W) v ≡ slice_index W (length S + v)
leaf-read S W v = get_or-drop (length S) W v 0

leaves-long : (S W : List ℕ) → IsField S W → length (drop (length S) W) ≡ length S
leaves-long S W h = let long = h.long in let left = length-drop (length S) W in omega arith

-- a leaf stays
pub leaf-there : (S W : List ℕ) (v x : ℕ) → slice_index W (length S + v) ≡ x → drop (length S) W ≡ slice_set (drop (length S) W) v x
leaf-there S W v x e = sym (ap (slice_set (drop (length S) W) v) (sym (leaf-read S W v ∙ e)) ∙ set-get_or (drop (length S) W) v 0)

-- a variable whose leaf was written 0 is out
pub left-out : (S W X : List ℕ) (v : ℕ) → v < length S → IsField S W → drop (length S) X ≡ slice_set (drop (length S) W) v 0 → slice_index X (length S + v) ≡ 0
left-out S W X v less h e =
    let long = leaves-long S W h in
    sym (leaf-read S X v) ∙ ap (λ (l : List ℕ). slice_index l v) e ∙ same-place (drop (length S) W) v v 0 refl (omega arith)

-- a leaf is written 0, and then the variable again
pub leaf-back : (S W X Y : List ℕ) (v x : ℕ) → v < length S → IsField S W → slice_index W (length S + v) ≢ 0 → drop (length S) X ≡ slice_set (drop (length S) W) v 0
    → drop (length (slice_set S v x)) Y ≡ slice_set (drop (length (slice_set S v x)) X) v v → drop (length S) Y ≡ drop (length S) W
leaf-back S W X Y v x less h some out back =
    let same : length (slice_set S v x) ≡ length S = length-set S v x in
    let again : drop (length S) Y ≡ slice_set (drop (length S) X) v v = rw same at back in
    let leaf : slice_index (drop (length S) W) v ≡ v = leaf-read S W v ∙ ⊎_elim (λ e. e) (λ e. absurd (some e)) (h.leaves v less) in
    again ∙ ap (λ (l : List ℕ). slice_set l v v) out ∙ set-set (drop (length S) W) v 0 v ∙ ap (slice_set (drop (length S) W) v) (sym leaf) ∙ set-get_or (drop (length S) W) v 0
