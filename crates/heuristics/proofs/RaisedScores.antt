-- A score is raised: who stood at a node stays, and the matches above its highest node are played
-- again.
use Rattle.std.proofs.Common.{◌≡◌, ◌≢◌, ℕ, zero, suc, ◌+◌, ◌-◌, ◌*◌, ◌/◌, ◌<◌, ◌≤◌, ◌⊎◌, inl, inr, List, length, slice_index, slice_set, refl, ap, sym, ◌∙◌, arith}
use Rattle.std.proofs.lemmas.Bool.{cases_eq, cases_lt}
use Rattle.std.proofs.lemmas.List.{get_or-set_same, get_or-set_other, length-set}
use Rattle.heuristics.specs.Tournaments.{Beats, IsPlayedBut}

-- the node that many levels above
abbrev pub halved : ℕ → ℕ → ℕ
halved zero l = l
halved (suc j) l = halved j (l / 2)

-- v stands at a node and at that many above it
abbrev pub AreHeld : List ℕ → ℕ → ℕ → ℕ → Type 0
AreHeld W v zero l = slice_index W l ≡ v
AreHeld W v (suc j) l = (slice_index W l ≡ v) × AreHeld W v j (l / 2)

-- v stands at k, at l and at all nodes between
pub record Reaches (W : List ℕ) (v k l : ℕ) : Type 0 where
  pub levels : ℕ
  pub there : halved levels l ≡ k
  pub held : AreHeld W v levels l

halved-above : (j l : ℕ) → halved (suc j) l ≡ halved j l / 2
halved-above zero l = refl
halved-above (suc j) l = halved-above j (l / 2)

halved-zero : (j : ℕ) → halved j 0 ≡ 0
halved-zero zero = refl
halved-zero (suc j) = halved-zero j

AreHeld-above : (W : List ℕ) (v j l : ℕ) → AreHeld W v j l → slice_index W (halved j l / 2) ≡ v → AreHeld W v (suc j) l
AreHeld-above W v zero l h e = (h, e)
AreHeld-above W v (suc j) l h e = (h.0, AreHeld-above W v j (l / 2) h.1 e)

AreHeld-here : (W : List ℕ) (v j l : ℕ) → AreHeld W v j l → slice_index W l ≡ v
AreHeld-here W v zero l h = h
AreHeld-here W v (suc j) l h = h.0

Reaches-above : (W : List ℕ) (v k c l : ℕ) → c / 2 ≡ k → slice_index W k ≡ v → Reaches W v c l → Reaches W v k l
Reaches-above W v k c l e here r =
    let node : halved r.levels l / 2 ≡ k = ap (λ x. x / 2) r.there ∙ e in
    record { levels = suc r.levels; there = halved-above r.levels l ∙ node; held = AreHeld-above W v r.levels l r.held (ap (slice_index W) node ∙ here) }

-- a node at which v stands, unless it is l, is above the one above l
Reaches-next : (W : List ℕ) (v k l : ℕ) → Reaches W v k l → (k ≡ l) ⊎ Reaches W v k (l / 2)
Reaches-next W v k l r = go r.levels r.there r.held
  where
    go : (j : ℕ) → halved j l ≡ k → AreHeld W v j l → (k ≡ l) ⊎ Reaches W v k (l / 2)
    go zero e h = inl (sym e)
    go (suc j) e h = inr record { levels = j; there = e; held = h.1 }

Reaches-held : (W : List ℕ) (v k l : ℕ) → Reaches W v k l → slice_index W l ≡ v
Reaches-held W v k l r = AreHeld-here W v r.levels l r.held

-- who stands at a node stands at its own leaf and between
reaches-within : (fuel : ℕ) (S W : List ℕ) (v k : ℕ) → 2 * length S ≤ k + fuel → 1 ≤ v → 1 ≤ k → k < 2 * length S → IsPlayedBut S W 0 → slice_index W k ≡ v → Reaches W v k (length S + v)
reaches-within zero S W v k f some l u h here = absurd (omega arith)
reaches-within (suc fuel) S W v k f some l u h here = elim (cases_lt k (length S)) [
  | inl inner ↦ elim (h.matches k l inner (λ e. omega arith)).one [
    | inl e ↦ Reaches-above W v k (2 * k) (length S + v) (omega arith) here (reaches-within fuel S W v (2 * k) (omega arith) some (omega arith) (omega arith) h (sym e ∙ here))
    | inr e ↦ Reaches-above W v k (2 * k + 1) (length S + v) (omega arith) here (reaches-within fuel S W v (2 * k + 1) (omega arith) some (omega arith) (omega arith) h (sym e ∙ here))
  ]
  | inr leaf ↦ (
      let place : length S + (k - length S) ≡ k = omega arith in
      elim (h.field.leaves (k - length S) (omega arith)) [
        | inl e ↦ (
            let at : v ≡ k - length S = sym here ∙ ap (slice_index W) (sym place) ∙ e in
            let same : length S + v ≡ k = omega arith in
            record { levels = 0; there = same; held = ap (slice_index W) same ∙ here })
        | inr e ↦ (let none : v ≡ 0 = sym here ∙ ap (slice_index W) (sym place) ∙ e in absurd (omega arith))
      ])
]

-- each highest node of v is above a node
abbrev pub IsBelowTops : List ℕ → ℕ → ℕ → Type 0
IsBelowTops W v l = (k : ℕ) → 1 ≤ k → k < length W → slice_index W k ≡ v → slice_index W (k / 2) ≢ v → Reaches W v k l

pub IsBelowTops-leaf : (S W : List ℕ) (v : ℕ) → 1 ≤ v → IsPlayedBut S W 0 → IsBelowTops W v (length S + v)
IsBelowTops-leaf S W v some h k l u here top = let long = h.field.long in reaches-within (2 * length S) S W v k (omega arith) some l (omega arith) h here

pub IsBelowTops-next : (W : List ℕ) (v l : ℕ) → slice_index W (l / 2) ≡ v → IsBelowTops W v l → IsBelowTops W v (l / 2)
IsBelowTops-next W v l held b k low u here top = elim (Reaches-next W v k l (b k low u here top)) [
  | inl e ↦ absurd (top (ap (λ x. slice_index W (x / 2)) e ∙ held))
  | inr r ↦ r
]

-- where v doesn't stand above l, or nothing is there, l is its highest node
pub only-top : (W : List ℕ) (v l : ℕ) → slice_index W (l / 2) ≢ v → IsBelowTops W v l → (k : ℕ) → 1 ≤ k → k < length W → slice_index W k ≡ v → slice_index W (k / 2) ≢ v → k ≡ l
only-top W v l free b k low u here top = elim (Reaches-next W v k l (b k low u here top)) [
  | inl e ↦ e
  | inr r ↦ absurd (free (Reaches-held W v k (l / 2) r))
]

pub root-top : (W : List ℕ) (v l : ℕ) → l ≤ 1 → IsBelowTops W v l → (k : ℕ) → 1 ≤ k → k < length W → slice_index W k ≡ v → slice_index W (k / 2) ≢ v → k ≡ l
root-top W v l root b k low u here top = elim (Reaches-next W v k l (b k low u here top)) [
  | inl e ↦ e
  | inr r ↦ (
      let least : l / 2 ≡ 0 = omega arith in
      let none : k ≡ 0 = sym r.there ∙ ap (halved r.levels) least ∙ halved-zero r.levels in
      absurd (omega arith))
]

-- a raised score beats what it beat before
Beats-raised : (S : List ℕ) (v x w a : ℕ) → v < length S → slice_index S v ≤ x → (a ≡ v → w ≡ v) → Beats S w a → Beats (slice_set S v x) w a
Beats-raised S v x w a inside more wins h = elim (cases_eq a v) [
  | inl e ↦ (let both : w ≡ a = wins e ∙ sym e in record { greater = (let same : slice_index (slice_set S v x) a ≡ slice_index (slice_set S v x) w = ap (slice_index (slice_set S v x)) (sym both) in omega arith); later = λ t. omega arith })
  | inr other ↦ (
      let at_a : slice_index (slice_set S v x) a ≡ slice_index S a = get_or-set_other S v a x 0 other in
      let greater = h.greater in
      elim (cases_eq w v) [
        | inl e ↦ (
            let at_w : slice_index (slice_set S v x) w ≡ x = ap (slice_index (slice_set S v x)) e ∙ get_or-set_same S v x 0 inside in
            let was : slice_index S w ≡ slice_index S v = ap (slice_index S) e in
            record { greater = omega arith; later = λ t. h.later (omega arith) })
        | inr ne ↦ (
            let at_w : slice_index (slice_set S v x) w ≡ slice_index S w = get_or-set_other S v w x 0 ne in
            record { greater = omega arith; later = λ t. h.later (omega arith) })
      ])
]

-- a score is raised: only the match above the variable's highest node may be wrong
pub IsPlayedBut-raised : (S W : List ℕ) (v x top : ℕ) → 1 ≤ v → v < length S → slice_index S v ≤ x
    → ((k : ℕ) → 1 ≤ k → k < length W → slice_index W k ≡ v → slice_index W (k / 2) ≢ v → k ≡ top) → IsPlayedBut S W 0 → IsPlayedBut (slice_set S v x) W (top / 2)
IsPlayedBut-raised S W v x top some inside more only h =
    let same : length (slice_set S v x) ≡ length S = length-set S v x in
    let field = h.field in
    let long = field.long in
    record {
      field = record {
        some = (let low = field.some in omega arith);
        long = omega arith;
        within = λ i. (let less = field.within i in omega arith);
        leaves = λ u l. rw same (field.leaves u (omega arith));
      };
      matches = λ i l u ne.
          let less : i < length S = omega arith in
          let match = h.matches i l less (λ e. omega arith) in
          let wins : (c : ℕ) → c / 2 ≡ i → 1 ≤ c → c < length W → slice_index W c ≡ v → slice_index W i ≡ v = (λ c e low high here. elim (cases_eq (slice_index W i) v) [
            | inl held ↦ held
            | inr free ↦ (let t = only c low high here (λ q. free (ap (slice_index W) (sym e) ∙ q)) in absurd (ne (sym e ∙ ap (λ z. z / 2) t)))
          ]) in
          record {
            one = match.one;
            first = Beats-raised S v x _ _ inside more (wins (2 * i) (omega arith) (omega arith) (omega arith)) match.first;
            second = Beats-raised S v x _ _ inside more (wins (2 * i + 1) (omega arith) (omega arith) (omega arith)) match.second;
          };
    }
