-- A tournament of variables by their scores. Its nodes are numbered from 1 on: node i has the nodes
-- 2 * i and 2 * i + 1 below it, and the last half of the nodes are leaves, one for each variable.
-- Each other node has the winner of the two below it.
use Rattle.std.specs.Prelude.{◌≡◌, ◌≢◌, ℕ, ◌+◌, ◌*◌, ◌<◌, ◌≤◌, ◌⊎◌, List, length, slice_index}

-- by scores S: w has the greater score, or as great a one and is as great
pub record Beats (S : List ℕ) (w a : ℕ) : Type 0 where
  pub greater : slice_index S a ≤ slice_index S w
  pub later : slice_index S a ≡ slice_index S w → a ≤ w

-- of a and b
pub record IsWinner (S : List ℕ) (a b w : ℕ) : Type 0 where
  pub one : (w ≡ a) ⊎ (w ≡ b)
  pub first : Beats S w a
  pub second : Beats S w b

-- W has a leaf for each variable, number 0 among them: the variable, where it takes part, or else 0
pub record IsField (S W : List ℕ) : Type 0 where
  pub some : 1 ≤ length S
  pub long : length W ≡ 2 * length S
  pub within : (i : ℕ) → slice_index W i < length S
  pub leaves : (v : ℕ) → v < length S → (slice_index W (length S + v) ≡ v) ⊎ (slice_index W (length S + v) ≡ 0)

-- node i has the winner of the two below
abbrev pub IsMatch : List ℕ → List ℕ → ℕ → Type 0
IsMatch S W i = IsWinner S (slice_index W (2 * i)) (slice_index W (2 * i + 1)) (slice_index W i)

-- each node has the winner of the two below, but for one node; where that is 0, all nodes have
pub record IsPlayedBut (S W : List ℕ) (but : ℕ) : Type 0 where
  pub field : IsField S W
  pub matches : (i : ℕ) → 1 ≤ i → i < length S → i ≢ but → IsMatch S W i
