-- A tree of keys in one list: below the node of number i are those of numbers 2 * i and 2 * i + 1,
-- from the root on, which is number 1, and each node has the lesser key of the two below. Those with
-- none below are the leaves, the second half of the list.
use Rattle.std.specs.Prelude.{◌≡◌, ◌≢◌, ℕ, ◌+◌, ◌-◌, ◌*◌, ◌^◌, ◌<◌, ◌≤◌, min, Bool, ◌&&◌, nat_le, List, length, slice_index, if◌then◌else◌}
use Rattle.theory.specs.Truth.{Assignment, value}
use Rattle.theory.specs.Reading.{large, max_vars}
use Rattle.theory.specs.Trying.{most_pairs}
use Rattle.simplify.specs.Candidates.{weight_of}

abbrev pub IsLesser : List ℕ → ℕ → Type 0
IsLesser T i = slice_index T i ≡ min (slice_index T (2 * i)) (slice_index T (2 * i + 1))

-- each node has the lesser key of the two below, but for one; where that is 0, all nodes have
abbrev pub AreLesserBut : List ℕ → ℕ → Type 0
AreLesserBut T but = (i : ℕ) → 1 ≤ i → 2 * i + 1 < length T → i ≢ but → IsLesser T i

-- half of the places are leaves
abbrev pub HasLeaves : List ℕ → ℕ → Type 0
HasLeaves T n = length T ≡ 2 * n

-- the leaves of U are those of T
abbrev pub AreSameLeaves : List ℕ → List ℕ → Type 0
AreSameLeaves T U = (length U ≡ length T) × ((k : ℕ) → length T ≤ 2 * k → slice_index U k ≡ slice_index T k)

-- the key of a variable: the lesser of two has the lesser weight, or the same weight and is lesser
abbrev pub key_of : Bool → ℕ → ℕ → ℕ
key_of waits w v = if waits && nat_le w most_pairs then w * 2 ^ 32 + v else 2 ^ 64 - 1

-- T is the tree of the variables with the weights W, of which those wait that M says
pub record AreKeys (W : List ℕ) (M : Assignment) (T : List ℕ) : Type 0 where
  pub each : length W ≡ length M
  pub few : length M ≤ max_vars large
  pub leaves : HasLeaves T (length M)
  pub keys : (v : ℕ) → 1 ≤ v → v ≤ length M → slice_index T (length M + (v - 1)) ≡ key_of (value M v) (weight_of W v) v
  pub lesser : AreLesserBut T 0
