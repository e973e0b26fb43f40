-- Numbers kept as flags.
use Rattle.std.specs.Prelude.{◌≡◌, ℕ, suc, ◌<◌, ◌≤◌, Bool, true, false, List, [], ◌∷◌, length, slice_index_or, if◌then◌else◌}

-- the numbers whose flags are set, where the first flag is that of n
abbrev pub flagged : ℕ → List Bool → List ℕ
flagged n [] = []
flagged n (b ∷ bs) = if b then n ∷ flagged (suc n) bs else flagged (suc n) bs

-- the flags that are set lie from `low` on and before `top`
pub record AreWithin (low top : ℕ) (flags : List Bool) : Type 0 where
  pub long : top ≤ length flags
  pub within : (i : ℕ) → slice_index_or flags i false ≡ true → (low ≤ i) × (i < top)
