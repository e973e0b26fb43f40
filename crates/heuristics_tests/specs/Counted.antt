-- Numbers that are counted up.
use Rattle.std.specs.Prelude.{◌≡◌, ℕ, ◌+◌, ◌<◌, List, length, slice_index}

-- 1, 2 and so on
abbrev pub AreFromOne : List ℕ → Type 0
AreFromOne all = (i : ℕ) → i < length all → slice_index all i ≡ i + 1
