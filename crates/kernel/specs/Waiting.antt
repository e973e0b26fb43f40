-- The units that wait: those that came by rising size in a queue, the others in a heap.
use Rattle.std.specs.Prelude.{ℕ, ◌<◌, ◌≤◌, List, length, slice_index}

-- from a place on no number is less than one before it
abbrev pub NeverFallsFrom : ℕ → List ℕ → Type 0
NeverFallsFrom head ns = (i j : ℕ) → head ≤ i → i ≤ j → j < length ns → slice_index ns i ≤ slice_index ns j
