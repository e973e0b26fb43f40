use Rattle.std.proofs.Common.{◌≡◌, ◌||◌, ℕ, take, slice_get}
use Rattle.theory.specs.Literals.{without}
use Rattle.cdcl.specs.Numbers.{is_one_of}
use Rattle.cdcl.specs.Units.{is_against}
use Rattle.cdcl.proofs.analysis.unit_hints.put_places.Given as goal

-- the places for the literals so far are in
abbrev pub invariant-loop-other : goal.invariant-loop-other
invariant-loop-other l =
    (p : ℕ) → is_one_of l.places.items p ≡ (is_one_of l.initial.places.items p || is_against (without (take l.other-index l.clause) l.lit) (slice_get l.kernel.trail p))
