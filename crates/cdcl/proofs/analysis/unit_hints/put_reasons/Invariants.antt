use Rattle.std.proofs.Common.{◌≡◌, ◌++◌, take}
use Rattle.cdcl.specs.Units.{reasons_at}
use Rattle.cdcl.proofs.analysis.unit_hints.put_reasons.Given as goal

-- the reasons at the places so far are in
abbrev pub invariant-loop-place : goal.invariant-loop-place
invariant-loop-place l = l.hints.items ≡ l.initial.hints.items ++ reasons_at l.kernel.trail (take l.place-index l.places)
