use Rattle.std.proofs.Common.{◌≡◌, ◌++◌, take}
use Rattle.theory.specs.Pure.{unit_clauses}
use Rattle.kernel.proofs.kernel.push_units.Given as goal

-- those of the units so far are there
abbrev pub invariant-loop-unit : goal.invariant-loop-unit
invariant-loop-unit l = l.clauses ≡ l.initial.clauses ++ unit_clauses (take l.unit-index l.units)
