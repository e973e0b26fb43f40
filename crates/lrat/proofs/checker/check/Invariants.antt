use Rattle.std.proofs.Common.{◌≡◌, ◌+◌, map, drop}
use Rattle.theory.specs.Checking.{check_from, checks}
use Rattle.lrat_text.specs.Steps.{step_of}
use Rattle.lrat.specs.Tested.{checker_of, IsReady}
use Rattle.lrat.proofs.checker.check.Given as goal

-- the steps that are left give the answer
abbrev pub invariant-loop-index : goal.invariant-loop-index
invariant-loop-index l = record {
  left : check_from l.formula.vars (l.index + 1) (checker_of l.checker) (drop l.index (map step_of l.steps)) ≡ checks l.formula (map step_of l.steps);
  ready : IsReady l.formula.vars l.checker;
}
