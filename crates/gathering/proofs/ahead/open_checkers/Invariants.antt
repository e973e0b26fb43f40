use Rattle.std.proofs.Common.{All}
use Rattle.packs.specs.Checking.{IsChecking}
use Rattle.gathering.proofs.ahead.open_checkers.Given as goal

abbrev pub invariant-loop : goal.invariant-loop
invariant-loop l = All (IsChecking l.plan.search l.formula) l.checkers.items
