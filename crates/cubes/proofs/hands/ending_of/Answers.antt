use Rattle.std.proofs.Common.{ap}
use Rattle.theory.proofs.searching.OutcomeLemmas.{Runs-exhausted}
use Rattle.cdcl.specs.Outcome.{outcome_by}
use Rattle.cubes.proofs.hands.ending_of.Goals as goal

pub returns-in-Exhausted : goal.returns-in-Exhausted
returns-in-Exhausted g c F plan Q runs = let free = Runs-exhausted F plan Q c.in-Exhausted.var (rw c.in-Exhausted.is at runs) in (ap (outcome_by g.L.KeepsLines.lines) c.in-Exhausted.is, free.0, free.1)
