use Rattle.heuristics.proofs.TournamentLemmas.{leaf-there}
use Rattle.heuristics.proofs.tournament.enter.Goals as goal

pub returns-then-winners-leaf-clause-leaves : goal.returns-then-winners-leaf-clause-leaves
returns-then-winners-leaf-clause-leaves c = leaf-there c.args.scores.now c.args.winners.now c.args.variable c.args.entrant c.if-winners-leaf.true
