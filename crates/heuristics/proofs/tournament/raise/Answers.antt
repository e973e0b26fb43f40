use Rattle.heuristics.proofs.RaisedScores.{IsPlayedBut-raised}
use Rattle.heuristics.proofs.tournament.raise.Goals as goal

pub replay-requires-clause-played : goal.replay-requires-clause-played
replay-requires-clause-played c = IsPlayedBut-raised c.args.scores.now c.args.winners.now c.args.variable c.args.score c.top_of-top.result c.requires.inside.0 c.requires.inside.1 c.requires.more c.top_of-top.ensures.top c.requires.played
