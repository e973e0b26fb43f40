use Rattle.heuristics.proofs.TournamentLemmas.{IsPlayedBut-rescored, left-out, leaf-back}
use Rattle.heuristics.proofs.tournament.rescore.Goals as goal

pub returns-then-winners-leaf-eq0-clause-played : goal.returns-then-winners-leaf-eq0-clause-played
returns-then-winners-leaf-eq0-clause-played c = IsPlayedBut-rescored _ _ c.args.variable c.args.score c.requires.inside.0 c.if-winners-leaf-eq0.true c.requires.played

pub enter-requires-2-clause-played : goal.enter-requires-2-clause-played
enter-requires-2-clause-played c =
    let S = c.args.scores.now in
    let out = left-out S c.args.winners.now c.enter.new.winners c.args.variable c.requires.inside.1 c.requires.played.field c.enter.ensures.leaves in
    IsPlayedBut-rescored S c.enter.new.winners c.args.variable c.args.score c.requires.inside.0 out c.enter.ensures.played

pub returns-clause-leaves : goal.returns-clause-leaves
returns-clause-leaves c =
    leaf-back c.args.scores.now c.args.winners.now c.enter.new.winners c.enter-2.new.winners c.args.variable c.args.score c.requires.inside.1 c.requires.played.field c.if-winners-leaf-eq0.false c.enter.ensures.leaves c.enter-2.ensures.leaves
