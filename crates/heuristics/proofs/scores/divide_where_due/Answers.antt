use Rattle.heuristics.proofs.KeptGains.{AreRanked-divided}
use Rattle.heuristics.proofs.scores.divide_where_due.Goals as goal

pub returns-clause-ranked : goal.returns-clause-ranked
returns-clause-ranked c =
    let e = c.divide_all.ensures in
    AreRanked-divided c.args.scores.now c.args.winners.now c.args.gained.now.items c.divide_all.new.scores c.divide_all.new.winners c.keep_scored.new.gained.items _ c.requires.ranked e.scores e.played c.keep_scored.ensures
