use Rattle.std.proofs.Common.{◌∙◌}
use Rattle.heuristics.specs.Modes.{mode_of}
use Rattle.heuristics.proofs.GainsAtOnce.{AreRanked-gained}
use Rattle.heuristics.proofs.RankingViews.{grown-after}
use Rattle.heuristics.proofs.scores.gain_and_grow.Goals as goal

pub divide_where_due-requires-clause-ranked : goal.divide_where_due-requires-clause-ranked
divide_where_due-requires-clause-ranked c =
    let noted = c.in_ok-note_first_gains.ensures in
    AreRanked-gained c.args.scores.now c.args.winners.now c.args.gained.now.items _ _ _ c.args.seen.now c.args.step c.gain_all.auto.scores c.requires.variables c.requires.ranked c.gain_all.ensures.gained c.gain_all.ensures.played noted.within noted.gained noted.noted

pub returns-clause-after : goal.returns-clause-after
returns-clause-after c =
    c.divide_where_due.ensures.divided
    ∙ grown-after c.args.constants (mode_of c.args.mode) c.args.scores.now c.gain_all.new.scores c.args.seen.now c.args.step _ c.gain_all.auto.scores c.growth.ensures c.gain_all.ensures.gained
