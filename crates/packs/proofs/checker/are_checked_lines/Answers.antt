use Rattle.std.proofs.Common.{ap}
use Rattle.packs.specs.Opened.{Opened}
use Rattle.packs.proofs.CheckedSplits.{lines-answer}
use Rattle.packs.proofs.checker.are_checked_lines.Goals as goal

pub replays-requires : goal.replays-requires
replays-requires c = ap (λ (o : Opened). o.vars) c.requires.1

pub returns-clause-lines : goal.returns-clause-lines
returns-clause-lines c = λ search is.
    lines-answer search c.args.formula.now c.args.replayer.now.units c.args.cube.now c.args.row.now c.replays.result (ap (λ (o : Opened). o.units) is) c.replays.ensures.replays
