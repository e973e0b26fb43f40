use Rattle.std.proofs.Common.{◌∙◌, arith}
use Rattle.join.proofs.LawLemmas.{AreHalves-beside, AreHalves-split}
use Rattle.join.proofs.NumberLemmas.{AreHalves-later}
use Rattle.join.proofs.PassedLemmas.{climb-both, climb-right}
use Rattle.join.proofs.joiner.climb.Goals as goal

pub splits-preserved : goal.splits-preserved
splits-preserved c =
    let n = c.splits.next in
    let was = (rw c.in-Both.is at c.in_ok-leave.ensures).0 in
    record {
      low = omega arith;
      from = omega arith;
      splits = AreHalves-later n c.leave.new.self (AreHalves-split n c.in-Both.var c.in-Both.left c.splits.place c.leave.new.self c.splits.invariant.splits was).0;
      rest = c.splits.invariant.rest ∙ climb-both n c.in-Both.var c.in-Both.left c.splits.place c.leave.new.self was;
    }

pub returns-in-Right : goal.returns-in-Right
returns-in-Right c =
    let n = c.splits.next in
    let turn = rw c.in-Right.is at c.in_ok-leave.ensures in
    record {
      climbed = c.splits.invariant.rest ∙ climb-right n c.in-Right.field-0 c.splits.place turn.0 c.leave.new.self turn.1 turn.2;
      splits = AreHalves-beside n c.in-Right.field-0 c.splits.place turn.0 c.leave.new.self c.splits.invariant.low c.splits.invariant.splits turn.1 turn.2;
      fits = (omega arith, omega arith);
    }
