use Rattle.std.proofs.Common.{refl}
use Rattle.cdcl.proofs.MarkedSets.{none-marked}
use Rattle.cdcl.proofs.analysis.marks.Marks.with_room.Goals as goal

pub returns-clause-clear : goal.returns-clause-clear
returns-clause-clear c = record {
  none = λ v. rw (c.in_ok-vec.ensures.items_if_clones_equal (λ y h. h)) (none-marked c.args.count v);
  zero = refl;
  unseen = c.new.ensures.items;
  done = c.in_ok-with_room.ensures;
}
