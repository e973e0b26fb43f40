use Rattle.cdcl.proofs.FlagLemmas.{flagged-replicate}
use Rattle.cdcl.proofs.analysis.flags.Flags.with_room.Goals as goal

pub returns : goal.returns
returns c = rw (c.in_ok-vec.ensures.items_if_clones_equal (λ y h. h)) (flagged-replicate 0 c.args.bound)
