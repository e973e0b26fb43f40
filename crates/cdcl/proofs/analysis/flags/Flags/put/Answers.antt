use Rattle.std.proofs.Common.{◌∙◌, refl, arith}
use Rattle.cdcl.proofs.MarkedSets.{mark-read}
use Rattle.cdcl.proofs.FlagLemmas.{put-flag}
use Rattle.cdcl.proofs.analysis.flags.Flags.put.Goals as goal

pub returns-clause-put : goal.returns-clause-put
returns-clause-put c h =
    let inside = c.if-number-len.false in
    let len = c.len.ensures in
    rw (← c.self.view_is) (put-flag c.args.number c.self.inside.flags.items (omega arith) (mark-read c.self.inside.flags.items c.args.number c.args.number c.index.result.now refl (omega arith) c.index.ensures ∙ c.if-index.false))
