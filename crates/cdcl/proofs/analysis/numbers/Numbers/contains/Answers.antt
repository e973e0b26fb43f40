use Rattle.std.proofs.Common.{◌<◌, ◌∙◌, length, refl, sym}
use Rattle.cdcl.proofs.NumberSets.{flag-says}
use Rattle.cdcl.proofs.MarkedSets.{mark-read}
use Rattle.cdcl.proofs.analysis.numbers.Numbers.contains.Goals as goal

pub returns : goal.returns
returns c =
    let inside : c.args.number < length c.self.inside.flags.items = rw (← c.self.view_is) at c.requires in
    rw (← c.self.view_is) (sym (mark-read c.self.inside.flags.items c.args.number c.args.number c.index.result.now refl inside c.index.ensures) ∙ flag-says c.self.inside.flags.items c.self.inside.list.items c.args.number c.self.invariant)
