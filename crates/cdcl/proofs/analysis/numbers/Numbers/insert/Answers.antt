use Rattle.std.proofs.Common.{◌≡◌, ◌∙◌, ◌<◌, true, false, length, slice_index_or, refl, sym}
use Rattle.theory.proofs.literals.LiteralSets.{true_false}
use Rattle.cdcl.proofs.NumberSets.{AreWith-there, flag-says}
use Rattle.cdcl.proofs.MarkedSets.{mark-read}
use Rattle.cdcl.proofs.analysis.numbers.Numbers.insert.Goals as goal

pub returns-else-not-index-clause-inserted : goal.returns-else-not-index-clause-inserted
returns-else-not-index-clause-inserted c =
    let inside : c.args.number < length c.self.inside.flags.items = rw (← c.self.view_is) at c.requires in
    let set : slice_index_or c.self.inside.flags.items c.args.number false ≡ true = mark-read c.self.inside.flags.items c.args.number c.args.number c.index.result.now refl inside c.index.ensures ∙ c.if-not-index.false in
    rw (← c.self.view_is) (AreWith-there c.self.inside.flags.items c.self.inside.list.items c.args.number c.self.invariant set)

pub returns-else-not-index-clause-last : goal.returns-else-not-index-clause-last
returns-else-not-index-clause-last c is_new =
    let inside : c.args.number < length c.self.inside.flags.items = rw (← c.self.view_is) at c.requires in
    let set : slice_index_or c.self.inside.flags.items c.args.number false ≡ true = mark-read c.self.inside.flags.items c.args.number c.args.number c.index.result.now refl inside c.index.ensures ∙ c.if-not-index.false in
    true_false _ (sym (flag-says c.self.inside.flags.items c.self.inside.list.items c.args.number c.self.invariant) ∙ set) (rw (← c.self.view_is) at is_new)
