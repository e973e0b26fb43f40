use Rattle.std.proofs.Common.{◌≤◌, ap, ◌∙◌, length, arith}
use Rattle.std.specs.Vec.{with_items}
use Rattle.std.proofs.lemmas.List.{with_items_is}
use Rattle.std.proofs.lemmas.Bool.Decides.{nat_tests}
use Rattle.simplify.specs.Tables.{Counted}
use Rattle.simplify.proofs.CountedClauses.{few-times, one_more-long}
use Rattle.simplify.proofs.counting.Counts.enter.Goals as goal

pub count-requires-clause-few : goal.count-requires-clause-few
count-requires-clause-few c =
    few-times c.args.self.now _ c.args.clause.now (c.deref_mut.ensures.value ∙ ap (λ (C : Counted). C.literals) c.self.view_is) c.requires.rising c.requires.room

pub returns-else-clause-eq1 : goal.returns-else-clause-eq1
returns-else-clause-eq1 c =
    let old = c.deref_mut.ensures.value ∙ ap (λ (C : Counted). C.literals) c.self.view_is in
    let new = with_items_is c.self.inside.literals c.count.new.counts (c.count.ensures.long ∙ c.deref_mut.ensures.len) in
    let test = c.is_empty.ensures in
    let some = c.if-is_empty.false in
    let other = c.if-clause-eq1.false in
    let more : 2 ≤ length c.args.clause.now = grind (arith, nat_tests) in
    let D : Counted = record { literals = (with_items c.self.inside.literals c.count.new.counts).items; units = c.self.inside.units.items; empty = c.self.inside.empty } in
    one_more-long c.args.self.now D c.args.clause.now c.deref_mut.result.now c.count.new.counts c.requires.rising old new c.count.ensures.long c.count.ensures.counts
    more (ap (λ (C : Counted). C.units) c.self.view_is) (ap (λ (C : Counted). C.empty) c.self.view_is)
