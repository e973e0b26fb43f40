use Rattle.std.proofs.Common.{◌≤◌, ap, sym, ◌∙◌, length, arith}
use Rattle.std.specs.Vec.{with_items}
use Rattle.std.proofs.lemmas.List.{with_items_is}
use Rattle.std.proofs.lemmas.Bool.Decides.{nat_tests}
use Rattle.simplify.specs.Tables.{Counted}
use Rattle.simplify.proofs.CountedClauses.{counted-times, counted-unit, one_more-long}
use Rattle.simplify.proofs.counting.Counts.leave.Goals as goal

pub uncount-requires-clause-counted : goal.uncount-requires-clause-counted
uncount-requires-clause-counted c =
    counted-times c.args.self.now _ c.args.clause.now (c.deref_mut.ensures.value ∙ ap (λ (C : Counted). C.literals) c.self.view_is) c.requires.rising c.requires.counted

pub returns-else-clause-eq1 : goal.returns-else-clause-eq1
returns-else-clause-eq1 c =
    let old = c.deref_mut.ensures.value ∙ ap (λ (C : Counted). C.literals) c.self.view_is in
    let new = with_items_is c.self.inside.literals c.uncount.new.counts (c.uncount.ensures.long ∙ c.deref_mut.ensures.len) in
    let test = c.is_empty.ensures in
    let some = c.if-is_empty.false in
    let other = c.if-clause-eq1.false in
    let more : 2 ≤ length c.args.clause.now = grind (arith, nat_tests) in
    let C : Counted = record { literals = (with_items c.self.inside.literals c.uncount.new.counts).items; units = c.self.inside.units.items; empty = c.self.inside.empty } in
    one_more-long C c.args.self.now c.args.clause.now c.uncount.new.counts c.deref_mut.result.now c.requires.rising (sym new) (sym old) (sym c.uncount.ensures.long) (λ j. sym (c.uncount.ensures.counts j))
    more (ap (λ (C : Counted). C.units) (sym c.self.view_is)) (ap (λ (C : Counted). C.empty) (sym c.self.view_is))

pub overflow_sub-index_mut : goal.overflow_sub-index_mut
overflow_sub-index_mut c =
    counted-unit c.args.self.now c.args.clause.now c.self.inside.units.items c.index-clause-0.result c.var.result c.index_mut.result.now
    (ap (λ (C : Counted). C.units) c.self.view_is) c.requires.counted c.if-clause-eq1.true c.index-clause-0.is c.var.ensures.var c.index_mut.ensures.value
