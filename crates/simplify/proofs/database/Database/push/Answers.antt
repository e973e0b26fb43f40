use Rattle.std.proofs.Common.{◌≤◌, true, Some, ◌∷◌, [], ◌++◌, length, take, ap, sym, ◌∙◌, subst, arith}
use Rattle.std.specs.Vec.{with_items}
use Rattle.std.proofs.lemmas.List.{with_items_is}
use Rattle.simplify.specs.Entries.{Clauses, IsSet}
use Rattle.simplify.specs.Tables.{entries_of}
use Rattle.simplify.proofs.CountLemmas.{has-room}
use Rattle.simplify.proofs.EntryLemmas.{length-entries, entries-push}
use Rattle.simplify.proofs.LiteralSets.{IsSet-rising}
use Rattle.simplify.proofs.TableLemmas.{tables-absent, tables-come, tables-same, listed-same, live-last, number-last}
use Rattle.simplify.proofs.database.Database.push.Goals as goal

pub invariant_of-self-in_err-list : goal.invariant_of-self-in_err-list
invariant_of-self-in_err-list c =
    let d = c.self.inside in
    let clause = c.args.clause.now in
    let put = c.in_ok-put_absent.ensures in
    let n = c.clause_count-number.result in
    let last = number-last d.sets c.put_absent.new.sets d.there.items clause n c.self.invariant.each c.clause_count-number.ensures.count put.sets in
    let some = c.list.ensures.some in
    let lists = (with_items d.lists c.list.new.lists).items in
    let same = with_items_is d.lists c.list.new.lists (some.1.0 ∙ c.deref_mut.ensures.len) in
    let listed = listed-same c.deref_mut.result.now c.list.new.lists d.lists.items lists (take some.0 clause) n some.1 c.deref_mut.ensures.value same in
    tables-same _ c.put_absent.new.sets _ c.put_absent.new.there.items lists d.counts
    (tables-absent d.sets d.there.items d.lists.items d.counts c.self.invariant clause (take some.0 clause) n lists last listed) put.sets put.there

pub enter-requires-clause-rising : goal.enter-requires-clause-rising
enter-requires-clause-rising c = IsSet-rising c.args.self.now.vars c.args.clause.now c.requires

pub enter-requires-clause-room : goal.enter-requires-clause-room
enter-requires-clause-room c =
    let d = c.self.inside in
    let last = number-last d.sets c.put_absent.new.sets d.there.items c.args.clause.now c.clause_count-number.result c.self.invariant.each c.clause_count-number.ensures.count c.in_ok-put_absent.ensures.sets in
    let few = c.clause_count-number.ensures.few in
    let long = length-entries d.there.items d.sets.clauses c.self.invariant.each in
    let most : length (entries_of d.there.items d.sets.clauses) ≤ 1000000000 = omega arith in
    has-room (entries_of d.there.items d.sets.clauses) d.counts c.self.invariant.counts most

pub invariant_of-self-2 : goal.invariant_of-self-2
invariant_of-self-2 c =
    let d = c.self.inside in
    let clause = c.args.clause.now in
    let put = c.in_ok-put_absent.ensures in
    let n = c.clause_count-number.result in
    let last = number-last d.sets c.put_absent.new.sets d.there.items clause n c.self.invariant.each c.clause_count-number.ensures.count put.sets in
    let lists = (with_items d.lists c.list.new.lists).items in
    let same = with_items_is d.lists c.list.new.lists (c.in_ok-list.ensures.ok.0 ∙ c.deref_mut.ensures.len) in
    let listed = listed-same c.deref_mut.result.now c.list.new.lists d.lists.items lists clause n c.in_ok-list.ensures.ok c.deref_mut.ensures.value same in
    tables-same _ c.put_absent.new.sets _ _ lists c.enter.new.self
    (tables-come d.sets d.there.items d.lists.items d.counts c.self.invariant clause n lists c.enter.new.self (subst (λ (e : Clauses). IsSet e.vars clause) (sym c.self.view_is) c.requires) last listed c.enter.ensures) put.sets
    (live-last d.there.items c.put_absent.new.there.items n put.there last)

pub returns : goal.returns
returns c =
    let d = c.self.inside in
    let clause = c.args.clause.now in
    let put = c.in_ok-put_absent.ensures in
    let n = c.clause_count-number.result in
    let last = number-last d.sets c.put_absent.new.sets d.there.items clause n c.self.invariant.each c.clause_count-number.ensures.count put.sets in
    let live = live-last d.there.items c.put_absent.new.there.items n put.there last in
    (λ i. record { vars = (put.sets i).vars; entries = entries_of (live i) (put.sets i).clauses })
    ∙ ((λ i. record { vars = d.sets.vars; entries = entries-push d.there.items d.sets.clauses true clause c.self.invariant.each i })
    ∙ ap (λ (e : Clauses). record { vars = e.vars; entries = e.entries ++ Some clause ∷ [] }) c.self.view_is)
