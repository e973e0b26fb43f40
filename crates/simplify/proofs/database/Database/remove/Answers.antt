use Rattle.std.proofs.Common.{◌-◌, None, slice_set, ap, sym, ◌∙◌, subst, arith}
use Rattle.simplify.specs.Entries.{Clauses, IsThere}
use Rattle.simplify.proofs.EntryLemmas.{entries-gone}
use Rattle.simplify.proofs.LiteralSets.{IsSet-rising}
use Rattle.simplify.proofs.TableLemmas.{there-within, there-set, there-at, there-counted, tables-gone}
use Rattle.simplify.proofs.database.Database.remove.Goals as goal

pub clause-requires : goal.clause-requires
clause-requires c =
    let d = c.self.inside in
    let at = subst (λ (e : Clauses). IsThere e.entries c.args.number) (sym c.self.view_is) c.requires in
    let within = there-within d.sets d.there.items d.lists.items d.counts c.self.invariant c.args.number at in
    let each = c.self.invariant.each in
    omega arith

pub leave-requires-clause-rising : goal.leave-requires-clause-rising
leave-requires-clause-rising c =
    let d = c.self.inside in
    let at = subst (λ (e : Clauses). IsThere e.entries c.args.number) (sym c.self.view_is) c.requires in
    IsSet-rising d.sets.vars c.clause.result.now (there-set d.sets d.there.items d.lists.items d.counts c.self.invariant c.args.number c.clause.result.now at c.clause.ensures.clause)

pub leave-requires-clause-counted : goal.leave-requires-clause-counted
leave-requires-clause-counted c =
    let d = c.self.inside in
    let at = subst (λ (e : Clauses). IsThere e.entries c.args.number) (sym c.self.view_is) c.requires in
    there-counted d.sets d.there.items d.lists.items d.counts c.self.invariant c.args.number c.clause.result.now at c.clause.ensures.clause

pub index_mut-requires : goal.index_mut-requires
index_mut-requires c =
    let d = c.self.inside in
    let at = subst (λ (e : Clauses). IsThere e.entries c.args.number) (sym c.self.view_is) c.requires in
    let within = there-within d.sets d.there.items d.lists.items d.counts c.self.invariant c.args.number at in
    let long = d.there.ok.0 in
    omega arith

pub invariant_of-self : goal.invariant_of-self
invariant_of-self c =
    let d = c.self.inside in
    let at = subst (λ (e : Clauses). IsThere e.entries c.args.number) (sym c.self.view_is) c.requires in
    tables-gone d.sets d.there.items d.lists.items d.counts c.self.invariant (c.args.number - 1) c.clause.result.now c.leave.new.self
    (there-within d.sets d.there.items d.lists.items d.counts c.self.invariant c.args.number at)
    (there-at d.sets d.there.items d.lists.items d.counts c.self.invariant c.args.number c.clause.result.now at c.clause.ensures.clause) c.leave.ensures

pub returns : goal.returns
returns c =
    let d = c.self.inside in
    let at = subst (λ (e : Clauses). IsThere e.entries c.args.number) (sym c.self.view_is) c.requires in
    let within = there-within d.sets d.there.items d.lists.items d.counts c.self.invariant c.args.number at in
    (λ i. record { vars = d.sets.vars; entries = entries-gone d.there.items d.sets.clauses (c.args.number - 1) within c.self.invariant.each i })
    ∙ ap (λ (e : Clauses). record { vars = e.vars; entries = slice_set e.entries (c.args.number - 1) None }) c.self.view_is
