use Rattle.std.proofs.Common.{ap, sym, ◌∙◌, subst}
use Rattle.theory.specs.Literals.{IsVariable}
use Rattle.simplify.specs.Entries.{Clauses, holding}
use Rattle.simplify.proofs.TableLemmas.{tables-list, tables-cleaned, cleaned-list, cleaned-holders}
use Rattle.simplify.proofs.database.Database.holders.Goals as goal

pub invariant_of-self : goal.invariant_of-self
invariant_of-self c =
    let d = c.self.inside in
    let v = subst (λ (e : Clauses). IsVariable e.vars c.args.lit.var) (sym c.self.view_is) c.requires in
    tables-cleaned d.sets d.there.items d.lists.items d.counts c.self.invariant c.code.result c.keep_live.new.self
    (tables-list d.sets d.there.items d.lists.items d.counts c.self.invariant c.args.lit c.code.result v c.code.ensures)
    (cleaned-list d.sets d.there.items d.lists.items d.counts c.self.invariant c.deref.result.now c.args.lit c.code.result c.index_mut-list.result.now c.keep_live.new.self v c.code.ensures c.deref.ensures.value c.index_mut-list.ensures.value c.keep_live.ensures)

pub invariant_of-self-2 : goal.invariant_of-self-2
invariant_of-self-2 c =
    let d = c.self.inside in
    let v = subst (λ (e : Clauses). IsVariable e.vars c.args.lit.var) (sym c.self.view_is) c.requires in
    tables-cleaned d.sets d.there.items d.lists.items d.counts c.self.invariant c.code.result c.keep_live.new.self
    (tables-list d.sets d.there.items d.lists.items d.counts c.self.invariant c.args.lit c.code.result v c.code.ensures)
    (cleaned-list d.sets d.there.items d.lists.items d.counts c.self.invariant c.deref.result.now c.args.lit c.code.result c.index_mut-list.result.now c.keep_live.new.self v c.code.ensures c.deref.ensures.value c.index_mut-list.ensures.value c.keep_live.ensures)

pub returns-clause-holders : goal.returns-clause-holders
returns-clause-holders c =
    let d = c.self.inside in
    let v = subst (λ (e : Clauses). IsVariable e.vars c.args.lit.var) (sym c.self.view_is) c.requires in
    c.in_ok-extend_from_slice.ensures.items ∙ (rw c.clear.ensures.items c.numbers.ensures
    ∙ (cleaned-holders d.sets d.there.items d.lists.items d.counts c.self.invariant c.deref.result.now c.args.lit c.code.result c.index_mut-list.result.now c.keep_live.new.self v c.code.ensures c.deref.ensures.value c.index_mut-list.ensures.value c.keep_live.ensures
    ∙ ap (λ (e : Clauses). holding c.args.lit e.entries) c.self.view_is))
