use Rattle.std.proofs.Common.{◌≡◌, ◌-◌, length, sym, subst, arith}
use Rattle.std.proofs.lemmas.Option.{get_or_from_slice_get}
use Rattle.lrat.specs.Flat.{AreFlat}
use Rattle.lrat.proofs.FormulaClauses.{AreTaken-more, AreFlat-taken, AreUpTo-taken}
use Rattle.lrat.proofs.clauses.Clauses.new.Goals as goal

pub loop-done-preserved : goal.loop-done-preserved
loop-done-preserved c =
    let n = c.clause_count-first.result in
    let i = n - 1 - c.loop-done.done in
    AreTaken-more c.args.formula.now.vars n c.loop-done.done i c.args.formula.now.clauses c.clause-clause.result.now c.loop-done.lits.items c.append.new.lits.items c.loop-done.heads.items c.append.new.heads.items
    c.loop-done.invariant (sym c.clause_count-first.ensures.count) (omega arith) (sym (get_or_from_slice_get c.args.formula.now.clauses i c.clause-clause.result.now c.clause-clause.result.now c.clause-clause.ensures.clause)) c.clause-clause.ensures.over c.in_ok-append.ensures.within c.in_ok-append.ensures.ok c.in_ok-append.ensures.last

pub invariant_of-result : goal.invariant_of-result
invariant_of-result c =
    subst (λ V. AreFlat V c.clause_count-first.result c.loop-done.lits.items c.loop-done.heads.items) (sym c.vars.ensures.vars)
    (AreFlat-taken c.args.formula.now.vars c.clause_count-first.result c.loop-done.done c.args.formula.now.clauses c.loop-done.lits.items c.loop-done.heads.items (omega arith) (omega arith) c.loop-done.invariant)

pub returns-clause-up_to : goal.returns-clause-up_to
returns-clause-up_to c = λ i s g.
    let a = AreUpTo-taken c.args.formula.now.vars c.clause_count-first.result c.loop-done.done c.args.formula.now.clauses c.loop-done.lits.items c.loop-done.heads.items c.loop-done.invariant i s g in
    omega (arith, c.clause_count-first.ensures.count)
