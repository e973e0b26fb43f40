use Rattle.std.proofs.Common.{◌∙◌, sym}
use Rattle.lrat.specs.declared.hints.Taken.TheVariants.{Conflict, Open, Fails}
use Rattle.lrat.specs.Slots.{there}
use Rattle.lrat.proofs.HeldLemmas.{Extends-trans}
use Rattle.lrat.proofs.GroupLemmas.{group_fault-taken}
use Rattle.lrat.proofs.groups.group_fault.Goals as goal

pub returns-in_err-take_hints-clause-extends : goal.returns-in_err-take_hints-clause-extends
returns-in_err-take_hints-clause-extends c = Extends-trans _ _ _ c.assume.ensures.extends c.take_hints.ensures.extends

pub returns-in-Conflict-clause-fault : goal.returns-in-Conflict-clause-fault
returns-in-Conflict-clause-fault c = λ L h.
    group_fault-taken (there c.args.clauses.now) c.args.held.now.literals c.args.pivot L c.args.group.now c.in-Some.clause.now c.assume.new.held.literals c.take_hints.new.held.literals Conflict
    (rw c.candidate.ensures.candidate at c.in-Some.ensures.clause) (sym c.has.ensures ∙ c.if-not-has.false)
    (rw c.candidate-else-not-has.ensures.candidate at (sym (h c.candidate-else-not-has.result) ∙ (sym c.contains.ensures ∙ c.if-contains.false)))
    (sym c.in_ok-assume.ensures.closed ∙ c.if-branch.false) (c.in_ok-assume.ensures.assumed c.if-branch.false)
    (rw (c.in-Conflict.is, c.hints-2.ensures.hints) at c.in_ok-take_hints.ensures.taken)

pub returns-in-Conflict-clause-extends : goal.returns-in-Conflict-clause-extends
returns-in-Conflict-clause-extends c = Extends-trans _ _ _ c.assume.ensures.extends c.take_hints.ensures.extends

pub returns-in-Open-clause-fault : goal.returns-in-Open-clause-fault
returns-in-Open-clause-fault c = λ L h.
    group_fault-taken (there c.args.clauses.now) c.args.held.now.literals c.args.pivot L c.args.group.now c.in-Some.clause.now c.assume.new.held.literals c.take_hints.new.held.literals Open
    (rw c.candidate.ensures.candidate at c.in-Some.ensures.clause) (sym c.has.ensures ∙ c.if-not-has.false)
    (rw c.candidate-else-not-has.ensures.candidate at (sym (h c.candidate-else-not-has.result) ∙ (sym c.contains.ensures ∙ c.if-contains.false)))
    (sym c.in_ok-assume.ensures.closed ∙ c.if-branch.false) (c.in_ok-assume.ensures.assumed c.if-branch.false)
    (rw (c.in-Open.is, c.hints-2.ensures.hints) at c.in_ok-take_hints.ensures.taken)

pub returns-in-Open-clause-extends : goal.returns-in-Open-clause-extends
returns-in-Open-clause-extends c = Extends-trans _ _ _ c.assume.ensures.extends c.take_hints.ensures.extends

pub returns-in-Fails-clause-fault : goal.returns-in-Fails-clause-fault
returns-in-Fails-clause-fault c = λ L h.
    group_fault-taken (there c.args.clauses.now) c.args.held.now.literals c.args.pivot L c.args.group.now c.in-Some.clause.now c.assume.new.held.literals c.take_hints.new.held.literals (Fails c.in-Fails.fault)
    (rw c.candidate.ensures.candidate at c.in-Some.ensures.clause) (sym c.has.ensures ∙ c.if-not-has.false)
    (rw c.candidate-else-not-has.ensures.candidate at (sym (h c.candidate-else-not-has.result) ∙ (sym c.contains.ensures ∙ c.if-contains.false)))
    (sym c.in_ok-assume.ensures.closed ∙ c.if-branch.false) (c.in_ok-assume.ensures.assumed c.if-branch.false)
    (rw (c.in-Fails.is, c.hints-2.ensures.hints) at c.in_ok-take_hints.ensures.taken)

pub returns-in-Fails-clause-extends : goal.returns-in-Fails-clause-extends
returns-in-Fails-clause-extends c = Extends-trans _ _ _ c.assume.ensures.extends c.take_hints.ensures.extends
