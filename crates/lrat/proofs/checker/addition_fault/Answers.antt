use Rattle.std.proofs.Common.{◌≡◌, ◌∙◌, not, IfOk, ap, sym, subst}
use Rattle.std.proofs.lemmas.Bool.{lt-leb}
use Rattle.theory.specs.Checking.{hints_fault}
use Rattle.lrat.specs.CheckFaults.{faults_of}
use Rattle.lrat.specs.Slots.{there}
use Rattle.lrat.proofs.AdditionLemmas.{addition-taken, rup-none, rup-some}
use Rattle.lrat.proofs.checker.addition_fault.Goals as goal

pub returns-then-is_empty-clause-fault : goal.returns-then-is_empty-clause-fault
returns-then-is_empty-clause-fault c =
    sym (rup-none c.args.addition.now.groups (rw c.groups.ensures.groups at (sym c.is_empty.ensures ∙ c.if-is_empty.true)))
    ∙ (ap (hints_fault (there c.args.clauses.now) c.args.addition.now) (rw (c.in-Conflict.is, c.hints.ensures.hints) at c.in_ok-take_hints.ensures.taken)
    ∙ addition-taken c.args.held.now.vars c.args.last (there c.args.clauses.now) c.args.addition.now c.negate.new.held.literals
    (lt-leb c.args.addition.now.id c.args.last (rw c.id.ensures.id at c.if-id-last.false))
    (rw (c.vars.ensures, c.clause-clause.ensures.clause) at (sym c.is_over.ensures ∙ ap not c.if-not-is_over.false))
    (rw c.clause-clause.ensures.clause at (sym c.in_ok-negate.ensures.both ∙ c.if-branch.false))
    (rw c.clause-clause.ensures.clause at (c.in_ok-negate.ensures.negated c.if-branch.false)))

pub returns-else-is_empty-clause-fault : goal.returns-else-is_empty-clause-fault
returns-else-is_empty-clause-fault c =
    sym (rup-some c.args.addition.now.groups (rw c.groups.ensures.groups at (sym c.is_empty.ensures ∙ c.if-is_empty.false)))
    ∙ (ap (hints_fault (there c.args.clauses.now) c.args.addition.now) (rw (c.in-Conflict.is, c.hints.ensures.hints) at c.in_ok-take_hints.ensures.taken)
    ∙ addition-taken c.args.held.now.vars c.args.last (there c.args.clauses.now) c.args.addition.now c.negate.new.held.literals
    (lt-leb c.args.addition.now.id c.args.last (rw c.id.ensures.id at c.if-id-last.false))
    (rw (c.vars.ensures, c.clause-clause.ensures.clause) at (sym c.is_over.ensures ∙ ap not c.if-not-is_over.false))
    (rw c.clause-clause.ensures.clause at (sym c.in_ok-negate.ensures.both ∙ c.if-branch.false))
    (rw c.clause-clause.ensures.clause at (c.in_ok-negate.ensures.negated c.if-branch.false)))

pub returns-in-Open-clause-fault : goal.returns-in-Open-clause-fault
returns-in-Open-clause-fault c =
    subst (λ x. IfOk c.rat_fault.result (λ o. faults_of o ≡ x))
    (ap (hints_fault (there c.args.clauses.now) c.args.addition.now) (rw (c.in-Open.is, c.hints.ensures.hints) at c.in_ok-take_hints.ensures.taken)
    ∙ addition-taken c.args.held.now.vars c.args.last (there c.args.clauses.now) c.args.addition.now c.negate.new.held.literals
    (lt-leb c.args.addition.now.id c.args.last (rw c.id.ensures.id at c.if-id-last.false))
    (rw (c.vars.ensures, c.clause-clause.ensures.clause) at (sym c.is_over.ensures ∙ ap not c.if-not-is_over.false))
    (rw c.clause-clause.ensures.clause at (sym c.in_ok-negate.ensures.both ∙ c.if-branch.false))
    (rw c.clause-clause.ensures.clause at (c.in_ok-negate.ensures.negated c.if-branch.false)))
    (rw (c.clause-clause.ensures.clause, c.groups-in-Open.ensures.groups) at c.rat_fault.ensures.fault)

pub returns-in-Fails-clause-fault : goal.returns-in-Fails-clause-fault
returns-in-Fails-clause-fault c =
    ap (hints_fault (there c.args.clauses.now) c.args.addition.now) (rw (c.in-Fails.is, c.hints.ensures.hints) at c.in_ok-take_hints.ensures.taken)
    ∙ addition-taken c.args.held.now.vars c.args.last (there c.args.clauses.now) c.args.addition.now c.negate.new.held.literals
    (lt-leb c.args.addition.now.id c.args.last (rw c.id.ensures.id at c.if-id-last.false))
    (rw (c.vars.ensures, c.clause-clause.ensures.clause) at (sym c.is_over.ensures ∙ ap not c.if-not-is_over.false))
    (rw c.clause-clause.ensures.clause at (sym c.in_ok-negate.ensures.both ∙ c.if-branch.false))
    (rw c.clause-clause.ensures.clause at (c.in_ok-negate.ensures.negated c.if-branch.false))
