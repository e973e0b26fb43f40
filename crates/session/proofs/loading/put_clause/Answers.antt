use Rattle.std.proofs.Common.{◌≡◌, ◌∙◌, ◌&&◌, ◌≤◌, true, ap, length, sym, subst}
use Rattle.theory.specs.Literals.{Clause, are_distinct}
use Rattle.theory.specs.Truth.{is_true_clause, are_true}
use Rattle.session.proofs.GatheredLemmas.{always-true, gathered-some, over-gathered, gathered-true, held-lits, are_true-push_is}
use Rattle.session.proofs.loading.put_clause.Goals as goal

pub returns-then-branch-clause-clauses : goal.returns-then-branch-clause-clauses
returns-then-branch-clause-clauses c m = always-true m c.args.kernel.now.clauses c.args.clause.now (c.in_ok-gather.ensures.both c.if-branch.true)

pub attach-requires-clause-some : goal.attach-requires-clause-some
attach-requires-clause-some c = subst (λ (x : Clause). 1 ≤ length x) (sym c.deref.ensures.value) (gathered-some c.args.clause.now _ _ c.requires.some (c.in_ok-gather.ensures.once c.if-branch.false))

pub attach-requires-clause-distinct : goal.attach-requires-clause-distinct
attach-requires-clause-distinct c =
    subst (λ (x : Clause). are_distinct x ≡ true) (held-lits c.args.clause.now _ _ (c.in_ok-gather.ensures.once c.if-branch.false) ∙ sym c.deref.ensures.value) c.vars-vars.ensures.ordered.distinct

pub attach-requires-clause-over : goal.attach-requires-clause-over
attach-requires-clause-over c =
    over-gathered c.args.kernel.now.vars _ c.args.clause.now _ _ _ c.vars-vars.ensures.ordered.over (c.gather.ensures.vars ∙ (c.clear.ensures.vars ∙ c.requires.room)) (c.in_ok-gather.ensures.once c.if-branch.false) (sym c.deref.ensures.value)

pub returns-clause-clauses : goal.returns-clause-clauses
returns-clause-clauses c m =
    let K = c.args.kernel.now.clauses in
    ap (are_true m) c.in_ok-attach.ensures.clauses
    ∙ (are_true-push_is m K c.deref.result.now
    ∙ ap (λ b. are_true m K && b) (ap (is_true_clause m) c.deref.ensures.value ∙ gathered-true m c.args.clause.now _ _ (c.in_ok-gather.ensures.once c.if-branch.false)))
