use Rattle.std.proofs.Common.{◌∙◌, ap, sym}
use Rattle.theory.specs.Checking.{is_closed}
use Rattle.lrat.proofs.AdditionLemmas.{closed-nothing, pivot-free, negations-put, some-length}
use Rattle.theory.proofs.literals.ClauseWalks.{at-place}
use Rattle.lrat.proofs.checker.negate.Goals as goal

pub returns-then-branch-clause-both : goal.returns-then-branch-clause-both
returns-then-branch-clause-both c =
    sym c.if-branch.true ∙ (c.in_ok-assume.ensures.closed ∙ (ap (λ P. is_closed P c.index-clause-0.result c.args.clause.now) c.requires.none ∙ closed-nothing c.index-clause-0.result c.args.clause.now))

pub push-requires-clause-is_free : goal.push-requires-clause-is_free
push-requires-clause-is_free c = rw c.negated.ensures (pivot-free c.index-clause-0.result c.args.clause.now c.assume.new.held.literals (rw c.requires.none at (c.in_ok-assume.ensures.assumed c.if-branch.false)))

pub returns-clause-negated : goal.returns-clause-negated
returns-clause-negated c = λ _.
    let there = at-place c.args.clause.now 0 c.index-clause-0.result c.index-clause-0.is (some-length c.args.clause.now (sym c.is_empty.ensures ∙ c.if-is_empty.false)) in
    rw (c.in_ok-push.ensures.ok, c.negated.ensures) (negations-put c.index-clause-0.result c.args.clause.now c.assume.new.held.literals there (rw c.requires.none at (c.in_ok-assume.ensures.assumed c.if-branch.false)))
