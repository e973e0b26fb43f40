use Rattle.std.proofs.Common.{◌≡◌, sym, ◌∙◌}
use Rattle.lrat.proofs.Values.{value-none, value-held, value-other}
use Rattle.theory.proofs.literals.ClauseWalks.{at-place, has-before, beq-same, beq-other}
use Rattle.theory.proofs.literals.LiteralLemmas.{not_true}
use Rattle.theory.specs.Literals.{negated}
use Rattle.tidying.proofs.TextLemmas.{not_false}
use Rattle.lrat.proofs.Assumptions.{both-signs}
use Rattle.tidying.proofs.OnceLemmas.{put, repeated, next, whole, no_signs}
use Rattle.tidying.proofs.literals.put_once.Goals.{in-None+in_ok-push-in-None+in_ok-push-in-None-2, in-Some+else-positive}
use Rattle.tidying.proofs.literals.put_once.Goals as goal

pub push-requires-clause-is_free : goal.push-requires-clause-is_free
push-requires-clause-is_free c = value-none c.loop-lit.held.literals c.lit-item.result.var (rw c.var.ensures.var at (sym c.in-None.ensures.value))

pub returns-then-positive-clause-both : goal.returns-then-positive-clause-both
returns-then-positive-clause-both c =
    let clause = c.args.clause.now in
    let i = c.loop-lit.lit-index in
    let l = c.lit-item.result in
    let P = c.loop-lit.held.literals in
    let value = rw c.var.ensures.var at (sym c.in-Some.ensures.value) in
    let other = λ (one : c.in-Some.positive ≡ l.positive). beq-other _ _ (not_true _ c.if-positive.true) (one ∙ sym c.positive.ensures) in
    let held = (value-other P l c.in-Some.positive c.value.ensures.distinct value other).0 in
    sym (both-signs clause l (at-place clause i l c.lit-item.is c.loop-lit-test.true) (has-before clause i (negated l) (c.loop-lit.invariant.once.only (negated l) held)))

pub loop-lit-preserved : goal.loop-lit-preserved
loop-lit-preserved c =
    let before = c.loop-lit.invariant in
    elim c.match-value.branch [
      | in-None+in_ok-push-in-None+in_ok-push-in-None-2 w ↦ rw (w.held-is, w.literals-is, w.in_ok-push-in-None.ensures.ok, w.in_ok-push-in-None-2.ensures.items) record {
        once = next c.args.clause.now _ _ c.loop-lit.lit-index c.lit-item.result c.loop-lit-test.true c.lit-item.is
            (put _ _ _ c.lit-item.result (value-none c.loop-lit.held.literals c.lit-item.result.var (rw c.var.ensures.var at (sym w.in-None.ensures.value))) before.once);
        vars = w.push.ensures.vars ∙ before.vars;
      }
      | in-Some+else-positive w ↦
          let value = rw c.var.ensures.var at (sym w.in-Some.ensures.value) in
          let one = beq-same _ _ (not_false _ w.if-positive.false) ∙ w.positive.ensures in
          rw (w.held-is, w.literals-is) record {
            once = next c.args.clause.now _ _ c.loop-lit.lit-index c.lit-item.result c.loop-lit-test.true c.lit-item.is
                (repeated _ _ _ c.lit-item.result (value-held c.loop-lit.held.literals c.lit-item.result w.in-Some.positive value one) before.once);
            vars = before.vars;
          }
    ]

pub returns-clause-both : goal.returns-clause-both
returns-clause-both c = sym (no_signs c.args.clause.now _ _ (whole c.args.clause.now _ _ c.loop-lit.lit-index c.loop-lit-test.false c.loop-lit.invariant.once))
