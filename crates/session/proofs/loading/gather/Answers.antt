use Rattle.std.proofs.Common.{◌∙◌, Bool, Option, Some, ap, subst, take, arith}
use Rattle.theory.specs.Trails.{literals, current_level}
use Rattle.theory.proofs.literals.ClauseWalks.{at-place, has-before}
use Rattle.theory.proofs.searching.OpenTrails.{current_level-cube_trail}
use Rattle.trail.specs.Tables.{IsTruth}
use Rattle.session.proofs.GatheredLemmas.{IsGathered-old, IsGathered-new, both-signs, next}
use Rattle.session.proofs.loading.gather.Goals as goal
use Rattle.session.proofs.loading.gather.Goals.{in-Some-true, in-None+in_ok-push-in-None}

pub returns-in-Some-false-clause-both : goal.returns-in-Some-false-clause-both
returns-in-Some-false-clause-both c is =
    let clause = c.args.clause.now in
    let i = c.loop-lit.lit-index in
    let l = c.lit-item.result in
    let T = c.loop-lit.held.entries in
    let there = subst (λ (o : Option Bool). IsTruth (literals T) l o) (c.in-Some-false.is ∙ ap Some c.in-Some-false.field-0-test) c.truth.ensures.truth in
    both-signs clause (take i clause) c.loop-lit.lits.items T l there (at-place clause i l c.lit-item.is c.loop-lit-test.true) (λ k a. has-before clause i k a) c.loop-lit.invariant.gathered

pub push-requires-clause-is_latest : goal.push-requires-clause-is_latest
push-requires-clause-is_latest c =
    let low = current_level-cube_trail c.loop-lit.lits.items in
    let same = ap current_level c.loop-lit.invariant.gathered.held in
    omega (arith, low, same)

pub loop-lit-preserved : goal.loop-lit-preserved
loop-lit-preserved c =
    let before = c.loop-lit.invariant in
    let clause = c.args.clause.now in
    let i = c.loop-lit.lit-index in
    let l = c.lit-item.result in
    let T = c.loop-lit.held.entries in
    let lits = c.loop-lit.lits.items in
    elim c.match-truth.branch [
      | in-Some-true w ↦
          let there = subst (λ (o : Option Bool). IsTruth (literals T) l o) (w.in-Some-true.is ∙ ap Some w.in-Some-true.field-0-test) c.truth.ensures.truth in
          rw (w.held-is, w.lits-is) record {
            gathered = next clause lits T i l c.loop-lit-test.true c.lit-item.is (IsGathered-old (take i clause) lits T l there before.gathered);
            vars = before.vars;
          }
      | in-None+in_ok-push-in-None w ↦ rw (w.held-is, w.lits-is, w.push.ensures.entries, w.in_ok-push-in-None.ensures.items) record {
        gathered = next clause _ _ i l c.loop-lit-test.true c.lit-item.is (IsGathered-new (take i clause) lits T l before.gathered);
        vars = w.push.ensures.vars ∙ before.vars;
      }
    ]
