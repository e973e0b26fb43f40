use Rattle.std.proofs.Common.{◌≡◌, ◌∙◌, ◌+◌, ◌≤◌, ◌++◌, ◌∷◌, [], length, ap, sym, subst, arith}
use Rattle.theory.specs.Truth.{Formula}
use Rattle.session.specs.Loading.{IsPutBehind}
use Rattle.session.proofs.TrailTruths.{IsOver-more}
use Rattle.session.proofs.NeededLemmas.{within-arranged}
use Rattle.session.proofs.LoadedLemmas.{IsPutBehind-push}
use Rattle.session.proofs.renewing.put_learnt.Goals as goal
use Rattle.session.proofs.renewing.put_learnt.Goals.{then-glue-gt0+then-glue-most+then-not-is_satisfied+in_ok-push+in_ok-push-2, then-glue-gt0+then-glue-most+else-not-is_satisfied, else-glue-gt0}

pub push-requires : goal.push-requires
push-requires c =
    let k = c.args.kernel.now in
    let end : c.loop-index.index + 1 ≤ length k.clauses = let less = c.loop-index-test.true in let many = c.count-index-end.ensures in omega (arith, less, many) in
    let more : k.vars ≤ c.loop-index.clauses.vars = let room = c.requires.room in let same = c.loop-index.invariant.vars in omega (arith, room, same) in
    IsOver-more k.vars c.loop-index.clauses.vars c.arranged-clause.result.now more
    (within-arranged k.vars k.clauses (c.loop-index.index + 1) c.arranged-clause.result.now c.trail-trail.ensures.clauses_over (omega arith) end c.arranged-clause.ensures)

pub loop-index-preserved : goal.loop-index-preserved
loop-index-preserved c =
    let K = c.args.kernel.now.clauses in
    let first = c.args.clauses.now.clauses in
    let D = c.loop-index.clauses in
    let end : c.loop-index.index + 1 ≤ length K = let less = c.loop-index-test.true in let many = c.count-index-end.ensures in omega (arith, less, many) in
    elim c.if-glue-gt0.branch [
      | then-glue-gt0+then-glue-most+then-not-is_satisfied+in_ok-push+in_ok-push-2 w ↦
          let clause = w.arranged-clause.result.now in
          let e : c.if-glue-gt0.clauses ≡ record D { clauses = D.clauses ++ clause ∷ [] } = w.clauses-is ∙ w.in_ok-push.ensures.pushed in
          record {
            put = subst (λ (f : Formula). IsPutBehind K first f.clauses) (sym e) (IsPutBehind-push K first D.clauses (c.loop-index.index + 1) clause (omega arith) end w.arranged-clause.ensures c.loop-index.invariant.put);
            vars = ap (λ (f : Formula). f.vars) e ∙ c.loop-index.invariant.vars;
          }
      | then-glue-gt0+then-glue-most+else-not-is_satisfied w ↦ record {
        put = subst (λ (f : Formula). IsPutBehind K first f.clauses) (sym w.clauses-is) c.loop-index.invariant.put;
        vars = ap (λ (f : Formula). f.vars) w.clauses-is ∙ c.loop-index.invariant.vars;
      }
      | else-glue-gt0 w ↦ record {
        put = subst (λ (f : Formula). IsPutBehind K first f.clauses) (sym w.clauses-is) c.loop-index.invariant.put;
        vars = ap (λ (f : Formula). f.vars) w.clauses-is ∙ c.loop-index.invariant.vars;
      }
    ]
