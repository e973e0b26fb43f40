use Rattle.std.proofs.Common.{arith, ap, ◌∙◌, ◌++◌, ◌∷◌, [], Some}
use Rattle.simplify.specs.Entries.{Clauses}
use Rattle.simplify.proofs.AddedResolvents.{lines-next, entries-next}
use Rattle.simplify.proofs.elimination.add_resolvents.Goals as goal

pub loop-place-preserved : goal.loop-place-preserved
loop-place-preserved c =
    let it = c.loop-place.invariant in
    let ls = c.args.resolvents.now in
    let i = c.loop-place.place in
    let p = c.pair-pair.result.positive in
    let n = c.pair-pair.result.negative in
    let d = c.clause-clause.result.now in
    record {
      vars = ap (λ (k : Clauses). k.vars) c.in_ok-push-2.ensures ∙ it.vars;
      entries = ap (λ (k : Clauses). k.entries) c.in_ok-push-2.ensures
          ∙ (ap (λ K. K ++ Some d ∷ []) it.entries ∙ entries-next ls i p n d (let long = c.len-place-end.ensures in let t = c.loop-place-test.true in omega arith) c.clause-clause.ensures c.pair-pair.ensures c.args.database.now.entries);
      lines = c.in_ok-push.ensures.ok
          ∙ (rw (c.from.ensures, c.from-in-loop-place.ensures) (ap (λ ks. ks ++ record { clause = d; hints = p ∷ n ∷ []; forgets = [] } ∷ []) it.lines
          ∙ lines-next ls i p n d (let long = c.len-place-end.ensures in let t = c.loop-place-test.true in omega arith) c.clause-clause.ensures c.pair-pair.ensures c.args.lines.now));
    }
