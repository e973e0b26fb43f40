use Rattle.std.proofs.Common.{ℕ, get_or}
use Rattle.std.proofs.lemmas.List.{get_or_default}
use Rattle.kernel.proofs.Cutting.{waits-more}
use Rattle.kernel.proofs.propagator.Propagator.wait.Goals as goal

pub loop-clause-preserved : goal.loop-clause-preserved
loop-clause-preserved c =
    let xs = c.args.clauses.now in
    let at = c.loop-clause.clause-index in
    let x : ℕ = get_or xs at 0 in
    record {
      units = waits-more xs c.loop-clause.self.units c.push.new.self at x (get_or_default xs at 0 x c.loop-clause-test.true) c.loop-clause-test.true c.loop-clause.invariant.units c.in_ok-push.ensures;
      clauses = c.loop-clause.invariant.clauses;
      pairs = c.loop-clause.invariant.pairs;
      lists = c.loop-clause.invariant.lists;
      conflict = c.loop-clause.invariant.conflict;
    }
