use Rattle.std.proofs.Common.{arith}
use Rattle.std.proofs.lemmas.List.Sorted.{length_permutation}
use Rattle.std.specs.List.{Contains}
use Rattle.kernel.proofs.Placed.{lined, lined-up, AreInLine-push, taken-there, rest-there}
use Rattle.kernel.proofs.propagator.Propagator.line_up.Goals as goal
use Rattle.kernel.proofs.propagator.Propagator.line_up.Goals.{In-Some}

-- the clause taken was found before
found : (c : In-Some) → Contains c.args.self.now.units c.in-Some.clause
found c = c.loop-clause.invariant.found c.in-Some.clause (taken-there _ _ c.in-Some.clause c.in-Some.ensures.taken)

pub waiting-waiting-requires-clause-within : goal.waiting-waiting-requires-clause-within
waiting-waiting-requires-clause-within c = rw c.loop-clause.invariant.clauses (c.requires.units c.in-Some.clause (found c)).0

pub waiting-waiting-requires-clause-unit : goal.waiting-waiting-requires-clause-unit
waiting-waiting-requires-clause-unit c d a = (c.requires.units c.in-Some.clause (found c)).1 d (rw c.loop-clause.invariant.clauses at a)

pub loop-clause-smaller : goal.loop-clause-smaller
loop-clause-smaller c = omega (arith, length_permutation _ _ c.in-Some.ensures.taken)

pub loop-clause-preserved : goal.loop-clause-preserved
loop-clause-preserved c =
    let i = c.loop-clause.invariant in
    let K = c.args.self.now.clauses.given in
    let n = c.in-Some.clause in
    record {
      waiting = lined _ _ _ _ _ n i.waiting c.in-Some.ensures.taken (lined-up _ _ _ n c.waiting-waiting.ensures.clause c.in_ok-push.ensures);
      placed = λ h. AreInLine-push c.args.order K c.args.trail.now.entries c.loop-clause.line c.push.new.self c.waiting-waiting.result
          (λ d a. c.waiting-waiting.ensures.waits d (rw i.clauses (rw c.waiting-waiting.ensures.clause at a))) c.in_ok-push.ensures (i.placed h);
      found = λ m h. i.found m (rest-there _ _ n m c.in-Some.ensures.taken h);
      clauses = i.clauses;
      pairs = i.pairs;
      lists = i.lists;
      conflict = i.conflict;
    }
