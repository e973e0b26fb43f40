use Rattle.std.proofs.Common.{◌∙◌, ap, length, arith}
use Rattle.theory.specs.Trails.{decide, literals}
use Rattle.theory.specs.Propagation.{Propagates, by_place}
use Rattle.kernel.specs.State.{State}
use Rattle.kernel.specs.Answer.{closed_of}
use Rattle.lookahead.proofs.LookLemmas.{decided, looked-at, level-1, longer, restored}
use Rattle.lookahead.proofs.TrailLengths.{length-lawful}
use Rattle.theory.proofs.literals.OverVariables.{AreOver-from_IsOver}
use Rattle.lookahead.proofs.choosing.brings.Goals as goal
use Rattle.lookahead.proofs.choosing.brings.Goals.{After-trail}

-- what propagation did behind the decision
closes : (c : After-trail) → Propagates by_place c.args.kernel.now.clauses (decide c.args.kernel.now.trail c.args.lit) (closed_of c.in_ok-closed.closed) c.close.new.self.trail
closes c = looked-at c.args.kernel.now c.decide.new.self c.args.lit (closed_of c.in_ok-closed.closed) c.close.new.self.trail c.requires.rest.has_memory c.requires.rest.in_order c.decide.ensures c.in_ok-closed.ensures.ok

pub overflow_sub-count : goal.overflow_sub-count
overflow_sub-count c =
    let k = c.args.kernel.now in
    let more = longer k.clauses k.trail c.close.new.self.trail c.args.lit (closed_of c.in_ok-closed.closed) (closes c) in
    let old = ap length c.trail-before.ensures.trail in
    let new = ap length c.trail.ensures.trail in
    omega (arith, more, old, new)

pub back_to-requires : goal.back_to-requires
back_to-requires c memory = level-1 c.args.kernel.now c.decide.new.self c.args.lit (closed_of c.in_ok-closed.closed) c.close.new.self.trail c.requires.rest c.decide.ensures c.in_ok-closed.ensures.ok

pub returns-in-Quiet-clause-few : goal.returns-in-Quiet-clause-few
returns-in-Quiet-clause-few c =
    let n = c.close.new.self in
    let k = c.args.kernel.now in
    let most = length-lawful n.vars n.clauses n.trail c.trail.ensures.lawful (AreOver-from_IsOver n.vars (literals n.trail) c.trail.ensures.over) in
    let new = ap length c.trail.ensures.trail in
    let vars = c.in_ok-closed.ensures.kept.0 ∙ ap (λ (s : State). s.vars) (decided k c.decide.new.self c.args.lit c.requires.rest.has_memory c.decide.ensures) in
    omega (arith, most, new, vars)

pub returns-in-Quiet-clause-kept : goal.returns-in-Quiet-clause-kept
returns-in-Quiet-clause-kept c =
    restored c.args.kernel.now c.decide.new.self c.close.new.self c.back_to.new.self c.args.lit (closed_of c.in_ok-closed.closed) c.requires.rest c.trail-before.ensures.lawful c.decide.ensures c.in_ok-closed.ensures.kept c.in_ok-closed.ensures.has_memory
    c.in_ok-closed.ensures.ok c.back_to.ensures

pub returns-in-Conflict-clause-kept : goal.returns-in-Conflict-clause-kept
returns-in-Conflict-clause-kept c =
    restored c.args.kernel.now c.decide.new.self c.close.new.self c.back_to.new.self c.args.lit (closed_of c.in_ok-closed.closed) c.requires.rest c.trail-before.ensures.lawful c.decide.ensures c.in_ok-closed.ensures.kept c.in_ok-closed.ensures.has_memory
    c.in_ok-closed.ensures.ok c.back_to.ensures
