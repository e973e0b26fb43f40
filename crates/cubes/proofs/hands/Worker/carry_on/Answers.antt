use Rattle.std.proofs.Common.{◌+◌, ◌∙◌, ap, is_ok, rules}
use Rattle.theory.specs.Search.{refuted, exhausted}
use Rattle.theory.specs.Ledger.{joined, calling, offer}
use Rattle.theory.specs.Beginnings.{begun_by}
use Rattle.pool.specs.Hands.{HandView}
use Rattle.cubes.specs.declared.hands.Ending.TheVariants as ending
use Rattle.cubes.specs.Solved.{results_by}
use Rattle.cubes.proofs.CarryingSteps.{carrying-first, carrying-over, carrying-short, short-here, short-behind, at-model, carrying-enter, enter-less, carrying-on, carrying-ends, next-less}
use Rattle.cubes.proofs.Turns.{done-nothing, done-settled}
use Rattle.cubes.proofs.hands.Worker.carry_on.Goals as goal

pub cubes-init : goal.cubes-init
cubes-init g c = record {
  hand = search rules;
  worker = c.requires.worker;
  carrying = carrying-first (begun_by c.args.plan.search c.args.formula.now) c.args.plan c.args.half c.from-at.result (results_by g.L.KeepsLines.lines c.args.self.now.solved.items) c.from-at.ensures.cube c.from-at.ensures.walk;
  done = done-nothing (results_by g.L.KeepsLines.lines c.args.self.now.solved.items);
}

pub settle-requires-clause-over : goal.settle-requires-clause-over
settle-requires-clause-over g c =
    carrying-over (begun_by c.args.plan.search c.args.formula.now) c.args.plan c.args.half c.cubes.at (results_by g.L.KeepsLines.lines c.args.self.now.solved.items) (results_by g.L.KeepsLines.lines c.cubes.self.solved.items) c.cubes.invariant.carrying c.lits-lits.ensures.cube c.requires.over

pub returns-in_err-settle-clause-part : goal.returns-in_err-settle-clause-part
returns-in_err-settle-clause-part g c =
    rw (c.settle.ensures.hand ∙ c.cubes.invariant.hand)
    (short-here (begun_by c.args.plan.search c.args.formula.now) c.args.plan c.args.half c.cubes.at (results_by g.L.KeepsLines.lines c.args.self.now.solved.items) (results_by g.L.KeepsLines.lines c.cubes.self.solved.items) c.cubes.invariant.carrying (is_ok c.from_residual.result) c.args.self.now.hand.ledger (results_by g.L.KeepsLines.lines c.settle.new.self.solved.items) (search rules) (ap (results_by g.L.KeepsLines.lines) c.in_err-settle.ensures.none))

pub returns-in-Model-clause-part : goal.returns-in-Model-clause-part
returns-in-Model-clause-part g c =
    at-model (begun_by c.args.plan.search c.args.formula.now) c.args.plan c.args.half c.cubes.at (results_by g.L.KeepsLines.lines c.args.self.now.solved.items) (results_by g.L.KeepsLines.lines c.cubes.self.solved.items) c.cubes.invariant.carrying c.args.self.now.hand.ledger c.offer.new.self.ledger c.place_of.result (results_by g.L.KeepsLines.lines c.settle.new.self.solved.items) (rw c.in-Model.is at c.in_ok-settle.ensures.settles) c.place_of.ensures.place
    (ap (λ (h : HandView). h.ledger) c.offer.ensures.noted ∙ ap (λ (h : HandView). joined h.ledger (calling (offer c.place_of.result))) (c.settle.ensures.hand ∙ c.cubes.invariant.hand))

pub cubes-smaller-in_ok-enter-in-Exhausted : goal.cubes-smaller-in_ok-enter-in-Exhausted
cubes-smaller-in_ok-enter-in-Exhausted g c =
    enter-less (begun_by c.args.plan.search c.args.formula.now) c.args.plan c.args.half c.cubes.at (results_by g.L.KeepsLines.lines c.args.self.now.solved.items) (results_by g.L.KeepsLines.lines c.cubes.self.solved.items) c.cubes.invariant.carrying (c.args.formula.now.vars + 1) c.in-Exhausted.var c.enter.new.self (carrying-short (begun_by c.args.plan.search c.args.formula.now) c.args.plan c.args.half c.cubes.at (results_by g.L.KeepsLines.lines c.args.self.now.solved.items) (results_by g.L.KeepsLines.lines c.cubes.self.solved.items) c.cubes.invariant.carrying c.lits-lits.ensures.cube c.requires.over) c.in_ok-enter-in-Exhausted.ensures

pub cubes-preserved-in_ok-enter-in-Exhausted : goal.cubes-preserved-in_ok-enter-in-Exhausted
cubes-preserved-in_ok-enter-in-Exhausted g c = record {
  hand = c.settle.ensures.hand ∙ c.cubes.invariant.hand;
  worker = c.in_ok-settle.ensures.worker;
  carrying = carrying-enter (begun_by c.args.plan.search c.args.formula.now) c.args.plan c.args.half c.cubes.at (results_by g.L.KeepsLines.lines c.args.self.now.solved.items) (results_by g.L.KeepsLines.lines c.cubes.self.solved.items) c.cubes.invariant.carrying c.in-Exhausted.var c.enter.new.self (results_by g.L.KeepsLines.lines c.settle.new.self.solved.items) (rw c.in-Exhausted.is at c.in_ok-settle.ensures.settles) c.in_ok-enter-in-Exhausted.ensures;
  done = done-settled (begun_by c.args.plan.search c.args.formula.now) c.args.plan c.cubes.at.cube _ (results_by g.L.KeepsLines.lines c.args.self.now.solved.items) (results_by g.L.KeepsLines.lines c.cubes.self.solved.items) (results_by g.L.KeepsLines.lines c.settle.new.self.solved.items) c.cubes.invariant.done c.in_ok-settle.ensures.settles;
}

pub returns-in_err-enter-in-Exhausted-clause-part : goal.returns-in_err-enter-in-Exhausted-clause-part
returns-in_err-enter-in-Exhausted-clause-part g c =
    let settles = rw c.in-Exhausted.is at c.in_ok-settle.ensures.settles in
    rw (c.settle.ensures.hand ∙ c.cubes.invariant.hand)
    (short-behind (begun_by c.args.plan.search c.args.formula.now) c.args.plan c.args.half c.cubes.at (results_by g.L.KeepsLines.lines c.args.self.now.solved.items) (results_by g.L.KeepsLines.lines c.cubes.self.solved.items) c.cubes.invariant.carrying (ending.Exhausted c.in-Exhausted.var) (results_by g.L.KeepsLines.lines c.settle.new.self.solved.items) (exhausted c.in-Exhausted.var) settles settles.ends.0 (is_ok c.from_residual-in_err-enter-in-Exhausted.result) c.args.self.now.hand.ledger (search rules) (λ m. m))

pub returns-in_err-go_on-in-Refuted-clause-part : goal.returns-in_err-go_on-in-Refuted-clause-part
returns-in_err-go_on-in-Refuted-clause-part g c =
    let settles = rw c.in-Refuted.is at c.in_ok-settle.ensures.settles in
    rw (c.settle.ensures.hand ∙ c.cubes.invariant.hand)
    (short-behind (begun_by c.args.plan.search c.args.formula.now) c.args.plan c.args.half c.cubes.at (results_by g.L.KeepsLines.lines c.args.self.now.solved.items) (results_by g.L.KeepsLines.lines c.cubes.self.solved.items) c.cubes.invariant.carrying ending.Refuted (results_by g.L.KeepsLines.lines c.settle.new.self.solved.items) (refuted settles.ends.0) settles settles.ends.1 (is_ok c.from_residual-in_err-go_on-in-Refuted.result) c.args.self.now.hand.ledger (search rules) (λ m. m))

pub returns-then-not-branch-clause-part : goal.returns-then-not-branch-clause-part
returns-then-not-branch-clause-part g c =
    rw (c.settle.ensures.hand ∙ c.cubes.invariant.hand)
    (carrying-ends (begun_by c.args.plan.search c.args.formula.now) c.args.plan c.args.half c.cubes.at (results_by g.L.KeepsLines.lines c.args.self.now.solved.items) (results_by g.L.KeepsLines.lines c.cubes.self.solved.items) c.cubes.invariant.carrying c.go_on.new.self (results_by g.L.KeepsLines.lines c.settle.new.self.solved.items) (rw c.in-Refuted.is at c.in_ok-settle.ensures.settles) c.args.self.now.hand.ledger (rw c.if-not-branch.true at c.in_ok-go_on-in-Refuted.ensures))

pub cubes-smaller : goal.cubes-smaller
cubes-smaller g c =
    next-less (begun_by c.args.plan.search c.args.formula.now) c.args.plan c.args.half c.cubes.at (results_by g.L.KeepsLines.lines c.args.self.now.solved.items) (results_by g.L.KeepsLines.lines c.cubes.self.solved.items) c.cubes.invariant.carrying (c.args.formula.now.vars + 1) c.go_on.new.self (carrying-short (begun_by c.args.plan.search c.args.formula.now) c.args.plan c.args.half c.cubes.at (results_by g.L.KeepsLines.lines c.args.self.now.solved.items) (results_by g.L.KeepsLines.lines c.cubes.self.solved.items) c.cubes.invariant.carrying c.lits-lits.ensures.cube c.requires.over) (rw c.if-not-branch.false at c.in_ok-go_on-in-Refuted.ensures)

pub cubes-preserved : goal.cubes-preserved
cubes-preserved g c = record {
  hand = c.settle.ensures.hand ∙ c.cubes.invariant.hand;
  worker = c.in_ok-settle.ensures.worker;
  carrying = carrying-on (begun_by c.args.plan.search c.args.formula.now) c.args.plan c.args.half c.cubes.at (results_by g.L.KeepsLines.lines c.args.self.now.solved.items) (results_by g.L.KeepsLines.lines c.cubes.self.solved.items) c.cubes.invariant.carrying c.go_on.new.self (results_by g.L.KeepsLines.lines c.settle.new.self.solved.items) (rw c.in-Refuted.is at c.in_ok-settle.ensures.settles) (rw c.if-not-branch.false at c.in_ok-go_on-in-Refuted.ensures);
  done = done-settled (begun_by c.args.plan.search c.args.formula.now) c.args.plan c.cubes.at.cube _ (results_by g.L.KeepsLines.lines c.args.self.now.solved.items) (results_by g.L.KeepsLines.lines c.cubes.self.solved.items) (results_by g.L.KeepsLines.lines c.settle.new.self.solved.items) c.cubes.invariant.done c.in_ok-settle.ensures.settles;
}

pub returns-in-Model-clause-done : goal.returns-in-Model-clause-done
returns-in-Model-clause-done g c =
    done-settled (begun_by c.args.plan.search c.args.formula.now) c.args.plan c.cubes.at.cube _ (results_by g.L.KeepsLines.lines c.args.self.now.solved.items) (results_by g.L.KeepsLines.lines c.cubes.self.solved.items) (results_by g.L.KeepsLines.lines c.settle.new.self.solved.items) c.cubes.invariant.done c.in_ok-settle.ensures.settles

pub returns-then-not-branch-clause-done : goal.returns-then-not-branch-clause-done
returns-then-not-branch-clause-done g c =
    done-settled (begun_by c.args.plan.search c.args.formula.now) c.args.plan c.cubes.at.cube _ (results_by g.L.KeepsLines.lines c.args.self.now.solved.items) (results_by g.L.KeepsLines.lines c.cubes.self.solved.items) (results_by g.L.KeepsLines.lines c.settle.new.self.solved.items) c.cubes.invariant.done c.in_ok-settle.ensures.settles
