use Rattle.std.proofs.Common.{is_ok, rules}
use Rattle.theory.specs.Literals.{positive, negative}
use Rattle.theory.specs.Beginnings.{begun_by}
use Rattle.cubes.specs.Solved.{results_by}
use Rattle.cubes.proofs.GoingOn.{GoesOn-then}
use Rattle.cubes.proofs.HalvesParts.{no-halves, left-half}
use Rattle.cubes.proofs.RoundParts.{over-half}
use Rattle.cubes.proofs.OkLemmas.{on_ok}
use Rattle.cubes.proofs.Turns.{done-then}
use Rattle.cubes.proofs.hands.Worker.hand_on_halves.Goals as goal

pub returns-in_err-left-clause-part : goal.returns-in_err-left-clause-part
returns-in_err-left-clause-part g c = no-halves (begun_by c.args.plan.search c.args.formula.now) c.args.plan (is_ok c.from_residual.result) c.args.cube.now c.args.var c.args.self.now.hand.ledger (results_by g.L.KeepsLines.lines c.args.self.now.solved.items) (search rules)

pub hand_on-requires-clause-over : goal.hand_on-requires-clause-over
hand_on-requires-clause-over g c = over-half c.args.formula.now.vars c.args.cube.now c.in_ok-left.left (negative c.args.var) c.requires.over c.requires.variable c.in_ok-left.ensures.left

pub hand_on-requires-2-clause-over : goal.hand_on-requires-2-clause-over
hand_on-requires-2-clause-over g c = over-half c.args.formula.now.vars c.args.cube.now c.in_ok-left.right (positive c.args.var) c.requires.over c.requires.variable c.in_ok-left.ensures.right

pub returns-in_err-hand_on-clause-part : goal.returns-in_err-hand_on-clause-part
returns-in_err-hand_on-clause-part g c =
    left-half (begun_by c.args.plan.search c.args.formula.now) c.args.plan (is_ok c.hand_on.result) (is_ok c.from_residual-in_err-hand_on.result) c.args.cube.now c.in_ok-left.left c.args.var c.args.self.now.hand.ledger c.hand_on.new.self.hand.ledger
    (results_by g.L.KeepsLines.lines c.args.self.now.solved.items) (results_by g.L.KeepsLines.lines c.hand_on.new.self.solved.items) (search rules) c.in_ok-left.ensures.left c.hand_on.ensures.part

pub returns-clause-calls : goal.returns-clause-calls
returns-clause-calls g c = GoesOn-then c.args.self.now.hand.ledger c.hand_on.new.self.hand.ledger c.hand_on-2.new.self.hand.ledger c.hand_on.ensures.calls c.hand_on-2.ensures.calls

pub returns-clause-done : goal.returns-clause-done
returns-clause-done g c =
    on_ok c.hand_on-2.result _ _ (done-then (results_by g.L.KeepsLines.lines c.args.self.now.solved.items) (results_by g.L.KeepsLines.lines c.hand_on.new.self.solved.items) (results_by g.L.KeepsLines.lines c.hand_on-2.new.self.solved.items) c.in_ok-hand_on.ensures.done)
    c.hand_on-2.ensures.done
