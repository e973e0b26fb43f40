use Rattle.std.proofs.Common.{arith}
use Rattle.heuristics.proofs.RaisedScores.{IsBelowTops-leaf, IsBelowTops-next, only-top, root-top}
use Rattle.heuristics.proofs.tournament.top_of.Goals as goal

pub loop-node-init : goal.loop-node-init
loop-node-init c =
    let long = c.requires.played.field.long in
    let less = c.requires.inside.1 in
    record {
      below = IsBelowTops-leaf c.args.scores.now c.args.winners.now c.args.variable c.requires.inside.0 c.requires.played;
      inside = omega arith;
    }

pub returns-then-winners-node-clause-top : goal.returns-then-winners-node-clause-top
returns-then-winners-node-clause-top c = only-top c.args.winners.now c.args.variable c.loop-node.node c.if-winners-node.true c.loop-node.invariant.below

pub loop-node-preserved : goal.loop-node-preserved
loop-node-preserved c =
    let inside = c.loop-node.invariant.inside in
    record {
      below = IsBelowTops-next c.args.winners.now c.args.variable c.loop-node.node c.if-winners-node.false c.loop-node.invariant.below;
      inside = omega arith;
    }

pub returns-clause-top : goal.returns-clause-top
returns-clause-top c = root-top c.args.winners.now c.args.variable c.loop-node.node c.loop-node-test.false c.loop-node.invariant.below
