use Rattle.std.proofs.Common.{◌∙◌, sym, ◌<◌, ◌^◌, length}
use Rattle.cubes.proofs.SizeLemmas.{splits-short, size-split, size-leaf}
use Rattle.cubes.proofs.size.TreeSize.of_nodes.Goals as goal
use Rattle.cubes.proofs.size.TreeSize.of_nodes.Goals.{in-Split, in-Leaf}

pub loop-node-preserved : goal.loop-node-preserved
loop-node-preserved c = elim c.match-node.branch [
  | in-Split w ↦
      (let few : length c.args.nodes.now < 2 ^ 64 = search in
      size-split c.args.nodes.now c.loop-node.node-index w.in-Split.field-0 c.loop-node.size c.match-node.size c.loop-node-test.true (rw w.in-Split.is at (sym c.node-item.is)) c.loop-node.invariant
      (rw (w.saturating_add.ensures ∙ splits-short c.args.nodes.now c.loop-node.node-index c.loop-node.size c.loop-node-test.true few c.loop-node.invariant) at w.size-is))
  | in-Leaf w ↦ rw w.size-is
      (size-leaf c.args.nodes.now c.loop-node.node-index w.in-Leaf.row c.loop-node.size w.add_leaf.new.self c.loop-node-test.true (rw w.in-Leaf.is at (sym c.node-item.is)) c.loop-node.invariant
      w.add_leaf.ensures.leaves w.add_leaf.ensures.splits w.add_leaf.ensures.fits w.add_leaf.ensures.kept)
]
