use Rattle.std.proofs.Common.{take}
use Rattle.cubes.specs.Sizes.{IsSizeOf}
use Rattle.cubes.proofs.size.TreeSize.of_nodes.Given as goal

-- the size is that of the nodes so far
abbrev pub invariant-loop-node : goal.invariant-loop-node
invariant-loop-node l = IsSizeOf (take l.node-index l.nodes) l.size
