use Rattle.std.proofs.Common.{map, sym, ◌∙◌}
use Rattle.cubes.specs.Result.{node_of}
use Rattle.join.specs.Walking.{joined, line_of}
use Rattle.join.proofs.WalkLemmas.{left-more}
use Rattle.join.proofs.proof_lines.Lines.next_line.Goals as goal

pub returns-then-branch-clause-rest : goal.returns-then-branch-clause-rest
returns-then-branch-clause-rest c =
    let old = c.nodes.self.joiner in
    let new = c.next_line.new.self in
    let e = c.in_ok-next_line.ensures in
    sym c.nodes.invariant.rest
    ∙ left-more old.clauses new.clauses (joined old) (joined new) (line_of new.line) (map node_of c.nodes.self.nodes.items) e.clauses (rw c.if-branch.true at e.next)
