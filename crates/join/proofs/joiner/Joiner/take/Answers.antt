use Rattle.std.proofs.Common.{◌≡◌, ap, sym, subst, ◌∙◌, length}
use Rattle.theory.specs.Trees.{refuted_leaf}
use Rattle.cubes.specs.Result.{node_of}
use Rattle.join.specs.Joining.{on_node}
use Rattle.join.specs.Numbered.{IsNode}
use Rattle.join.specs.Walking.{joined, line_of}
use Rattle.join.proofs.TakenLemmas.{taken-leaf, filled, next-none}
use Rattle.join.proofs.joiner.Joiner.take.Goals as goal

pub returns-in_ok-resize-in-Leaf-clause-joined : goal.returns-in_ok-resize-in-Leaf-clause-joined
returns-in_ok-resize-in-Leaf-clause-joined c =
    let old = c.args.self.now in
    let l = c.next_line.new.self in
    let lines = c.of.result in
    let e = next-none (joined old) (joined l) (line_of l.line) c.in_ok-_more._more c.requires.given c.in_ok-_more.ensures.next in
    let at = rw e.1 at c.in_ok-_more.ensures.between in
    let same : node_of c.args.node ≡ refuted_leaf lines = ap node_of c.in-Leaf.is ∙ ap refuted_leaf (sym c.of.ensures) in
    let node : IsNode old.clauses (refuted_leaf lines) = subst (IsNode old.clauses) same c.requires.node in
    let marks = filled c.resize.new.self.items c.clear.new.self.items c.len.result _ (length lines) c.clear.ensures.items c.in_ok-resize-in-Leaf.ensures.items c.clear.ensures.len (c.len.ensures ∙ ap length (sym c.of.ensures)) in
    taken-leaf l c.clear-in-Leaf.new.self c.resize.new.self lines at node.0 c.clear-in-Leaf.ensures.items marks
    ∙ ap (λ N. on_node N (joined l) (refuted_leaf lines)) c.in_ok-_more.ensures.clauses
    ∙ ap (λ s. on_node old.clauses s (refuted_leaf lines)) e.0
    ∙ ap (on_node old.clauses (joined old)) (sym same)
