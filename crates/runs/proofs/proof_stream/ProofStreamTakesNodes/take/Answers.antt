use Rattle.std.proofs.Common.{refl, ◌∙◌, [], ◌∷◌, ◌++◌}
use Rattle.cubes.specs.Result.{node_of}
use Rattle.runs.specs.declared.proof_stream.ProofStream.{ProofStream}
use Rattle.runs.proofs.StoredLemmas.{checked-node, streamed-node, streamed-drained}
use Rattle.runs.proofs.proof_stream.ProofStreamTakesNodes.take.Goals as goal

pub take-requires-clause-node : goal.take-requires-clause-node
take-requires-clause-node g c =
    checked-node c.args._formula.now c.requires.node.0 c.requires.node.1 c.drain.new.self.joiner.clauses (node_of c.args.node) c.requires.node.2.within (c.in_ok-drain.ensures.drained.clauses ∙ c.requires.node.2.clauses) c.requires.node.3

pub returns-clause-takes : goal.returns-clause-takes
returns-clause-takes g c = λ first begun nodes streamed.
    let new : ProofStream = record { joiner = c.take.new.self; buffer = c.drain.new.self.buffer; write_failed = c.drain.new.self.write_failed } in
    let a = g.W.Write.contents begun in
    let b = g.W.Write.contents c.drain.new.writer in
    let taken = streamed-node a (g.W.Write.contents c.args.out.now) b first c.args.self.now c.drain.new.self new nodes (node_of c.args.node) streamed c.in_ok-drain.ensures.drained
    c.in_ok-take.ensures.joined c.in_ok-take.ensures.clauses refl in
    streamed-drained a b (g.W.Write.contents c.drain-2.new.writer) first new c.drain-2.new.self (nodes ++ node_of c.args.node ∷ []) taken c.in_ok-drain-2.ensures.drained
