use Rattle.std.proofs.Common.{◌∙◌}
use Rattle.join.specs.Walking.{joined}
use Rattle.join.proofs.PassedLemmas.{AreNodes-rest, one-passed, passed-on}
use Rattle.join.proofs.proof_lines.Lines.pass_nodes.Goals as goal

pub returns-then-bytes-enough-clause-joined : goal.returns-then-bytes-enough-clause-joined
returns-then-bytes-enough-clause-joined c =
    let first = c.args.self.now.joiner in
    let old = c.nodes.self.joiner in
    one-passed first.clauses old.clauses (joined first) (joined old) (joined c.pass.new.self) c.nodes.passed.items c.push_back.new.self.items c.in-Some.node c.nodes.invariant.clauses c.nodes.invariant.joined c.in_ok-pass.ensures.joined
    c.in_ok-push_back.ensures.items

pub nodes-preserved : goal.nodes-preserved
nodes-preserved c =
    let first = c.args.self.now.joiner in
    let old = c.nodes.self.joiner in
    let before = c.nodes.passed.items in
    let after = c.push_back.new.self.items in
    let rest = c.pop_front.new.self.items in
    record {
      standing = c.in_ok-pass.ensures.standing;
      clauses = c.in_ok-pass.ensures.clauses ∙ c.nodes.invariant.clauses;
      nodes = AreNodes-rest old.clauses c.pass.new.self.clauses c.nodes.self.nodes.items rest c.in-Some.node c.in_ok-pass.ensures.clauses c.in-Some.ensures.items c.nodes.invariant.nodes;
      passed = passed-on c.args.self.now.nodes.items before c.nodes.self.nodes.items after rest c.in-Some.node c.nodes.invariant.passed c.in-Some.ensures.items c.in_ok-push_back.ensures.items;
      joined = one-passed first.clauses old.clauses (joined first) (joined old) (joined c.pass.new.self) before after c.in-Some.node c.nodes.invariant.clauses c.nodes.invariant.joined c.in_ok-pass.ensures.joined c.in_ok-push_back.ensures.items;
    }
