use Rattle.join.specs.declared.proof_lines.Lines.{Lines}
use Rattle.join.proofs.PassedLemmas.{handed-over}
use Rattle.join.proofs.proof_lines.Lines.hand_over.Goals as goal

pub returns-clause-left : goal.returns-clause-left
returns-clause-left c =
    let part : Lines = record { joiner = c.swap.new.y; nodes = c.pass_nodes.new.passed; need = c.args.part.now.need } in
    let begun = c.in_ok-stand_at.ensures in
    let e = c.in_ok-pass_nodes.ensures in
    (handed-over c.args.self.now part c.pass_nodes.new.self c.stand_at.new.self c.requires.lines c.swap.ensures.y_after begun.joined begun.clauses e.passed e.joined e.clauses e.standing).left

pub returns-clause-part : goal.returns-clause-part
returns-clause-part c =
    let part : Lines = record { joiner = c.swap.new.y; nodes = c.pass_nodes.new.passed; need = c.args.part.now.need } in
    let begun = c.in_ok-stand_at.ensures in
    let e = c.in_ok-pass_nodes.ensures in
    (handed-over c.args.self.now part c.pass_nodes.new.self c.stand_at.new.self c.requires.lines c.swap.ensures.y_after begun.joined begun.clauses e.passed e.joined e.clauses e.standing).handed

pub returns-clause-lines : goal.returns-clause-lines
returns-clause-lines c =
    let part : Lines = record { joiner = c.swap.new.y; nodes = c.pass_nodes.new.passed; need = c.args.part.now.need } in
    let begun = c.in_ok-stand_at.ensures in
    let e = c.in_ok-pass_nodes.ensures in
    (handed-over c.args.self.now part c.pass_nodes.new.self c.stand_at.new.self c.requires.lines c.swap.ensures.y_after begun.joined begun.clauses e.passed e.joined e.clauses e.standing).kept
