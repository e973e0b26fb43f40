use Rattle.std.proofs.Common.{rules}
use Rattle.join.specs.Before.{before_left}
use Rattle.join.specs.Walking.{lines_left}
use Rattle.runs.proofs.OutputLemmas.{both-written, first-stopped, second-stopped}
use Rattle.runs.proofs.by_hands.write_output_by_hands.Goals as goal

pub returns-in_err-write_lines-clause-written : goal.returns-in_err-write_lines-clause-written
returns-in_err-write_lines-clause-written g c =
    let o = c.args.output.now in
    first-stopped (g.W.Write.contents c.args.writer.now) (g.W.Write.contents c.write_lines.new.writer) o.buffer.items (before_left o.before) (lines_left o.lines) c.from_residual.result c.in_err-write_lines.field-0.0 (search rules) c.requires.buffer c.in_err-write_lines.ensures.written

pub returns-in_err-write_by_hands-clause-written : goal.returns-in_err-write_by_hands-clause-written
returns-in_err-write_by_hands-clause-written g c =
    let o = c.args.output.now in
    second-stopped (g.W.Write.contents c.args.writer.now) (g.W.Write.contents c.write_lines.new.writer) (g.W.Write.contents c.write_by_hands.new.writer) o.buffer.items (before_left o.before) (lines_left o.lines) c.from_residual-in_err-write_by_hands.result c.in_err-write_by_hands.field-0.0 (search rules)
    c.requires.buffer c.in_ok-write_lines.ensures.written c.in_err-write_by_hands.ensures

pub returns-clause-written : goal.returns-clause-written
returns-clause-written g c =
    let o = c.args.output.now in
    both-written (g.W.Write.contents c.args.writer.now) (g.W.Write.contents c.write_lines.new.writer) (g.W.Write.contents c.write_by_hands.new.writer) o.buffer.items (before_left o.before) (lines_left o.lines) c.requires.buffer c.in_ok-write_lines.ensures.written c.in_ok-write_by_hands.ensures
