use Rattle.std.proofs.Common.{rules}
use Rattle.join.specs.Before.{before_left}
use Rattle.join.specs.Walking.{lines_left}
use Rattle.runs.proofs.OutputLemmas.{both-written, first-stopped, second-stopped}
use Rattle.runs.proofs.alone.write_output.Goals as goal

pub returns-in_err-write_lines-clause-written : goal.returns-in_err-write_lines-clause-written
returns-in_err-write_lines-clause-written g c =
    let o = c.args.output.now in
    first-stopped (g.W.Write.contents c.args.writer.now) (g.W.Write.contents c.write_lines.new.writer) o.buffer.items (before_left o.before) (lines_left o.lines) c.from_residual.result c.in_err-write_lines.field-0.0 (search rules) c.requires.buffer c.in_err-write_lines.ensures.written

pub returns-in_err-write_proof-clause-written : goal.returns-in_err-write_proof-clause-written
returns-in_err-write_proof-clause-written g c =
    let o = c.args.output.now in
    second-stopped (g.W.Write.contents c.args.writer.now) (g.W.Write.contents c.write_lines.new.writer) (g.W.Write.contents c.write_proof.new.writer) o.buffer.items (before_left o.before) (lines_left o.lines) c.from_residual-in_err-write_proof.result c.in_err-write_proof.field-0.0 (search rules)
    c.requires.buffer c.in_ok-write_lines.ensures.written c.in_err-write_proof.ensures

pub returns-clause-written : goal.returns-clause-written
returns-clause-written g c =
    let o = c.args.output.now in
    both-written (g.W.Write.contents c.args.writer.now) (g.W.Write.contents c.write_lines.new.writer) (g.W.Write.contents c.write_proof.new.writer) o.buffer.items (before_left o.before) (lines_left o.lines) c.requires.buffer c.in_ok-write_lines.ensures.written c.in_ok-write_proof.ensures
