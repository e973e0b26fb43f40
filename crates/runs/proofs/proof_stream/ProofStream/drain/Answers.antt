use Rattle.std.proofs.Common.{refl, ◌∙◌, subst}
use Rattle.std.specs.Io.KnownBytes.{Appends}
use Rattle.join.specs.Walking.{joined}
use Rattle.runs.specs.Stored.{IsMaking}
use Rattle.runs.specs.declared.proof_stream.ProofStream.{ProofStream}
use Rattle.runs.proofs.StoredLemmas.{put-first, making-line, making-written}
use Rattle.runs.proofs.proof_stream.ProofStream.drain.Goals as goal

pub lines-preserved : goal.lines-preserved
lines-preserved g c =
    let t : ProofStream = record { joiner = c.put_next.new.joiner; buffer = c.put_next.new.buffer; write_failed = c.lines.self.write_failed } in
    let first = put-first (joined c.lines.self.joiner) (joined c.put_next.new.joiner) c.lines.self.buffer.items c.put_next.new.buffer.items c.in_ok-put_next.field-0 c.if-branch.true c.in_ok-put_next.ensures.puts in
    record {
      making = making-line (g.W.Write.contents c.args.writer.now) (g.W.Write.contents c.lines.writer) (joined c.args.self.now.joiner) c.args.self.now.buffer.items c.lines.self t c.lines.invariant.making first;
      clauses = c.in_ok-put_next.ensures.clauses ∙ c.lines.invariant.clauses;
      lawful = c.in_ok-put_next.ensures.lawful;
    }

pub lines-preserved-then-len-ge-ENOUGH : goal.lines-preserved-then-len-ge-ENOUGH
lines-preserved-then-len-ge-ENOUGH g c =
    let a = g.W.Write.contents c.args.writer.now in
    let b = g.W.Write.contents c.lines.writer in
    let d = g.W.Write.contents c.write_bytes.new.writer in
    let whole = joined c.args.self.now.joiner in
    let before = c.args.self.now.buffer.items in
    let t : ProofStream = record { joiner = c.put_next.new.joiner; buffer = c.put_next.new.buffer; write_failed = c.lines.self.write_failed } in
    let u : ProofStream = record { joiner = c.put_next.new.joiner; buffer = c.clear.new.self; write_failed = c.lines.self.write_failed } in
    let first = put-first (joined c.lines.self.joiner) (joined c.put_next.new.joiner) c.lines.self.buffer.items c.put_next.new.buffer.items c.in_ok-put_next.field-0 c.if-branch.true c.in_ok-put_next.ensures.puts in
    let line : IsMaking a b whole before t = making-line a b whole before c.lines.self t c.lines.invariant.making first in
    record {
      making = making-written a b d whole before t u line refl (subst (Appends b d) c.deref.ensures.value c.in-Ok.ensures) c.clear.ensures.items;
      clauses = c.in_ok-put_next.ensures.clauses ∙ c.lines.invariant.clauses;
      lawful = c.in_ok-put_next.ensures.lawful;
    }
