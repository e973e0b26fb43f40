use Rattle.std.proofs.Common.{◌++◌, length, refl, subst, sym}
use Rattle.std.specs.Io.KnownBytes.{Appends}
use Rattle.std.proofs.Math.Seq.{take-length}
use Rattle.theory.specs.Texts.{proof_text}
use Rattle.join.specs.Walking.{lines_left}
use Rattle.runs.proofs.WrittenLemmas.{Appends-kept}
use Rattle.runs.proofs.proof_output.write_proof.Goals as goal

pub returns-in-Err : goal.returns-in-Err
returns-in-Err g c =
    let text = proof_text (lines_left c.args.lines.now) in
    let a = g.W.Write.contents c.args.writer.now in
    let b = g.W.Write.contents c.write_lines.new.writer in
    let d = g.W.Write.contents c.flush.new.self in
    let written = subst (λ t. Appends a b (t ++ text)) c.requires.buffer c.in_ok-write_lines.ensures.written in
    (refl, length text, subst (Appends a d) (sym (take-length text)) (Appends-kept a b d text written c.flush.ensures.bytes))
