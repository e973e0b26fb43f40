use Rattle.std.proofs.Common.{refl, length, subst, sym}
use Rattle.std.specs.Io.KnownBytes.{Appends}
use Rattle.std.proofs.Math.Seq.{take-length}
use Rattle.runs.proofs.WrittenLemmas.{Appends-kept}
use Rattle.runs.proofs.output.write_text.Goals as goal

pub returns-in-Err : goal.returns-in-Err
returns-in-Err g c =
    let text = c.args.text.now in
    let a = g.W.Write.contents c.args.writer.now in
    let d = g.W.Write.contents c.flush.new.self in (
      refl,
      length text,
      subst (Appends a d) (sym (take-length text)) (Appends-kept a (g.W.Write.contents c.write_bytes.new.writer) d text c.in_ok-write_bytes.ensures c.flush.ensures.bytes),
    )
