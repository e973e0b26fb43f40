use Rattle.std.proofs.Common.{ℕ, List, ◌++◌, refl, subst, sym, take}
use Rattle.std.specs.Io.KnownBytes.{Appends}
use Rattle.theory.specs.Texts.{proof_text}
use Rattle.runs.specs.Written.{IsOnItsWay}
use Rattle.runs.proofs.ProofLemmas.{stopped, stopped-here, written-on}
use Rattle.runs.proofs.proof_output.write_lines.Goals as goal

pub returns-in_default-clause-written : goal.returns-in_default-clause-written
returns-in_default-clause-written g c =
    let s = stopped-here (g.W.Write.contents c.args.writer.now) (g.W.Write.contents c.lines.writer) (c.lines.buffer.items ++ proof_text (g.L.PutsLines.left c.lines.lines)) (c.args.buffer.now.items ++ proof_text (g.L.PutsLines.left c.args.lines.now)) c.lines.invariant.way in
    (refl, s.0, s.1)

pub returns-in_default-write_bytes-clause-written : goal.returns-in_default-write_bytes-clause-written
returns-in_default-write_bytes-clause-written g c =
    let a = g.W.Write.contents c.args.writer.now in
    let b = g.W.Write.contents c.lines.writer in
    let d = g.W.Write.contents c.write_bytes.new.writer in
    let here = c.fill.new.buffer.items in
    let w = c.in_default-write_bytes.ensures in
    let s = stopped a b d here (proof_text (g.L.PutsLines.left c.fill.new.lines)) (c.lines.buffer.items ++ proof_text (g.L.PutsLines.left c.lines.lines)) (c.args.buffer.now.items ++ proof_text (g.L.PutsLines.left c.args.lines.now)) w.1 c.lines.invariant.way (sym c.in-Ok.ensures.text)
    (subst (λ t. Appends b d (take w.1 t)) c.deref.ensures.value w.2) in
    (refl, s.0, s.1)

pub lines-preserved : goal.lines-preserved
lines-preserved g c =
    let a = g.W.Write.contents c.args.writer.now in
    let b = g.W.Write.contents c.lines.writer in
    let d = g.W.Write.contents c.write_bytes.new.writer in
    let here = c.fill.new.buffer.items in
    let rest = proof_text (g.L.PutsLines.left c.fill.new.lines) in
    let whole = c.args.buffer.now.items ++ proof_text (g.L.PutsLines.left c.args.lines.now) in
    let way = written-on a b d here rest (c.lines.buffer.items ++ proof_text (g.L.PutsLines.left c.lines.lines)) whole c.lines.invariant.way (sym c.in-Ok.ensures.text) (subst (Appends b d) c.deref.ensures.value c.in-Ok-write_bytes.ensures) in
    record {
      lawful = c.in-Ok.ensures.lawful;
      way = subst (λ t. IsOnItsWay a d (t ++ rest) whole) (sym {A = List ℕ} c.clear.ensures.items) way;
    }
