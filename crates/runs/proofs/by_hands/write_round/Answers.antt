use Rattle.std.proofs.Common.{map, refl}
use Rattle.theory.specs.Texts.{proof_text}
use Rattle.join.specs.Walking.{lines_left}
use Rattle.runs.specs.Parts.{text_of, whole}
use Rattle.runs.proofs.ProofLemmas.{begins, stopped}
use Rattle.runs.proofs.by_hands.write_round.Goals as goal

pub returns-in_default-write_all-clause-written : goal.returns-in_default-write_all-clause-written
returns-in_default-write_all-clause-written g c =
    let a = g.W.Write.contents c.args.writer.now in
    let d = g.W.Write.contents c.write_all.new.writer in
    let text = proof_text (lines_left c.args.lines.now) in
    let texts = map text_of c.hand_out.new.parts in
    let w = c.in_default-write_all.ensures.written texts c.make_all.ensures in
    let s = stopped a a d (whole texts) (proof_text (lines_left c.hand_out.new.lines)) text text w.1 (begins a text) c.in-Ok.ensures.text w.2 in
    (refl, s.0, s.1)
