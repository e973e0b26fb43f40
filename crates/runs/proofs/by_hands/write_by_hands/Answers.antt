use Rattle.std.proofs.Common.{refl}
use Rattle.theory.specs.Texts.{proof_text}
use Rattle.join.specs.Walking.{lines_left}
use Rattle.runs.proofs.ProofLemmas.{on-then, finished, stopped-in}
use Rattle.runs.proofs.by_hands.write_by_hands.Goals as goal

pub rounds-preserved : goal.rounds-preserved
rounds-preserved g c = record {
  lines = c.in-Ok.ensures.lines;
  parts = c.in-Ok.ensures.parts;
  way = on-then (g.W.Write.contents c.args.writer.now) (g.W.Write.contents c.rounds.writer) (g.W.Write.contents c.write_round.new.writer) (proof_text (lines_left c.write_round.new.lines)) (proof_text (lines_left c.rounds.lines)) (proof_text (lines_left c.args.lines.now))
      c.rounds.invariant.way c.in-Ok.ensures.written;
}

pub returns-in_default : goal.returns-in_default
returns-in_default g c =
    let w = c.in_default.ensures.written in
    let s = stopped-in (g.W.Write.contents c.args.writer.now) (g.W.Write.contents c.rounds.writer) (g.W.Write.contents c.write_round.new.writer) (proof_text (lines_left c.rounds.lines)) (proof_text (lines_left c.args.lines.now)) w.1 c.rounds.invariant.way w.2 in
    (refl, s.0, s.1)

pub returns-in_default-write_proof : goal.returns-in_default-write_proof
returns-in_default-write_proof g c =
    let w = c.in_default-write_proof.ensures in
    let s = stopped-in (g.W.Write.contents c.args.writer.now) (g.W.Write.contents c.rounds.writer) (g.W.Write.contents c.write_proof.new.writer) (proof_text (lines_left c.rounds.lines)) (proof_text (lines_left c.args.lines.now)) w.1 c.rounds.invariant.way w.2 in
    (refl, s.0, s.1)

pub returns : goal.returns
returns g c =
    finished (g.W.Write.contents c.args.writer.now) (g.W.Write.contents c.rounds.writer) (g.W.Write.contents c.write_proof.new.writer) (proof_text (lines_left c.rounds.lines)) (proof_text (lines_left c.args.lines.now)) c.rounds.invariant.way c.in-Ok-write_proof.ensures
