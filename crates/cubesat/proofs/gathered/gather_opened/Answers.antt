use Rattle.std.proofs.Common.{refl}
use Rattle.std.proofs.KnownBytes.{Keeps-refl}
use Rattle.cubesat.proofs.EndLemmas.{end-after}
use Rattle.cubesat.proofs.gathered.gather_opened.Goals.{then-not-claims_model+then-is_apart+in_default+in-Ok-proof_begun, else-not-claims_model}
use Rattle.cubesat.proofs.gathered.gather_opened.Goals as goal

pub returns : goal.returns
returns g c =
    let held = c.args.run.now.held.now in
    let a = g.W.Write.contents c.args.answer.now.inner in
    let end = g.W.Write.contents c.gather_twice.new.answer.inner in
    end-after held a (g.W.Write.contents c.if-not-claims_model.answer.inner) end c.gather_twice.result
    (elim c.if-not-claims_model.branch [
      | then-not-claims_model+then-is_apart+in_default+in-Ok-proof_begun w ↦ rw w.answer-is (w.in_default.ensures.none refl)
      | else-not-claims_model w ↦ rw w.answer-is (Keeps-refl a)
    ])
    c.gather_twice.ensures
