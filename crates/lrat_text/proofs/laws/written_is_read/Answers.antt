use Rattle.theory.specs.Texts.{proof_text}
use Rattle.theory.specs.ProofReading.{steps}
use Rattle.lrat_text.proofs.ProofTexts.{ProofReads-only}
use Rattle.lrat_text.proofs.WrittenTexts.{proof_text-ProofReads}
use Rattle.lrat_text.proofs.laws.written_is_read.Goals as goal

pub returns : goal.returns
returns c = record {
  read = proof_text-ProofReads;
  only = λ L ss r h short e. ProofReads-only L (proof_text ss) r (steps ss) e (proof_text-ProofReads L ss h short);
}
