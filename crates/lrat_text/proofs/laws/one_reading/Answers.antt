use Rattle.lrat_text.proofs.ProofTexts.{ProofReads-only}
use Rattle.lrat_text.proofs.laws.one_reading.Goals as goal

pub returns : goal.returns
returns c = ProofReads-only
