use Rattle.theory.proofs.reading.OneReading.{Reads-one}
use Rattle.theory.proofs.one_reading.Goals as goal

pub returns : goal.returns
returns c = Reads-one
