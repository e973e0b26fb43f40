use Rattle.runs.proofs.OneRun.{runs-same}
use Rattle.runs.proofs.laws.runs_write_the_same.Goals as goal

pub returns : goal.returns
returns c = runs-same
