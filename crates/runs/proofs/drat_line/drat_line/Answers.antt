use Rattle.runs.proofs.DratLemmas.{line-drat}
use Rattle.runs.proofs.drat_line.drat_line.Goals as goal

pub returns-in-None-clause-line : goal.returns-in-None-clause-line
returns-in-None-clause-line c = λ L F bytes r reads says. line-drat L F bytes c.checked_line.result (c.checked_line.ensures L F bytes r reads says)
