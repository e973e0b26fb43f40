use Rattle.std.proofs.Common.{inr}
use Rattle.session.proofs.search.Search.run.Goals as goal

pub returns-clause-says : goal.returns-clause-says
returns-clause-says g c = inr c.steps-test.false
