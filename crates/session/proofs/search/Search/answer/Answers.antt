use Rattle.std.proofs.Common.{inr}
use Rattle.session.proofs.search.Search.answer.Goals as goal

pub returns-clause-says : goal.returns-clause-says
returns-clause-says g c = inr c.rounds-test.false
