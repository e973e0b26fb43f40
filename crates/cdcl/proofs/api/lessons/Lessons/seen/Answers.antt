use Rattle.cdcl.proofs.SeenLemmas.{AreDistinct-once}
use Rattle.cdcl.proofs.api.lessons.Lessons.seen.Goals as goal

pub returns-clause-distinct : goal.returns-clause-distinct
returns-clause-distinct c = AreDistinct-once c.list.result.now c.list.ensures.once
