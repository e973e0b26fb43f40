use Rattle.cdcl.proofs.SeenLemmas.{AreDistinct-once}
use Rattle.cdcl.proofs.search.focused.FocusedSearch.update_heuristics.Goals as goal

pub learn_from-requires-clause-distinct : goal.learn_from-requires-clause-distinct
learn_from-requires-clause-distinct c = AreDistinct-once c.list.result.now c.list.ensures.once
