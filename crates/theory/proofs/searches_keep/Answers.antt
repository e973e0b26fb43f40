use Rattle.theory.proofs.searching.KeptSearches.{IsSearchOf-begin, IsSearchOf-Propagates, IsSearchOf-decide, IsSearchOf-up_to, IsSearchOf-learn, IsSearchOf-forget, IsReplayed-learn}
use Rattle.theory.proofs.searching.OrderedOutcomes.{IsSearchOf-ordered_step}
use Rattle.theory.proofs.searching.FocusedOutcomes.{IsSearchOf-focused_step}
use Rattle.theory.proofs.searches_keep.Goals as goal

pub returns : goal.returns
returns c = record { begins = IsSearchOf-begin; propagation = IsSearchOf-Propagates; decision = IsSearchOf-decide; going_back = IsSearchOf-up_to; learning = IsSearchOf-learn; forgetting = IsSearchOf-forget; replays = IsReplayed-learn; ordered_step = IsSearchOf-ordered_step; focused_step = IsSearchOf-focused_step }
