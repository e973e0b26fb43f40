use Rattle.cdcl.proofs.PlaceBags.{pushed-far}
use Rattle.cdcl.proofs.analysis.places.Places.push_far.Goals as goal

pub returns : goal.returns
returns c = rw (← c.self.view_is) (pushed-far _ _ _ c.args.place c.in_ok-push.ensures.permutation)
