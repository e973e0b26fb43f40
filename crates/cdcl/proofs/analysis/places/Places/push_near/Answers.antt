use Rattle.cdcl.proofs.PlaceBags.{pushed-near}
use Rattle.cdcl.proofs.analysis.places.Places.push_near.Goals as goal

pub returns-then-put : goal.returns-then-put
returns-then-put c = rw (← c.self.view_is) (pushed-near _ _ _ c.args.place (c.put.ensures.put c.if-put.true))
