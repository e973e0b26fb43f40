use Rattle.std.proofs.Common.{◌∙◌, ap}
use Rattle.std.proofs.lemmas.List.{length-map}
use Rattle.theory.specs.Trails.{variables}
use Rattle.theory.proofs.searching.ModelLemmas.{length-variables}
use Rattle.heuristics.specs.Rankings.{vars_of}
use Rattle.session.proofs.choice.Choice.open.Goals as goal

pub loop-index-init : goal.loop-index-init
loop-index-init c = ap vars_of c.in_ok-scores.ensures ∙ (length-map (variables c.args.room) _ ∙ length-variables c.args.room)
