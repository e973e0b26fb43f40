use Rattle.std.proofs.Common.{ap}
use Rattle.cnf.specs.Limits.{limits_of}
use Rattle.commands.proofs.StatusLemmas.{tidied-on}
use Rattle.commands.proofs.tidied.tidy_opened.Goals as goal

pub returns : goal.returns
returns g c = (
  c.tidy_within-answered.result,
  tidied-on (limits_of c.args.limits) _ (g.I.Read.remaining c.args.formula.file) _ _ c.tidy_within-answered.result (ap g.I.Read.remaining c.of-input.ensures) c.tidy_within-answered.ensures,
  c.end_tidy.ensures,
)
