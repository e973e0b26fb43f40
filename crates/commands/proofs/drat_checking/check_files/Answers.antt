use Rattle.std.proofs.Common.{ap}
use Rattle.cnf.specs.Limits.{limits_of}
use Rattle.runs.specs.Drat.{drat_by}
use Rattle.commands.proofs.DratLemmas.{drat-end, drat-on}
use Rattle.commands.proofs.drat_checking.check_files.Goals as goal

pub returns-clause-says : goal.returns-clause-says
returns-clause-says g c = (
  drat_by c.check_drat-answered.result,
  drat-on (limits_of c.args.rules.limits) _ (g.F.Read.remaining c.args.formula.file) _ _ (drat_by c.check_drat-answered.result) (ap g.F.Read.remaining c.of-text.ensures) c.check_drat-answered.ensures,
  c.end_check.ensures,
)

pub returns-clause-end : goal.returns-clause-end
unfolding returns-clause-says
returns-clause-end g c =
    let ends = returns-clause-says g c in
    rw c.end_check.ensures
    (drat-end (limits_of c.args.rules.limits) (g.F.Read.remaining c.args.formula.file) _ _ (drat_by c.check_drat-answered.result) ends.1)
