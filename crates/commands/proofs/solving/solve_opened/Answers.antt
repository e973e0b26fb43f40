use Rattle.std.proofs.Common.{ap}
use Rattle.std.specs.Prelude.{IsSome, option_map}
use Rattle.cnf.specs.Limits.{limits_of}
use Rattle.commands.proofs.StatusLemmas.{solve-status, held-lent, passed-on}
use Rattle.commands.proofs.solving.solve_opened.Goals as goal

pub returns-clause-says : goal.returns-clause-says
returns-clause-says g c = (
  c.run_opened-answered.result,
  passed-on (limits_of c.args.effort.limits) (IsSome c.args.effort.seconds) c.args.effort.strategy _ (g.I.Read.remaining c.args.formula.file) _ (option_map (λ o. g.P.Write.contents o.file) c.args.proof) _ _ c.run_opened-answered.result
      (ap g.I.Read.remaining c.of-input.ensures) (held-lent _ c.as_mut.result _ _ c.as_mut.ensures.value c.noticed_proof-output.ensures) c.run_opened-answered.ensures,
  c.end_solve.ensures,
)

pub returns-clause-status : goal.returns-clause-status
unfolding returns-clause-says
returns-clause-status g c =
    let ends = returns-clause-says g c in
    rw c.end_solve.ensures
    (solve-status (limits_of c.args.effort.limits) (IsSome c.args.effort.seconds) (g.I.Read.remaining c.args.formula.file) c.args.effort.strategy (option_map (λ o. g.P.Write.contents o.file) c.args.proof) _ _ c.run_opened-answered.result ends.1)
