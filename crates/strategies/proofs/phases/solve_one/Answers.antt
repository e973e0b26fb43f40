use Rattle.std.proofs.Common.{refl}
use Rattle.cubes.proofs.OkLemmas.{if_ok}
use Rattle.strategies.specs.Choosing.{alone}
use Rattle.strategies.specs.Strategies.{by_plan}
use Rattle.strategies.proofs.DecidedTrees.{planned-decided}
use Rattle.strategies.proofs.phases.solve_one.Goals as goal

pub returns-in-Decided : goal.returns-in-Decided
returns-in-Decided c = if_ok c.decided_at_root.result _ _ (λ d. planned-decided (λ row. row) c.args.formula.now (by_plan c.args.plan) c.args.plan d (alone refl)) c.decided_at_root.ensures

pub returns-in_ok-tree-in-Open : goal.returns-in_ok-tree-in-Open
returns-in_ok-tree-in-Open c = planned-decided (λ row. row) c.args.formula.now (by_plan c.args.plan) c.args.plan c.decided_from.result (alone refl) c.decided_from.ensures
