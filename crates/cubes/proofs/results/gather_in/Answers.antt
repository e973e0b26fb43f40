use Rattle.std.proofs.Common.{◌+◌, [], Some, None, refl, arith}
use Rattle.std.proofs.lemmas.List.Elements.{All-map, All-nil}
use Rattle.theory.specs.Results.{IsTrueOf}
use Rattle.theory.specs.Checked.{IsCheckedOf}
use Rattle.cdcl.specs.Outcome.{outcome_by}
use Rattle.theory.specs.Beginnings.{begun_by}
use Rattle.cubes.specs.Solved.{results_by, solved_by}
use Rattle.cubes.proofs.Walks.{by_plan, by_checks, IsReached-over, IsReached-short}
use Rattle.cubes.proofs.KnownLemmas.{AreOutcomes-known, AreCheckedOutcomes-known}
use Rattle.cubes.proofs.GatheringLemmas.{IsGathered-start, IsKnown-Runs, IsKnown-reached, IsResultBy-known, IsCheckedResultBy-known, can_go_on, gives, fewer, says-begun}
use Rattle.cubes.proofs.results.gather_in.Goals as goal

pub cubes-init : goal.cubes-init
cubes-init g c = record {
  source = (AreCheckedOutcomes-known g.L.KeepsLines.lines (begun_by c.args.plan.search c.args.formula.now) c.args.plan.search (results_by g.L.KeepsLines.lines c.args.results.items) c.in_ok-new.field-0 (All-map (λ r. IsCheckedOf c.args.plan.search (begun_by c.args.plan.search c.args.formula.now) r.cube r.what) (solved_by g.L.KeepsLines.lines) c.args.results.items c.requires.results) c.in_ok-new.ensures, c.none.ensures (begun_by c.args.plan.search c.args.formula.now) c.args.plan c.requires.root);
  reached = IsGathered-start g.L.KeepsLines.lines (begun_by c.args.plan.search c.args.formula.now) (by_checks (begun_by c.args.plan.search c.args.formula.now) c.args.plan.search) c.start-gathering.result c.start-gathering.ensures.cube c.start-gathering.ensures.walk c.start-gathering.ensures.nodes;
  known_true = λ all. AreOutcomes-known g.L.KeepsLines.lines (begun_by c.args.plan.search c.args.formula.now) c.args.plan (results_by g.L.KeepsLines.lines c.args.results.items) c.in_ok-new.field-0 (All-map (λ r. IsTrueOf (begun_by c.args.plan.search c.args.formula.now) c.args.plan r.cube r.what) (solved_by g.L.KeepsLines.lines) c.args.results.items all) c.in_ok-new.ensures;
  reached_true = λ all. IsGathered-start g.L.KeepsLines.lines (begun_by c.args.plan.search c.args.formula.now) (by_plan (begun_by c.args.plan.search c.args.formula.now) c.args.plan) c.start-gathering.result c.start-gathering.ensures.cube c.start-gathering.ensures.walk c.start-gathering.ensures.nodes;
}

pub outcome-requires-clause-over : goal.outcome-requires-clause-over
outcome-requires-clause-over g c =
    let r = c.cubes.invariant.reached in
    IsReached-over (begun_by c.args.plan.search c.args.formula.now) (by_checks (begun_by c.args.plan.search c.args.formula.now) c.args.plan.search) [] c.cubes.gathering.at.walk r.results c.cubes.gathering.at.cube r.below refl (All-nil _) r.reached

pub go_on-requires : goal.go_on-requires
go_on-requires g c =
    can_go_on g.L.KeepsLines.lines (begun_by c.args.plan.search c.args.formula.now) (by_checks (begun_by c.args.plan.search c.args.formula.now) c.args.plan.search) c.cubes.gathering c.in_ok-outcome.outcome (let few = c.vars-vars.ensures.within.vars in omega arith)
    (IsKnown-reached g.L.KeepsLines.lines (begun_by c.args.plan.search c.args.formula.now) c.args.plan.search c.cubes.gathering c.in_ok-outcome.outcome c.cubes.invariant.reached c.in_ok-outcome.ensures.checked)

pub returns-in-Some-clause-checked : goal.returns-in-Some-clause-checked
returns-in-Some-clause-checked g c =
    IsCheckedResultBy-known g.L.KeepsLines.lines (begun_by c.args.plan.search c.args.formula.now) c.args.plan.search c.in-Some.tree
    (gives g.L.KeepsLines.lines (begun_by c.args.plan.search c.args.formula.now) (by_checks (begun_by c.args.plan.search c.args.formula.now) c.args.plan.search) c.cubes.gathering c.go_on.new.self c.in_ok-outcome.outcome (Some c.in-Some.tree) c.cubes.invariant.reached
    (IsKnown-reached g.L.KeepsLines.lines (begun_by c.args.plan.search c.args.formula.now) c.args.plan.search c.cubes.gathering c.in_ok-outcome.outcome c.cubes.invariant.reached c.in_ok-outcome.ensures.checked) (rw c.in-Some.is at c.in_ok-tree.ensures))

pub returns-in-Some-clause-result : goal.returns-in-Some-clause-result
returns-in-Some-clause-result g c = λ all.
    IsResultBy-known g.L.KeepsLines.lines (begun_by c.args.plan.search c.args.formula.now) c.args.plan c.in-Some.tree
    (gives g.L.KeepsLines.lines (begun_by c.args.plan.search c.args.formula.now) (by_plan (begun_by c.args.plan.search c.args.formula.now) c.args.plan) c.cubes.gathering c.go_on.new.self c.in_ok-outcome.outcome (Some c.in-Some.tree) (c.cubes.invariant.reached_true all)
    (IsKnown-Runs (begun_by c.args.plan.search c.args.formula.now) c.args.plan c.cubes.gathering.at.cube (outcome_by g.L.KeepsLines.lines c.in_ok-outcome.outcome) (c.in_ok-outcome.ensures.runs (c.cubes.invariant.known_true all))) (rw c.in-Some.is at c.in_ok-tree.ensures))

pub returns-in-Some-clause-says : goal.returns-in-Some-clause-says
returns-in-Some-clause-says g c =
    says-begun g.L.KeepsLines.lines c.args.formula.now c.args.plan c.in-Some.tree c.vars-vars.ensures.within.formula
    (IsCheckedResultBy-known g.L.KeepsLines.lines (begun_by c.args.plan.search c.args.formula.now) c.args.plan.search c.in-Some.tree
    (gives g.L.KeepsLines.lines (begun_by c.args.plan.search c.args.formula.now) (by_checks (begun_by c.args.plan.search c.args.formula.now) c.args.plan.search) c.cubes.gathering c.go_on.new.self c.in_ok-outcome.outcome (Some c.in-Some.tree) c.cubes.invariant.reached
    (IsKnown-reached g.L.KeepsLines.lines (begun_by c.args.plan.search c.args.formula.now) c.args.plan.search c.cubes.gathering c.in_ok-outcome.outcome c.cubes.invariant.reached c.in_ok-outcome.ensures.checked) (rw c.in-Some.is at c.in_ok-tree.ensures)))

pub cubes-smaller : goal.cubes-smaller
cubes-smaller g c =
    fewer g.L.KeepsLines.lines (c.args.formula.now.vars + 1) c.cubes.gathering c.go_on.new.self c.in_ok-outcome.outcome
    (let r = c.cubes.invariant.reached in let short = IsReached-short (begun_by c.args.plan.search c.args.formula.now) (by_checks (begun_by c.args.plan.search c.args.formula.now) c.args.plan.search) [] c.cubes.gathering.at.walk r.results c.cubes.gathering.at.cube r.below refl (All-nil _) r.reached in omega arith) (rw c.in_default.is at c.in_ok-tree.ensures)

pub cubes-preserved : goal.cubes-preserved
cubes-preserved g c = record {
  source = c.in_ok-outcome.ensures.kept;
  reached = gives g.L.KeepsLines.lines (begun_by c.args.plan.search c.args.formula.now) (by_checks (begun_by c.args.plan.search c.args.formula.now) c.args.plan.search) c.cubes.gathering c.go_on.new.self c.in_ok-outcome.outcome None c.cubes.invariant.reached
      (IsKnown-reached g.L.KeepsLines.lines (begun_by c.args.plan.search c.args.formula.now) c.args.plan.search c.cubes.gathering c.in_ok-outcome.outcome c.cubes.invariant.reached c.in_ok-outcome.ensures.checked) (rw c.in_default.is at c.in_ok-tree.ensures);
  known_true = λ all. c.in_ok-outcome.ensures.still (c.cubes.invariant.known_true all);
  reached_true = λ all. gives g.L.KeepsLines.lines (begun_by c.args.plan.search c.args.formula.now) (by_plan (begun_by c.args.plan.search c.args.formula.now) c.args.plan) c.cubes.gathering c.go_on.new.self c.in_ok-outcome.outcome None (c.cubes.invariant.reached_true all)
      (IsKnown-Runs (begun_by c.args.plan.search c.args.formula.now) c.args.plan c.cubes.gathering.at.cube (outcome_by g.L.KeepsLines.lines c.in_ok-outcome.outcome) (c.in_ok-outcome.ensures.runs (c.cubes.invariant.known_true all))) (rw c.in_default.is at c.in_ok-tree.ensures);
}
