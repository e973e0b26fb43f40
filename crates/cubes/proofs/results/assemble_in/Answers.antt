use Rattle.std.proofs.Common.{suc, length, sum_by, refl, sym, ◌∙◌}
use Rattle.cubes.specs.Solved.{results_by}
use Rattle.cubes.proofs.Walks.{by_plan}
use Rattle.cubes.proofs.GatheringLemmas.{IsGathered-start, IsResultBy-known, can_go_on, gives, fewer}
use Rattle.cubes.proofs.WholeWalks.{AreStillThere-on, is_there, is_outcome, length-there}
use Rattle.cubes.proofs.results.assemble_in.Goals as goal

pub cubes-init : goal.cubes-init
cubes-init g c = record {
  reached = λ F plan whole. IsGathered-start g.L.KeepsLines.lines F (by_plan F plan) c.start-gathering.result c.start-gathering.ensures.cube c.start-gathering.ensures.walk c.start-gathering.ensures.nodes;
  still = (rw c.start-gathering.ensures.walk c.start-gathering.ensures.cube, λ R named n. refl);
}

pub unreachable-requires : goal.unreachable-requires
unreachable-requires g c =
    let F = c.requires.0 in
    let plan = c.requires.1 in
    let whole = c.requires.3 in
    is_there g.L.KeepsLines.lines F plan (results_by g.L.KeepsLines.lines c.args.results.items) c.in_ok-known.known c.cubes.known c.cubes.gathering whole (c.cubes.invariant.reached F plan whole) c.take.ensures.variables c.in_ok-known.ensures c.cubes.invariant.still
    (sym c.take.ensures.outcome ∙ c.in-None.is)

pub go_on-requires : goal.go_on-requires
go_on-requires g c =
    let F = c.requires.0 in
    let plan = c.requires.1 in
    let whole = c.requires.3 in
    can_go_on g.L.KeepsLines.lines F (by_plan F plan) c.cubes.gathering c.in-Some.outcome c.requires.2
    (is_outcome g.L.KeepsLines.lines F plan (results_by g.L.KeepsLines.lines c.args.results.items) c.in_ok-known.known c.cubes.known c.cubes.gathering c.in-Some.outcome whole c.take.ensures.variables c.in_ok-known.ensures c.cubes.invariant.still (sym c.take.ensures.outcome ∙ c.in-Some.is))

pub returns-in-Some-2 : goal.returns-in-Some-2
returns-in-Some-2 g c F plan whole =
    IsResultBy-known g.L.KeepsLines.lines F plan c.in-Some-2.tree (gives g.L.KeepsLines.lines F (by_plan F plan) c.cubes.gathering c.go_on.new.self c.in-Some.outcome _ (c.cubes.invariant.reached F plan whole)
    (is_outcome g.L.KeepsLines.lines F plan (results_by g.L.KeepsLines.lines c.args.results.items) c.in_ok-known.known c.cubes.known c.cubes.gathering c.in-Some.outcome whole c.take.ensures.variables c.in_ok-known.ensures c.cubes.invariant.still (sym c.take.ensures.outcome ∙ c.in-Some.is))
    (rw c.in-Some-2.is at c.in_ok-tree.ensures))

pub cubes-smaller : goal.cubes-smaller
cubes-smaller g c =
    let F = c.requires.0 in
    let plan = c.requires.1 in
    let whole = c.requires.3 in
    fewer g.L.KeepsLines.lines (suc (sum_by (λ r. length r.cube) (results_by g.L.KeepsLines.lines c.args.results.items))) c.cubes.gathering c.go_on.new.self c.in-Some.outcome
    (length-there g.L.KeepsLines.lines F plan (results_by g.L.KeepsLines.lines c.args.results.items) c.cubes.gathering whole (c.cubes.invariant.reached F plan whole)) (rw c.in_default.is at c.in_ok-tree.ensures)

pub cubes-preserved : goal.cubes-preserved
cubes-preserved g c = record {
  reached = λ F plan whole. gives g.L.KeepsLines.lines F (by_plan F plan) c.cubes.gathering c.go_on.new.self c.in-Some.outcome _ (c.cubes.invariant.reached F plan whole)
      (is_outcome g.L.KeepsLines.lines F plan (results_by g.L.KeepsLines.lines c.args.results.items) c.in_ok-known.known c.cubes.known c.cubes.gathering c.in-Some.outcome whole c.take.ensures.variables c.in_ok-known.ensures c.cubes.invariant.still (sym c.take.ensures.outcome ∙ c.in-Some.is))
      (rw c.in_default.is at c.in_ok-tree.ensures);
  still = AreStillThere-on g.L.KeepsLines.lines c.in_ok-known.known c.cubes.known c.take.new.self c.cubes.gathering c.go_on.new.self c.in-Some.outcome (rw c.in_default.is at c.in_ok-tree.ensures) c.take.ensures.others c.cubes.invariant.still;
}
