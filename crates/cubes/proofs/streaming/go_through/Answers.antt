use Rattle.std.proofs.Common.{◌+◌, [], Some, None, refl, arith}
use Rattle.std.proofs.lemmas.List.Elements.{All-nil}
use Rattle.cdcl.specs.Outcome.{outcome_of}
use Rattle.theory.specs.Beginnings.{begun_by}
use Rattle.cubes.specs.Gathering.{nodes_of}
use Rattle.cubes.proofs.Walks.{by_plan, by_checks, IsReached-over, IsReached-short}
use Rattle.cubes.proofs.GatheringLemmas.{IsGathered-start, IsKnown-Runs, IsKnown-reached, IsResultBy-known, IsCheckedResultBy-known, can_go_on, gives, fewer, says-begun}
use Rattle.cubes.proofs.StreamingLemmas.{node-checked, taken-on, if_some-map}
use Rattle.cubes.proofs.streaming.go_through.Goals as goal

pub cubes-init : goal.cubes-init
cubes-init g c = record {
  gives = c.requires.gives;
  is_for = c.requires.is_for;
  reached = IsGathered-start (λ lines. lines) (begun_by c.args.plan.search c.args.formula.now) (by_checks (begun_by c.args.plan.search c.args.formula.now) c.args.plan.search) c.start-gathering.result c.start-gathering.ensures.cube c.start-gathering.ensures.walk c.start-gathering.ensures.nodes;
  gives_own = λ own. own;
  reached_own = λ own. IsGathered-start (λ lines. lines) (begun_by c.args.plan.search c.args.formula.now) (by_plan (begun_by c.args.plan.search c.args.formula.now) c.args.plan) c.start-gathering.result c.start-gathering.ensures.cube c.start-gathering.ensures.walk c.start-gathering.ensures.nodes;
  taken = rw c.start-gathering.ensures.nodes c.requires.begun;
}

pub outcome-requires-clause-over : goal.outcome-requires-clause-over
outcome-requires-clause-over g c =
    let r = c.cubes.invariant.reached in
    IsReached-over (begun_by c.args.plan.search c.args.formula.now) (by_checks (begun_by c.args.plan.search c.args.formula.now) c.args.plan.search) [] c.cubes.gathering.at.walk r.results c.cubes.gathering.at.cube r.below refl (All-nil _) r.reached

pub hand_on-requires : goal.hand_on-requires
hand_on-requires g c =
    let known = IsKnown-reached (λ lines. lines) (begun_by c.args.plan.search c.args.formula.now) c.args.plan.search c.cubes.gathering c.in_ok-outcome.outcome c.cubes.invariant.reached c.in_ok-outcome.ensures.checked in
    let checked = node-checked (begun_by c.args.plan.search c.args.formula.now) c.args.plan.search c.cubes.gathering.at.cube (outcome_of c.in_ok-outcome.outcome) c.parted-kept.result.1 known c.parted-kept.ensures.node in
    record { node = if_some-map c.parted-kept.result.1 _ _ (λ n h. (c.args.plan.search, h.0, c.cubes.invariant.is_for, h.1)) checked }

pub go_on-requires : goal.go_on-requires
go_on-requires g c =
    rw c.parted-kept.ensures.outcome
    (can_go_on (λ lines. lines) (begun_by c.args.plan.search c.args.formula.now) (by_checks (begun_by c.args.plan.search c.args.formula.now) c.args.plan.search) c.cubes.gathering c.in_ok-outcome.outcome (let few = c.vars-vars.ensures.within.vars in omega arith)
    (IsKnown-reached (λ lines. lines) (begun_by c.args.plan.search c.args.formula.now) c.args.plan.search c.cubes.gathering c.in_ok-outcome.outcome c.cubes.invariant.reached c.in_ok-outcome.ensures.checked))

pub returns-in-Some-clause-checked : goal.returns-in-Some-clause-checked
returns-in-Some-clause-checked g c =
    IsCheckedResultBy-known (λ lines. lines) (begun_by c.args.plan.search c.args.formula.now) c.args.plan.search c.in-Some.tree
    (gives (λ lines. lines) (begun_by c.args.plan.search c.args.formula.now) (by_checks (begun_by c.args.plan.search c.args.formula.now) c.args.plan.search) c.cubes.gathering c.go_on.new.self c.in_ok-outcome.outcome (Some c.in-Some.tree) c.cubes.invariant.reached
    (IsKnown-reached (λ lines. lines) (begun_by c.args.plan.search c.args.formula.now) c.args.plan.search c.cubes.gathering c.in_ok-outcome.outcome c.cubes.invariant.reached c.in_ok-outcome.ensures.checked) (rw (c.in-Some.is, c.parted-kept.ensures.outcome) at c.in_ok-tree.ensures))

pub returns-in-Some-clause-own : goal.returns-in-Some-clause-own
returns-in-Some-clause-own g c = λ own.
    IsResultBy-known (λ lines. lines) (begun_by c.args.plan.search c.args.formula.now) c.args.plan c.in-Some.tree
    (gives (λ lines. lines) (begun_by c.args.plan.search c.args.formula.now) (by_plan (begun_by c.args.plan.search c.args.formula.now) c.args.plan) c.cubes.gathering c.go_on.new.self c.in_ok-outcome.outcome (Some c.in-Some.tree) (c.cubes.invariant.reached_own own)
    (IsKnown-Runs (begun_by c.args.plan.search c.args.formula.now) c.args.plan c.cubes.gathering.at.cube (outcome_of c.in_ok-outcome.outcome) (c.in_ok-outcome.ensures.own (c.cubes.invariant.gives_own own))) (rw (c.in-Some.is, c.parted-kept.ensures.outcome) at c.in_ok-tree.ensures))

pub returns-in-Some-clause-says : goal.returns-in-Some-clause-says
returns-in-Some-clause-says g c = says-begun (λ lines. lines) c.args.formula.now c.args.plan c.in-Some.tree c.vars-vars.ensures.within.formula (returns-in-Some-clause-checked g c)

pub returns-in-Some-clause-taken : goal.returns-in-Some-clause-taken
returns-in-Some-clause-taken g c =
    taken-on (λ nodes. g.T.TakesNodes.takes c.args.taker.now c.args.out.now nodes c.hand_on.new.taker c.hand_on.new.out) c.cubes.gathering c.go_on.new.self c.in_ok-outcome.outcome (Some c.in-Some.tree)
    (rw (c.in-Some.is, c.parted-kept.ensures.outcome) at c.in_ok-tree.ensures)
    (rw c.parted-kept.ensures.node at (c.in_ok-hand_on.ensures.takes c.args.taker.now c.args.out.now (nodes_of (λ lines. lines) c.cubes.gathering) c.cubes.invariant.taken))

pub cubes-smaller : goal.cubes-smaller
cubes-smaller g c =
    fewer (λ lines. lines) (c.args.formula.now.vars + 1) c.cubes.gathering c.go_on.new.self c.in_ok-outcome.outcome
    (let r = c.cubes.invariant.reached in let short = IsReached-short (begun_by c.args.plan.search c.args.formula.now) (by_checks (begun_by c.args.plan.search c.args.formula.now) c.args.plan.search) [] c.cubes.gathering.at.walk r.results c.cubes.gathering.at.cube r.below refl (All-nil _) r.reached in omega arith)
    (rw (c.in_default.is, c.parted-kept.ensures.outcome) at c.in_ok-tree.ensures)

pub cubes-preserved : goal.cubes-preserved
cubes-preserved g c =
    let goes = rw (c.in_default.is, c.parted-kept.ensures.outcome) at c.in_ok-tree.ensures in
    record {
      gives = c.in_ok-outcome.ensures.still;
      is_for = c.in_ok-hand_on.ensures.still c.args.plan.search c.cubes.invariant.is_for;
      reached = gives (λ lines. lines) (begun_by c.args.plan.search c.args.formula.now) (by_checks (begun_by c.args.plan.search c.args.formula.now) c.args.plan.search) c.cubes.gathering c.go_on.new.self c.in_ok-outcome.outcome None c.cubes.invariant.reached
          (IsKnown-reached (λ lines. lines) (begun_by c.args.plan.search c.args.formula.now) c.args.plan.search c.cubes.gathering c.in_ok-outcome.outcome c.cubes.invariant.reached c.in_ok-outcome.ensures.checked) goes;
      gives_own = λ own. c.in_ok-outcome.ensures.still_own (c.cubes.invariant.gives_own own);
      reached_own = λ own. gives (λ lines. lines) (begun_by c.args.plan.search c.args.formula.now) (by_plan (begun_by c.args.plan.search c.args.formula.now) c.args.plan) c.cubes.gathering c.go_on.new.self c.in_ok-outcome.outcome None (c.cubes.invariant.reached_own own)
          (IsKnown-Runs (begun_by c.args.plan.search c.args.formula.now) c.args.plan c.cubes.gathering.at.cube (outcome_of c.in_ok-outcome.outcome) (c.in_ok-outcome.ensures.own (c.cubes.invariant.gives_own own))) goes;
      taken = taken-on (λ nodes. g.T.TakesNodes.takes c.args.taker.now c.args.out.now nodes c.hand_on.new.taker c.hand_on.new.out) c.cubes.gathering c.go_on.new.self c.in_ok-outcome.outcome None goes
          (rw c.parted-kept.ensures.node at (c.in_ok-hand_on.ensures.takes c.args.taker.now c.args.out.now (nodes_of (λ lines. lines) c.cubes.gathering) c.cubes.invariant.taken));
    }
