-- A step of a search, as the definition of a search has it.
use Rattle.std.proofs.Common.{◌≡◌, ℕ, ◌<◌, ◌≤◌, length, take, ap, Some, None, ◌∙◌, refl, arith}
use Rattle.std.proofs.lemmas.List.{length-take}
use Rattle.theory.specs.Trails.{literals}
use Rattle.theory.specs.Search.{RunsFrom, stops, steps}
use Rattle.theory.specs.Search as search
use Rattle.theory.specs.Ordered.{OrderedState, IsOrderedStep}
use Rattle.theory.specs.Lawful.{IsLawful}
use Rattle.theory.specs.Learnable.{IsOpenBelow}
use Rattle.theory.proofs.searching.SearchSteps.{Propagates-Answers}
use Rattle.theory.proofs.literals.OverVariables.{AreOver, AreOver-from_IsOver, IsOver-from_AreOver}
use Rattle.theory.proofs.searching.KeptSearches.{AreOver-Propagates}
use Rattle.theory.proofs.searching.Rules.{IsRule-by_number}
use Rattle.theory.specs.Propagation.{by_number}
use Rattle.theory.proofs.trails.LawfulTrails.{IsLawful-Propagates}
use Rattle.theory.proofs.searching.OpenTrails.{kept-step}
use Rattle.kernel.specs.State.{State}
use Rattle.kernel.specs.declared.order.Order.TheVariants.{ByNumber}
use Rattle.cdcl.specs.Outcome.{outcome_of}
use Rattle.cdcl.specs.Searching.{IsSearching, IsSearchStep, GoesOn, search_of}
use Rattle.cdcl.specs.Outcome.{LinesOutcome}
use Rattle.cdcl.specs.declared.search.ordered.OrderedSearch.{OrderedSearch}
use Rattle.lookahead.proofs.TrailLengths.{length-Propagates}
use Rattle.cdcl.proofs.Progress.{Progresses, after-Progresses, remaining}

-- a step that ends
pub IsSearchStep-ends : (V budget : ℕ) (s t : OrderedSearch) (o : LinesOutcome) → s.kernel.vars ≡ V → IsSearchStep budget s (Some o) t → RunsFrom (IsOrderedStep V budget) (search_of s) (outcome_of o)
IsSearchStep-ends V budget s t o vars step = stops (rw vars at step.step)

-- a step to the state t
pub IsSearchStep-leads : (V budget : ℕ) (s t : OrderedSearch) (o : search.Outcome) → s.kernel.vars ≡ V → IsSearchStep budget s None t → RunsFrom (IsOrderedStep V budget) (search_of t) o → RunsFrom (IsOrderedStep V budget) (search_of s) o
IsSearchStep-leads V budget s t o vars step more = steps (rw vars at step.step) more

-- the first clauses are still there
within-GoesOn : (k l : State) → k.first ≤ length k.clauses → GoesOn k l → l.first ≤ length l.clauses
within-GoesOn k l within goes =
    let before = length-take k.first k.clauses in
    let now = length-take k.first l.clauses in
    let same : length (take k.first l.clauses) ≡ length (take k.first k.clauses) = ap length goes.2 in
    let first = goes.1 in
    omega arith

pub GoesOn-trans : (k l m : State) → GoesOn k l → GoesOn l m → GoesOn k m
GoesOn-trans k l m one two = (two.0 ∙ one.0, two.1 ∙ one.1, (rw one.1 at two.2) ∙ one.2, two.3, two.4 ∙ one.4)

-- what such a step keeps
pub IsSearchStep-keeps : (budget : ℕ) (s t : OrderedSearch) → IsSearching ByNumber s.kernel → s.conflicts < budget → IsSearchStep budget s None t
    → IsSearching ByNumber t.kernel × (t.conflicts < budget) × (remaining s.kernel.vars budget t.conflicts t.kernel.trail < remaining s.kernel.vars budget s.conflicts s.kernel.trail)
IsSearchStep-keeps budget s t h counted step = (
  record {
    has_memory = step.goes_on.3;
    in_order = step.goes_on.4 ∙ h.in_order;
    few = rw step.goes_on.0 h.few;
    within = within-GoesOn s.kernel t.kernel h.within step.goes_on;
    lawful = kept.0;
    open_below = kept.1;
    clauses_over = rw step.goes_on.0 made.clauses_over;
    trail_over = rw step.goes_on.0 (IsOver-from_AreOver s.kernel.vars (literals t.kernel.trail) made.trail_over);
  },
  made.counted,
  less,
)
  where
    middle : OrderedState
    middle = record (search_of s) { trail = step.step.trail }

    over : AreOver s.kernel.vars (literals step.step.trail)
    over = AreOver-Propagates by_number IsRule-by_number s.kernel.vars s.kernel.clauses s.kernel.trail step.step.trail step.step.answer h.clauses_over step.step.propagates (AreOver-from_IsOver s.kernel.vars (literals s.kernel.trail) h.trail_over)

    made : Progresses s.kernel.vars budget middle (search_of t)
    made = after-Progresses s.kernel.vars budget middle (search_of t) step.step.answer (IsLawful-Propagates by_number IsRule-by_number s.kernel.clauses s.kernel.trail step.step.trail step.step.answer step.step.propagates h.lawful) h.clauses_over
        (IsOver-from_AreOver s.kernel.vars (literals step.step.trail) over) counted (Propagates-Answers by_number s.kernel.clauses s.kernel.trail step.step.trail middle step.step.answer step.step.propagates refl refl) step.step.follows

    kept : IsLawful t.kernel.clauses t.kernel.trail × IsOpenBelow t.kernel.clauses t.kernel.trail
    kept = kept-step s.kernel.vars budget (search_of s) (search_of t) step.step.trail step.step.answer h.lawful h.open_below step.step.propagates step.step.follows

    less : remaining s.kernel.vars budget t.conflicts t.kernel.trail < remaining s.kernel.vars budget s.conflicts s.kernel.trail
    less =
        let falls : remaining s.kernel.vars budget t.conflicts t.kernel.trail < remaining s.kernel.vars budget s.conflicts step.step.trail = made.less in
        let longer = length-Propagates by_number s.kernel.clauses s.kernel.trail step.step.trail step.step.answer step.step.propagates in
        omega arith
