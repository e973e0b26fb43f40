-- What a search keeps from step to step, and why it ends: with each step a conflict more is
-- counted, or the trail is longer.
use Rattle.std.proofs.Common.{◌≡◌, ◌∙◌, ℕ, ◌≤◌, false, Result, Ok, Err, IfOk, OnOk, if◌then◌else◌, List, Option, Some}
use Rattle.theory.specs.Literals.{Literal, Clause, negations}
use Rattle.theory.specs.Truth.{IsOver}
use Rattle.theory.specs.Trails.{Trail, literals, current_level, up_to}
use Rattle.theory.specs.Propagation.{Closed, IsRule, by_number, Propagates, least_false}
use Rattle.theory.specs.Lawful.{IsLawful, cube_of}
use Rattle.theory.specs.Learnable.{IsLearnable}
use Rattle.theory.specs.Learning.{learn_removing, back_level}
use Rattle.theory.specs.Ordered.{after}
use Rattle.theory.proofs.trails.LawfulTrails.{IsLawful-Propagates, least_false-at}
use Rattle.theory.proofs.searching.LearnableLines.{IsLearnable-learn}
use Rattle.theory.proofs.searching.LearntLines.{IsVariable-learn}
use Rattle.theory.proofs.searching.OpenTrails.{IsOpenBelow-Propagates}
use Rattle.theory.proofs.literals.OverVariables.{AreOver-from_IsOver, IsOver-from_AreOver, IsOver-left}
use Rattle.theory.proofs.searching.KeptSearches.{AreOver-Propagates}
use Rattle.theory.proofs.searching.Rules.{IsRule-by_number, IsRule-by_place}
use Rattle.kernel.specs.State.{State}
use Rattle.kernel.specs.Rules.{rule_of}
use Rattle.kernel.specs.declared.order.Order.{Order}
use Rattle.kernel.specs.declared.order.Order.TheVariants.{ByNumber, ByPlace}
use Rattle.cdcl.specs.Searching.{IsSearching, IsSearchStep, GoesOn, search_of, next_of}
use Rattle.cdcl.specs.Outcome.{LinesOutcome}
use Rattle.cdcl.specs.declared.search.ordered.OrderedSearch.{OrderedSearch}

-- propagation keeps it
pub IsRule-of : (order : Order) → IsRule (rule_of order)
IsRule-of ByNumber = IsRule-by_number
IsRule-of ByPlace = IsRule-by_place

pub IsSearching-Propagates : (order : Order) (k l : State) (a : Closed) → IsSearching order k → l.vars ≡ k.vars → l.clauses ≡ k.clauses → l.first ≡ k.first → l.order ≡ k.order → l.out_of_memory ≡ false
    → Propagates (rule_of order) k.clauses k.trail a l.trail → IsSearching order l
IsSearching-Propagates order k l a h vars clauses first same_order memory closes = record {
  has_memory = memory;
  in_order = same_order ∙ h.in_order;
  few = rw vars h.few;
  within = rw (first, clauses) h.within;
  lawful = rw clauses (IsLawful-Propagates (rule_of order) (IsRule-of order) k.clauses k.trail l.trail a closes h.lawful);
  open_below = rw clauses (IsOpenBelow-Propagates (rule_of order) k.clauses k.trail l.trail a closes h.open_below);
  clauses_over = rw (vars, clauses) h.clauses_over;
  trail_over = rw vars (IsOver-from_AreOver k.vars (literals l.trail) (AreOver-Propagates (rule_of order) (IsRule-of order) k.vars k.clauses k.trail l.trail a h.clauses_over closes (AreOver-from_IsOver k.vars (literals k.trail) h.trail_over)));
}

-- the learnt clause is over the variables, whatever is removable
pub IsOver-learn : (V : ℕ) (R : List Literal) (K : List Clause) (T : Trail) (n : ℕ) → IsLawful K T → IsOver V (literals T) → least_false (literals T) K ≡ Some n → IsOver V (learn_removing R K T n).clause
IsOver-learn V R K T n lawful over h =
    let at = least_false-at (literals T) K n h in
    IsOver-left V (learn_removing R K T n).clause (negations (cube_of T)) (IsOver-from_AreOver V _ (IsVariable-learn V R K T n lawful (AreOver-from_IsOver V (literals T) over) at.2))

-- the kernel after going back may learn the clause
pub may_learn : (order : Order) (R : List Literal) (k l : State) (c : Clause) (level n : ℕ) → IsSearching order k → 1 ≤ current_level k.trail → least_false (literals k.trail) k.clauses ≡ Some n
    → c ≡ (learn_removing R k.clauses k.trail n).clause → level ≡ back_level k.trail (learn_removing R k.clauses k.trail n).clause
    → l ≡ (if k.out_of_memory then k else record k { trail = up_to k.trail level }) → IsOver l.vars c × IsLearnable l.trail c
may_learn order R k l c level n h above clash clause back went =
    rw (rw (h.has_memory, back) at went, clause)
    (IsOver-learn k.vars R k.clauses k.trail n h.lawful h.trail_over clash, IsLearnable-learn R k.clauses k.trail n h.lawful h.open_below above clash)

-- a step from what propagation left
pub IsSearchStep-from : {E : Type 0} (budget : ℕ) (old new middle : OrderedSearch) (a : Closed) (r : Result (Option LinesOutcome) E) → Propagates by_number old.kernel.clauses old.kernel.trail a middle.kernel.trail
    → (middle.kernel.vars ≡ old.kernel.vars) × (middle.kernel.clauses ≡ old.kernel.clauses) × (middle.kernel.first ≡ old.kernel.first) × (middle.kernel.order ≡ old.kernel.order)
    → search_of middle ≡ record (search_of old) { trail = middle.kernel.trail }
    → IfOk r (λ o. after middle.kernel.vars budget (search_of middle) a ≡ next_of o new) → OnOk r (GoesOn middle.kernel new.kernel) → IfOk r (λ o. IsSearchStep budget old o new)
IsSearchStep-from budget old new middle a (Ok o) closes same_kernel same next kept = record {
  step = record { answer = a; trail = middle.kernel.trail; propagates = closes; follows = rw (same_kernel.0, same) at next };
  goes_on = rw (same_kernel.0, same_kernel.1, same_kernel.2, same_kernel.3) at kept;
}
IsSearchStep-from budget old new middle a (Err e) closes same_kernel same next kept = tt
