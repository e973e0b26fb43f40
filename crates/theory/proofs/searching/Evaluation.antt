-- Searches and their trees, computed within a number of steps: what is computed so is what the
-- relations say.
use Rattle.std.proofs.Common.{◌≡◌, ℕ, zero, suc, List, [], ◌∷◌, ◌++◌, Option, Some, None, refl, ap}
use Rattle.theory.specs.Literals.{Clause, Literal}
use Rattle.theory.specs.Truth.{Formula}
use Rattle.theory.specs.Plans.{Constants}
use Rattle.theory.specs.Trails.{Trail, literals}
use Rattle.theory.specs.Propagation.{Closed, quiet, conflict, Rule, by_number, by_place, Propagates, clashes, grows, rests, unit_entry, least_false}
use Rattle.theory.specs.Search.{Outcome, model, refuted, exhausted, Next, ends, goes_on, RunsFrom, stops, steps, budget_of, budget_within, max_focused}
use Rattle.theory.specs.Ordered.{OrderedState, after, begin}
use Rattle.theory.specs.Focused as focused
use Rattle.theory.specs.Focused.{FocusedState}
use Rattle.theory.specs.Trees.{Tree, satisfied, refutation, split, true_half, false_half}

abbrev pub close_within : Rule → ℕ → List Clause → Trail → Option (Closed × Trail)
close_within rule zero K T = None
close_within rule (suc n) K T = elim (least_false (literals T) K) [
  | Some k ↦ Some (conflict k, T)
  | None ↦ elim (rule T K) [ Some u ↦ close_within rule n K (T ++ unit_entry T u ∷ []) | None ↦ Some (quiet, T) ]
]

same_parts : {T U : Trail} {a b : Closed} → ◌≡◌ {A = Option (Closed × Trail)} (Some (b, T)) (Some (a, U)) → (b ≡ a) × (T ≡ U)
same_parts {T} {U} {a} {b} k =
    let pair : ◌≡◌ {A = Closed × Trail} (b, T) (a, U) = cc in
    (ap (λ (x : Closed × Trail). x.0) pair, ap (λ (x : Closed × Trail). x.1) pair)

unit_step : (rule : Rule) (n : ℕ) (K : List Clause) (T U : Trail) (a : Closed) (r : Option (ℕ × Literal)) → least_false (literals T) K ≡ None → rule T K ≡ r
    → ((u : ℕ × Literal) → close_within rule n K (T ++ unit_entry T u ∷ []) ≡ Some (a, U) → Propagates rule K (T ++ unit_entry T u ∷ []) a U)
    → ◌≡◌ {A = Option (Closed × Trail)} (elim r [ Some u ↦ close_within rule n K (T ++ unit_entry T u ∷ []) | None ↦ Some (quiet, T) ]) (Some (a, U)) → Propagates rule K T a U
unit_step rule n K T U a (Some u) f p more k = grows f p (more u k)
unit_step rule n K T U a None f p more k = rw (← (same_parts k).0, ← (same_parts k).1) (rests f p)

close_step : (rule : Rule) (n : ℕ) (K : List Clause) (T U : Trail) (a : Closed) (r : Option ℕ) → least_false (literals T) K ≡ r
    → ((u : ℕ × Literal) → close_within rule n K (T ++ unit_entry T u ∷ []) ≡ Some (a, U) → Propagates rule K (T ++ unit_entry T u ∷ []) a U)
    → ◌≡◌ {A = Option (Closed × Trail)} (elim r [
      | Some k ↦ Some (conflict k, T)
      | None ↦ elim (rule T K) [ Some u ↦ close_within rule n K (T ++ unit_entry T u ∷ []) | None ↦ Some (quiet, T) ]
    ]) (Some (a, U)) → Propagates rule K T a U
close_step rule n K T U a (Some i) p more k = rw (← (same_parts k).0, ← (same_parts k).1) (clashes p)
close_step rule n K T U a None p more k = unit_step rule n K T U a (rule T K) p refl more k

pub close_within-Propagates : (rule : Rule) (n : ℕ) (K : List Clause) (T U : Trail) (a : Closed) → close_within rule n K T ≡ Some (a, U) → Propagates rule K T a U
close_within-Propagates rule zero K T U a h = absurd (cc)
close_within-Propagates rule (suc n) K T U a h = close_step rule n K T U a (least_false (literals T) K) refl (λ u k. close_within-Propagates rule n K (T ++ unit_entry T u ∷ []) U a k) h

-- a run, by a function that gives a step where it can
abbrev pub run_within : {State : Type 0} → ℕ → (State → Option (Next State)) → State → Option Outcome
run_within zero step s = None
run_within (suc n) step s = elim (step s) [
  | None ↦ None
  | Some r ↦ elim r [ ends o ↦ Some o | goes_on t ↦ run_within n step t ]
]

pub run_within-RunsFrom : {State : Type 0} (IsStep : State → Next State → Type 0) (step : State → Option (Next State)) → ((s : State) (n : Next State) → step s ≡ Some n → IsStep s n)
    → (n : ℕ) (s : State) (o : Outcome) → run_within n step s ≡ Some o → RunsFrom IsStep s o
run_within-RunsFrom IsStep step sound zero s o h = absurd (cc)
run_within-RunsFrom {State} IsStep step sound (suc n) s o h = go (step s) refl h (λ t k. run_within-RunsFrom IsStep step sound n t o k)
  where
    on : Next State → Option Outcome
    on r = elim r [ ends o ↦ Some o | goes_on t ↦ run_within n step t ]

    next : (r : Next State) → IsStep s r → on r ≡ Some o → ((t : State) → run_within n step t ≡ Some o → RunsFrom IsStep t o) → RunsFrom IsStep s o
    next (ends p) w k more = let one : p ≡ o = cc in stops (rw (← one) w)
    next (goes_on t) w k more = steps w (more t k)

    go : (r : Option (Next State)) → step s ≡ r → ◌≡◌ {A = Option Outcome} (elim r [ None ↦ None | Some q ↦ on q ]) (Some o)
        → ((t : State) → run_within n step t ≡ Some o → RunsFrom IsStep t o) → RunsFrom IsStep s o
    go None e k more = absurd (cc)
    go (Some r) e k more = next r (sound s r e) k more

-- the ordered search
abbrev pub then_after : ℕ → ℕ → OrderedState → Option (Closed × Trail) → Option (Next OrderedState)
then_after V budget s None = None
then_after V budget s (Some c) = Some (after V budget (record s { trail = c.1 }) c.0)

abbrev pub ordered_step : ℕ → ℕ → ℕ → OrderedState → Option (Next OrderedState)
ordered_step m V budget s = then_after V budget s (close_within by_number m s.clauses s.trail)

abbrev pub run : ℕ → Formula → ℕ → List Literal → Option Outcome
run n F B Q = run_within n (ordered_step n F.vars (budget_of B Q)) (begin F Q)

-- the focused search
abbrev pub then_focused : Constants → Formula → ℕ → FocusedState → Option (Closed × Trail) → Option (Next FocusedState)
then_focused c F budget s None = None
then_focused c F budget s (Some a) = Some (focused.after c F budget (focused.settled (record s { trail = a.1 })) a.0)

abbrev pub focused_step : Constants → ℕ → Formula → ℕ → FocusedState → Option (Next FocusedState)
focused_step c m F budget s = then_focused c F budget s (close_within by_place m s.clauses s.trail)

abbrev pub run_focused : Constants → ℕ → Formula → ℕ → List Literal → Option Outcome
run_focused c n F B Q = run_within n (focused_step c n F (budget_within max_focused B Q)) (focused.begin c F Q)

-- a tree, by a function that gives the outcomes of its cubes where it can
abbrev pub both : ℕ → Option Tree → Option Tree → Option Tree
both x (Some l) (Some r) = Some (split x l r)
both x l r = None

abbrev pub tree_by : ℕ → (List Literal → Option Outcome) → List Literal → Option Tree
tree_by zero outcome Q = None
tree_by (suc d) outcome Q = elim (outcome Q) [
  | None ↦ None
  | Some o ↦ elim o [ model M ↦ Some (satisfied M) | refuted lines ↦ Some (refutation lines) | exhausted x ↦ both x (tree_by d outcome (false_half Q x)) (tree_by d outcome (true_half Q x)) ]
]

abbrev pub tree : ℕ → ℕ → Formula → ℕ → List Literal → Option Tree
tree d n F B Q = tree_by d (run n F B) Q
