-- A search that may count more conflicts goes the same way as one that may count fewer, up to the
-- last conflict of that one.
use Rattle.std.proofs.Common.{◌≡◌, ◌≢◌, ℕ, ◌+◌, ◌<◌, ◌≤◌, Bool, true, false, ◌++◌, ◌∷◌, [], nat_eq, eqb-true, eq-eqb, Option, Some, None, refl, ap, ◌∙◌, if◌then◌else◌, arith}
use Rattle.theory.specs.Truth.{Formula, Assignment}
use Rattle.theory.specs.Held.{held}
use Rattle.theory.specs.Plans.{Constants}
use Rattle.theory.specs.Trails.{literals, current_level}
use Rattle.theory.specs.Propagation.{Closed, quiet, conflict}
use Rattle.theory.specs.Learning.{learn}
use Rattle.theory.specs.Lessons.{lesson_of}
use Rattle.theory.specs.Search.{Outcome, refuted, exhausted, Next, ends, goes_on, RunsFrom, stops, steps}
use Rattle.theory.specs.Scores.{best_outside}
use Rattle.theory.specs.Focused.{FocusedState, IsFocusedStep, settled, on_quiet, on_conflict, after, decided_next, learnt_next, splits_on}
use Rattle.theory.specs.Dividing.{LeadsTo, stays, moves}
use Rattle.theory.proofs.literals.LiteralSets.{true_false}
use Rattle.cdcl.specs.declared.search.focused.FocusedSearch.{FocusedSearch}
use Rattle.cdcl.specs.Focusing.{state_of, HasSaved, RunsTo, Reaches}
use Rattle.cdcl.proofs.NextStates.{learnt_next-flat}
use Rattle.cdcl.proofs.SettledSearches.{settled-of}
use Rattle.cdcl.proofs.FocusedSteps.{leads-runs, RunsTo-runs}

on_quiet-goes : (V : ℕ) (s t : FocusedState) (x : Option ℕ) → on_quiet V s x ≡ goes_on t → t.conflicts ≡ s.conflicts
on_quiet-goes V s t None e = absurd (cc)
on_quiet-goes V s t (Some x) e = let is : t ≡ decided_next s x = cc in ap (λ (u : FocusedState). u.conflicts) is

on_conflict-goes : (c : Constants) (F : Formula) (few many : ℕ) (s t : FocusedState) (n : ℕ) → few ≤ many → s.conflicts < few → on_conflict c F few s n ≡ goes_on t
    → (on_conflict c F many s n ≡ goes_on t) × (t.conflicts < few)
on_conflict-goes c F few many s t n within counted e = level (nat_eq (current_level s.trail) 0) e
  where
    count : (b d : Bool) → nat_eq (s.conflicts + 1) few ≡ b → nat_eq (s.conflicts + 1) many ≡ d
        → (if b then ends (exhausted (splits_on F s)) else goes_on (learnt_next c F.vars s (lesson_of s.clauses s.trail n))) ≡ goes_on t
        → ((if d then ends (exhausted (splits_on F s)) else goes_on (learnt_next c F.vars s (lesson_of s.clauses s.trail n))) ≡ goes_on t) × (t.conflicts < few)
    count true d is other q = absurd (cc)
    count false true is other q =
        let last : s.conflicts + 1 ≡ few → ⊥ = λ l. true_false (nat_eq (s.conflicts + 1) few) (eq-eqb (s.conflicts + 1) few l) is in
        let more = eqb-true (s.conflicts + 1) many other in
        absurd (last (omega arith))
    count false false is other q =
        let last : s.conflicts + 1 ≡ few → ⊥ = λ l. true_false (nat_eq (s.conflicts + 1) few) (eq-eqb (s.conflicts + 1) few l) is in
        let next : t ≡ learnt_next c F.vars s (lesson_of s.clauses s.trail n) = cc in
        let one : t.conflicts ≡ s.conflicts + 1 = ap (λ (u : FocusedState). u.conflicts) (next ∙ learnt_next-flat c F.vars s (lesson_of s.clauses s.trail n)) in
        (q, omega (arith, one, last))

    level : (b : Bool)
        → (if b then ends (refuted (s.lines ++ learn s.clauses s.trail n ∷ [])) else if nat_eq (s.conflicts + 1) few then ends (exhausted (splits_on F s)) else goes_on (learnt_next c F.vars s (lesson_of s.clauses s.trail n))) ≡ goes_on t
        → ((if b then ends (refuted (s.lines ++ learn s.clauses s.trail n ∷ [])) else if nat_eq (s.conflicts + 1) many then ends (exhausted (splits_on F s)) else goes_on (learnt_next c F.vars s (lesson_of s.clauses s.trail n))) ≡ goes_on t) × (t.conflicts < few)
    level true q = absurd (cc)
    level false q = count (nat_eq (s.conflicts + 1) few) (nat_eq (s.conflicts + 1) many) refl refl q

on_conflict-ends : (c : Constants) (F : Formula) (few many : ℕ) (s : FocusedState) (n : ℕ) (o : Outcome) → ((x : ℕ) → o ≢ exhausted x) → on_conflict c F few s n ≡ ends o → on_conflict c F many s n ≡ ends o
on_conflict-ends c F few many s n o own e = level (nat_eq (current_level s.trail) 0) e
  where
    count : (b : Bool) → (if b then ends (exhausted (splits_on F s)) else goes_on (learnt_next c F.vars s (lesson_of s.clauses s.trail n))) ≡ ends o → ⊥
    count true q = own (splits_on F s) (let same : o ≡ exhausted (splits_on F s) = cc in same)
    count false q = absurd (cc)

    level : (b : Bool)
        → (if b then ends (refuted (s.lines ++ learn s.clauses s.trail n ∷ [])) else if nat_eq (s.conflicts + 1) few then ends (exhausted (splits_on F s)) else goes_on (learnt_next c F.vars s (lesson_of s.clauses s.trail n))) ≡ ends o
        → (if b then ends (refuted (s.lines ++ learn s.clauses s.trail n ∷ [])) else if nat_eq (s.conflicts + 1) many then ends (exhausted (splits_on F s)) else goes_on (learnt_next c F.vars s (lesson_of s.clauses s.trail n))) ≡ ends o
    level true q = q
    level false q = absurd (count (nat_eq (s.conflicts + 1) few) q)

after-goes : (c : Constants) (F : Formula) (few many : ℕ) (s t : FocusedState) (a : Closed) → few ≤ many → s.conflicts < few → after c F few s a ≡ goes_on t → (after c F many s a ≡ goes_on t) × (t.conflicts < few)
after-goes c F few many s t quiet within counted e = (e, let same = on_quiet-goes F.vars s t (best_outside (held F) (literals s.trail) s.scores) e in omega (arith, same, counted))
after-goes c F few many s t (conflict n) within counted e = on_conflict-goes c F few many s t n within counted e

after-ends : (c : Constants) (F : Formula) (few many : ℕ) (s : FocusedState) (a : Closed) (o : Outcome) → ((x : ℕ) → o ≢ exhausted x) → after c F few s a ≡ ends o → after c F many s a ≡ ends o
after-ends c F few many s quiet o own e = e
after-ends c F few many s (conflict n) o own e = on_conflict-ends c F few many s n o own e

-- the steps before the last one
leads-longer : (c : Constants) (F : Formula) (few many : ℕ) (s t : FocusedState) → few ≤ many → s.conflicts < few → LeadsTo (IsFocusedStep c F few) s t → LeadsTo (IsFocusedStep c F many) s t
leads-longer c F few many s t within counted stays = stays
leads-longer c F few many s t within counted (moves {t = u} w more) =
    let next = after-goes c F few many (settled (record s { trail = w.trail })) u w.answer within (rw (settled-of (λ x. x.conflicts) (record s { trail = w.trail }) (λ x. refl)) counted) w.follows in
    moves (record { answer = w.answer; trail = w.trail; propagates = w.propagates; follows = next.0 }) (leads-longer c F few many u t within next.1 more)

-- an outcome that it comes to by itself
pub RunsTo-longer : (c : Constants) (F : Formula) (few many count : ℕ) (s : FocusedState) (o : Outcome) → few ≤ many → s.conflicts < few → ((x : ℕ) → o ≢ exhausted x) → RunsTo c F few s o count
    → RunsFrom (IsFocusedStep c F many) s o
RunsTo-longer c F few many count s o within counted own r =
    let w = r.last in
    leads-runs (IsFocusedStep c F many) s r.final o (leads-longer c F few many s r.final within counted r.leads)
    (record { answer = w.answer; trail = w.trail; propagates = w.propagates; follows = after-ends c F few many (settled (record r.final { trail = w.trail })) w.answer o own w.follows })

-- a run from a state that steps as another one is a run from that one
runs-as : {State : Type 0} (IsStep : State → Next State → Type 0) (s t : State) (o : Outcome) → ((n : Next State) → IsStep t n → IsStep s n) → RunsFrom IsStep t o → RunsFrom IsStep s o
runs-as IsStep s t o same (stops w) = stops (same (ends o) w)
runs-as IsStep s t o same (steps {t = u} w more) = steps (same (goes_on u) w) more

-- and so is what follows it
leads-before : {State : Type 0} (IsStep : State → Next State → Type 0) (s t : State) (o : Outcome) → LeadsTo IsStep s t → RunsFrom IsStep t o → RunsFrom IsStep s o
leads-before IsStep s t o stays runs = runs
leads-before IsStep s t o (moves {t = u} w more) runs = steps w (leads-before IsStep u t o more runs)

-- what it comes to from its last conflict on
pub Reaches-longer : (c : Constants) (F : Formula) (few many count : ℕ) (s : FocusedState) (t : FocusedSearch) (o : Outcome) → few ≤ many → s.conflicts < few → Reaches c F few s t
    → ((saved : Assignment) → HasSaved t saved → RunsTo c F many (state_of t saved) o count) → RunsFrom (IsFocusedStep c F many) s o
Reaches-longer c F few many count s t o within counted r runs =
    leads-before (IsFocusedStep c F many) s r.final o (leads-longer c F few many s r.final within counted r.leads)
    (runs-as (IsFocusedStep c F many) r.final (state_of t r.values) o (r.resumes many) (RunsTo-runs c F many (state_of t r.values) o count (runs r.values r.saves)))
