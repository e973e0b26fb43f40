-- A step of the focused search: propagation, the units of level 0, and what follows.
use Rattle.std.proofs.Common.{◌≡◌, ℕ, zero, suc, ◌+◌, ◌<◌, ◌≤◌, Bool, true, false, List, [], ◌∷◌, ◌++◌, length, take, refl, ap, sym, subst, ◌∙◌, nat_eq, eqb-true, ◌⊎◌, inl, inr, Option, Some, None, Result, Ok, Err, IfOk, OnOk, arith, if◌then◌else◌}
use Rattle.std.proofs.lemmas.List.{take_at}
use Rattle.theory.specs.Literals.{Clause}
use Rattle.theory.specs.Plans.{Constants}
use Rattle.theory.specs.Truth.{Formula, Assignment}
use Rattle.theory.specs.Held.{held}
use Rattle.theory.specs.Trails.{Trail, literals, current_level, up_to}
use Rattle.theory.specs.Propagation.{Closed, quiet, conflict, by_place, Propagates}
use Rattle.theory.specs.Lessons.{lesson_of}
use Rattle.theory.specs.Learning.{learn}
use Rattle.theory.specs.Modes.{is_restarting}
use Rattle.theory.specs.Scores.{best_outside}
use Rattle.theory.specs.Search.{Next, ends, goes_on, exhausted, refuted}
use Rattle.theory.specs.Units.{Units, units_of, AreUnits}
use Rattle.theory.specs.Focused as definition
use Rattle.theory.specs.Focused.{FocusedState, settled, with_units_of, learnt_next, splits_on}
use Rattle.theory.proofs.literals.LiteralSets.{false_unless}
use Rattle.theory.proofs.trails.LawfulTrails.{Propagates-conflict}
use Rattle.theory.proofs.trails.TrailLevels.{up_to-current}
use Rattle.theory.proofs.searching.OpenTrails.{up_to-Propagates}
use Rattle.theory.proofs.searching.SplitSoundness.{Propagates-more}
use Rattle.theory.proofs.searching.PropagationLemmas.{Propagates-rests}
use Rattle.theory.proofs.searching.Invariants.{Kept, IsInvariant}
use Rattle.theory.proofs.searching.FocusedRuns.{Keeps, step-goes}
use Rattle.lookahead.proofs.TrailLengths.{length-Propagates}
use Rattle.kernel.specs.State.{State}
use Rattle.cdcl.specs.declared.search.focused.FocusedSearch.{FocusedSearch}
use Rattle.cdcl.specs.declared.search.focused.Stop.{Stop}
use Rattle.cdcl.specs.declared.search.focused.Stop.TheVariants.{Ended, Spent}
use Rattle.cdcl.specs.Saving.{AgreeOutside}
use Rattle.cdcl.specs.Searching.{formula_of}
use Rattle.cdcl.specs.Focusing.{state_of, stable_at, HasSaved, HasUnits, IsFocusing, StepsAs, Answers, IsSettled, Closes, Continues, Follows, Onward, IsFocusedSearchStep, next_of}
use Rattle.cdcl.proofs.SearchedFormulas.{formula-stays}
use Rattle.cdcl.proofs.Steps.{GoesOn-trans}
use Rattle.cdcl.proofs.SettledSearches.{settled-of}
use Rattle.cdcl.proofs.FocusedSteps.{HasSaved-Propagates}

pub Continues-trans : (s m t : FocusedSearch) → Continues s m → Continues m t → Continues s t
Continues-trans s m t a b = record { goes_on = GoesOn-trans s.kernel m.kernel t.kernel a.goes_on b.goes_on; constants = b.constants ∙ a.constants; equipped = b.equipped }

-- where propagation ended at level 0, the entries from before are units
pub units-before : (s : FocusedSearch) (k : State) (a : Closed) (from : ℕ) → IsFocusing s → HasUnits s → k.clauses ≡ s.kernel.clauses → from ≡ length s.kernel.trail
    → Propagates by_place s.kernel.clauses s.kernel.trail a k.trail → current_level k.trail ≡ 0 → AreUnits k.clauses (take from k.trail)
units-before s k a from f units clauses long closes level =
    let more = Propagates-more by_place s.kernel.clauses s.kernel.trail k.trail a closes in
    let low : current_level s.kernel.trail ≡ 0 = sym more.2 ∙ level in
    let all : up_to s.kernel.trail 0 ≡ s.kernel.trail = ap (up_to s.kernel.trail) (sym low) ∙ up_to-current s.kernel.clauses s.kernel.trail f.searching.lawful in
    rw clauses (subst (AreUnits s.kernel.clauses) (all ∙ sym (ap (take from) more.1 ∙ take_at s.kernel.trail more.0 from (sym long))) units)

-- where it ended above level 0, those of level 0 are
pub units-above : (s : FocusedSearch) (k : State) (a : Closed) → HasUnits s → k.clauses ≡ s.kernel.clauses → Propagates by_place s.kernel.clauses s.kernel.trail a k.trail
    → 1 ≤ current_level k.trail → AreUnits k.clauses (up_to k.trail 0)
units-above s k a units clauses closes above =
    let more = Propagates-more by_place s.kernel.clauses s.kernel.trail k.trail a closes in
    let same = more.2 in
    rw clauses (subst (AreUnits s.kernel.clauses) (sym (up_to-Propagates by_place s.kernel.clauses s.kernel.trail k.trail a 0 closes (omega (arith, same, above)))) units)

-- propagation left the kernel k, and behind the units the search is n
pub Closes-settled : (s n : FocusedSearch) (k : State) (a : Closed) → k.vars ≡ s.kernel.vars → k.clauses ≡ s.kernel.clauses → k.first ≡ s.kernel.first → k.order ≡ s.kernel.order → k.out_of_memory ≡ false
    → Propagates by_place s.kernel.clauses s.kernel.trail a k.trail
    → ((b : Closed) (U : Trail) → Propagates by_place s.kernel.clauses k.trail b U → Propagates by_place s.kernel.clauses s.kernel.trail b U)
    → IsSettled (record s { kernel = k }) n → Closes s a n
Closes-settled s n k a vars clauses first order memory closes more i = record {
  trail = k.trail;
  propagates = closes;
  state = state;
  answers = answers a closes;
  focusing = i.focusing;
  units = i.units;
  continues = record {
    goes_on = GoesOn-trans s.kernel k n.kernel (vars, first, ap (λ (K : List Clause). take s.kernel.first K) clauses, memory, order) i.continues.goes_on;
    constants = i.continues.constants;
    equipped = i.continues.equipped;
  };
  saves = λ saved has. rw (i.continues.goes_on.0, i.literals_stay) (subst (λ (M : Assignment). AgreeOutside k.vars (literals k.trail) M saved) (sym i.saved) (HasSaved-Propagates s k a saved vars closes has));
  longer = let long = length-Propagates by_place s.kernel.clauses s.kernel.trail k.trail a closes in let same = i.long in omega (arith, long, same);
  resumes = λ above saved. subst (StepsAs s.constants (formula_of s.kernel) (state_of s saved)) (sym (state saved ∙ stays above saved)) (as-before saved);
}
  where
    state : (saved : Assignment) → state_of n saved ≡ settled (record (state_of s saved) { trail = k.trail })
    state saved = i.state saved ∙ ap (λ (K : List Clause). settled (record (state_of s saved) { clauses = K; trail = k.trail })) clauses

    answers : (a : Closed) → Propagates by_place s.kernel.clauses s.kernel.trail a k.trail → Answers a n
    answers quiet h = i.rests (rw clauses (Propagates-rests _ _ _ _ h))
    answers (conflict m) h = i.conflict m (rw clauses (Propagates-conflict _ _ _ _ _ h))

    -- above level 0 there are no units
    stays : 1 ≤ current_level n.kernel.trail → (saved : Assignment) → settled (record (state_of s saved) { trail = k.trail }) ≡ record (state_of s saved) { trail = k.trail }
    stays above saved =
        let x : FocusedState = record (state_of s saved) { trail = k.trail } in
        ap (λ b. if b then with_units_of x (units_of x.clauses x.trail) else x)
        (false_unless (nat_eq (current_level k.trail) 0) (λ t. let none = eqb-true (current_level k.trail) 0 t in let same = i.level in omega (arith, none, same, above)))

    -- from the trail that propagation left it steps as from the one before
    as-before : (saved : Assignment) → StepsAs s.constants (formula_of s.kernel) (state_of s saved) (record (state_of s saved) { trail = k.trail })
    as-before saved last next w = record { answer = w.answer; trail = w.trail; propagates = more w.answer w.trail w.propagates; follows = w.follows }

-- it is above level 0 where it is exhausted
above-exhausted : (c : Constants) (F : Formula) (last x : ℕ) (s : FocusedState) (a : Closed) → definition.after c F last s a ≡ ends (exhausted x) → 1 ≤ current_level s.trail
above-exhausted c F last x s quiet e = go (best_outside (held F) (literals s.trail) s.scores) e
  where
    go : (o : Option ℕ) → definition.on_quiet F.vars s o ≡ ends (exhausted x) → 1 ≤ current_level s.trail
    go None e = absurd (cc)
    go (Some y) e = absurd (cc)
above-exhausted c F last x s (conflict n) e = go (nat_eq (current_level s.trail) 0) refl e
  where
    Rest : Next FocusedState
    Rest = if nat_eq (s.conflicts + 1) last then ends (exhausted (splits_on F s)) else goes_on (learnt_next c F.vars s (lesson_of s.clauses s.trail n))

    positive : (m : ℕ) → nat_eq m 0 ≡ false → 1 ≤ m
    positive zero h = absurd (cc)
    positive (suc m) h = omega arith

    go : (b : Bool) → nat_eq (current_level s.trail) 0 ≡ b → (if b then ends (refuted (s.lines ++ learn s.clauses s.trail n ∷ [])) else Rest) ≡ ends (exhausted x) → 1 ≤ current_level s.trail
    go true level e = absurd (cc)
    go false level e = positive (current_level s.trail) level

-- what is counted stays
counted-of : {X : Type 0} (s n : FocusedSearch) (a : Closed) (g : FocusedState → X) → ((x : FocusedState) (u : Units) → g (with_units_of x u) ≡ g x) → ((x : FocusedState) (T : Trail) → g (record x { trail = T }) ≡ g x)
    → Closes s a n → (saved : Assignment) → g (state_of n saved) ≡ g (state_of s saved)
counted-of s n a g units trail c saved =
    let x : FocusedState = record (state_of s saved) { trail = c.trail } in
    ap g (c.state saved) ∙ (settled-of g x (units x) ∙ trail (state_of s saved) c.trail)

pub closes-conflicts : (s n : FocusedSearch) (a : Closed) → Closes s a n → n.conflicts ≡ s.conflicts
closes-conflicts s n a c = counted-of s n a (λ x. x.conflicts) (λ x u. refl) (λ x T. refl) c s.decisions.saved

-- a step from what propagation and the units left
pub step-from : {E : Type 0} (last : ℕ) (s n t : FocusedSearch) (a : Closed) (r : Result (Option Stop) E) → Closes s a n → IfOk r (λ o. (saved : Assignment) → HasSaved n saved → Follows last a n saved o t)
    → IfOk r (λ o. (saved : Assignment) → HasSaved s saved → IsFocusedSearchStep last s saved o t)
step-from last s n t a (Err e) c h = tt
step-from last s n t a (Ok o) c h = λ saved has.
    let f = h saved (c.saves saved has) in record {
      values = f.values;
      step = record { answer = a; trail = c.trail; propagates = c.propagates; follows = same saved ∙ f.next };
      onward = onward saved o f.values f.next f.onward;
    }
  where
    constants : n.constants ≡ s.constants
    constants = c.continues.constants

    formula : formula_of n.kernel ≡ formula_of s.kernel
    formula = formula-stays s.kernel n.kernel c.continues.goes_on

    same : (saved : Assignment) → definition.after s.constants (formula_of s.kernel) last (settled (record (state_of s saved) { trail = c.trail })) a
        ≡ definition.after n.constants (formula_of n.kernel) last (state_of n saved) a
    same saved =
        sym (ap (λ (x : FocusedState). definition.after s.constants (formula_of s.kernel) last x a) (c.state saved))
        ∙ (ap (λ (G : Formula). definition.after s.constants G last (state_of n saved) a) (sym formula) ∙ ap (λ d. definition.after d (formula_of n.kernel) last (state_of n saved) a) (sym constants))

    steps : (x y : FocusedState) → StepsAs n.constants (formula_of n.kernel) x y → StepsAs s.constants (formula_of s.kernel) x y
    steps x y h = subst (λ (G : Formula). StepsAs s.constants G x y) formula (subst (λ (d : Constants). StepsAs d (formula_of n.kernel) x y) constants h)

    decided : n.decided ≡ s.decided
    decided = counted-of s n a (λ x. x.decisions) (λ x u. refl) (λ x T. refl) c s.decisions.saved

    stable : stable_at n ≡ stable_at s
    stable = counted-of s n a (λ x. x.stable_conflicts + (if is_restarting x.pace.mode then 0 else 1)) (λ x u. refl) (λ x T. refl) c s.decisions.saved

    conflicts : n.conflicts ≡ s.conflicts
    conflicts = closes-conflicts s n a c

    onward : (saved : Assignment) (o : Option Stop) (values : Assignment) → definition.after n.constants (formula_of n.kernel) last (state_of n saved) a ≡ next_of o t values → Onward last n saved o t values → Onward last s saved o t values
    onward saved (Some (Ended o)) values next i = (i.0 ∙ decided, i.1)
    onward saved (Some Spent) values next i =
        let above = above-exhausted n.constants (formula_of n.kernel) last (splits_on (formula_of t.kernel) (state_of t values)) (state_of n saved) a next in
        let more = steps (state_of n saved) (state_of t values) i.resumes in record {
          spent = i.spent;
          saves = i.saves;
          decided = i.decided ∙ decided;
          stable = i.stable ∙ stable;
          resumes = λ later next w. c.resumes above saved later next (more later next w);
        }
    onward saved None values next i = record { saves = i.saves; focusing = i.focusing; counted = i.counted; moves = moves i.moves }
      where
        moves : (t.conflicts ≡ n.conflicts + 1) ⊎ ((t.conflicts ≡ n.conflicts) × (length n.kernel.trail < length t.kernel.trail)) → (t.conflicts ≡ s.conflicts + 1) ⊎ ((t.conflicts ≡ s.conflicts) × (length s.kernel.trail < length t.kernel.trail))
        moves (inl e) = inl (e ∙ ap (λ k. k + 1) conflicts)
        moves (inr m) = inr (m.0 ∙ conflicts, let more = m.1 in let before = c.longer in omega arith)

-- what says nothing is kept
Nothing : Kept
Nothing C T lines = Unit {0}

nothing-kept : (vs : List ℕ) → IsInvariant (Unit {0}) by_place vs Nothing
unfolding Nothing
nothing-kept vs = record {
  propagated = λ C T U lines a h p. tt;
  unit = λ C before e es lines n level reason units p. tt;
  decided = λ C T lines l h v free p. tt;
  learnt = λ R C T lines n ns level h above low own free p. tt;
}

-- behind a step that goes on the reasons of level 0 are clauses of one literal
goes-units : (last : ℕ) (s t : FocusedSearch) (o : Option Stop) → IsFocusing s → HasUnits s → ((saved : Assignment) → HasSaved s saved → IsFocusedSearchStep last s saved o t) → o ≡ None → HasUnits t
unfolding Nothing
goes-units last s t None f units h none =
    let saved = s.decisions.saved in
    let w = h saved (λ v k free. refl) in
    let k : Keeps (Unit {0}) Nothing (state_of t w.values)
    = step-goes s.constants (formula_of s.kernel) (Unit {0}) Nothing (nothing-kept (held (formula_of s.kernel))) last (state_of s saved) (goes_on (state_of t w.values)) (record { kept = tt; grounded = λ x. (f.searching.lawful, units); marks = f.marks }) w.step in
    (k.grounded tt).1
goes-units last s t (Some stop) f units h none = absurd (cc)

pub step-units : {E : Type 0} (last : ℕ) (s t : FocusedSearch) (r : Result (Option Stop) E) → IsFocusing s → HasUnits s → IfOk r (λ o. (saved : Assignment) → HasSaved s saved → IsFocusedSearchStep last s saved o t)
    → IfOk r (λ o. o ≡ None → HasUnits t)
step-units last s t (Err e) f units h = tt
step-units last s t (Ok o) f units h = goes-units last s t o f units h

-- the search goes on as from before
pub kept-from : {X E : Type 0} (s n t : FocusedSearch) (r : Result X E) → Continues s n → OnOk r (Continues n t) → OnOk r (Continues s t)
kept-from s n t (Ok x) a b = Continues-trans s n t a b
kept-from s n t (Err e) a b = tt
