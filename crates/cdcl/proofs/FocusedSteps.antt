-- The steps of the focused search, as the definition has them.
use Rattle.std.proofs.Common.{◌≡◌, ℕ, zero, suc, ◌+◌, ◌-◌, ◌*◌, ◌^◌, ◌<◌, ◌≤◌, Bool, true, false, [], ◌∷◌, ◌++◌, length, length-append, refl, ap, sym, subst, ◌∙◌, nat_eq, eq-eqb, ◌⊎◌, inl, inr, Some, None, Result, Ok, Err, IfOk, All, arith, if◌then◌else◌}
use Rattle.theory.specs.Literals.{IsVariable, has_var}
use Rattle.theory.specs.Truth.{Formula, Assignment, IsOver, value}
use Rattle.theory.specs.Held.{held}
use Rattle.theory.specs.Trails.{Trail, Entry, literals, current_level}
use Rattle.theory.specs.Propagation.{Closed, quiet, conflict, by_place, Propagates, least_false}
use Rattle.theory.specs.Lawful.{IsLawful}
use Rattle.theory.specs.Learning.{learn}
use Rattle.theory.specs.Lessons.{lesson_of}
use Rattle.theory.specs.Modes.{is_restarting}
use Rattle.theory.specs.Plans.{Constants}
use Rattle.theory.specs.Search.{RunsFrom, stops, steps, Next, ends, goes_on, exhausted, values}
use Rattle.theory.specs.Dividing.{LeadsTo, stays, moves}
use Rattle.theory.specs.Search as search
use Rattle.theory.specs.Scores.{best_outside}
use Rattle.theory.specs.Focused as definition
use Rattle.theory.specs.Focused.{FocusedState, IsFocusedStep, saved_literal, decided_next, learnt_next, splits_on}
use Rattle.theory.proofs.searching.OpenTrails.{IsOpenBelow-decide}
use Rattle.theory.proofs.literals.OverVariables.{AreOver-from_IsOver}
use Rattle.theory.proofs.searching.SplitSoundness.{Propagates-more, has_var-front}
use Rattle.theory.proofs.trails.TrailLists.{literals-append}
use Rattle.kernel.specs.State.{State}
use Rattle.kernel.specs.declared.order.Order.TheVariants.{ByPlace}
use Rattle.cdcl.specs.declared.search.focused.FocusedSearch.{FocusedSearch}
use Rattle.cdcl.specs.declared.search.focused.Stop.{Stop}
use Rattle.cdcl.specs.declared.search.focused.Stop.TheVariants.{Ended, Spent}
use Rattle.cdcl.specs.declared.search.decisions.Decisions.{Decisions}
use Rattle.cdcl.specs.Outcome.{LinesOutcome, outcome_of}
use Rattle.cdcl.specs.Saving.{AreWaiting}
use Rattle.cdcl.specs.Searching.{formula_of}
use Rattle.cdcl.specs.Removing.{HasRoomFor}
use Rattle.cdcl.specs.Focusing.{state_of, RunsTo, HasSaved, HasUnits, IsEquipped, IsFocusing, IsSpent, Follows, GoesOnward, IsFocusedSearchStep, Reaches, Stops}
use Rattle.cdcl.proofs.SearchingLemmas.{IsSearching-Propagates}
use Rattle.cdcl.proofs.WaitingLemmas.{best-held, holds-still}
use Rattle.lookahead.proofs.TrailLengths.{length-lawful, length-Propagates}
use Rattle.cdcl.proofs.Progress.{remaining}

-- what is free on a longer trail is free on the shorter one
pub free-before : (T R : Trail) (v : ℕ) → has_var (literals (T ++ R)) v ≡ false → has_var (literals T) v ≡ false
free-before T R v h = has_var-front (literals T) (literals R) v (subst (λ P. has_var P v ≡ false) (literals-append T R) h)

pub AreWaiting-longer : (V : ℕ) (T R : Trail) (d : Decisions) → AreWaiting V (literals T) d → AreWaiting V (literals (T ++ R)) d
AreWaiting-longer V T R d h = record { vars = h.vars; long = h.long; saved = h.saved; flags = h.flags; waits = λ v k t free. h.waits v k t (free-before T R v free) }

-- the kernel has propagated
pub IsFocusing-Propagates : (s : FocusedSearch) (k : State) (a : Closed) → IsFocusing s → k.vars ≡ s.kernel.vars → k.clauses ≡ s.kernel.clauses → k.first ≡ s.kernel.first → k.order ≡ s.kernel.order → k.out_of_memory ≡ false
    → Propagates by_place s.kernel.clauses s.kernel.trail a k.trail → IsFocusing (record s { kernel = k })
IsFocusing-Propagates s k a f vars clauses first order memory closes =
    let more = Propagates-more by_place s.kernel.clauses s.kernel.trail k.trail a closes in record {
      searching = IsSearching-Propagates ByPlace s.kernel k a f.searching vars clauses first order memory closes;
      few = rw vars f.few;
      equipped = record {
        waiting = rw (vars, more.1) (AreWaiting-longer s.kernel.vars s.kernel.trail more.0 s.decisions f.equipped.waiting);
        seen = rw vars f.equipped.seen;
        levels = rw vars f.equipped.levels;
        removing = rw vars f.equipped.removing;
        scored = f.equipped.scored;
        averaged = f.equipped.averaged;
        held = rw (vars, clauses, first) f.equipped.held;
      };
      taken = f.taken;
      stable = f.stable;
      decided = let long = length-Propagates by_place s.kernel.clauses s.kernel.trail k.trail a closes in let most = f.decided in omega arith;
      learnt = rw (clauses, first) f.learnt;
      marks = f.marks;
      plain = rw (vars, clauses, first) f.plain;
    }

pub HasSaved-Propagates : (s : FocusedSearch) (k : State) (a : Closed) (saved : Assignment) → k.vars ≡ s.kernel.vars → Propagates by_place s.kernel.clauses s.kernel.trail a k.trail → HasSaved s saved
    → HasSaved (record s { kernel = k }) saved
HasSaved-Propagates s k a saved vars closes h v variable free =
    let more = Propagates-more by_place s.kernel.clauses s.kernel.trail k.trail a closes in
    h v (rw vars at variable) (free-before s.kernel.trail more.0 v (subst (λ (U : Trail). has_var (literals U) v ≡ false) more.1 free))

-- a decision
pub Follows-decided : (budget : ℕ) (s t : FocusedSearch) (saved : Assignment) (x : ℕ) → IsFocusing s → s.conflicts < budget → least_false (literals s.kernel.trail) s.kernel.clauses ≡ None
    → best_outside (held (formula_of s.kernel)) (literals s.kernel.trail) s.decisions.scores.scores ≡ Some x → HasSaved s saved
    → t.kernel ≡ record s.kernel { trail = s.kernel.trail ++ record { lit = saved_literal s.decisions.saved x; reason = None; level = current_level s.kernel.trail + 1 } ∷ [] }
    → IsLawful t.kernel.clauses t.kernel.trail → IsOver t.kernel.vars (literals t.kernel.trail) → All (IsOver t.kernel.vars) t.kernel.clauses
    → AreWaiting s.kernel.vars (literals s.kernel.trail) t.decisions → t.decisions.scores.scores ≡ s.decisions.scores.scores → t.decisions.scores.constants ≡ s.decisions.scores.constants
    → t.decisions.saved ≡ s.decisions.saved → t.decisions.held ≡ s.decisions.held → t ≡ record s { kernel = t.kernel; decisions = t.decisions; decided = s.decided + (if is_restarting s.pace.mode then 0 else 1) } → Follows budget quiet s saved None t
Follows-decided budget s t saved x f counted calm best has went lawful over clauses_over waiting scores constants same flags is = record {
  values = saved;
  next = ap (definition.on_quiet s.kernel.vars (state_of s saved)) best ∙ ap goes_on next;
  onward = record {
    saves = λ v variable free. ap (λ (M : Assignment). value M v) same ∙ has v (rw vars at variable) (free-before s.kernel.trail (e ∷ []) v (rw trail at free));
    focusing = focusing;
    counted = subst (λ (u : FocusedSearch). u.conflicts < budget) (sym is) counted;
    moves = inr (ap (λ (u : FocusedSearch). u.conflicts) is, let one = length-append s.kernel.trail (e ∷ []) in let long = ap length trail in omega arith);
  };
}
  where
    e : Entry
    e = record { lit = saved_literal s.decisions.saved x; reason = None; level = current_level s.kernel.trail + 1 }

    trail : t.kernel.trail ≡ s.kernel.trail ++ e ∷ []
    trail = ap (λ (k : State). k.trail) went

    vars : t.kernel.vars ≡ s.kernel.vars
    vars = ap (λ (k : State). k.vars) went

    clauses : t.kernel.clauses ≡ s.kernel.clauses
    clauses = ap (λ (k : State). k.clauses) went

    formula : formula_of t.kernel ≡ formula_of s.kernel
    formula = ap formula_of went

    x-is : IsVariable s.kernel.vars x × (has_var (literals s.kernel.trail) x ≡ false)
    x-is = best-held (formula_of s.kernel) (literals s.kernel.trail) s.decisions.scores.scores x best

    literal-is : saved_literal s.decisions.saved x ≡ saved_literal saved x
    literal-is = ap (λ b. record { var = x; positive = b }) (has x x-is.0 x-is.1)

    next : decided_next (state_of s saved) x ≡ state_of t saved
    next = sym (rw (trail, clauses, scores) (subst (λ (u : FocusedSearch). record {
      clauses = s.kernel.clauses;
      trail = s.kernel.trail ++ e ∷ [];
      lines = u.lines;
      marks = u.marks.items;
      conflicts = u.conflicts;
      stable_conflicts = u.stable_conflicts;
      decisions = u.decided;
      scores = s.decisions.scores.scores;
      saved = saved;
      averages = u.averages.glues;
      restarted = u.restarted;
      pace = u.pace;
      round = u.round;
    } ≡ decided_next (state_of s saved) x) (sym is) (rw literal-is refl)))

    at-most-one : (b : Bool) → (if b then 0 else 1) ≤ 1
    at-most-one true = omega arith
    at-most-one false = omega arith

    focusing : IsFocusing t
    focusing = record {
      searching = record {
        has_memory = ap (λ (k : State). k.out_of_memory) went ∙ f.searching.has_memory;
        in_order = ap (λ (k : State). k.order) went ∙ f.searching.in_order;
        few = rw vars f.searching.few;
        within = let a = ap length clauses in let b = ap (λ (k : State). k.first) went in let c = f.searching.within in omega arith;
        lawful = lawful;
        open_below = rw (clauses, trail) (IsOpenBelow-decide s.kernel.clauses s.kernel.trail (saved_literal s.decisions.saved x) f.searching.lawful calm f.searching.open_below);
        clauses_over = clauses_over;
        trail_over = over;
      };
      few = rw vars f.few;
      equipped = equipped;
      taken = subst (λ (u : FocusedSearch). u.averages.glues.count ≤ u.conflicts) (sym is) f.taken;
      stable = subst (λ (u : FocusedSearch). u.stable_conflicts ≤ u.conflicts) (sym is) f.stable;
      decided = subst (λ (u : FocusedSearch). u.decided ≤ u.conflicts * 2 ^ 27 + length t.kernel.trail) (sym is)
          (let one = length-append s.kernel.trail (e ∷ []) in let long = ap length trail in let most = f.decided in let more = at-most-one (is_restarting s.pace.mode) in omega arith);
      learnt = subst (λ (u : FocusedSearch). length t.kernel.clauses ≡ t.kernel.first + length u.lines) (sym is) (rw (clauses, ap (λ (k : State). k.first) went) f.learnt);
      marks = subst (λ (u : FocusedSearch). length u.marks.items ≡ length u.lines) (sym is) f.marks;
      plain = rw (vars, clauses, ap (λ (k : State). k.first) went) f.plain;
    }
      where
        equipped : IsEquipped t
        equipped = record {
          waiting = rw (vars, trail) (AreWaiting-longer s.kernel.vars s.kernel.trail (e ∷ []) t.decisions waiting);
          seen = subst (λ (u : FocusedSearch). t.kernel.vars < u.analysis.seen.bound) (sym is) (rw vars f.equipped.seen);
          levels = subst (λ (u : FocusedSearch). t.kernel.vars < u.analysis.levels.bound) (sym is) (rw vars f.equipped.levels);
          removing = subst (λ (u : FocusedSearch). HasRoomFor t.kernel.vars u.analysis.removing) (sym is) (rw vars f.equipped.removing);
          scored = subst (λ (u : FocusedSearch). t.decisions.scores.constants ≡ u.constants) (sym is) (constants ∙ f.equipped.scored);
          averaged = subst (λ (u : FocusedSearch). u.averages.constants ≡ u.constants) (sym is) f.equipped.averaged;
          held = holds-still (formula_of s.kernel) (formula_of t.kernel) s.decisions t.decisions formula flags f.equipped.held;
        }

-- a conflict at level 0
pub Follows-refuted : (last n : ℕ) (s t : FocusedSearch) (saved : Assignment) (o : LinesOutcome) → current_level s.kernel.trail ≡ 0
    → outcome_of o ≡ search.refuted (s.lines ++ learn s.kernel.clauses s.kernel.trail n ∷ []) → t.decided ≡ s.decided → Follows last (conflict n) s saved (Some (Ended o)) t
Follows-refuted last n s t saved o level is decided = record {
  values = saved;
  next = rw (eq-eqb (current_level s.kernel.trail) 0 level) (ap ends (sym is));
  onward = (decided, λ x e. (let both : search.refuted (s.lines ++ learn s.kernel.clauses s.kernel.trail n ∷ []) ≡ exhausted x = sym is ∙ e in cc));
}

-- the last conflict
pub Follows-spent : (last n : ℕ) (s : FocusedSearch) (saved : Assignment) → IsFocusing s → HasUnits s → nat_eq (current_level s.kernel.trail) 0 ≡ false → s.conflicts + 1 ≡ last
    → HasSaved s saved → Follows last (conflict n) s saved (Some Spent) s
Follows-spent last n s saved f units above counted has = record {
  values = saved;
  next = rw (above, eq-eqb (s.conflicts + 1) last counted) refl;
  onward = record {
    spent = record { focusing = f; units = units; above = positive (current_level s.kernel.trail) above; counted = counted };
    saves = has;
    decided = refl;
    stable = refl;
    resumes = λ later next w. w;
  };
}
  where
    positive : (n : ℕ) → nat_eq n 0 ≡ false → 1 ≤ n
    positive zero e = absurd (cc)
    positive (suc n) e = omega arith

pub Follows-learns : (budget n : ℕ) (s t : FocusedSearch) (saved values : Assignment) → nat_eq (current_level s.kernel.trail) 0 ≡ false → nat_eq (s.conflicts + 1) budget ≡ false → s.conflicts + 1 < budget
    → state_of t values ≡ learnt_next s.constants s.kernel.vars (state_of s saved) (lesson_of s.kernel.clauses s.kernel.trail n) → HasSaved t values → IsFocusing t
    → t.conflicts ≡ s.conflicts + 1 → Follows budget (conflict n) s saved None t
Follows-learns budget n s t saved values above more fewer next saves focusing counted = record {
  values = values;
  next = rw (above, more) (ap goes_on (sym next));
  onward = record { saves = saves; focusing = focusing; counted = rw counted fewer; moves = inl counted };
}

-- what goes on ends
more_left : (e V x y : ℕ) → x ≤ V + 1 → e * (V + 2) + x < (e + 1) * (V + 2) + y
more_left e V x y h = let product : (e + 1) * (V + 2) ≡ e * (V + 2) + (V + 2) = omega arith in omega (arith, product, h)

pub GoesOnward-less : (budget : ℕ) (s t : FocusedSearch) (saved : Assignment) → s.conflicts < budget → t.kernel.vars ≡ s.kernel.vars → GoesOnward budget s t saved
    → remaining s.kernel.vars budget t.conflicts t.kernel.trail < remaining s.kernel.vars budget s.conflicts s.kernel.trail
GoesOnward-less budget s t saved counted vars g = go g.moves
  where
    go : (t.conflicts ≡ s.conflicts + 1) ⊎ ((t.conflicts ≡ s.conflicts) × (length s.kernel.trail < length t.kernel.trail))
        → remaining s.kernel.vars budget t.conflicts t.kernel.trail < remaining s.kernel.vars budget s.conflicts s.kernel.trail
    go (inl one) =
        let e = budget - (s.conflicts + 1) in
        let left : budget - s.conflicts ≡ e + 1 = omega arith in
        rw (one, left) (more_left e s.kernel.vars (s.kernel.vars + 1 - length t.kernel.trail) (s.kernel.vars + 1 - length s.kernel.trail) (omega arith))
    go (inr longer) =
        let most : length t.kernel.trail ≤ t.kernel.vars = length-lawful t.kernel.vars t.kernel.clauses t.kernel.trail g.focusing.searching.lawful (AreOver-from_IsOver t.kernel.vars (literals t.kernel.trail) g.focusing.searching.trail_over) in
        let more = longer.1 in
        let v = vars in
        rw longer.0 (omega (arith, most, more, v))

-- the search went from s to t
abbrev pub GoesTo : ℕ → FocusedSearch → FocusedSearch → Type 0
GoesTo budget s t =
    (saved : Assignment) → HasSaved s saved → (now : Assignment) × HasSaved t now × LeadsTo (IsFocusedStep s.constants (formula_of s.kernel) budget) (state_of s saved) (state_of t now)

-- one step more
leads-step : {State : Type 0} (IsStep : State → Next State → Type 0) (s t u : State) → LeadsTo IsStep s t → IsStep t (goes_on u) → LeadsTo IsStep s u
leads-step IsStep s t u stays step = moves step stays
leads-step IsStep s t u (moves {t = m} first more) step = moves first (leads-step IsStep m t u more step)

-- a run is that of its last step
pub leads-runs : {State : Type 0} (IsStep : State → Next State → Type 0) (s t : State) (o : search.Outcome) → LeadsTo IsStep s t → IsStep t (ends o) → RunsFrom IsStep s o
leads-runs IsStep s t o stays last = stops last
leads-runs IsStep s t o (moves {t = m} first more) last = steps first (leads-runs IsStep m t o more last)

pub RunsTo-runs : (c : Constants) (F : Formula) (budget : ℕ) (s : FocusedState) (o : search.Outcome) (decided : ℕ) → RunsTo c F budget s o decided → RunsFrom (IsFocusedStep c F budget) s o
RunsTo-runs c F budget s o decided r = leads-runs (IsFocusedStep c F budget) s r.final o r.leads r.last

pub GoesTo-first : (budget : ℕ) (s : FocusedSearch) → GoesTo budget s s
GoesTo-first budget s saved h = (saved, h, stays)

-- a step of a search of the same formula with the same numbers is one of the first search
step-of : (last : ℕ) (s t : FocusedSearch) (x : FocusedState) (n : Next FocusedState) → t.constants ≡ s.constants → formula_of t.kernel ≡ formula_of s.kernel
    → IsFocusedStep t.constants (formula_of t.kernel) last x n → IsFocusedStep s.constants (formula_of s.kernel) last x n
step-of last s t x n constants formula w =
    subst (λ (G : Formula). IsFocusedStep s.constants G last x n) formula (subst (λ (c : Constants). IsFocusedStep c (formula_of t.kernel) last x n) constants w)

pub GoesTo-step : (budget : ℕ) (s t u : FocusedSearch) → t.constants ≡ s.constants → formula_of t.kernel ≡ formula_of s.kernel → GoesTo budget s t
    → ((saved : Assignment) → HasSaved t saved → IsFocusedSearchStep budget t saved None u) → GoesTo budget s u
GoesTo-step budget s t u constants formula leads step saved h =
    let l = leads saved h in
    let w = step l.0 l.1 in (
      w.values,
      w.onward.saves,
      leads-step (IsFocusedStep s.constants (formula_of s.kernel) budget) (state_of s saved) (state_of t l.0) (state_of u w.values) l.2
          (step-of budget s t (state_of t l.0) (goes_on (state_of u w.values)) constants formula w.step),
    )

-- where it stops
pub GoesTo-stops : (last : ℕ) (s t u : FocusedSearch) (stop : Stop) → t.constants ≡ s.constants → formula_of t.kernel ≡ formula_of s.kernel → formula_of u.kernel ≡ formula_of t.kernel → GoesTo last s t
    → ((saved : Assignment) → HasSaved t saved → IsFocusedSearchStep last t saved (Some stop) u)
    → (saved : Assignment) → HasSaved s saved → Stops s.constants (formula_of s.kernel) last (state_of s saved) stop u
GoesTo-stops last s t u (Ended o) constants formula same leads step saved h =
    let l = leads saved h in
    let w = step l.0 l.1 in
    (record { final = state_of t l.0; leads = l.2; last = step-of last s t (state_of t l.0) (ends (outcome_of o)) constants formula w.step; decided = sym w.onward.0 }, w.onward.1)
GoesTo-stops last s t u Spent constants formula same leads step saved h =
    let l = leads saved h in
    let w = step l.0 l.1 in record {
      final = state_of t l.0;
      values = w.values;
      leads = l.2;
      ends_there = subst (λ (G : Formula). IsFocusedStep s.constants (formula_of s.kernel) last (state_of t l.0) (ends (exhausted (splits_on G (state_of u w.values))))) (same ∙ formula)
          (step-of last s t (state_of t l.0) (ends (exhausted (splits_on (formula_of u.kernel) (state_of u w.values)))) constants formula w.step);
      saves = w.onward.saves;
      decided = sym w.onward.decided;
      stable = sym w.onward.stable;
      resumes = λ later next r. step-of later s t (state_of t l.0) next constants formula (w.onward.resumes later next (step-of later t s (state_of u w.values) next (sym constants) (sym formula) r));
    }

pub stops-spent : (last : ℕ) (s t : FocusedSearch) (saved : Assignment) (stop : Stop) → IsFocusedSearchStep last s saved (Some stop) t → stop ≡ Spent → IsSpent last t
stops-spent last s t saved (Ended o) w e = absurd (cc)
stops-spent last s t saved Spent w e = w.onward.spent

-- at its last conflict it is exhausted, if that is the last of its budget
pub Reaches-exhausted : (c : Constants) (F : Formula) (last x count : ℕ) (s : FocusedState) (t : FocusedSearch) → Reaches c F last s t → formula_of t.kernel ≡ F
    → ((saved : Assignment) → x ≡ splits_on (formula_of t.kernel) (state_of t saved)) → count ≡ t.decided → RunsTo c F last s (exhausted x) count
Reaches-exhausted c F last x count s t r formula splits same = record {
  final = r.final;
  leads = r.leads;
  last = subst (λ y. IsFocusedStep c F last r.final (ends (exhausted y))) (ap (λ (G : Formula). splits_on G (state_of t r.values)) (sym formula) ∙ sym (splits r.values)) r.ends_there;
  decided = r.decided ∙ sym same;
}

pub if_ok-map : {X E : Type 0} (r : Result X E) (P Q : X → Type 0) → ((x : X) → P x → Q x) → IfOk r P → IfOk r Q
if_ok-map (Ok x) P Q f h = f x h
if_ok-map (Err e) P Q f h = tt
