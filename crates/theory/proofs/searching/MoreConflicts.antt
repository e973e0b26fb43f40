-- What the focused search finds within some conflicts it finds within more of them too.
use Rattle.std.proofs.Common.{◌≡◌, ℕ, ◌+◌, ◌*◌, ◌≤◌, ◌<◌, min, Bool, true, false, ◌||◌, List, [], ◌∷◌, ◌++◌, length, refl, sym, ap, ◌∙◌, subst, nat_eq, eqb-true, eq-eqb, arith, Option, Some, None, if◌then◌else◌}
use Rattle.theory.specs.Truth.{Formula}
use Rattle.theory.specs.Plans.{Constants, Search, ordered, focused, Plan}
use Rattle.theory.specs.Trails.{Trail, current_level, literals, up_to}
use Rattle.theory.specs.Propagation.{Closed, quiet, conflict}
use Rattle.theory.specs.Learning.{Line, learn, back_level}
use Rattle.theory.specs.Lessons.{Lesson, lesson_of}
use Rattle.theory.specs.Restarts.{restarts}
use Rattle.theory.specs.Rephasing.{is_over}
use Rattle.theory.specs.Units.{units_of}
use Rattle.theory.specs.Search.{Outcome, model, refuted, exhausted, Next, ends, goes_on, RunsFrom, stops, steps, budget_within, max_focused, values}
use Rattle.theory.specs.Scores.{best_outside}
use Rattle.theory.specs.Held.{held}
use Rattle.theory.specs.Focused.{FocusedState, begin, with_units_of, settled, weighed, gone_back, to_forget, round_ended, with_lesson, learnt_next, decided_next, splits_on, on_conflict, on_quiet, after, IsFocusedStep, RunsFocused}
use Rattle.theory.specs.Dividing.{LeadsTo, stays, moves, HasFewDecisions, IsDivisible, IsDivisibleBy, first_conflicts, IsLookedAt}
use Rattle.theory.specs.Runs.{RunsBy, Runs, by_search, by_look}
use Rattle.theory.specs.Beginnings.{first_tried, IsHard, IsToSimplify}
use Rattle.theory.proofs.searching.FocusedRuns.{RunsFocused-unique}

-- the outcome decides the cube
abbrev pub Decides : Outcome → Type 0
Decides o = (x : ℕ) → ¬ (o ≡ exhausted x)

-- a step doesn't exhaust the cube
abbrev Stays : Next FocusedState → Type 0
Stays (ends o) = Decides o
Stays (goes_on s) = Unit {0}

-- and fewer than t conflicts are met then
abbrev Within : ℕ → Next FocusedState → Type 0
Within t (ends o) = Unit {0}
Within t (goes_on s) = s.conflicts < t

settled-conflicts : (s : FocusedState) → (settled s).conflicts ≡ s.conflicts
settled-conflicts s = go (nat_eq (current_level s.trail) 0)
  where
    go : (b : Bool) → (if b then with_units_of s (units_of s.clauses s.trail) else s).conflicts ≡ s.conflicts
    go true = refl
    go false = refl

gone_back-conflicts : (b : Bool) (level : ℕ) (s : FocusedState) → (gone_back b level s).conflicts ≡ s.conflicts
gone_back-conflicts true level s = refl
gone_back-conflicts false level s = refl

-- behind a conflict, whether or not a round is over
over-conflicts : (c : Constants) (s w : FocusedState) (l : Lesson) (more over : Bool) → w.conflicts ≡ s.conflicts + 1
    → (if over then with_lesson (round_ended c (gone_back (over || more) (back_level s.trail l.line.clause) w)) l (to_forget c (gone_back (over || more) (back_level s.trail l.line.clause) w))
    else with_lesson (gone_back (over || more) (back_level s.trail l.line.clause) w) l []).conflicts ≡ s.conflicts + 1
over-conflicts c s w l more true e = gone_back-conflicts true (back_level s.trail l.line.clause) w ∙ e
over-conflicts c s w l more false e = gone_back-conflicts more (back_level s.trail l.line.clause) w ∙ e

learnt-conflicts : (c : Constants) (V : ℕ) (s : FocusedState) (l : Lesson) → (learnt_next c V s l).conflicts ≡ s.conflicts + 1
learnt-conflicts c V s l =
    let w = weighed c V s l in
    over-conflicts c s w l (restarts c w.pace.mode w.restarted w.conflicts w.averages) (is_over w.round w.conflicts) refl

-- a conflict, by cases of the level and of whether it is the last one within t or within B
conflict-cases : (t : ℕ) (lines : List Line) (x : ℕ) (u : FocusedState) (next : Next FocusedState) (a b d : Bool) → (b ≡ false → (d ≡ false) × (u.conflicts < t)) → Stays next
    → (if a then ends (refuted lines) else if b then ends (exhausted x) else goes_on u) ≡ next
    → ((if a then ends (refuted lines) else if d then ends (exhausted x) else goes_on u) ≡ next) × Within t next
conflict-cases t lines x u next true b d more may e = (e, subst (Within t) e tt)
conflict-cases t lines x u next false true d more may e = absurd ((subst Stays (sym e) may) x refl)
conflict-cases t lines x u next false false true more may e = absurd (let m = (more refl).0 in cc)
conflict-cases t lines x u next false false false more may e = (e, subst (Within t) e (more refl).1)

not-last : (n t B : ℕ) → n < t → t ≤ B → nat_eq (n + 1) t ≡ false → (nat_eq (n + 1) B ≡ false) × (n + 1 < t)
not-last n t B less more later = (go (nat_eq (n + 1) B) refl, below)
  where
    below : n + 1 < t
    below = let other : ¬ (n + 1 ≡ t) = λ e. absurd (let is = eq-eqb (n + 1) t e in cc) in omega (arith, other)

    go : (b : Bool) → nat_eq (n + 1) B ≡ b → nat_eq (n + 1) B ≡ false
    go true q = absurd (let e = eqb-true (n + 1) B q in let b = below in omega (arith, e, b))
    go false q = q

after-more : (c : Constants) (F : Formula) (t B : ℕ) (s : FocusedState) (a : Closed) (next : Next FocusedState) → s.conflicts < t → t ≤ B → Stays next → after c F t s a ≡ next → (after c F B s a ≡ next) × Within t next
after-more c F t B s quiet next less more may e = (e, go (best_outside (held F) (literals s.trail) s.scores) e)
  where
    go : (best : Option ℕ) → on_quiet F.vars s best ≡ next → Within t next
    go None q = subst (Within t) q tt
    go (Some x) q = subst (Within t) q less
after-more c F t B s (conflict n) next less more may e =
    let l = lesson_of s.clauses s.trail n in
    let u = learnt_next c F.vars s l in
    conflict-cases t (s.lines ++ learn s.clauses s.trail n ∷ []) (splits_on F s) u next (nat_eq (current_level s.trail) 0) (nat_eq (s.conflicts + 1) t) (nat_eq (s.conflicts + 1) B)
    (λ later. let last = not-last s.conflicts t B less more later in (last.0, subst (λ k. k < t) (sym (learnt-conflicts c F.vars s l)) last.1)) may e

step-more : (c : Constants) (F : Formula) (t B : ℕ) (s : FocusedState) (next : Next FocusedState) → s.conflicts < t → t ≤ B → Stays next → IsFocusedStep c F t s next → IsFocusedStep c F B s next × Within t next
step-more c F t B s next less more may w =
    let u = record s { trail = w.trail } in
    let h = after-more c F t B (settled u) w.answer next (subst (λ k. k < t) (sym (settled-conflicts u)) less) more may w.follows in
    (record { answer = w.answer; trail = w.trail; propagates = w.propagates; follows = h.0 }, h.1)

runs-more : (c : Constants) (F : Formula) (t B : ℕ) (s : FocusedState) (o : Outcome) → s.conflicts < t → t ≤ B → Decides o → RunsFrom (IsFocusedStep c F t) s o → RunsFrom (IsFocusedStep c F B) s o
runs-more c F t B s o less more d (stops w) = stops ((step-more c F t B s (ends o) less more d w).0)
runs-more c F t B s o less more d (steps {t = u} w rest) =
    let h = step-more c F t B s (goes_on u) less more tt w in
    steps h.0 (runs-more c F t B u o h.1 more d rest)

-- so it is of whole searches of the cube without literals
pub RunsFocused-more : (c : Constants) (F : Formula) (t B : ℕ) (o : Outcome) → 1 ≤ t → t ≤ B → Decides o → RunsFocused c F t [] o → RunsFocused c F B [] o
RunsFocused-more c F t B o some more d runs =
    runs-more c F (budget_within max_focused t []) (budget_within max_focused B []) (begin c F []) o (within t some) (grows t B more) d runs
  where
    within : (n : ℕ) → 1 ≤ n → 0 < min (n * 1) max_focused
    within n h = omega arith

    grows : (n m : ℕ) → n ≤ m → min (n * 1) max_focused ≤ min (m * 1) max_focused
    grows n m h = omega arith

-- the search that leads to an end ends so
LeadsTo-RunsFrom : {State : Type 0} {IsStep : State → Next State → Type 0} (s u : State) (o : Outcome) → LeadsTo IsStep s u → IsStep u (ends o) → RunsFrom IsStep s o
LeadsTo-RunsFrom s u o stays w = stops w
LeadsTo-RunsFrom s u o (moves {t = t} h more) w = steps h (LeadsTo-RunsFrom t u o more w)

-- what is divided isn't decided by fewer conflicts
few-hard : (F : Formula) (c : Constants) (o : Outcome) (t n : ℕ) → 1 ≤ t → t ≤ n → n ≤ max_focused → Decides o → RunsFocused c F t [] o → HasFewDecisions c F n → ⊥
few-hard F c o t n some more within d runs h =
    let used : RunsFrom (IsFocusedStep c F n) (begin c F []) (exhausted h.var) = LeadsTo-RunsFrom (begin c F []) h.state (exhausted h.var) h.leads h.last in
    let found = RunsFocused-more c F t n o some more d runs in
    let same : n ≡ budget_within max_focused n [] = omega (arith, within) in
    d h.var (RunsFocused-unique c F n [] o (exhausted h.var) found (subst (λ b. RunsFrom (IsFocusedStep c F b) (begin c F []) (exhausted h.var)) same used))

-- Where the first search decides a formula, the plan's search does so too: nothing is divided, and
-- nothing is simplified.
pub soon-decided : (F : Formula) (plan : Plan) (c : Constants) (o : Outcome) → plan.search ≡ focused c → 1 ≤ plan.budget → Decides o → RunsFocused c F (min first_tried plan.budget) [] o
    → Runs F plan [] o × ¬ (IsToSimplify F plan)
soon-decided F plan c o is some d runs = (by_search (λ looked. whole plan.search is looked.divisible.by) (searched plan.search is), λ y. easy plan.search is y.hard)
  where
    t : ℕ
    t = min first_tried plan.budget

    more : min first_tried plan.budget ≤ plan.budget
    more = omega arith

    begun : 1 ≤ min first_tried plan.budget
    begun = omega (arith, some)

    first : min first_tried plan.budget ≤ min first_conflicts plan.budget
    first = omega arith

    searched : (search : Search) → search ≡ focused c → RunsBy search F plan.budget [] o
    searched ordered e = absurd (cc)
    searched (focused k) e =
        let same : k ≡ c = cc in
        subst (λ k. RunsFocused k F plan.budget [] o) (sym same) (RunsFocused-more c F (min first_tried plan.budget) plan.budget o begun more d runs)

    easy : (search : Search) → search ≡ focused c → IsHard search F (min first_tried plan.budget) → ⊥
    easy ordered e h = absurd (cc)
    easy (focused k) e h =
        let same : k ≡ c = cc in
        d h.0 (RunsFocused-unique c F (min first_tried plan.budget) [] o (exhausted h.0) runs (subst (λ k. RunsFocused k F (min first_tried plan.budget) [] (exhausted h.0)) same h.1))

    whole : (search : Search) → search ≡ focused c → IsDivisibleBy search F (min first_conflicts plan.budget) → ⊥
    whole ordered e h = absurd (cc)
    whole (focused k) e h =
        let same : k ≡ c = cc in
        few-hard F c o (min first_tried plan.budget) (min first_conflicts plan.budget) begun first (omega arith) d runs (subst (λ k. HasFewDecisions k F (min first_conflicts plan.budget)) same h)
