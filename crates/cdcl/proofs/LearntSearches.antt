-- What the focused search is behind a conflict that it learns from: the state that the definition
-- gives, and all that it keeps.
use Rattle.std.proofs.Common.{◌≡◌, ℕ, ◌+◌, ◌-◌, ◌<◌, ◌≤◌, Bool, true, false, ◌||◌, List, [], ◌∷◌, ◌++◌, length, take, drop, refl, ap, sym, subst, ◌∙◌, All, None, arith, length-append, nat_eq, slice_index_or, Vec, Global, if◌then◌else◌}
use Rattle.std.specs.List.{list_any}
use Rattle.std.proofs.lemmas.List.{length-map}
use Rattle.theory.specs.Literals.{Clause, IsVariable}
use Rattle.theory.specs.Truth.{Assignment, value}
use Rattle.theory.specs.Trails.{Trail, literals, current_level, up_to}
use Rattle.theory.specs.Propagation.{least_false}
use Rattle.theory.specs.Lawful.{IsLawful}
use Rattle.theory.specs.Learnable.{IsOpenBelow}
use Rattle.theory.specs.Learning.{Line, back_level}
use Rattle.theory.specs.Lessons.{Lesson, lesson_of}
use Rattle.theory.specs.Modes as modes
use Rattle.theory.specs.Modes.{Mode, is_restarting}
use Rattle.theory.specs.Scores.{Scores, is_seen, scores_after}
use Rattle.theory.specs.Restarts as restarting
use Rattle.theory.specs.Restarts.{Glues, glues_after}
use Rattle.theory.specs.Forgetting.{Mark, not_used, unused, with_used, forget}
use Rattle.theory.specs.Rephasing.{is_over, rephased}
use Rattle.theory.specs.Search.{max_focused}
use Rattle.theory.specs.Focused.{FocusedState, learnt_next, saved_after}
use Rattle.theory.proofs.searching.ForgettingNumbers.{length-forget, late-number, forget-push, IsOpenBelow-forget}
use Rattle.theory.proofs.searching.MappedVariables.{length-mapped}
use Rattle.theory.proofs.trails.LawfulTrails.{IsLawful-append, IsLawful-up_to}
use Rattle.theory.proofs.literals.OverVariables.{AreOver-from_IsOver}
use Rattle.heuristics.specs.Rankings.{Ranking, after_conflict, vars_of}
use Rattle.heuristics.specs.Averages.{Averages}
use Rattle.lookahead.proofs.TrailLengths.{length-lawful}
use Rattle.kernel.specs.State.{State}
use Rattle.cdcl.specs.declared.search.focused.FocusedSearch.{FocusedSearch}
use Rattle.cdcl.specs.declared.search.decisions.Decisions.{Decisions}
use Rattle.cdcl.specs.declared.analysis.analyze.Analysis.{Analysis}
use Rattle.cdcl.specs.Forgetful.{IsPlain, late_numbers}
use Rattle.cdcl.specs.Numbers.{is_one_of}
use Rattle.cdcl.specs.Saving.{AgreeOutside, AreWaiting}
use Rattle.cdcl.specs.Searching.{formula_of, GoesOn}
use Rattle.cdcl.specs.Removing.{HasRoomFor}
use Rattle.cdcl.specs.Focusing.{state_of, values_after, HasSaved, IsEquipped, IsFocusing, IsTaught, Learns, Continues, CanForget, CanWeigh, Weighs}
use Rattle.cdcl.proofs.FocusedLemmas.{removed, none-false-learnt, low-learnt, lower-level, IsPlain-learn, AllPlain-forget, AllPlain-push, take-push, take-forget}
use Rattle.cdcl.proofs.SeenLemmas.{scores_after-same, seen-variable, All-one_of}
use Rattle.cdcl.proofs.SearchedFormulas.{formula-stays}
use Rattle.cdcl.proofs.WaitingLemmas.{AgreeOutside-saved, holds-still}
use Rattle.cdcl.proofs.UsedMarks.{length-with_used}
use Rattle.cdcl.proofs.NextStates.{flat, used_marks, learnt_next-flat}
use Rattle.cdcl.proofs.RephasedValues.{AgreeOutside-rephased, length-rephased}
use Rattle.cdcl.proofs.LearntStates.{IsLearning, IsNext, is-next, marked-of}

module _ (s : FocusedSearch) (n : ℕ) (t : FocusedSearch) (f : IsFocusing s) (l : IsLearning s n t) where
  abbrev pub next : IsNext s n t l
  next = is-next s n t l

  abbrev pub L : Lesson
  L = lesson_of s.kernel.clauses s.kernel.trail n

  abbrev pub over : Bool
  over = is_over s.round (s.conflicts + 1)

  abbrev pub K : List Clause
  K = s.kernel.clauses

  abbrev pub T : Trail
  T = s.kernel.trail

  abbrev pub target : ℕ
  target = if l.restarts then 0 else l.level

  -- the kernel
  trail-is : t.kernel.trail ≡ up_to T target
  trail-is = ap (λ (k : State). k.trail) next.kernel

  vars-is : t.kernel.vars ≡ s.kernel.vars
  vars-is = ap (λ (k : State). k.vars) next.kernel

  first-is : t.kernel.first ≡ s.kernel.first
  first-is = ap (λ (k : State). k.first) next.kernel

  memory-is : t.kernel.out_of_memory ≡ false
  memory-is = ap (λ (k : State). k.out_of_memory) next.kernel ∙ f.searching.has_memory

  order-is : t.kernel.order ≡ s.kernel.order
  order-is = ap (λ (k : State). k.order) next.kernel

  -- how many marks there are
  many-marks : length l.marked.marks.items ≡ length s.marks.items
  many-marks = ap (λ (ms : List Mark). length ms) l.used ∙ length-with_used L.resolved (s.kernel.first + 1) s.marks.items

  -- the first clauses are those without a mark
  first-count : length K - length s.marks.items ≡ s.kernel.first
  first-count = let a = f.learnt in let b = f.marks in omega (arith, a, b)

  marks-used : l.marked.marks.items ≡ used_marks (state_of s s.decisions.saved) L
  marks-used = l.used ∙ ap (λ k. with_used L.resolved (k + 1) s.marks.items) (sym first-count)

  -- the scores
  scores-is : t.decisions.scores.scores ≡ scores_after s.constants s.pace.mode s.kernel.vars (is_seen K T L.seen) s.decisions.scores.scores
  scores-is =
      let mode = s.pace.mode in
      let old = s.decisions.scores in
      let seen = l.marked.analysis.seen.numbers in
      ap (λ (r : Ranking). r.scores) next.scores
      ∙ (l.kept.scores
      ∙ (ap (λ (r : Ranking). r.scores) l.weighs.scores
      ∙ (marked-of s n t l (λ x. (after_conflict x.decisions.scores x.pace.mode seen).scores)
      ∙ (ap (λ c. scores_after c mode (vars_of old) (is_one_of seen) old.scores) f.equipped.scored
      ∙ (ap (λ V. scores_after s.constants mode V (is_one_of seen) old.scores) f.equipped.waiting.vars
      ∙ scores_after-same s.constants mode s.kernel.vars (is_one_of seen) (is_seen K T L.seen) old.scores l.sees)))))

  averages-is : t.averages.glues ≡ glues_after s.constants s.pace.mode l.g s.averages.glues
  averages-is = ap (λ (a : Averages). a.glues) next.averages ∙ ap (λ c. glues_after c s.pace.mode l.g s.averages.glues) f.equipped.averaged

  -- whether it goes back to level 0
  abbrev pub goes_back : Bool
  goes_back = over || restarting.restarts s.constants s.pace.mode s.restarted (s.conflicts + 1) (glues_after s.constants s.pace.mode L.glue s.averages.glues)

  restarts-is : l.restarts ≡ goes_back
  restarts-is =
      let mode = s.pace.mode in
      let m = s.conflicts + 1 in
      l.weighs.goes_back
      ∙ (marked-of s n t l (λ x. is_over x.round (x.conflicts + 1)
      || restarting.restarts x.averages.constants x.pace.mode x.restarted (x.conflicts + 1) (glues_after x.averages.constants x.pace.mode l.g x.averages.glues))
      ∙ (ap (λ c. over || restarting.restarts c mode s.restarted m (glues_after c mode l.g s.averages.glues)) f.equipped.averaged
      ∙ ap (λ g. over || restarting.restarts s.constants mode s.restarted m (glues_after s.constants mode g s.averages.glues)) l.glue_is))

  -- the state that the definition gives, from what the parts gave
  abbrev pub made : Assignment → Line → ℕ → List Mark → Scores → ℕ → Bool → FocusedState
  made saved line g marks scores level back =
      flat s.constants s.kernel.vars (state_of s saved) (record { line = line; glue = g; resolved = L.resolved; seen = L.seen }) marks scores level over back

  pub next-state : (saved : Assignment) → state_of t (values_after s saved) ≡ learnt_next s.constants s.kernel.vars (state_of s saved) L
  next-state saved =
      let scores = scores_after s.constants s.pace.mode s.kernel.vars (is_seen K T L.seen) s.decisions.scores.scores in
      let line : Line = record { clause = l.clause; hints = l.hints; forgets = [] } in
      let back = back_level T L.line.clause in
      let first : state_of t (values_after s saved) ≡ made saved line l.g l.marked.marks.items scores l.level l.restarts
      = rw (next.kernel, next.conflicts, next.stable, next.decided, next.lines, next.forgets, next.marks, scores-is, averages-is, next.restarted, next.pace, next.round) refl in
      first ∙ (ap (λ (m : List Mark). made saved line l.g m scores l.level l.restarts) marks-used
      ∙ (ap (λ r. made saved line l.g (used_marks (state_of s saved) L) scores l.level r) restarts-is
      ∙ (ap (λ level. made saved line l.g (used_marks (state_of s saved) L) scores level goes_back) l.taught.back
      ∙ (ap (λ g. made saved line g (used_marks (state_of s saved) L) scores back goes_back) l.glue_is
      ∙ (ap (λ (x : Line). made saved x L.glue (used_marks (state_of s saved) L) scores back goes_back) l.line
      ∙ sym (learnt_next-flat s.constants s.kernel.vars (state_of s saved) L))))))

  -- the saved values
  saved-back : l.weighed.decisions.saved ≡ s.decisions.saved
  saved-back = l.weighs.saved ∙ marked-of s n t l (λ x. x.decisions.saved)

  long-saved : length l.back.decisions.saved ≡ s.kernel.vars
  long-saved = l.waiting.saved

  pub next-saved : (saved : Assignment) → HasSaved s saved → HasSaved t (values_after s saved)
  next-saved saved h =
      rw (vars-is, trail-is)
      (subst (λ (M : Assignment). AgreeOutside s.kernel.vars (literals (up_to T target)) M (values_after s saved)) (sym next.saved) (go over))
    where
      M : Assignment
      M = saved_after s.kernel.vars T saved

      agree : AgreeOutside s.kernel.vars (literals (up_to T target)) l.back.decisions.saved M
      agree = AgreeOutside-saved s.kernel.vars T (literals (up_to T target)) l.back.decisions.saved s.decisions.saved saved h
          (subst (λ (N : Assignment). AgreeOutside s.kernel.vars (literals (up_to T target)) l.back.decisions.saved (saved_after s.kernel.vars T N)) saved-back l.saves)

      go : (o : Bool) → AgreeOutside s.kernel.vars (literals (up_to T target)) (if o then rephased s.round.number l.back.decisions.saved else l.back.decisions.saved) (if o then rephased s.round.number M else M)
      go true = AgreeOutside-rephased s.round.number s.kernel.vars (literals (up_to T target)) l.back.decisions.saved M long-saved (length-mapped {X = Bool} _ s.kernel.vars) agree
      go false = agree

  -- the level is below the current one
  lower : target < current_level T
  lower = let h = lower-level s.kernel n l.clause l.level l.restarts f.searching l.taught in let a = h.0 in let b = h.1 in omega (arith, a, b)

  abbrev pub all : List Clause
  all = K ++ l.clause ∷ []

  low-all : IsOpenBelow all (up_to T target)
  low-all =
      subst (λ (c : Clause). IsOpenBelow (K ++ c ∷ []) (up_to T target)) (sym l.taught.learnt)
      (low-learnt (removed K T n) K T n target f.searching.lawful f.searching.open_below l.taught.above l.taught.conflict lower)

  lawful-all : IsLawful all (up_to T target)
  lawful-all = IsLawful-append K (l.clause ∷ []) (up_to T target) (IsLawful-up_to K T target f.searching.lawful)

  within : s.kernel.first ≤ length K
  within = f.searching.within

  plain-all : All (IsPlain s.kernel.vars) (drop s.kernel.first all)
  plain-all = AllPlain-push s.kernel.vars s.kernel.first K l.clause within f.plain (IsPlain-learn s.kernel n l.clause l.level f.searching l.taught)

  -- the clauses that a round's end forgets
  abbrev pub ns : List ℕ
  ns = late_numbers s.constants (up_to T target) l.marked.marks.items K

  most : (k : ℕ) → list_any (nat_eq k) ns ≡ true → k ≤ length K
  most k h = (late-number s.constants (up_to T target) K l.marked.marks.items k h).1

  least : (k : ℕ) → list_any (nat_eq k) ns ≡ true → 1 + s.kernel.first ≤ k
  least k h =
      let low = (late-number s.constants (up_to T target) K l.marked.marks.items k h).0 in
      let count = first-count in
      let many = many-marks in
      omega (arith, low, count, many)

  pushed : forget ns 1 all ≡ forget ns 1 K ++ l.clause ∷ []
  pushed = forget-push ns K l.clause most

  -- what holds of all clauses, and of all with some forgotten, holds of the clauses that are left
  holds : (P : List Clause → Type 0) → P all → P (forget ns 1 all) → P t.kernel.clauses
  holds P whole some = subst P (sym (ap (λ (k : State). k.clauses) next.kernel)) (go over)
    where
      go : (b : Bool) → P ((if b then forget ns 1 K else K) ++ l.clause ∷ [])
      go true = subst P pushed some
      go false = whole

  many : length t.kernel.clauses ≡ length K + 1
  many =
      let one = length-append K (l.clause ∷ []) in
      let same = length-forget ns 1 all in
      holds (λ C. length C ≡ length K + 1) one (same ∙ one)

  taken : t.averages.glues.count ≤ t.conflicts
  taken = let is = ap (λ (a : Glues). a.count) averages-is in let one = next.conflicts in let before = f.taken in let more = go s.pace.mode in omega (arith, is, one, before, more)
    where
      go : (m : Mode) → (glues_after s.constants m l.g s.averages.glues).count ≤ s.averages.glues.count + 1
      go modes.restarting = omega arith
      go modes.stable = omega arith

  stable : t.stable_conflicts ≤ t.conflicts
  stable = let is = next.stable in let one = next.conflicts in let before = f.stable in let more = go (is_restarting s.pace.mode) in omega (arith, is, one, before, more)
    where
      go : (b : Bool) → (if b then 0 else 1) ≤ 1
      go true = omega arith
      go false = omega arith

  -- which variables are held stays
  held-back : t.decisions.held ≡ l.back.decisions.held
  held-back = next.held ∙ sym (l.kept.held ∙ (l.weighs.held ∙ marked-of s n t l (λ x. x.decisions.held)))

  goes : GoesOn s.kernel t.kernel
  goes = (
    vars-is,
    first-is,
    holds (λ C. take s.kernel.first C ≡ take s.kernel.first K) (take-push s.kernel.first K l.clause within)
        (take-forget ns 1 s.kernel.first all least ∙ take-push s.kernel.first K l.clause within),
    memory-is,
    order-is,
  )

  waiting-next : AreWaiting s.kernel.vars (literals (up_to T target)) t.decisions
  waiting-next = record {
    vars = ap (λ (r : Ranking). vars_of r) next.scores ∙ l.waiting.vars;
    long = ap (λ (r : Ranking). length r.waiting) next.scores ∙ l.waiting.long;
    saved = ap (λ (M : Assignment). length M) next.saved ∙ go over;
    flags = ap (λ (bs : Vec Bool Global). length bs.items) held-back ∙ l.waiting.flags;
    waits = rw (next.scores, held-back) l.waiting.waits;
  }
    where
      go : (o : Bool) → length (if o then rephased s.round.number l.back.decisions.saved else l.back.decisions.saved) ≡ s.kernel.vars
      go true = length-rephased s.round.number l.back.decisions.saved ∙ long-saved
      go false = long-saved

  equipped : IsEquipped t
  equipped = record {
    waiting = rw (vars-is, trail-is) waiting-next;
    seen = let a = ap (λ x. x.seen.bound) next.analysis in let b = l.bounds.0 in let c = f.equipped.seen in let v = vars-is in omega (arith, a, b, c, v);
    levels = let a = ap (λ x. x.levels.bound) next.analysis in let b = l.bounds.1 in let c = f.equipped.levels in let v = vars-is in omega (arith, a, b, c, v);
    removing = subst (λ (x : Analysis). HasRoomFor t.kernel.vars x.removing) (sym next.analysis) (rw vars-is l.room);
    scored = ap (λ (r : Ranking). r.constants) next.scores ∙ (l.kept.constants
        ∙ (ap (λ (r : Ranking). r.constants) l.weighs.scores ∙ (marked-of s n t l (λ x. x.decisions.scores.constants) ∙ (f.equipped.scored ∙ sym next.constants))));
    averaged = ap (λ (a : Averages). a.constants) next.averages ∙ (f.equipped.averaged ∙ sym next.constants);
    held = holds-still (formula_of s.kernel) (formula_of t.kernel) s.decisions t.decisions (formula-stays s.kernel t.kernel goes) next.held f.equipped.held;
  }

  pub next-focusing : IsFocusing t
  next-focusing = record {
    searching = record {
      has_memory = memory-is;
      in_order = order-is ∙ f.searching.in_order;
      few = let v = vars-is in let few = f.searching.few in omega (arith, v, few);
      within = let a = first-is in let b = many in let c = within in omega (arith, a, b, c);
      lawful = l.lawful;
      open_below = subst (IsOpenBelow t.kernel.clauses) (sym trail-is) (holds (λ C. IsOpenBelow C (up_to T target)) low-all (IsOpenBelow-forget ns all (up_to T target) lawful-all low-all));
      clauses_over = l.clauses_over;
      trail_over = l.over;
    };
    few = let v = vars-is in let few = f.few in omega (arith, v, few);
    equipped = equipped;
    taken = taken;
    stable = stable;
    decided =
        let most = length-lawful s.kernel.vars K T f.searching.lawful (AreOver-from_IsOver s.kernel.vars (literals T) f.searching.trail_over) in
        let v = f.few in let c = next.conflicts in let d = next.decided in let before = f.decided in omega arith;
    learnt = let a = many in let b = first-is in let c = f.learnt in let d = ap length next.lines in let e = length-append s.lines (record { clause = l.clause; hints = l.hints; forgets = l.forgets } ∷ []) in omega (arith, a, b, c, d, e);
    marks =
        let a = ap (λ (ms : List Mark). length ms) next.marks in
        let b = long-marks over in
        let c = f.marks in
        let d = ap length next.lines in
        let e = length-append s.lines (record { clause = l.clause; hints = l.hints; forgets = l.forgets } ∷ []) in
        omega (arith, a, b, c, d, e);
    plain = rw (vars-is, first-is) (holds (λ C. All (IsPlain s.kernel.vars) (drop s.kernel.first C)) plain-all (AllPlain-forget s.kernel.vars ns 1 s.kernel.first all plain-all));
  }
    where
      long-marks : (o : Bool) → length ((if o then unused l.marked.marks.items else l.marked.marks.items) ++ record { glue = l.g; used = true } ∷ []) ≡ length s.marks.items + 1
      long-marks o = length-append (if o then unused l.marked.marks.items else l.marked.marks.items) _ ∙ ap (λ k. k + 1) (go o)
        where
          go : (o : Bool) → length (if o then unused l.marked.marks.items else l.marked.marks.items) ≡ length s.marks.items
          go true = length-map l.marked.marks.items not_used ∙ many-marks
          go false = many-marks

  pub next-continues : Continues s t
  next-continues = record {
    goes_on = goes;
    constants = next.constants;
    equipped = equipped;
  }

pub Learns-from : (s : FocusedSearch) (n : ℕ) (t : FocusedSearch) → IsFocusing s → IsLearning s n t → (saved : Assignment) → HasSaved s saved → Learns s saved n t
Learns-from s n t f l saved h = record { next = next-state s n t f l saved; saves = next-saved s n t f l saved h; focusing = next-focusing s n t f l }

-- what is forgotten from, where the search went back
pub CanForget-back : (s : FocusedSearch) (n : ℕ) (clause : Clause) (level marks : ℕ) (restarts : Bool) (back : State) → IsFocusing s → IsTaught s.kernel n clause level → marks ≡ length s.marks.items
    → back ≡ record s.kernel { clauses = s.kernel.clauses ++ clause ∷ []; trail = up_to s.kernel.trail (if restarts then 0 else level) } → CanForget back marks
CanForget-back s n clause level marks restarts back f t count went = subst (λ (k : State). CanForget k marks) (sym went) (record {
  has_memory = f.searching.has_memory;
  few = f.searching.few;
  learnt = let a = length-append s.kernel.clauses (clause ∷ []) in let b = f.learnt in let c = f.marks in let d = count in omega (arith, a, b, c, d);
  none_false = subst (λ (c : Clause). least_false (literals (up_to s.kernel.trail (if restarts then 0 else level))) (s.kernel.clauses ++ c ∷ []) ≡ None) (sym t.learnt)
      (none-false-learnt (removed s.kernel.clauses s.kernel.trail n) s.kernel.clauses s.kernel.trail n (if restarts then 0 else level) f.searching.lawful f.searching.open_below t.above t.conflict
      (let h = lower-level s.kernel n clause level restarts f.searching t in let a = h.0 in let b = h.1 in omega (arith, a, b)));
  plain = AllPlain-push s.kernel.vars s.kernel.first s.kernel.clauses clause f.searching.within f.plain (IsPlain-learn s.kernel n clause level f.searching t);
})

-- where marks were used, all else stays
pub same-marked : (s m : FocusedSearch) (a : Analysis) → m ≡ record s { analysis = a; marks = m.marks } → m ≡ record s { analysis = m.analysis; marks = m.marks }
same-marked s m a e = e ∙ ap (λ (x : Analysis). record s { analysis = x; marks = m.marks }) (sym (ap (λ (x : FocusedSearch). x.analysis) e))

-- the conflict may be weighed
pub CanWeigh-marked : (s m : FocusedSearch) (n g : ℕ) → IsFocusing s → s.conflicts + 1 ≤ max_focused → m ≡ record s { analysis = m.analysis; marks = m.marks } → g ≤ s.kernel.vars
    → ((v : ℕ) → is_one_of m.analysis.seen.numbers v ≡ is_seen s.kernel.clauses s.kernel.trail (lesson_of s.kernel.clauses s.kernel.trail n).seen v) → CanWeigh m g
CanWeigh-marked s m n g f counted e few sees = record {
  glue_within = let v = f.few in omega (arith, v, few);
  taken = let same = ap (λ (x : FocusedSearch). x.averages.glues.count) e in let most = f.taken in omega (arith, same, most, counted);
  counted = let same = ap (λ (x : FocusedSearch). x.conflicts) e in omega (arith, same, counted);
  stable = let same = ap (λ (x : FocusedSearch). x.conflicts) e in let other = ap (λ (x : FocusedSearch). x.stable_conflicts) e in let most = f.stable in omega (arith, same, other, most);
  seen = All-one_of (λ v. (1 ≤ v) × (v ≤ vars_of m.decisions.scores)) m.analysis.seen.numbers
      (λ v t. subst (λ V. (1 ≤ v) × (v ≤ V)) (sym (ap (λ (x : FocusedSearch). vars_of x.decisions.scores) e ∙ f.equipped.waiting.vars))
      (seen-variable s.kernel.vars s.kernel.clauses s.kernel.trail (lesson_of s.kernel.clauses s.kernel.trail n).seen v f.searching.trail_over (sym (sees v) ∙ t)));
}

-- the search may go back once it was
pub AreWaiting-weighed : (s m w : FocusedSearch) (g : ℕ) (restarts : Bool) → IsFocusing s → m ≡ record s { analysis = m.analysis; marks = m.marks } → Weighs m g restarts w
    → AreWaiting w.kernel.vars (literals w.kernel.trail) w.decisions
AreWaiting-weighed s m w g restarts f e h =
    let kernel : w.kernel ≡ s.kernel = ap (λ (x : FocusedSearch). x.kernel) h.same ∙ ap (λ (x : FocusedSearch). x.kernel) e in
    let before = f.equipped.waiting in
    let old : m.decisions ≡ s.decisions = ap (λ (x : FocusedSearch). x.decisions) e in
    let flags : w.decisions.held ≡ s.decisions.held = h.held ∙ ap (λ (d : Decisions). d.held) old in
    rw kernel (record {
      vars = h.kept.vars ∙ (ap (λ (d : Decisions). vars_of d.scores) old ∙ before.vars);
      long = ap (λ (W : List Bool). length W) h.kept.waiting ∙ (ap (λ (d : Decisions). length d.scores.waiting) old ∙ before.long);
      saved = ap (λ (M : Assignment). length M) h.saved ∙ (ap (λ (d : Decisions). length d.saved) old ∙ before.saved);
      flags = ap (λ (bs : Vec Bool Global). length bs.items) flags ∙ before.flags;
      waits = λ v k t free. ap (λ (W : List Bool). slice_index_or W (v - 1) false) (h.kept.waiting ∙ ap (λ (d : Decisions). d.scores.waiting) old)
          ∙ before.waits v (subst (λ V. IsVariable V v) (h.kept.vars ∙ ap (λ (d : Decisions). vars_of d.scores) old) k) (subst (λ (bs : Vec Bool Global). value bs.items v ≡ true) flags t) free;
    })
