-- What the focused search is behind the units of level 0: the state that the definition gives, and
-- all that it keeps.
use Rattle.std.proofs.Common.{◌≡◌, ℕ, ◌+◌, ◌<◌, ◌≤◌, Bool, false, true, List, [], ◌∷◌, ◌++◌, length, take, drop, refl, ap, sym, subst, ◌∙◌, All, Some, nat_eq, eq-eqb, ◌⊎◌, inl, inr, length-append, arith, if◌then◌else◌}
use Rattle.std.proofs.lemmas.List.{length-map, take-append-le}
use Rattle.theory.specs.Literals.{Literal, Clause, negated, has, has_both_signs}
use Rattle.theory.specs.Truth.{Assignment, IsOver}
use Rattle.theory.specs.Trails.{literals, current_level, cube_trail, up_to}
use Rattle.theory.specs.Propagation.{by_place, Propagates, quiet, least_false}
use Rattle.theory.specs.Lawful.{IsLawful}
use Rattle.theory.specs.Learning.{Line}
use Rattle.theory.specs.Kept.{clauses_of}
use Rattle.theory.specs.Forgetting.{Mark, fresh_mark}
use Rattle.theory.specs.Units.{Units, units_of, AreUnits}
use Rattle.theory.specs.Focused.{FocusedState, with_units_of, settled}
use Rattle.theory.proofs.literals.LiteralSets.{has-cases, negated-other, has_both_signs-none}
use Rattle.theory.proofs.literals.OverVariables.{AreOver-from_IsOver}
use Rattle.theory.proofs.trails.TrailLevels.{up_to-current}
use Rattle.theory.proofs.searching.Rules.{IsRule-by_place}
use Rattle.theory.proofs.searching.Invariants.{Kept, KeepsUnits}
use Rattle.theory.proofs.searching.UnitWalks.{units-keep, literals-units, clauses-units, conflict-units, rests-units}
use Rattle.lookahead.proofs.TrailLengths.{length-lawful}
use Rattle.kernel.specs.State.{State}
use Rattle.cdcl.specs.declared.search.focused.FocusedSearch.{FocusedSearch}
use Rattle.cdcl.specs.declared.search.decisions.Decisions.{Decisions}
use Rattle.cdcl.specs.Forgetful.{IsPlain}
use Rattle.cdcl.specs.Removing.{HasRoomFor}
use Rattle.cdcl.specs.Saving.{AreWaiting}
use Rattle.cdcl.specs.Searching.{formula_of, GoesOn}
use Rattle.cdcl.specs.Units.{unit_marks, IsSettling}
use Rattle.cdcl.specs.Focusing.{state_of, IsEquipped, IsFocusing, HasUnits, IsSettled}
use Rattle.cdcl.proofs.FocusedLemmas.{AllPlain-push}
use Rattle.cdcl.proofs.SearchedFormulas.{formula-stays}
use Rattle.cdcl.proofs.UnitSteps.{settling-last}
use Rattle.cdcl.proofs.WaitingLemmas.{holds-still}

-- a cube's literals have no reasons
pub AreUnits-cube : (K : List Clause) (Q : List Literal) → AreUnits K (up_to (cube_trail Q) 0)
AreUnits-cube K [] = tt
AreUnits-cube K (q ∷ Q) = (tt, AreUnits-cube K Q)

-- the units change clauses, trail, lines and marks alone
pub settled-of : {X : Type 0} (g : FocusedState → X) (x : FocusedState) → ((u : Units) → g (with_units_of x u) ≡ g x) → g (settled x) ≡ g x
settled-of g x same = go (nat_eq (current_level x.trail) 0)
  where
    go : (b : Bool) → g (if b then with_units_of x (units_of x.clauses x.trail) else x) ≡ g x
    go true = same (units_of x.clauses x.trail)
    go false = refl

-- the clauses behind the first ones are plain, and there is a variable where there is an entry
ArePlain : ℕ → ℕ → Kept
ArePlain V first C T lines = All (IsPlain V) (drop first C) × (first ≤ length C) × (0 < length T → 1 ≤ V)

one-signed : (l : Literal) → has_both_signs (l ∷ []) ≡ false
one-signed l = has_both_signs-none (l ∷ []) (λ k a b. clash k (has-cases l k [] a) (has-cases l (negated k) [] b))
  where
    clash : (k : Literal) → (k ≡ l) ⊎ (has [] k ≡ true) → (negated k ≡ l) ⊎ (has [] (negated k) ≡ true) → ⊥
    clash k (inl i) (inl j) = negated-other k (i ∙ sym j)
    clash k (inl i) (inr b) = absurd (cc)
    clash k (inr a) j = absurd (cc)

ArePlain-unit : (V first : ℕ) → KeepsUnits (Unit {0}) (ArePlain V first)
unfolding ArePlain
ArePlain-unit V first C before e es lines n level reason units h = (
  AllPlain-push V first C (e.lit ∷ []) h.1 h.0 (inl (one-signed e.lit, h.2 (let long = length-append before (e ∷ es) in omega (arith, long)))),
  (let one = length-append C ((e.lit ∷ []) ∷ []) in let within = h.1 in omega (arith, one, within)),
  λ some. h.2 (let long = length-append before (e ∷ es) in omega (arith, long)),
)

-- behind the last entry
module _ (s t : FocusedSearch) (place : ℕ) (f : IsFocusing s) (level : current_level s.kernel.trail ≡ 0) (i : IsSettling s place t) (last : length t.kernel.trail ≤ place)
    (lawful : IsLawful t.kernel.clauses t.kernel.trail) (over : IsOver t.kernel.vars (literals t.kernel.trail)) (clauses_over : All (IsOver t.kernel.vars) t.kernel.clauses) where
  abbrev u : Units
  u = units_of s.kernel.clauses s.kernel.trail

  abbrev here : Units
  here = record { clauses = t.kernel.clauses; trail = t.kernel.trail; lines = i.lines }

  is : here ≡ u
  is = settling-last s t place i last

  vars-is : t.kernel.vars ≡ s.kernel.vars
  vars-is = ap (λ (k : State). k.vars) i.more.kernel

  first-is : t.kernel.first ≡ s.kernel.first
  first-is = ap (λ (k : State). k.first) i.more.kernel

  -- what is so of the units is so of the search
  of-units : (P : Units → Type 0) → P u → P here
  of-units P h = subst P (sym is) h

  literals-is : literals t.kernel.trail ≡ literals s.kernel.trail
  literals-is = of-units (λ w. literals w.trail ≡ literals s.kernel.trail) (literals-units s.kernel.clauses s.kernel.trail)

  clauses-is : t.kernel.clauses ≡ s.kernel.clauses ++ clauses_of i.lines
  clauses-is = of-units (λ w. w.clauses ≡ s.kernel.clauses ++ clauses_of w.lines) (clauses-units s.kernel.clauses s.kernel.trail)

  many-clauses : length t.kernel.clauses ≡ length s.kernel.clauses + length i.lines
  many-clauses =
      let a = ap length clauses-is in
      let b = length-append s.kernel.clauses (clauses_of i.lines) in
      let c = length-map i.lines (λ (x : Line). x.clause) in
      omega (arith, a, b, c)

  many-lines : length t.lines ≡ length s.lines + length i.lines
  many-lines = ap length i.more.lines_are ∙ length-append s.lines i.lines

  many-marks : length t.marks.items ≡ length s.marks.items + length i.lines
  many-marks =
      let a = ap (λ (ms : List Mark). length ms) i.more.marks_are in
      let b = length-append s.marks.items (unit_marks i.lines) in
      let c = length-map i.lines unit_mark in
      omega (arith, a, b, c)
    where
      unit_mark : Line → Mark
      unit_mark line = fresh_mark 0

  kept : ArePlain s.kernel.vars s.kernel.first u.clauses u.trail (s.lines ++ u.lines) × (Unit {0} → IsLawful u.clauses u.trail × AreUnits u.clauses u.trail)
  unfolding ArePlain
  kept = units-keep (Unit {0}) (ArePlain s.kernel.vars s.kernel.first) (ArePlain-unit s.kernel.vars s.kernel.first) s.kernel.clauses s.kernel.trail s.lines level (λ x. f.searching.lawful)
      (f.plain, f.searching.within, λ some. (let long = length-lawful s.kernel.vars s.kernel.clauses s.kernel.trail f.searching.lawful (AreOver-from_IsOver s.kernel.vars (literals s.kernel.trail) f.searching.trail_over) in omega (arith, some, long)))

  plain-all : All (IsPlain s.kernel.vars) (drop s.kernel.first u.clauses)
  unfolding ArePlain
  plain-all = kept.0.0

  all-units : AreUnits u.clauses u.trail
  all-units = (kept.1 tt).1

  none-above : current_level t.kernel.trail ≡ 0
  none-above = i.more.level ∙ level

  -- of what stays
  stays : {X : Type 0} (g : FocusedSearch → X) → g t ≡ g (record s { kernel = t.kernel; lines = t.lines; marks = t.marks; unit_hints = t.unit_hints })
  stays g = ap g i.more.same

  settled-state : (saved : Assignment) → state_of t saved ≡ settled (state_of s saved)
  settled-state saved =
      ap (λ (x : FocusedSearch). record (state_of x saved) { clauses = t.kernel.clauses; trail = t.kernel.trail; lines = t.lines; marks = t.marks.items }) i.more.same
      ∙ (ap (λ (ls : List Line). record (state_of s saved) { clauses = t.kernel.clauses; trail = t.kernel.trail; lines = ls; marks = t.marks.items }) i.more.lines_are
      ∙ (ap (λ (ms : List Mark). record (state_of s saved) { clauses = t.kernel.clauses; trail = t.kernel.trail; lines = s.lines ++ i.lines; marks = ms }) i.more.marks_are
      ∙ (ap (with_units_of (state_of s saved)) is
      ∙ sym (ap (λ b. if b then with_units_of (state_of s saved) u else state_of s saved) (eq-eqb (current_level s.kernel.trail) 0 level)))))

  goes : GoesOn s.kernel t.kernel
  goes = (
    vars-is,
    first-is,
    ap (take s.kernel.first) clauses-is ∙ take-append-le s.kernel.first s.kernel.clauses (clauses_of i.lines) f.searching.within,
    ap (λ (k : State). k.out_of_memory) i.more.kernel ∙ f.searching.has_memory,
    ap (λ (k : State). k.order) i.more.kernel,
  )

  equipped : IsEquipped t
  equipped = record {
    waiting = rw (vars-is, literals-is) (subst (λ (d : Decisions). AreWaiting s.kernel.vars (literals s.kernel.trail) d) (sym (stays (λ x. x.decisions))) f.equipped.waiting);
    seen = let a = stays (λ x. x.analysis.seen.bound) in let b = f.equipped.seen in let v = vars-is in omega (arith, a, b, v);
    levels = let a = stays (λ x. x.analysis.levels.bound) in let b = f.equipped.levels in let v = vars-is in omega (arith, a, b, v);
    removing = rw vars-is (subst (λ a. HasRoomFor s.kernel.vars a) (sym (stays (λ x. x.analysis.removing))) f.equipped.removing);
    scored = stays (λ x. x.decisions.scores.constants) ∙ (f.equipped.scored ∙ sym (stays (λ x. x.constants)));
    averaged = stays (λ x. x.averages.constants) ∙ (f.equipped.averaged ∙ sym (stays (λ x. x.constants)));
    held = holds-still (formula_of s.kernel) (formula_of t.kernel) s.decisions t.decisions (formula-stays s.kernel t.kernel goes) (stays (λ x. x.decisions.held)) f.equipped.held;
  }

  settled-focusing : IsFocusing t
  settled-focusing = record {
    searching = record {
      has_memory = ap (λ (k : State). k.out_of_memory) i.more.kernel ∙ f.searching.has_memory;
      in_order = ap (λ (k : State). k.order) i.more.kernel ∙ f.searching.in_order;
      few = let v = vars-is in let few = f.searching.few in omega (arith, v, few);
      within = let a = first-is in let b = many-clauses in let c = f.searching.within in omega (arith, a, b, c);
      lawful = lawful;
      open_below = λ below less. (let none = none-above in absurd (omega (arith, less, none)));
      clauses_over = clauses_over;
      trail_over = over;
    };
    few = let v = vars-is in let few = f.few in omega (arith, v, few);
    equipped = equipped;
    taken = let a = stays (λ x. x.averages.glues.count) in let b = stays (λ x. x.conflicts) in let c = f.taken in omega (arith, a, b, c);
    stable = let a = stays (λ x. x.stable_conflicts) in let b = stays (λ x. x.conflicts) in let c = f.stable in omega (arith, a, b, c);
    decided = let a = stays (λ x. x.decided) in let b = stays (λ x. x.conflicts) in let c = f.decided in let long = i.more.long in omega (arith, a, b, c, long);
    learnt = let a = many-clauses in let b = first-is in let c = f.learnt in let d = many-lines in omega (arith, a, b, c, d);
    marks = let a = many-marks in let b = many-lines in let c = f.marks in omega (arith, a, b, c);
    plain = rw (vars-is, first-is) (of-units (λ w. All (IsPlain s.kernel.vars) (drop s.kernel.first w.clauses)) plain-all);
  }

  pub settled-here : IsSettled s t
  settled-here = record {
    state = settled-state;
    focusing = settled-focusing;
    units = subst (AreUnits t.kernel.clauses) (sym (ap (up_to t.kernel.trail) (sym none-above) ∙ up_to-current t.kernel.clauses t.kernel.trail lawful)) (of-units (λ w. AreUnits w.clauses w.trail) all-units);
    continues = record {
      goes_on = goes;
      constants = stays (λ x. x.constants);
      equipped = equipped;
    };
    literals_stay = literals-is;
    level = i.more.level;
    long = i.more.long;
    saved = stays (λ x. x.decisions.saved);
    rests = λ h. of-units (λ w. Propagates by_place w.clauses w.trail quiet w.trail) (rests-units by_place IsRule-by_place s.kernel.clauses s.kernel.trail f.searching.lawful level h);
    conflict = λ n h. of-units (λ w. least_false (literals w.trail) w.clauses ≡ Some n) (conflict-units s.kernel.clauses s.kernel.trail n h);
  }

-- above level 0 all stays
pub settled-above : (s : FocusedSearch) → IsFocusing s → nat_eq (current_level s.kernel.trail) 0 ≡ false → HasUnits s → IsSettled s s
settled-above s f above units = record {
  state = λ saved. sym (ap (λ b. if b then with_units_of (state_of s saved) (units_of s.kernel.clauses s.kernel.trail) else state_of s saved) above);
  focusing = f;
  units = units;
  continues = record { goes_on = (refl, refl, refl, f.searching.has_memory, refl); constants = refl; equipped = f.equipped };
  literals_stay = refl;
  level = refl;
  long = refl;
  saved = refl;
  rests = λ h. h;
  conflict = λ n h. h;
}

-- at level 0 the clauses, the trail and the lines are those of the units, if there were no lines
pub settled-units : (s t : FocusedSearch) → IsSettled s t → current_level s.kernel.trail ≡ 0 → s.lines ≡ []
    → record { clauses = t.kernel.clauses; trail = t.kernel.trail; lines = t.lines } ≡ units_of s.kernel.clauses s.kernel.trail
settled-units s t i level none =
    let saved = s.decisions.saved in
    let u = units_of s.kernel.clauses s.kernel.trail in
    ap units (i.state saved ∙ ap (λ b. if b then with_units_of (state_of s saved) u else state_of s saved) (eq-eqb (current_level s.kernel.trail) 0 level))
    ∙ ap (λ (ls : List Line). record { clauses = u.clauses; trail = u.trail; lines = ls ++ u.lines }) none
  where
    units : FocusedState → Units
    units x = record { clauses = x.clauses; trail = x.trail; lines = x.lines }
