-- What ends a run of the focused search, and what holds through it.
use Rattle.std.proofs.Common.{◌≡◌, ℕ, suc, ◌+◌, ◌≤◌, Bool, true, false, ◌||◌, List, [], ◌∷◌, ◌++◌, map, length, refl, ap, ap₂, sym, subst, ◌∙◌, nat_eq, nat_le, eqb-true, cond, Option, Some, None, length-append, arith, unwrap_or, if◌then◌else◌}
use Rattle.std.specs.List.{list_any}
use Rattle.std.proofs.lemmas.List.{length-map}
use Rattle.theory.specs.Literals.{Literal, Clause, has, positive}
use Rattle.theory.specs.Truth.{Formula, Assignment}
use Rattle.theory.specs.Plans.{Constants}
use Rattle.theory.specs.Trails.{Trail, literals, current_level, cube_trail, up_to, variables}
use Rattle.theory.specs.Held.{held, least_held}
use Rattle.theory.specs.Propagation.{Closed, quiet, conflict, by_place, clause_at, least_false}
use Rattle.theory.specs.Lawful.{IsLawful}
use Rattle.theory.specs.Learning.{Line, learn, learn_removing, back_level}
use Rattle.theory.specs.Removing.{first_walk, removable}
use Rattle.theory.specs.Units.{Units, units_of, AreUnits}
use Rattle.theory.specs.Lessons.{Lesson, lesson_of}
use Rattle.theory.specs.Search.{Outcome, model, refuted, exhausted, Next, ends, goes_on, budget_within, max_focused, values}
use Rattle.theory.specs.Scores.{Scores, best_outside}
use Rattle.theory.specs.Restarts.{restarts}
use Rattle.theory.specs.Rephasing.{is_over}
use Rattle.theory.specs.Forgetting.{Mark, fresh_mark, with_used, unused, not_used, forgetting, forget}
use Rattle.theory.specs.Focused.{FocusedState, begin, with_units_of, settled, saved_literal, weighed, gone_back, to_forget, round_ended, with_lesson, learnt_next, splits_on, on_quiet, on_conflict, after, IsFocusedStep, RunsFocused}
use Rattle.theory.proofs.trails.LawfulTrails.{current_level-Propagates, IsLawful-Propagates, IsLawful-decide, IsLawful-append, IsLawful-up_to}
use Rattle.theory.proofs.trails.TrailLevels.{up_to-up_to, up_to-push}
use Rattle.theory.proofs.searching.Rules.{IsRule-by_place}
use Rattle.theory.proofs.searching.RunLemmas.{RunsFrom-says, RunsFrom-unique}
use Rattle.theory.proofs.searching.PropagationLemmas.{Propagates-unique}
use Rattle.theory.proofs.searching.SearchSteps.{above_zero}
use Rattle.theory.proofs.searching.SearchSoundness.{Says, Propagates-says}
use Rattle.theory.proofs.searching.OpenTrails.{up_to-Propagates}
use Rattle.theory.proofs.searching.ForgettingNumbers.{forget-nothing, late-number, late-differ, AreUnits-forget, AreNoReasons, IsLawful-forget}
use Rattle.theory.proofs.searching.BestVariables.{best_outside-some, best_outside-none}
use Rattle.theory.proofs.searching.UnitWalks.{AreUnits-append, units-keep, literals-units, least_false-units, conflict-units}
use Rattle.theory.proofs.searching.Invariants.{Kept, AreLearnt, IsInvariant}

-- a state of which P holds, with a mark for each line; and where H holds, its trail is
-- lawful, and the reasons of level 0 are units
pub record Keeps (H : Type 0) (P : Kept) (s : FocusedState) : Type 0 where
  pub kept : P s.clauses s.trail s.lines
  pub grounded : H → IsLawful s.clauses s.trail × AreUnits s.clauses (up_to s.trail 0)
  pub marks : length s.marks ≡ length s.lines

-- how a search that keeps P ends: with a model, before the units
pub record EndsWithModel (F : Formula) (P : Kept) (M : Assignment) : Type 0 where
  pub clauses : List Clause
  pub trail : Trail
  pub lines : List Line
  pub keeps : P clauses trail lines
  pub none_false : least_false (literals trail) clauses ≡ None
  pub none_free : least_held F trail ≡ None
  pub is_values : M ≡ values F.vars trail

-- with a conflict of this number
pub record EndsWithConflict (P : Kept) : Type 0 where
  pub clauses : List Clause
  pub trail : Trail
  pub lines : List Line
  pub number : ℕ
  pub keeps : P clauses trail lines
  pub is_false : least_false (literals trail) clauses ≡ Some number

abbrev pub EndsSo : Formula → Kept → Outcome → Type 0
EndsSo F P (model M) = EndsWithModel F P M
EndsSo F P (refuted lines) = (e : EndsWithConflict P) × (current_level e.trail ≡ 0) × (lines ≡ e.lines ++ learn e.clauses e.trail e.number ∷ [])
EndsSo F P (exhausted x) = (e : EndsWithConflict P) × (1 ≤ current_level e.trail) × (scores : Scores) × (x ≡ unwrap_or (best_outside (held F) (literals (up_to e.trail 0)) scores) 0)

abbrev pub Goes : Type 0 → Formula → Kept → Next FocusedState → Type 0
Goes H F P (goes_on t) = Keeps H P t
Goes H F P (ends o) = EndsSo F P o

-- units are units up to a level
AreUnits-up_to : (K : List Clause) (T : Trail) (b : ℕ) → AreUnits K T → AreUnits K (up_to T b)
AreUnits-up_to K [] b u = tt
AreUnits-up_to K (e ∷ T) b u = go (nat_le e.level b) (AreUnits-up_to K T b u.1)
  where
    go : (x : Bool) → AreUnits K (up_to T b) → AreUnits K (cond x (e ∷ up_to T b) (up_to T b))
    go true more = (u.0, more)
    go false more = more

length-with_used : (ns : List ℕ) (n : ℕ) (marks : List Mark) → length (with_used ns n marks) ≡ length marks
length-with_used ns n [] = refl
length-with_used ns n (m ∷ marks) = ap suc (length-with_used ns (n + 1) marks)

module _ (c : Constants) (F : Formula) (H : Type 0) (P : Kept) (inv : IsInvariant H by_place (held F) P) where
  -- what is known where propagation came to rest, before the units and behind them
  record Rests (s t : FocusedState) : Type 0 where
    before : P s.clauses s.trail s.lines
    none_false : least_false (literals s.trail) s.clauses ≡ None
    same : literals t.trail ≡ literals s.trail
    calm : H → least_false (literals t.trail) t.clauses ≡ None

  abbrev Answered : FocusedState → FocusedState → Closed → Type 0
  Answered s t quiet = Rests s t
  Answered s t (conflict n) = least_false (literals t.trail) t.clauses ≡ Some n

  -- the state behind propagation, with what was there below
  record Closes (s : FocusedState) : Type 0 where
    kept : P s.clauses s.trail s.lines
    lawful : H → IsLawful s.clauses s.trail
    below : H → 1 ≤ current_level s.trail → AreUnits s.clauses (up_to s.trail 0)
    marks : length s.marks ≡ length s.lines

  -- the units
  settled-keeps : (s : FocusedState) → Closes s → Keeps H P (settled s)
  settled-keeps s i = go (nat_eq (current_level s.trail) 0) refl
    where
      u : Units
      u = units_of s.clauses s.trail

      go : (b : Bool) → nat_eq (current_level s.trail) 0 ≡ b → Keeps H P (if b then with_units_of s u else s)
      go false e = record { kept = i.kept; grounded = λ h. (i.lawful h, i.below h (above_zero (current_level s.trail) e)); marks = i.marks }
      go true e =
          let w = units-keep H P inv.unit s.clauses s.trail s.lines (eqb-true (current_level s.trail) 0 e) i.lawful i.kept in
          record { kept = w.0; grounded = λ h. ((w.1 h).0, AreUnits-up_to u.clauses u.trail 0 (w.1 h).1); marks = new_marks }
        where
          new_marks : length (s.marks ++ map (λ line. fresh_mark 0) u.lines) ≡ length (s.lines ++ u.lines)
          new_marks =
              let one = length-append s.marks (map no_mark u.lines) in
              let other = length-append s.lines u.lines in
              let many = length-map u.lines no_mark in
              let before = i.marks in
              omega (arith, one, other, many, before)
            where
              no_mark : Line → Mark
              no_mark line = fresh_mark 0

  settled-answered : (s : FocusedState) (a : Closed) → Closes s → Says s.clauses s.trail a → Answered s (settled s) a
  settled-answered s a i says = go (nat_eq (current_level s.trail) 0) refl a says
    where
      u : Units
      u = units_of s.clauses s.trail

      go : (b : Bool) → nat_eq (current_level s.trail) 0 ≡ b → (a : Closed) → Says s.clauses s.trail a → Answered s (if b then with_units_of s u else s) a
      go false e quiet h = record { before = i.kept; none_false = h; same = refl; calm = λ x. h }
      go false e (conflict n) h = h
      go true e quiet h = record {
        before = i.kept;
        none_false = h;
        same = literals-units s.clauses s.trail;
        calm = λ x. least_false-units s.clauses s.trail (i.lawful x) (eqb-true (current_level s.trail) 0 e) h;
      }
      go true e (conflict n) h = conflict-units s.clauses s.trail n h

  -- a decision, or the model
  quiet-goes : (s t : FocusedState) → Keeps H P t → Rests s t → Goes H F P (on_quiet F.vars t (best_outside (held F) (literals t.trail) t.scores))
  quiet-goes s t i rests = go (best_outside (held F) (literals t.trail) t.scores) refl
    where
      go : (o : Option ℕ) → best_outside (held F) (literals t.trail) t.scores ≡ o → Goes H F P (on_quiet F.vars t o)
      go None e = record {
        clauses = s.clauses;
        trail = s.trail;
        lines = s.lines;
        keeps = rests.before;
        none_false = rests.none_false;
        none_free = best_outside-none (held F) (literals s.trail) t.scores (subst (λ (Q : List Literal). best_outside (held F) Q t.scores ≡ None) rests.same e);
        is_values = ap (λ (Q : List Literal). map (λ v. has Q (positive v)) (variables F.vars)) rests.same;
      }
      go (Some x) e =
          let x_is = best_outside-some (held F) (literals t.trail) t.scores x e in
          let l = saved_literal t.saved x in
          record {
            kept = inv.decided t.clauses t.trail t.lines l rests.calm x_is.0 x_is.1 i.kept;
            grounded = λ h. (
              IsLawful-decide t.clauses t.trail l (i.grounded h).0 x_is.1,
              subst (AreUnits t.clauses) (sym (up_to-push t.trail (record { lit = l; reason = None; level = current_level t.trail + 1 }) 0 (omega arith))) (i.grounded h).1,
            );
            marks = i.marks;
          }

  -- a line is learnt, and the search goes back
  module _ (s : FocusedState) (R : List Literal) (n : ℕ) (i : Keeps H P s) (clash : least_false (literals s.trail) s.clauses ≡ Some n) (above : 1 ≤ current_level s.trail) where
    abbrev line : Line
    line = learn_removing R s.clauses s.trail n

    one_more : {X Y : Type 0} (xs : List X) (x : X) (ys : List Y) (y : Y) → length xs ≡ length ys → length (xs ++ x ∷ []) ≡ length (ys ++ y ∷ [])
    one_more xs x ys y h =
        let one = length-append xs (x ∷ []) in
        let other = length-append ys (y ∷ []) in
        omega (arith, one, other, h)

    -- with learnt clauses forgotten that are no reasons
    forgets : (ns : List ℕ) → AreLearnt ns s.clauses s.lines → AreNoReasons ns (up_to s.trail 0)
        → P (forget ns 1 s.clauses ++ line.clause ∷ []) (up_to s.trail 0) (s.lines ++ forgetting ns line ∷ [])
        × (H → IsLawful (forget ns 1 s.clauses ++ line.clause ∷ []) (up_to s.trail 0) × AreUnits (forget ns 1 s.clauses ++ line.clause ∷ []) (up_to (up_to s.trail 0) 0))
    forgets ns own free = (
      inv.learnt R s.clauses s.trail s.lines n ns 0 clash above (omega arith) own (λ h. free) i.kept,
      λ h. (
        IsLawful-append (forget ns 1 s.clauses) (line.clause ∷ []) (up_to s.trail 0) (IsLawful-forget ns s.clauses (up_to s.trail 0) free (IsLawful-up_to s.clauses s.trail 0 (i.grounded h).0)),
        subst (AreUnits (forget ns 1 s.clauses ++ line.clause ∷ [])) (sym (up_to-up_to s.trail 0 0 (omega arith)))
            (AreUnits-append (forget ns 1 s.clauses) (line.clause ∷ []) (up_to s.trail 0) (AreUnits-forget ns s.clauses (up_to s.trail 0) free (i.grounded h).1)),
      ),
    )

    -- with none forgotten
    keeps_all : (level : ℕ) → level ≤ back_level s.trail line.clause → P (s.clauses ++ line.clause ∷ []) (up_to s.trail level) (s.lines ++ forgetting [] line ∷ [])
        × (H → IsLawful (s.clauses ++ line.clause ∷ []) (up_to s.trail level) × AreUnits (s.clauses ++ line.clause ∷ []) (up_to (up_to s.trail level) 0))
    keeps_all level low = (
      subst (λ (D : List Clause). P (D ++ line.clause ∷ []) (up_to s.trail level) (s.lines ++ forgetting [] line ∷ [])) (forget-nothing 1 s.clauses)
          (inv.learnt R s.clauses s.trail s.lines n [] level clash above low (record { within = λ k t. absurd (cc); whole = λ k t. absurd (cc); distinct = refl }) (λ h k t. absurd (cc)) i.kept),
      λ h. (
        IsLawful-append s.clauses (line.clause ∷ []) (up_to s.trail level) (IsLawful-up_to s.clauses s.trail level (i.grounded h).0),
        subst (AreUnits (s.clauses ++ line.clause ∷ [])) (sym (up_to-up_to s.trail level 0 (omega arith))) (AreUnits-append s.clauses (line.clause ∷ []) (up_to s.trail 0) (i.grounded h).1),
      ),
    )

  learnt-keeps : (s : FocusedState) (n : ℕ) → Keeps H P s → least_false (literals s.trail) s.clauses ≡ Some n → 1 ≤ current_level s.trail → Keeps H P (learnt_next c F.vars s (lesson_of s.clauses s.trail n))
  learnt-keeps s n i clash above = go (is_over w.round w.conflicts) (restarts c w.pace.mode w.restarted w.conflicts w.averages)
    where
      l : Lesson
      l = lesson_of s.clauses s.trail n

      w : FocusedState
      w = weighed c F.vars s l

      R : List Literal
      R = removable s.clauses s.trail (first_walk s.clauses s.trail n).0 s.trail []

      back : ℕ
      back = back_level s.trail l.line.clause

      marked : length w.marks ≡ length s.marks
      marked = length-with_used l.resolved _ s.marks

      go : (over restart : Bool) → Keeps H P (if over then with_lesson (round_ended c (gone_back (over || restart) back w)) l (to_forget c (gone_back (over || restart) back w)) else with_lesson (gone_back (over || restart) back w) l [])
      go true restart =
          let f = forgets s R n i clash above ns own unused_ones in
          record { kept = f.0; grounded = f.1; marks = one_more s R n i clash above (unused w.marks) _ s.lines (forgetting ns l.line) (length-map w.marks not_used ∙ (marked ∙ i.marks)) }
        where
          ns : List ℕ
          ns = to_forget c (gone_back true back w)

          own : AreLearnt ns s.clauses s.lines
          own = record {
            within = λ k t.
                let number = late-number c (up_to s.trail 0) s.clauses w.marks k t in
                let first = number.0 in
                let many = i.marks in
                let same = marked in
                (omega (arith, first, many, same), number.1);
            whole = λ k t. (late-number c (up_to s.trail 0) s.clauses w.marks k t).3;
            distinct = late-differ c (up_to s.trail 0) s.clauses w.marks;
          }

          unused_ones : AreNoReasons ns (up_to s.trail 0)
          unused_ones k t = (late-number c (up_to s.trail 0) s.clauses w.marks k t).2
      go false true =
          let f = keeps_all s R n i clash above 0 (omega arith) in
          record { kept = f.0; grounded = f.1; marks = one_more s R n i clash above w.marks _ s.lines (forgetting [] l.line) (marked ∙ i.marks) }
      go false false =
          let f = keeps_all s R n i clash above back (omega arith) in
          record { kept = f.0; grounded = f.1; marks = one_more s R n i clash above w.marks _ s.lines (forgetting [] l.line) (marked ∙ i.marks) }

  -- a conflict
  conflict-goes : (budget : ℕ) (s : FocusedState) (n : ℕ) → Keeps H P s → least_false (literals s.trail) s.clauses ≡ Some n → Goes H F P (on_conflict c F budget s n)
  conflict-goes budget s n i h = go (nat_eq (current_level s.trail) 0) refl (nat_eq (s.conflicts + 1) budget)
    where
      here : EndsWithConflict P
      here = record { clauses = s.clauses; trail = s.trail; lines = s.lines; number = n; keeps = i.kept; is_false = h }

      go : (b : Bool) → nat_eq (current_level s.trail) 0 ≡ b → (d : Bool)
          → Goes H F P (if b then ends (refuted (s.lines ++ learn s.clauses s.trail n ∷ [])) else if d then ends (exhausted (splits_on F s)) else goes_on (learnt_next c F.vars s (lesson_of s.clauses s.trail n)))
      go true e d = (here, eqb-true (current_level s.trail) 0 e, refl)
      go false e true = (here, above_zero (current_level s.trail) e, s.scores, refl)
      go false e false = learnt-keeps s n i h (above_zero (current_level s.trail) e)

  after-goes : (budget : ℕ) (s t : FocusedState) (a : Closed) → Keeps H P t → Answered s t a → Goes H F P (after c F budget t a)
  after-goes budget s t quiet i h = quiet-goes s t i h
  after-goes budget s t (conflict n) i h = conflict-goes budget t n i h

  pub step-goes : (budget : ℕ) (s : FocusedState) (n : Next FocusedState) → Goes H F P (goes_on s) → IsFocusedStep c F budget s n → Goes H F P n
  step-goes budget s n i w = subst (Goes H F P) w.follows (after-goes budget t (settled t) w.answer (settled-keeps t closes) (settled-answered t w.answer closes says))
    where
      t : FocusedState
      t = record s { trail = w.trail }

      says : Says s.clauses w.trail w.answer
      says = Propagates-says by_place s.clauses s.trail w.trail w.answer w.propagates

      closes : Closes t
      closes = record {
        kept = inv.propagated s.clauses s.trail w.trail s.lines w.answer w.propagates i.kept;
        lawful = λ h. IsLawful-Propagates by_place IsRule-by_place s.clauses s.trail w.trail w.answer w.propagates (i.grounded h).0;
        below = λ h above.
            let level = current_level-Propagates by_place s.clauses s.trail w.trail w.answer w.propagates in
            subst (AreUnits s.clauses) (sym (up_to-Propagates by_place s.clauses s.trail w.trail w.answer 0 w.propagates (omega (arith, level, above)))) (i.grounded h).1;
        marks = i.marks;
      }

-- a cube's trail has no reasons
AreUnits-cube_trail : (K : List Clause) (Q : List Literal) → AreUnits K (cube_trail Q)
AreUnits-cube_trail K [] = tt
AreUnits-cube_trail K (q ∷ Q) = (tt, AreUnits-cube_trail K Q)

-- so ends a run, by what it keeps
pub RunsFocused-ends : (c : Constants) (F : Formula) (B : ℕ) (Q : List Literal) (o : Outcome) (H : Type 0) (P : Kept) → IsInvariant H by_place (held F) P
    → (H → IsLawful F.clauses (cube_trail Q)) → P F.clauses (cube_trail Q) [] → RunsFocused c F B Q o → EndsSo F P o
RunsFocused-ends c F B Q o H P inv lawful begins runs =
    RunsFrom-says (IsFocusedStep c F (budget_within max_focused B Q)) (Goes H F P) (step-goes c F H P inv (budget_within max_focused B Q)) (begin c F Q) o runs
    (record { kept = begins; grounded = λ h. (lawful h, AreUnits-up_to F.clauses (cube_trail Q) 0 (AreUnits-cube_trail F.clauses Q)); marks = refl })

-- a state of the focused search has one step, and so a cube has one outcome
IsFocusedStep-unique : (c : Constants) (F : Formula) (budget : ℕ) (s : FocusedState) (m n : Next FocusedState) → IsFocusedStep c F budget s m → IsFocusedStep c F budget s n → m ≡ n
IsFocusedStep-unique c F budget s m n h k =
    let one = Propagates-unique by_place s.clauses s.trail h.trail k.trail h.answer k.answer h.propagates k.propagates in
    sym h.follows ∙ ap₂ (λ (T : Trail) (a : Closed). after c F budget (settled (record s { trail = T })) a) one.0 one.1 ∙ k.follows

pub RunsFocused-unique : (c : Constants) (F : Formula) (B : ℕ) (Q : List Literal) (o p : Outcome) → RunsFocused c F B Q o → RunsFocused c F B Q p → o ≡ p
RunsFocused-unique c F B Q o p h k = RunsFrom-unique (IsFocusedStep c F _) (IsFocusedStep-unique c F _) (begin c F Q) o p h k
