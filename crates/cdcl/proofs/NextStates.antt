-- What the state after a conflict is, field by field, by the definition of the focused search.
use Rattle.std.proofs.Common.{◌≡◌, ℕ, ◌+◌, Bool, true, false, ◌||◌, List, [], ◌∷◌, ◌++◌, refl, if◌then◌else◌}
use Rattle.theory.specs.Plans.{Constants}
use Rattle.theory.specs.Trails.{up_to}
use Rattle.theory.specs.Learning.{back_level}
use Rattle.theory.specs.Lessons.{Lesson}
use Rattle.theory.specs.Modes.{pace_after}
use Rattle.theory.specs.Scores.{Scores, is_seen, scores_after}
use Rattle.theory.specs.Restarts.{glues_after, restarts}
use Rattle.theory.specs.Forgetting.{Mark, fresh_mark, with_used, unused, forgetting, forget}
use Rattle.theory.specs.Rephasing.{is_over, next_turn, rephased}
use Rattle.theory.specs.Focused.{FocusedState, if_stable, first_count, saved_after, weighed, gone_back, to_forget, round_ended, with_lesson, learnt_next}
use Rattle.cdcl.specs.Forgetful.{late_numbers}

-- the marks once those of the clauses that were resolved are used
abbrev pub used_marks : FocusedState → Lesson → List Mark
used_marks s l = with_used l.resolved (first_count s + 1) s.marks

-- the state after the conflict, with these marks and these scores, where the trail goes back to this
-- level or to level 0, and the round is over or isn't
abbrev pub flat : Constants → ℕ → FocusedState → Lesson → List Mark → Scores → ℕ → Bool → Bool → FocusedState
flat c V s l marks scores level over back =
    let late = late_numbers c (up_to s.trail (if back then 0 else level)) marks s.clauses in record {
      clauses = (if over then forget late 1 s.clauses else s.clauses) ++ l.line.clause ∷ [];
      trail = up_to s.trail (if back then 0 else level);
      lines = s.lines ++ forgetting (if over then late else []) l.line ∷ [];
      marks = (if over then unused marks else marks) ++ fresh_mark l.glue ∷ [];
      conflicts = s.conflicts + 1;
      stable_conflicts = s.stable_conflicts + if_stable s;
      decisions = s.decisions;
      scores = scores;
      saved = if over then rephased s.round.number (saved_after V s.trail s.saved) else saved_after V s.trail s.saved;
      averages = glues_after c s.pace.mode l.glue s.averages;
      restarted = if back then s.conflicts + 1 else s.restarted;
      pace = if over then pace_after (s.conflicts + 1) s.pace else s.pace;
      round = if over then next_turn c (s.conflicts + 1) s.round else s.round;
    }

pub learnt_next-flat : (c : Constants) (V : ℕ) (s : FocusedState) (l : Lesson)
    → let over = is_over s.round (s.conflicts + 1) in
    learnt_next c V s l
    ≡ flat c V s l (used_marks s l) (scores_after c s.pace.mode V (is_seen s.clauses s.trail l.seen) s.scores) (back_level s.trail l.line.clause) over
    (over || restarts c s.pace.mode s.restarted (s.conflicts + 1) (glues_after c s.pace.mode l.glue s.averages))
learnt_next-flat c V s l = go (is_over s.round (s.conflicts + 1)) (restarts c s.pace.mode s.restarted (s.conflicts + 1) (glues_after c s.pace.mode l.glue s.averages))
  where
    w : FocusedState
    w = weighed c V s l

    level : ℕ
    level = back_level s.trail l.line.clause

    go : (o r : Bool) → (if o then with_lesson (round_ended c (gone_back (o || r) level w)) l (to_forget c (gone_back (o || r) level w)) else with_lesson (gone_back (o || r) level w) l [])
        ≡ flat c V s l (used_marks s l) (scores_after c s.pace.mode V (is_seen s.clauses s.trail l.seen) s.scores) level o (o || r)
    go true r = refl
    go false true = refl
    go false false = refl
