-- The focused search: it decides the variables that gained most in conflicts, in two modes,
-- restarts, and forgets learnt clauses in rounds. Source: CDCL as in MiniSat (SAT 2003) and Glucose
-- (IJCAI 2009), with the modes and rounds of later solvers (Biere and Fleury, POS 2020), in natural
-- numbers alone, so that the outcome is fixed by the formula, the plan and the cube.
use Rattle.std.specs.Prelude.{◌≡◌, ℕ, ◌+◌, ◌-◌, nat_eq, Bool, true, false, ◌||◌, List, [], ◌∷◌, ◌++◌, map, length, drop, Option, Some, None, if◌then◌else◌}
use Rattle.std.specs.Option.{unwrap_or}
use Rattle.theory.specs.Literals.{Literal, Clause, has, has_var, positive}
use Rattle.theory.specs.Truth.{Formula, Assignment, value}
use Rattle.theory.specs.Plans.{Constants}
use Rattle.theory.specs.Trails.{Trail, literals, current_level, cube_trail, decide, up_to, variables}
use Rattle.theory.specs.Held.{held}
use Rattle.theory.specs.Propagation.{Closed, quiet, conflict, by_place, Propagates}
use Rattle.theory.specs.Learning.{Line, learn, back_level}
use Rattle.theory.specs.Units.{Units, units_of}
use Rattle.theory.specs.Lessons.{Lesson, lesson_of}
use Rattle.theory.specs.Search.{Outcome, model, refuted, exhausted, budget_within, max_focused, values, Next, ends, goes_on, RunsFrom}
use Rattle.theory.specs.Modes.{Pace, first_pace, is_restarting, pace_after}
use Rattle.theory.specs.Scores.{Scores, first_scores, best_outside, is_seen, scores_after}
use Rattle.theory.specs.Restarts.{Glues, no_glues, glues_after, restarts}
use Rattle.theory.specs.Forgetting.{Mark, fresh_mark, with_used, unused, candidates, late_ones, forgetting, forget}
use Rattle.theory.specs.Rephasing.{Turn, first_turn, is_over, next_turn, rephased}

-- its state: the clauses, the trail, the lines learnt with their marks, and what choices are made
-- by
pub record FocusedState : Type 0 where
  pub clauses : List Clause
  pub trail : Trail
  pub lines : List Line
  pub marks : List Mark
  -- the conflicts above level 0; and of stable mode the conflicts, and the decisions, also those
  -- that were taken back
  pub conflicts : ℕ
  pub stable_conflicts : ℕ
  pub decisions : ℕ
  pub scores : Scores
  -- the value that each variable had last
  pub saved : Assignment
  pub averages : Glues
  -- the last conflict at which it restarted, or a round ended
  pub restarted : ℕ
  pub pace : Pace
  pub round : Turn

abbrev pub begin : Constants → Formula → List Literal → FocusedState
begin c F Q = record {
  clauses = F.clauses;
  trail = cube_trail Q;
  lines = [];
  marks = [];
  conflicts = 0;
  stable_conflicts = 0;
  decisions = 0;
  scores = first_scores c F.vars;
  saved = map (λ v. true) (variables F.vars);
  averages = no_glues;
  restarted = 0;
  pace = first_pace c;
  round = first_turn c;
}

-- 1 in stable mode
abbrev pub if_stable : FocusedState → ℕ
if_stable s = if is_restarting s.pace.mode then 0 else 1

-- with the units of level 0
abbrev pub with_units_of : FocusedState → Units → FocusedState
with_units_of s u = record s { clauses = u.clauses; trail = u.trail; lines = s.lines ++ u.lines; marks = s.marks ++ map (λ line. fresh_mark 0) u.lines }

-- behind propagation: at level 0 the units become lines
abbrev pub settled : FocusedState → FocusedState
settled s = if nat_eq (current_level s.trail) 0 then with_units_of s (units_of s.clauses s.trail) else s

-- the literal of a variable that is true where it has its saved value
abbrev pub saved_literal : Assignment → ℕ → Literal
saved_literal saved x = record { var = x; positive = value saved x }

-- the held free variable of greatest score gets its saved value
abbrev pub decided_next : FocusedState → ℕ → FocusedState
decided_next s x = record s { trail = decide s.trail (saved_literal s.saved x); decisions = s.decisions + if_stable s }

abbrev pub on_quiet : ℕ → FocusedState → Option ℕ → Next FocusedState
on_quiet V s None = ends (model (values V s.trail))
on_quiet V s (Some x) = goes_on (decided_next s x)

-- the values saved, where those on the trail are taken too
abbrev pub saved_after : ℕ → Trail → Assignment → Assignment
saved_after V T saved = map (λ v. if has_var (literals T) v then has (literals T) (positive v) else value saved v) (variables V)

-- how many clauses are first ones
abbrev pub first_count : FocusedState → ℕ
first_count s = length s.clauses - length s.marks

-- what choices are made by, after a conflict
abbrev pub weighed : Constants → ℕ → FocusedState → Lesson → FocusedState
weighed c V s l = record s {
  marks = with_used l.resolved (first_count s + 1) s.marks;
  conflicts = s.conflicts + 1;
  stable_conflicts = s.stable_conflicts + if_stable s;
  scores = scores_after c s.pace.mode V (is_seen s.clauses s.trail l.seen) s.scores;
  saved = saved_after V s.trail s.saved;
  averages = glues_after c s.pace.mode l.glue s.averages;
}

-- the trail goes back to level 0, where it restarts, or to this level
abbrev pub gone_back : Bool → ℕ → FocusedState → FocusedState
gone_back true level s = record s { trail = up_to s.trail 0; restarted = s.conflicts }
gone_back false level s = record s { trail = up_to s.trail level }

-- the numbers of the clauses that a round's end forgets
abbrev pub to_forget : Constants → FocusedState → List ℕ
to_forget c s = late_ones (candidates c s.trail (first_count s + 1) (drop (first_count s) s.clauses) s.marks)

-- the end of a round
abbrev pub round_ended : Constants → FocusedState → FocusedState
round_ended c s = record s {
  clauses = forget (to_forget c s) 1 s.clauses;
  marks = unused s.marks;
  saved = rephased s.round.number s.saved;
  round = next_turn c s.conflicts s.round;
  pace = pace_after s.conflicts s.pace;
}

-- the line's clause gets the next number; these are forgotten behind it
abbrev pub with_lesson : FocusedState → Lesson → List ℕ → FocusedState
with_lesson s l numbers = record s {
  clauses = s.clauses ++ l.line.clause ∷ [];
  lines = s.lines ++ forgetting numbers l.line ∷ [];
  marks = s.marks ++ fresh_mark l.glue ∷ [];
}

-- the state after a conflict that it learns from: the trail goes back to level 0 where the round
-- ends or the averages say so, and else to the line's level
abbrev pub learnt_next : Constants → ℕ → FocusedState → Lesson → FocusedState
learnt_next c V s l =
    let w = weighed c V s l in
    let over = is_over w.round w.conflicts in
    let back = gone_back (over || restarts c w.pace.mode w.restarted w.conflicts w.averages) (back_level s.trail l.line.clause) w in
    if over then with_lesson (round_ended c back) l (to_forget c back) else with_lesson back l []

-- the variable in which a cube is exhausted: of the held ones that aren't on the trail at level 0,
-- the one of greatest score
abbrev pub splits_on : Formula → FocusedState → ℕ
splits_on F s = unwrap_or (best_outside (held F) (literals (up_to s.trail 0)) s.scores) 0

-- a conflict with the clause of number n
abbrev pub on_conflict : Constants → Formula → ℕ → FocusedState → ℕ → Next FocusedState
on_conflict c F budget s n =
    if nat_eq (current_level s.trail) 0 then ends (refuted (s.lines ++ learn s.clauses s.trail n ∷ []))
    else if nat_eq (s.conflicts + 1) budget then ends (exhausted (splits_on F s))
    else goes_on (learnt_next c F.vars s (lesson_of s.clauses s.trail n))

-- what follows an answer of propagation
abbrev pub after : Constants → Formula → ℕ → FocusedState → Closed → Next FocusedState
after c F budget s quiet = on_quiet F.vars s (best_outside (held F) (literals s.trail) s.scores)
after c F budget s (conflict n) = on_conflict c F budget s n

-- a step of the search of F: propagation, the units, and what follows the answer
pub record IsFocusedStep (c : Constants) (F : Formula) (budget : ℕ) (s : FocusedState) (next : Next FocusedState) : Type 0 where
  pub answer : Closed
  pub trail : Trail
  pub propagates : Propagates by_place s.clauses s.trail answer trail
  pub follows : after c F budget (settled (record s { trail = trail })) answer ≡ next

-- the outcome of the cube Q, where B is the budget of the root
abbrev pub RunsFocused : Constants → Formula → ℕ → List Literal → Outcome → Type 0
RunsFocused c F B Q o = RunsFrom (IsFocusedStep c F (budget_within max_focused B Q)) (begin c F Q) o
