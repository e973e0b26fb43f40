-- The ordered search: the least free variable is decided false, and nothing is forgotten. So the
-- model that it finds is the first one. Source: textbook CDCL (Handbook of Satisfiability), with a
-- fixed order of decisions and no restarts.
use Rattle.std.specs.Prelude.{◌≡◌, ℕ, ◌+◌, nat_eq, List, [], ◌∷◌, ◌++◌, Option, Some, None, if◌then◌else◌}
use Rattle.std.specs.Option.{unwrap_or}
use Rattle.theory.specs.Literals.{Literal, Clause, negative}
use Rattle.theory.specs.Truth.{Formula}
use Rattle.theory.specs.Trails.{Trail, current_level, cube_trail, decide, up_to, least_free}
use Rattle.theory.specs.Propagation.{Closed, quiet, conflict, by_number, Propagates}
use Rattle.theory.specs.Learning.{Line, learn, back_level}
use Rattle.theory.specs.Search.{Outcome, model, refuted, exhausted, budget_of, values, Next, ends, goes_on, RunsFrom}

-- its state: the clauses and the trail, the conflicts counted, the first variable decided, and the
-- lines learnt
pub record OrderedState : Type 0 where
  pub clauses : List Clause
  pub trail : Trail
  pub conflicts : ℕ
  pub decided : Option ℕ
  pub lines : List Line

abbrev pub begin : Formula → List Literal → OrderedState
begin F Q = record { clauses = F.clauses; trail = cube_trail Q; conflicts = 0; decided = None; lines = [] }

-- the state after the decision that x is false
abbrev pub decided_next : OrderedState → ℕ → OrderedState
decided_next s x = record s { trail = decide s.trail (negative x); decided = Some (unwrap_or s.decided x) }

-- the state after a line was learnt
abbrev pub learnt_next : OrderedState → Line → OrderedState
learnt_next s line = record {
  clauses = s.clauses ++ line.clause ∷ [];
  trail = up_to s.trail (back_level s.trail line.clause);
  conflicts = s.conflicts + 1;
  decided = s.decided;
  lines = s.lines ++ line ∷ [];
}

abbrev pub on_quiet : ℕ → OrderedState → Option ℕ → Next OrderedState
on_quiet V s None = ends (model (values V s.trail))
on_quiet V s (Some x) = goes_on (decided_next s x)

abbrev pub on_conflict : ℕ → OrderedState → Line → Next OrderedState
on_conflict budget s line =
    if nat_eq (current_level s.trail) 0 then ends (refuted (s.lines ++ line ∷ []))
    else if nat_eq (s.conflicts + 1) budget then ends (exhausted (unwrap_or s.decided 0))
    else goes_on (learnt_next s line)

-- what follows an answer of propagation
abbrev pub after : ℕ → ℕ → OrderedState → Closed → Next OrderedState
after V budget s quiet = on_quiet V s (least_free V s.trail)
after V budget s (conflict n) = on_conflict budget s (learn s.clauses s.trail n)

-- a step: propagation, and what follows its answer
pub record IsOrderedStep (V budget : ℕ) (s : OrderedState) (next : Next OrderedState) : Type 0 where
  pub answer : Closed
  pub trail : Trail
  pub propagates : Propagates by_number s.clauses s.trail answer trail
  pub follows : after V budget (record s { trail = trail }) answer ≡ next

-- the outcome of the cube Q, where B is the budget of the root
abbrev pub RunsOrdered : Formula → ℕ → List Literal → Outcome → Type 0
RunsOrdered F B Q o = RunsFrom (IsOrderedStep F.vars (budget_of B Q)) (begin F Q) o
