-- The values that variables had last, and which variables wait to be decided.
use Rattle.std.specs.Prelude.{◌≡◌, ℕ, Bool, false, List, length, map}
use Rattle.theory.specs.Literals.{Literal, IsVariable, has_var}
use Rattle.theory.specs.Truth.{Formula, Assignment, value}
use Rattle.theory.specs.Trails.{variables}
use Rattle.theory.specs.Held.{is_held}
use Rattle.heuristics.specs.Rankings.{AllWait, vars_of}
use Rattle.cdcl.specs.declared.search.decisions.Decisions.{Decisions}

-- each of the variables 1 to V that has no literal in P has the same value by both
abbrev pub AgreeOutside : ℕ → List Literal → Assignment → Assignment → Type 0
AgreeOutside V P M N = (v : ℕ) → IsVariable V v → has_var P v ≡ false → value M v ≡ value N v

-- the flags say of each variable whether the formula's clauses hold it
abbrev pub HoldsAsIn : Formula → List Bool → Type 0
HoldsAsIn F flags = flags ≡ map (is_held F.clauses) (variables F.vars)

-- the decisions are among the variables 1 to V, and each held one without a literal in P waits
pub record AreWaiting (V : ℕ) (P : List Literal) (d : Decisions) : Type 0 where
  pub vars : vars_of d.scores ≡ V
  pub long : length d.scores.waiting ≡ V
  pub saved : length d.saved ≡ V
  pub flags : length d.held.items ≡ V
  pub waits : AllWait d.scores (value d.held.items) P

-- all but which variables wait, and the saved values, is the same
pub record AreKept (d e : Decisions) : Type 0 where
  pub scores : e.scores.scores ≡ d.scores.scores
  pub constants : e.scores.constants ≡ d.scores.constants
  pub held : e.held ≡ d.held
