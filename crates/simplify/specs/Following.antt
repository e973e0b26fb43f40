-- How the state of a simplification follows its definition, try by try.
use Rattle.std.specs.Prelude.{◌≡◌, ℕ, ◌-◌, ◌<◌, ◌≤◌, Bool, List, [], ◌∷◌, ◌++◌, map, length, Some, slice_get}
use Rattle.theory.specs.Literals.{Clause}
use Rattle.theory.specs.Truth.{Formula}
use Rattle.theory.specs.Trails.{variables}
use Rattle.theory.specs.Learning.{Line}
use Rattle.theory.specs.Checking.{clause_of}
use Rattle.theory.specs.Simplifying.{Simplified, Change, adds, drops, eliminates, simplified, extended}
use Rattle.theory.specs.Eliminating.{IsTidy}
use Rattle.theory.specs.Trying.{Trial, Tries}
use Rattle.simplify.specs.Entries.{set, weight_in}
use Rattle.simplify.specs.Extending.{AreOver}
use Rattle.simplify.specs.Stored.{stored}
use Rattle.simplify.specs.Tried.{State, line_of_gone}

-- the lines of the changes
abbrev pub lines_of : List Change → List Line
lines_of [] = []
lines_of (adds line ∷ cs) = line ∷ lines_of cs
lines_of (drops ns ∷ cs) = line_of_gone ns ++ lines_of cs
lines_of (eliminates x ns ∷ cs) = line_of_gone ns ++ lines_of cs

-- each line that is added has hints
abbrev pub AreHinted : List Change → Type 0
AreHinted [] = Unit {0}
AreHinted (adds line ∷ cs) = ((h : ℕ) × (hs : List ℕ) × (line.hints ≡ h ∷ hs)) × AreHinted cs
AreHinted (drops ns ∷ cs) = AreHinted cs
AreHinted (eliminates x ns ∷ cs) = AreHinted cs

-- the clauses up to the formula's number are the formula's, and the others are sets
pub record IsOf (F : Formula) (s : Simplified) : Type 0 where
  pub longer : length F.clauses ≤ s.last
  pub old : (n : ℕ) (c : Clause) → clause_of s.clauses n ≡ Some c → n ≤ length F.clauses → slice_get F.clauses (n - 1) ≡ Some c
  pub new : (n : ℕ) (c : Clause) → clause_of s.clauses n ≡ Some c → length F.clauses < n → set c ≡ c

-- a is the state where the changes cs were made, and t that of the definition
pub record Follows (F : Formula) (cs : List Change) (t : Trial) (a : State) : Type 0 where
  pub vars : a.vars ≡ F.vars
  pub tidy : IsTidy F.vars t.state
  pub changes : t.state ≡ simplified F cs
  pub entries : a.entries ≡ stored t.state
  pub weights : a.waiting.weights ≡ map (weight_in a.entries) (variables F.vars)
  pub waits : a.waiting.waits ≡ t.waiting
  pub work : a.work ≡ t.work
  pub lines : a.lines ≡ lines_of cs
  pub hinted : AreHinted cs
  pub kept : (m : ℕ → Bool) (v : ℕ) → extended m a.eliminated v ≡ extended m t.state.eliminated v
  pub over : AreOver F.vars a.eliminated
  pub origin : IsOf F t.state

-- from t the changes cs lead to u
abbrev pub Leads : ℕ → ℕ → Trial → List Change → Trial → Type 0
Leads V most t cs u = (ds : List Change) → Tries V most u ds → Tries V most t (cs ++ ds)

-- b is the state after the tries behind a, where no variable is left to be tried
abbrev pub IsFinished : ℕ → State → State → Type 0
IsFinished most a b = (F : Formula) (cs : List Change) (t : Trial) → Follows F cs t a → (ds : List Change) × (u : Trial) × Tries F.vars most t ds × Follows F (cs ++ ds) u b

-- so far
abbrev pub IsUnderWay : ℕ → State → State → Type 0
IsUnderWay most a b = (F : Formula) (cs : List Change) (t : Trial) → Follows F cs t a → (ds : List Change) × (u : Trial) × Leads F.vars most t ds u × Follows F (cs ++ ds) u b
