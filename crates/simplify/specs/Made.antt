-- What a simplification makes of a formula.
use Rattle.std.specs.Prelude.{◌≡◌, ℕ, ◌+◌, List, [], ◌∷◌, length}
use Rattle.theory.specs.Truth.{Formula, Assignment}
use Rattle.theory.specs.Learning.{Line}
use Rattle.theory.specs.Steps.{Step, add, delete}
use Rattle.theory.specs.Simplifying.{Eliminated, Change, simplified, simplified_formula, simplification, extended_model}

-- the formula that is searched, the lines before those of the search, and the eliminated variables
pub record Made : Type 0 where
  pub formula : Formula
  pub lines : List Line
  pub eliminated : List Eliminated

-- the lines as a proof's, behind so many clauses: where one has no hints, it says what is deleted
abbrev pub steps_from : ℕ → List Line → List Step
steps_from last [] = []
steps_from last (line ∷ lines) = elim line.hints [
  | [] ↦ delete (record { id = last; ids = line.forgets }) ∷ steps_from last lines
  | h ∷ hs ↦ add (record { id = last + 1; clause = line.clause; hints = line.hints; groups = [] }) ∷ steps_from (last + 1) lines
]

-- it is made of the formula by these changes
pub record IsMadeBy (F : Formula) (cs : List Change) (m : Made) : Type 0 where
  pub formula : m.formula ≡ simplified_formula F (simplified F cs)
  pub lines : steps_from (length F.clauses) m.lines ≡ simplification F cs
  pub extends : (M : Assignment) → length M ≡ F.vars → extended_model F.vars m.eliminated M ≡ extended_model F.vars (simplified F cs).eliminated M
