-- A fact of a cube as lines: the first one has the cube as its clause, its hints say what is said of
-- the cube, and it forgets nothing; behind it come the lines of a refuted one.
use Rattle.std.specs.Prelude.{◌≡◌, ℕ, List, [], ◌∷◌}
use Rattle.theory.specs.Literals.{IsVariable, IsCube}
use Rattle.theory.specs.Truth.{IsOver}
use Rattle.theory.specs.Learning.{Line}
use Rattle.lines.specs.Rows.{row, IsWhole}
use Rattle.packs.specs.declared.fact.Claim.{Claim}
use Rattle.packs.specs.declared.fact.Claim.TheVariants.{Split, Refuted, Model}
use Rattle.packs.specs.declared.fact.Fact.{Fact}

-- 1 and the variable of a split, 2 of a refuted cube, 3 of one with a model
abbrev pub hints_of : Claim → List ℕ
hints_of (Split x) = 1 ∷ x ∷ []
hints_of (Refuted lines) = 2 ∷ []
hints_of Model = 3 ∷ []

abbrev pub lines_behind : Claim → List Line
lines_behind (Split x) = []
lines_behind (Refuted lines) = lines
lines_behind Model = []

abbrev pub lines_of : Fact → List Line
lines_of f = record { clause = f.cube; hints = hints_of f.claim; forgets = [] } ∷ lines_behind f.claim

-- the bytes are whole lines, and those of the fact
pub record IsBody (bytes : List ℕ) (f : Fact) : Type 0 where
  pub whole : IsWhole bytes
  pub lines : (row bytes).lines ≡ lines_of f

-- a split is on one of the variables 1 to V
abbrev pub IsClaimOver : ℕ → Claim → Type 0
IsClaimOver V (Split x) = IsVariable V x
IsClaimOver V (Refuted lines) = Unit {0}
IsClaimOver V Model = Unit {0}

-- the fact is of a cube over the variables 1 to V
pub record IsFactOver (V : ℕ) (f : Fact) : Type 0 where
  pub cube : IsCube f.cube
  pub over : IsOver V f.cube
  pub claim : IsClaimOver V f.claim

-- so are bytes read as a fact
pub record IsReadAs (V : ℕ) (bytes : List ℕ) (f : Fact) : Type 0 where
  pub body : IsBody bytes f
  pub over : IsFactOver V f
