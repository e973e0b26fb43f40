-- Results of cubes, as the definitions have them.
use Rattle.std.specs.Prelude.{List, All, map}
use Rattle.theory.specs.Truth as truth
use Rattle.theory.specs.Plans.{Search, Plan}
use Rattle.theory.specs.Learning.{Line}
use Rattle.theory.specs.Results as results
use Rattle.theory.specs.Checked.{IsCheckedOf}
use Rattle.cdcl.specs.Outcome.{outcome_by}
use Rattle.cubes.specs.declared.solved.What.{What}
use Rattle.cubes.specs.declared.solved.What.TheVariants.{Done, Skipped}
use Rattle.cubes.specs.declared.solved.Solved.{Solved}

-- a row and a refutation are both seen as the lines that they have, and so the results with them
-- are of one type
abbrev pub LinesSolved : Type 0
LinesSolved = Solved (List Line)

abbrev pub what_by : {L : Type 0} → (L → List Line) → What L → results.What
what_by lines (Done o) = results.done (outcome_by lines o)
what_by lines (Skipped place) = results.skipped place

-- the result where a refuted cube keeps what has these lines
abbrev pub solved_by : {L : Type 0} → (L → List Line) → Solved L → results.Solved
solved_by lines s = record { cube = s.cube; what = what_by lines s.what }

abbrev pub results_by : {L : Type 0} → (L → List Line) → List (Solved L) → List results.Solved
results_by lines rs = map (solved_by lines) rs

-- and where it keeps its lines
abbrev pub solved_of : LinesSolved → results.Solved
solved_of s = solved_by (λ lines. lines) s

-- each result is true: an outcome is its cube's, and of a cube that was skipped nothing is said
abbrev pub AreTrueBy : {L : Type 0} → (L → List Line) → truth.Formula → Plan → List (Solved L) → Type 0
AreTrueBy lines F plan rs = All (λ s. results.IsTrueOf F plan s.cube (what_by lines s.what)) rs

abbrev pub AreTrueResults : truth.Formula → Plan → List LinesSolved → Type 0
AreTrueResults F plan rs = AreTrueBy (λ lines. lines) F plan rs

-- each result is checked, if its cube is one over the formula's variables
abbrev pub AreCheckedBy : {L : Type 0} → (L → List Line) → Search → truth.Formula → List (Solved L) → Type 0
AreCheckedBy lines search F rs = All (λ s. IsCheckedOf search F s.cube (what_by lines s.what)) rs

-- and where they keep their lines
abbrev pub AreCheckedResults : Search → truth.Formula → List LinesSolved → Type 0
AreCheckedResults search F rs = AreCheckedBy (λ lines. lines) search F rs
