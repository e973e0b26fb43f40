-- Facts that are kept elsewhere, and the outcomes that they come to.
use Rattle.std.specs.Prelude.{◌≡◌, List, Option, Some, All}
use Rattle.theory.specs.Literals.{Literal}
use Rattle.theory.specs.Truth.{Formula}
use Rattle.theory.specs.Plans.{Search, Plan}
use Rattle.theory.specs.Beginnings.{begun_by}
use Rattle.packs.specs.declared.fact.Fact.{Fact}
use Rattle.packs.specs.Checking.{IsCheckedFact, IsChecking}
use Rattle.cubes.specs.Source.{IsLazySolver}
use Rattle.gathering.specs.Facts.{IsTrueFact}
use Rattle.gathering.specs.declared.outcomes.StoredOutcomes.{StoredOutcomes}

-- the fact is one of the cube Q, and is checked
abbrev pub IsCheckedOfCube : Search → Formula → List Literal → Fact → Type 0
IsCheckedOfCube search F Q f = (f.cube ≡ Q) × IsCheckedFact search F f

-- a store tells its facts, and all of them are true by the plan
abbrev pub AreTrueFacts : {S : Type 0} → (S → Option (List Fact)) → Formula → Plan → S → Type 0
AreTrueFacts facts F plan s = (fs : List Fact) × (facts s ≡ Some fs) × All (IsTrueFact F plan) fs

-- the checker and the solver are the formula's, by the plan
pub record Gives {S : Type 0} (F : Formula) (plan : Plan) (o : StoredOutcomes S) : Type 0 where
  pub checker : IsChecking plan.search F o.checker
  pub solver : IsLazySolver (begun_by plan.search F) plan o.solver
