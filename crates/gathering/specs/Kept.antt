-- The results that are kept of facts.
use Rattle.std.specs.Prelude.{List, [], ◌∷◌}
use Rattle.theory.specs.Truth.{Formula}
use Rattle.theory.specs.Plans.{Search}
use Rattle.cubes.specs.Solved.{LinesSolved}
use Rattle.packs.specs.declared.fact.Fact.{Fact}
use Rattle.packs.specs.Checking.{IsCheckedFact}
use Rattle.gathering.specs.Facts.{IsSolvedAs}

-- of the facts, those that are checked have their results, in their order
pub data Keeps (search : Search) (F : Formula) : List Fact → List LinesSolved → Type 0 where
  nothing : Keeps search F [] []
  keeps : {f : Fact} {fs : List Fact} {s : LinesSolved} {ss : List LinesSolved} → IsCheckedFact search F f → IsSolvedAs f s → Keeps search F fs ss
      → Keeps search F (f ∷ fs) (s ∷ ss)
  leaves_out : {f : Fact} {fs : List Fact} {ss : List LinesSolved} → ¬ (IsCheckedFact search F f) → Keeps search F fs ss → Keeps search F (f ∷ fs) ss
