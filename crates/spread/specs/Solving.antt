-- What is said of cubes once they are solved.
use Rattle.std.specs.Prelude.{◌≡◌, ℕ, Bool, true, false, List, [], ◌∷◌, ◌++◌}
use Rattle.theory.specs.Literals.{Literal}
use Rattle.theory.specs.Truth.{Formula, IsOver}
use Rattle.theory.specs.Plans.{Plan}
use Rattle.theory.specs.Trees.{false_half, true_half, IsCubeOf}
use Rattle.theory.specs.Beginnings.{begun_by}
use Rattle.theory.specs.Checked.{IsFitSplit}
use Rattle.packs.specs.declared.fact.Claim.{Claim}
use Rattle.packs.specs.declared.fact.Claim.TheVariants.{Split, Refuted, Model}
use Rattle.packs.specs.declared.fact.Fact.{Fact}
use Rattle.gathering.specs.Facts.{IsTrueFact}

-- what is said of the cube Q is so, and a split is fit
pub record IsSaidOf (F : Formula) (plan : Plan) (Q : List Literal) (f : Fact) : Type 0 where
  pub cube : f.cube ≡ Q
  pub true : IsTrueFact F plan f
  pub fit : (x : ℕ) → f.claim ≡ Split x → IsFitSplit F f.cube x

-- Q is a cube of the formula's tree, over the formula's variables
pub record IsOfTree (F : Formula) (plan : Plan) (Q : List Literal) : Type 0 where
  pub over : IsOver F.vars Q
  pub cube : IsCubeOf (begun_by plan.search F) plan [] Q

-- once the cube Q is solved, it is said whether it has a model, and these are put on the way of the
-- hand that solved it: the halves of a split one, the left one last, and else nothing
abbrev pub IsStepBy : List Literal → Claim → Bool → List (List Literal) → Type 0
IsStepBy Q Model has_model put = (has_model ≡ true) × (put ≡ [])
IsStepBy Q (Refuted lines) has_model put = (has_model ≡ false) × (put ≡ [])
IsStepBy Q (Split x) has_model put = (has_model ≡ false) × (put ≡ true_half Q x ∷ false_half Q x ∷ [])

-- and so it is by the plan
pub record IsStep (F : Formula) (plan : Plan) (Q : List Literal) (has_model : Bool) (before after : List (List Literal)) : Type 0 where
  pub fact : Fact
  pub said : IsSaidOf F plan Q fact
  pub put : List (List Literal)
  pub steps : IsStepBy Q fact.claim has_model put
  pub way : after ≡ before ++ put
