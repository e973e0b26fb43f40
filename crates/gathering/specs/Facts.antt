-- Facts of cubes and their outcomes.
use Rattle.std.specs.Prelude.{◌≡◌}
use Rattle.theory.specs.Truth.{Formula}
use Rattle.theory.specs.Plans.{Plan}
use Rattle.theory.specs.Search.{Outcome, model, refuted, exhausted}
use Rattle.theory.specs.Runs.{Runs}
use Rattle.theory.specs.Beginnings.{begun_by}
use Rattle.theory.specs.Results.{done}
use Rattle.theory.specs.Results as results
use Rattle.cubes.specs.Solved.{LinesSolved, what_by}
use Rattle.packs.specs.declared.fact.Claim.{Claim}
use Rattle.packs.specs.declared.fact.Claim.TheVariants.{Split, Refuted, Model}
use Rattle.packs.specs.declared.fact.Fact.{Fact}

-- what is said of a cube with this outcome
abbrev pub claim_of : Outcome → Claim
claim_of (model M) = Model
claim_of (refuted lines) = Refuted lines
claim_of (exhausted x) = Split x

-- a fact is true: it says of its cube what the outcome by the plan is
pub record IsTrueFact (F : Formula) (plan : Plan) (f : Fact) : Type 0 where
  pub outcome : Outcome
  pub runs : Runs (begun_by plan.search F) plan f.cube outcome
  pub says : f.claim ≡ claim_of outcome

-- what became of a cube is what is said of it
abbrev pub IsDoneAs : Claim → results.What → Type 0
IsDoneAs (Split x) what = what ≡ done (exhausted x)
IsDoneAs (Refuted lines) what = what ≡ done (refuted lines)
IsDoneAs Model what = ⊥

pub record IsSolvedAs (f : Fact) (s : LinesSolved) : Type 0 where
  pub cube : s.cube ≡ f.cube
  pub what : IsDoneAs f.claim (what_by (λ lines. lines) s.what)
