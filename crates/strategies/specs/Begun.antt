-- What a plan's search of a formula begins with, and how its proof and its model become the
-- formula's.
use Rattle.std.specs.Prelude.{◌≡◌, ℕ, List, [], ◌++◌, length}
use Rattle.theory.specs.Truth.{Formula, Assignment}
use Rattle.theory.specs.Plans.{Plan}
use Rattle.theory.specs.Search as search
use Rattle.theory.specs.Runs.{Runs}
use Rattle.theory.specs.Trees.{Tree}
use Rattle.theory.specs.Steps.{Step}
use Rattle.theory.specs.Simplifying.{extended_model}
use Rattle.theory.specs.Beginnings as theory
use Rattle.theory.specs.Beginnings.{begun, begun_by, beginning_by, model_back, Begins, proof}
use Rattle.theory.specs.Learning.{Line}
use Rattle.cdcl.specs.Outcome.{outcome_by}
use Rattle.simplify.specs.Made.{steps_from}
use Rattle.strategies.specs.declared.begun_formula.Begun.{Begun}
use Rattle.strategies.specs.declared.begun_formula.Begun.TheVariants.{Given, Simplified}
use Rattle.strategies.specs.declared.beginning.Beginning.{Beginning}
use Rattle.strategies.specs.declared.beginning.Beginning.TheVariants.{Decided, Open}

-- the formula that is searched
abbrev pub formula_in : Begun → Formula → Formula
formula_in Given F = F
formula_in (Simplified made) F = made.formula

-- the lines before those of the search
abbrev pub lines_in : Begun → Formula → List Step
lines_in Given F = []
lines_in (Simplified made) F = steps_from (length F.clauses) made.lines

-- of a model of what is searched the formula's
abbrev pub model_in : Begun → Assignment → Assignment
model_in Given M = M
model_in (Simplified made) M = extended_model (length M) made.eliminated M

-- what is searched has so many variables
abbrev pub HasVariables : Begun → ℕ → Type 0
HasVariables Given V = Unit {0}
HasVariables (Simplified made) V = V ≡ made.formula.vars

-- the plan's search of the formula F begins so: what it adds itself, as the unit clauses of pure
-- variables, it adds to the formula that is searched
pub record IsBegun (F : Formula) (plan : Plan) (b : theory.Beginning) (x : Begun) : Type 0 where
  pub begins : Begins plan F b
  pub formula : begun_by plan.search (formula_in x F) ≡ begun F b
  pub vars : HasVariables x F.vars
  pub lines : (t : Tree) → proof F b t ≡ lines_in x F ++ proof (formula_in x F) (beginning_by plan.search) t
  pub back : (M : Assignment) → length M ≡ F.vars → model_in x M ≡ model_back F b M

abbrev pub IsBegunBy : Formula → Plan → Begun → Type 0
IsBegunBy F plan x = (b : theory.Beginning) × IsBegun F plan b x

-- the outcome of the cube without literals decides the formula
abbrev pub IsFinal : search.Outcome → Type 0
IsFinal (search.model M) = Unit {0}
IsFinal (search.refuted lines) = Unit {0}
IsFinal (search.exhausted x) = ⊥

-- so does the plan's search begin; where it is decided already, with the formula itself
abbrev pub IsBeginningOf : {L : Type 0} → (L → List Line) → Formula → Plan → Beginning L → Type 0
IsBeginningOf lines F plan (Decided o) = IsBegunBy F plan Given × Runs (begun_by plan.search F) plan [] (outcome_by lines o) × IsFinal (outcome_by lines o)
IsBeginningOf lines F plan (Open x) = IsBegunBy F plan x
