-- How a search of a formula begins: with which clauses, behind which lines of the proof, and how a
-- model of these clauses becomes one of the formula. Source: this project's own.
use Rattle.std.specs.Prelude.{◌≡◌, ℕ, ◌≤◌, min, true, List, [], ◌++◌}
use Rattle.theory.specs.Truth.{Formula, Assignment}
use Rattle.theory.specs.Plans.{Search, ordered, focused, Plan}
use Rattle.theory.specs.Pure.{searched}
use Rattle.theory.specs.Search.{exhausted}
use Rattle.theory.specs.Focused.{RunsFocused}
use Rattle.theory.specs.Trees.{Tree, Result, model_of, tree_of}
use Rattle.theory.specs.Steps.{Step}
use Rattle.theory.specs.Proofs.{prelude, lines_of}
use Rattle.theory.specs.Simplifying.{Change, AreSimplifying, simplified, simplified_formula, simplification, extended_model}
use Rattle.theory.specs.Trying.{IsSimplification}

pub data Beginning : Type 0 where
  -- with the formula's clauses
  as_it_is : Beginning
  -- the unit clauses of the pure variables are added
  by_pure_units : Beginning
  -- with the clauses that a simplification leaves
  by_changes : List Change → Beginning

-- the formula of the clauses that the search begins with
abbrev pub begun : Formula → Beginning → Formula
begun F as_it_is = F
begun F by_pure_units = searched F
begun F (by_changes cs) = simplified_formula F (simplified F cs)

-- the lines before all others
abbrev pub lines_before : Formula → Beginning → List Step
lines_before F as_it_is = []
lines_before F by_pure_units = prelude F
lines_before F (by_changes cs) = simplification F cs

-- of a model of those clauses the formula's
abbrev pub model_back : Formula → Beginning → Assignment → Assignment
model_back F as_it_is M = M
model_back F by_pure_units M = M
model_back F (by_changes cs) M = extended_model F.vars (simplified F cs).eliminated M

abbrev pub result_back : Formula → Beginning → Result → Result
result_back F b (model_of M) = model_of (model_back F b M)
result_back F b (tree_of t) = tree_of t

-- whether the search may begin so: not by changes where its model is to be the first
abbrev pub IsBeginning : Search → Formula → Beginning → Type 0
IsBeginning search F as_it_is = Unit {0}
IsBeginning search F by_pure_units = Unit {0}
IsBeginning ordered F (by_changes cs) = ⊥
IsBeginning (focused c) F (by_changes cs) = (1 ≤ F.vars) × AreSimplifying F cs

-- the proof of a tree without a satisfied leaf
abbrev pub proof : Formula → Beginning → Tree → List Step
proof F b t = lines_before F b ++ lines_of (begun F b).clauses t

-- how each search begins where nothing is simplified: the ordered one alone adds the clauses of pure
-- variables
abbrev pub beginning_by : Search → Beginning
beginning_by ordered = by_pure_units
beginning_by (focused c) = as_it_is

-- the formula that it begins with, of the same variables
abbrev pub begun_by : Search → Formula → Formula
begun_by search F = record F { clauses = (begun F (beginning_by search)).clauses }

-- so many conflicts may solve a formula before it is simplified
abbrev pub first_tried : ℕ
first_tried = 1000

-- the search of the cube without literals, begun as it would be, uses up t conflicts
abbrev pub IsHard : Search → Formula → ℕ → Type 0
IsHard ordered F t = ⊥
IsHard (focused c) F t = (x : ℕ) × RunsFocused c F t [] (exhausted x)

-- the plan wants it, and the formula isn't solved soon
pub record IsToSimplify (F : Formula) (plan : Plan) : Type 0 where
  pub wanted : plan.simplify ≡ true
  pub hard : IsHard plan.search F (min first_tried plan.budget)

-- how a plan's search begins
pub data Begins (plan : Plan) (F : Formula) : Beginning → Type 0 where
  directly : {b : Beginning} → ¬ (IsToSimplify F plan) → b ≡ beginning_by plan.search → Begins plan F b
  simpler : {cs : List Change} → IsToSimplify F plan → IsSimplification F cs → Begins plan F (by_changes cs)
