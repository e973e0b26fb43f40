-- What is checked of the results of cubes where nobody vouches for them: enough for the answer to
-- be right. Source: textbook cube-and-conquer (HVC 2011); that lines are judged by replaying them,
-- and not by who wrote them, is LRAT's (CADE 2017).
use Rattle.std.specs.Prelude.{◌≡◌, ℕ, false, List, [], length, Option, Some, None}
use Rattle.theory.specs.Literals.{Literal, IsVariable, IsCube, has_var}
use Rattle.theory.specs.Truth.{Formula, Assignment, IsOver}
use Rattle.theory.specs.Plans.{Search, ordered, focused}
use Rattle.theory.specs.FirstModel.{IsFoundIn}
use Rattle.theory.specs.Trails.{Trail, cube_trail, least_free}
use Rattle.theory.specs.Propagation.{quiet, by_number, Propagates}
use Rattle.theory.specs.Learning.{Line}
use Rattle.theory.specs.Search.{Outcome, model, refuted, exhausted}
use Rattle.theory.specs.Replaying.{AreRefutation}
use Rattle.theory.specs.Trees.{Tree, satisfied, refutation, split, false_half, true_half, first_model, Result, model_of, tree_of}
use Rattle.theory.specs.Results.{What, done, skipped}

-- x is a variable of the formula that isn't in the cube Q
abbrev pub IsFitSplit : Formula → List Literal → ℕ → Type 0
IsFitSplit F Q x = IsVariable F.vars x × (has_var Q x ≡ false)

-- x is the least variable that is free where propagation from the cube Q comes to rest
pub record IsLeastSplit (F : Formula) (Q : List Literal) (x : ℕ) : Type 0 where
  pub trail : Trail
  pub rests : Propagates by_number F.clauses (cube_trail Q) quiet trail
  pub least : least_free F.vars trail ≡ Some x

-- what is checked of a split on the way to a model: by the ordered search that it is the least one,
-- so that the model is the first
abbrev pub IsCheckedSplit : Search → Formula → List Literal → ℕ → Type 0
IsCheckedSplit ordered F Q x = IsLeastSplit F Q x
IsCheckedSplit (focused c) F Q x = IsFitSplit F Q x

-- the lines replay as a refutation of the cube Q, over the clauses that a search begins with
abbrev pub AreCheckedLines : Formula → List Literal → List Line → Type 0
AreCheckedLines F Q lines = AreRefutation F.vars (length F.clauses) Q F.clauses lines

-- in the tree of the cube Q the lines of each refuted leaf replay, and each split is fit. Of a
-- satisfied leaf it says nothing.
abbrev pub IsCheckedTree : Formula → List Literal → Tree → Type 0
IsCheckedTree F Q (satisfied M) = Unit {0}
IsCheckedTree F Q (refutation lines) = AreCheckedLines F Q lines
IsCheckedTree F Q (split x left right) = IsFitSplit F Q x × IsCheckedTree F (false_half Q x) left × IsCheckedTree F (true_half Q x) right

-- M is a model as the search finds it in the cube of a leaf below Q; each split on the way there is
-- checked, and left of the way are checked trees without a satisfied leaf
pub data IsCheckedFirstLeaf (search : Search) (F : Formula) : List Literal → Assignment → Type 0 where
  found_here : {Q : List Literal} {M : Assignment} → IsFoundIn search F Q M → IsCheckedFirstLeaf search F Q M
  found_left : {Q : List Literal} {M : Assignment} (x : ℕ) → IsCheckedSplit search F Q x → IsCheckedFirstLeaf search F (false_half Q x) M → IsCheckedFirstLeaf search F Q M
  found_right : {Q : List Literal} {M : Assignment} (x : ℕ) (left : Tree) → IsCheckedSplit search F Q x → IsCheckedTree F (false_half Q x) left → first_model left ≡ None
      → IsCheckedFirstLeaf search F (true_half Q x) M → IsCheckedFirstLeaf search F Q M

-- a model is that of a checked first leaf; a tree is checked and has no satisfied leaf
abbrev pub IsCheckedResult : Search → Formula → Result → Type 0
IsCheckedResult search F (model_of M) = IsCheckedFirstLeaf search F [] M
IsCheckedResult search F (tree_of t) = IsCheckedTree F [] t × (first_model t ≡ None)

-- a model is one as the search finds it in the cube Q, lines replay, and a split is checked
abbrev pub IsCheckedOutcome : Search → Formula → List Literal → Outcome → Type 0
IsCheckedOutcome search F Q (model M) = IsFoundIn search F Q M
IsCheckedOutcome search F Q (refuted lines) = AreCheckedLines F Q lines
IsCheckedOutcome search F Q (exhausted x) = IsCheckedSplit search F Q x

-- what became of Q is checked, if Q is a cube over the formula's variables: no walk comes to
-- another one. Of a cube that was skipped nothing is said.
abbrev pub IsCheckedOf : Search → Formula → List Literal → What → Type 0
IsCheckedOf search F Q (done o) = IsCube Q → IsOver F.vars Q → IsCheckedOutcome search F Q o
IsCheckedOf search F Q (skipped place) = Unit {0}

-- the model that a result answers, if it answers one
abbrev pub model_in : Result → Option Assignment
model_in (model_of M) = Some M
model_in (tree_of t) = None
