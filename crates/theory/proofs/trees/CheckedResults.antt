-- Results that are checked: a walk over them comes to a checked result, and all checked results of
-- a formula give one answer.
use Rattle.std.proofs.Common.{◌≡◌, List, [], length, Some, None, All, refl, ap, arith, is_some}
use Rattle.theory.specs.Literals.{Literal, IsCube, positive, negative}
use Rattle.theory.specs.Truth.{Formula, IsOver, value}
use Rattle.theory.specs.Plans.{Search, ordered, Plan}
use Rattle.theory.specs.Search.{Outcome, model, refuted, exhausted}
use Rattle.theory.specs.Trees.{false_half, true_half, first_model, Result, model_of, tree_of, IsResult}
use Rattle.theory.specs.Results.{Solved, done, IsTrueOf, OutcomeSays, ResultSays}
use Rattle.theory.specs.Assembly.{outcome_in, IsAssembled, at_model, at_refutation, left_model, right_model, no_model}
use Rattle.theory.specs.Checked.{IsCheckedTree, IsCheckedFirstLeaf, found_here, found_left, found_right, IsCheckedResult, IsCheckedOutcome, IsCheckedOf, model_in}
use Rattle.theory.proofs.literals.Membership.{All-at}
use Rattle.theory.proofs.searching.FoundModels.{IsFound-satisfies}
use Rattle.theory.proofs.searching.ReplayedLines.{AreRefutation-refutes}
use Rattle.theory.proofs.trees.Assemblies.{outcome_in-result, IsAssembled-IsResultAt}
use Rattle.theory.proofs.trees.CheckedTrees.{IsFitSplit-checked, IsCube-half, IsOver-half}
use Rattle.theory.proofs.trees.FirstModelLemmas.{IsFirst-unique}
use Rattle.theory.proofs.trees.ResultLemmas.{IsCheckedResult-says}

-- A checked outcome says what a true one says.
pub IsCheckedOutcome-says : (search : Search) (F : Formula) (Q : List Literal) (o : Outcome) → IsCheckedOutcome search F Q o → OutcomeSays search F Q o
IsCheckedOutcome-says search F Q (model M) h = h
IsCheckedOutcome-says search F Q (refuted lines) h = (λ M s. AreRefutation-refutes (value M) F.vars (length F.clauses) Q F.clauses lines h s.clauses, h)
IsCheckedOutcome-says search F Q (exhausted x) h = IsFitSplit-checked search F Q x h

-- what is checked of a result of the cube from which the walk began
IsCheckedAt : Search → Formula → List Literal → Result → Type 0
IsCheckedAt search F Q (model_of M) = IsCheckedFirstLeaf search F Q M
IsCheckedAt search F Q (tree_of t) = IsCheckedTree F Q t × (first_model t ≡ None)

outcome_in-checked : (search : Search) (F : Formula) (results : List Solved) (Q : List Literal) (o : Outcome) → All (λ r. IsCheckedOf search F r.cube r.what) results → IsCube Q → IsOver F.vars Q
    → outcome_in results Q ≡ Some o → IsCheckedOutcome search F Q o
outcome_in-checked search F results Q o t cube over e =
    All-at (λ r. IsCheckedOf search F r.cube r.what) results (record { cube = Q; what = done o }) t (outcome_in-result results Q o e) cube over

walk-checked : (search : Search) (F : Formula) (results : List Solved) (Q : List Literal) (r : Result) → All (λ r. IsCheckedOf search F r.cube r.what) results → IsCube Q → IsOver F.vars Q
    → IsAssembled results Q r → IsCheckedAt search F Q r
unfolding IsCheckedAt
walk-checked search F results Q r t cube over (at_model {M = M} e) = found_here (outcome_in-checked search F results Q (model M) t cube over e)
walk-checked search F results Q r t cube over (at_refutation {lines = lines} e) = (outcome_in-checked search F results Q (refuted lines) t cube over e, refl)
walk-checked search F results Q r t cube over (left_model {M = M} {x = x} e a) =
    let s = outcome_in-checked search F results Q (exhausted x) t cube over e in
    let fit = IsFitSplit-checked search F Q x s in
    found_left x s (walk-checked search F results (false_half Q x) (model_of M) t (IsCube-half F Q (negative x) fit cube) (IsOver-half F Q (negative x) fit over) a)
walk-checked search F results Q r t cube over (right_model {M = M} {x = x} left e a b) =
    let s = outcome_in-checked search F results Q (exhausted x) t cube over e in
    let fit = IsFitSplit-checked search F Q x s in
    let l = walk-checked search F results (false_half Q x) (tree_of left) t (IsCube-half F Q (negative x) fit cube) (IsOver-half F Q (negative x) fit over) a in
    found_right x left s l.0 l.1 (walk-checked search F results (true_half Q x) (model_of M) t (IsCube-half F Q (positive x) fit cube) (IsOver-half F Q (positive x) fit over) b)
walk-checked search F results Q r t cube over (no_model {x = x} {left = left} {right = right} e a b) =
    let fit = IsFitSplit-checked search F Q x (outcome_in-checked search F results Q (exhausted x) t cube over e) in
    let l = walk-checked search F results (false_half Q x) (tree_of left) t (IsCube-half F Q (negative x) fit cube) (IsOver-half F Q (negative x) fit over) a in
    let m = walk-checked search F results (true_half Q x) (tree_of right) t (IsCube-half F Q (positive x) fit cube) (IsOver-half F Q (positive x) fit over) b in
    ((fit, l.0, m.0), rw l.1 m.1)

-- A walk over results that are checked comes to a checked result.
pub IsCheckedResult-IsAssembled : (search : Search) (F : Formula) (results : List Solved) (r : Result) → All (λ s. IsCheckedOf search F s.cube s.what) results → IsAssembled results [] r
    → IsCheckedResult search F r
unfolding IsCheckedAt
IsCheckedResult-IsAssembled search F results (model_of M) t a = walk-checked search F results [] (model_of M) t refl (λ k d j. absurd (omega arith)) a
IsCheckedResult-IsAssembled search F results (tree_of u) t a = walk-checked search F results [] (tree_of u) t refl (λ k d j. absurd (omega arith)) a

-- One over results that are true comes to the result.
pub IsResult-IsAssembled : (F : Formula) (plan : Plan) (results : List Solved) (r : Result) → All (λ s. IsTrueOf F plan s.cube s.what) results → IsAssembled results [] r → IsResult F plan r
IsResult-IsAssembled F plan results (model_of M) t a = IsAssembled-IsResultAt F plan results [] (model_of M) t a
IsResult-IsAssembled F plan results (tree_of u) t a = IsAssembled-IsResultAt F plan results [] (tree_of u) t a

-- Whatever was checked, the first model is one.
says-one : (F : Formula) (r s : Result) → ResultSays ordered F r → ResultSays ordered F s → model_in r ≡ model_in s
says-one F (model_of M) (model_of N) h k = ap Some (IsFirst-unique F M N h k)
says-one F (model_of M) (tree_of u) h k = absurd (k (M, h.satisfies))
says-one F (tree_of t) (model_of N) h k = absurd (h (N, k.satisfies))
says-one F (tree_of t) (tree_of u) h k = refl

pub IsCheckedResult-one : (F : Formula) (r s : Result) → IsCheckedResult ordered F r → IsCheckedResult ordered F s → model_in r ≡ model_in s
IsCheckedResult-one F r s h k = says-one F r s (IsCheckedResult-says ordered F r h) (IsCheckedResult-says ordered F s k)

-- and by any two searches there is a model or there is none
says-same : (search other : Search) (F : Formula) (r s : Result) → ResultSays search F r → ResultSays other F s → is_some (model_in r) ≡ is_some (model_in s)
says-same search other F (model_of M) (model_of N) h k = refl
says-same search other F (model_of M) (tree_of u) h k = absurd (k (M, IsFound-satisfies search F M h))
says-same search other F (tree_of t) (model_of N) h k = absurd (h (N, IsFound-satisfies other F N k))
says-same search other F (tree_of t) (tree_of u) h k = refl

pub IsCheckedResult-same : (search other : Search) (F : Formula) (r s : Result) → IsCheckedResult search F r → IsCheckedResult other F s
    → is_some (model_in r) ≡ is_some (model_in s)
IsCheckedResult-same search other F r s h k = says-same search other F r s (IsCheckedResult-says search F r h) (IsCheckedResult-says other F s k)
