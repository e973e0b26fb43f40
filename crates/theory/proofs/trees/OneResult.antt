-- A formula has one result.
use Rattle.std.proofs.Common.{◌≡◌, List, [], ap, None}
use Rattle.theory.specs.Literals.{Literal}
use Rattle.theory.specs.Truth.{Formula, Assignment}
use Rattle.theory.specs.Plans.{Plan}
use Rattle.theory.specs.Trees.{Tree, IsTree, false_half, true_half, first_model, IsFirstLeaf, here, on_left, on_right, Result, model_of, tree_of, IsResult}
use Rattle.theory.proofs.trees.SearchLemmas.{Runs-unique, IsTree-unique, IsFirstLeaf-first_model}

-- there is one first model leaf
pub IsFirstLeaf-unique : (F : Formula) (plan : Plan) (Q : List Literal) (M N : Assignment) → IsFirstLeaf F plan Q M → IsFirstLeaf F plan Q N → M ≡ N
IsFirstLeaf-unique F plan Q M N (here h) (here k) = let o = Runs-unique F plan Q _ _ h k in cc
IsFirstLeaf-unique F plan Q M N (here h) (on_left k l) = absurd (let o = Runs-unique F plan Q _ _ h k in cc)
IsFirstLeaf-unique F plan Q M N (here h) (on_right left k t n r) = absurd (let o = Runs-unique F plan Q _ _ h k in cc)
IsFirstLeaf-unique F plan Q M N (on_left h l) (here k) = absurd (let o = Runs-unique F plan Q _ _ h k in cc)
IsFirstLeaf-unique F plan Q M N (on_left {x = x} h l) (on_left {x = y} k m) =
    let o = Runs-unique F plan Q _ _ h k in let v : x ≡ y = cc in IsFirstLeaf-unique F plan (false_half Q x) M N l (rw v m)
IsFirstLeaf-unique F plan Q M N (on_left {x = x} h l) (on_right {x = y} left k t n r) =
    absurd (let o = Runs-unique F plan Q _ _ h k in let v : x ≡ y = cc in let some = IsFirstLeaf-first_model F plan (false_half Q x) left M (rw v t) l in cc)
IsFirstLeaf-unique F plan Q M N (on_right left h t n r) (here k) = absurd (let o = Runs-unique F plan Q _ _ h k in cc)
IsFirstLeaf-unique F plan Q M N (on_right {x = x} left h t n r) (on_left {x = y} k m) =
    absurd (let o = Runs-unique F plan Q _ _ h k in let v : x ≡ y = cc in let some = IsFirstLeaf-first_model F plan (false_half Q x) left N t (rw v m) in cc)
IsFirstLeaf-unique F plan Q M N (on_right {x = x} left h t n r) (on_right {x = y} left2 k t2 n2 r2) =
    let o = Runs-unique F plan Q _ _ h k in let v : x ≡ y = cc in IsFirstLeaf-unique F plan (true_half Q x) M N r (rw v r2)

-- a model and a tree without one exclude each other
pub IsFirstLeaf-not_none : (F : Formula) (plan : Plan) (Q : List Literal) (M : Assignment) (t : Tree) → IsFirstLeaf F plan Q M → IsTree F plan Q t → first_model t ≡ None → ⊥
IsFirstLeaf-not_none F plan Q M t h k n = let s = IsFirstLeaf-first_model F plan Q t M k h in cc

-- there is one result
pub IsResult-unique : (F : Formula) (plan : Plan) (r s : Result) → IsResult F plan r → IsResult F plan s → r ≡ s
IsResult-unique F plan (model_of M) (model_of N) h k = ap model_of (IsFirstLeaf-unique F plan [] M N h k)
IsResult-unique F plan (model_of M) (tree_of t) h k = absurd (IsFirstLeaf-not_none F plan [] M t h k.0 k.1)
IsResult-unique F plan (tree_of t) (model_of M) h k = absurd (IsFirstLeaf-not_none F plan [] M t k h.0 h.1)
IsResult-unique F plan (tree_of t) (tree_of u) h k = ap tree_of (IsTree-unique F plan [] t u h.0 k.0)
