-- What the model of a checked first leaf is; so what a checked result says, and a true one.
use Rattle.std.proofs.Common.{◌≡◌, ℕ, suc, ◌-◌, ◌<◌, ◌≤◌, Bool, true, false, not, List, [], ◌∷◌, ◌++◌, nat_lt, refl, sym, ap, arith, ltb-true, ltb-false}
use Rattle.theory.specs.Literals.{Literal, positive, negative}
use Rattle.theory.specs.Truth.{Formula, Assignment, IsFormula, Satisfies, AreTrue, value}
use Rattle.theory.specs.FirstModel.{comes_before, IsFirstIn, IsModelIn, IsFound, IsFoundIn}
use Rattle.theory.specs.Plans.{Search, ordered, focused, Plan}
use Rattle.theory.specs.Trees.{false_half, true_half, Result, model_of, tree_of, IsResult}
use Rattle.theory.specs.Results.{ResultSays}
use Rattle.theory.specs.Checked.{IsCheckedFirstLeaf, found_here, found_left, found_right, IsCheckedResult}
use Rattle.theory.proofs.trees.FirstModel.{Differ, differ}
use Rattle.theory.proofs.trees.TreeSoundness.{checked-unsatisfiable}
use Rattle.theory.proofs.trees.CheckedTrees.{IsCheckedTree-IsTree, IsCheckedFirstLeaf-IsFirstLeaf}
use Rattle.theory.proofs.searching.AgreeingModels.{least-agree}
use Rattle.theory.proofs.searching.LeastSplits.{IsFitSplit-least}
use Rattle.theory.proofs.literals.TrueClauses.{AreTrue-append}

-- where two assignments agree below x, and the first is true and the second false at x, the first
-- doesn't come before the second
not-before : (N M : Assignment) (x : ℕ) → 1 ≤ x → ((u : ℕ) → 1 ≤ u → u < x → value M u ≡ value N u) → value N x ≡ true → value M x ≡ false → comes_before N M ≡ true → ⊥
not-before N M x p agree n m h = go (nat_lt (suc d.at) x) refl
  where
    d : Differ N M
    d = differ N M h

    n_at : value N (suc d.at) ≡ false
    n_at = (let i : suc d.at - 1 ≡ d.at = omega arith in rw i d.false_there)

    m_at : value M (suc d.at) ≡ true
    m_at = (let i : suc d.at - 1 ≡ d.at = omega arith in rw i d.true_here)

    go : (b : Bool) → nat_lt (suc d.at) x ≡ b → ⊥
    go true q = let e = agree (suc d.at) (omega arith) (ltb-true (suc d.at) x q) in cc (n_at, m_at)
    go false q = later (nat_lt (x - 1) d.at) refl (ltb-false (suc d.at) x q)
      where
        later : (b : Bool) → nat_lt (x - 1) d.at ≡ b → x ≤ suc d.at → ⊥
        later true r l = let e = d.agree (x - 1) (ltb-true (x - 1) d.at r) in cc
        later false r l = let g = ltb-false (x - 1) d.at r in let s : x ≡ suc d.at = omega arith in let t : value N x ≡ false = rw s n_at in cc

front-true : (m : ℕ → Bool) (Q R : List Literal) → AreTrue m (Q ++ R) → AreTrue m Q × AreTrue m R
front-true m [] R h = (tt, h)
front-true m (l ∷ Q) R h = ((h.0, (front-true m Q R h.1).0), (front-true m Q R h.1).1)

-- by the ordered search it is the cube's first
leaf-first : (F : Formula) (Q : List Literal) (M : Assignment) → IsCheckedFirstLeaf ordered F Q M → IsFirstIn F Q M
leaf-first F Q M (found_here h) = h
leaf-first F Q M (found_left x s leaf) = left (leaf-first F (false_half Q x) M leaf)
  where
    left : IsFirstIn F (false_half Q x) M → IsFirstIn F Q M
    left g = record { satisfies = g.satisfies; cube = both.0; least = λ N n q. go N n q (value N x) refl }
      where
        both : AreTrue (value M) Q × AreTrue (value M) (negative x ∷ [])
        both = front-true (value M) Q (negative x ∷ []) g.cube

        m_false : (b : Bool) → not b ≡ true → b ≡ false
        m_false true e = sym e
        m_false false e = refl

        go : (N : Assignment) → Satisfies F N → AreTrue (value N) Q → (b : Bool) → value N x ≡ b → comes_before N M ≡ true → ⊥
        go N n q false v = g.least N n (AreTrue-append (value N) Q (negative x ∷ []) q (ap not v, tt))
        go N n q true v =
            not-before N M x (IsFitSplit-least F Q x s).0.0 (least-agree F Q x (value M) (value N) s g.satisfies.clauses both.0 n.clauses q) v (m_false (value M x) both.1.0)
leaf-first F Q M (found_right x t s l none leaf) = right (leaf-first F (true_half Q x) M leaf)
  where
    right : IsFirstIn F (true_half Q x) M → IsFirstIn F Q M
    right g = record { satisfies = g.satisfies; cube = (front-true (value M) Q (positive x ∷ []) g.cube).0; least = λ N n q. go N n q (value N x) refl }
      where
        go : (N : Assignment) → Satisfies F N → AreTrue (value N) Q → (b : Bool) → value N x ≡ b → comes_before N M ≡ true → ⊥
        go N n q true v = g.least N n (AreTrue-append (value N) Q (positive x ∷ []) q (v, tt))
        go N n q false v = λ h. checked-unsatisfiable (value N) F (false_half Q x) t l none n.clauses (AreTrue-append (value N) Q (negative x ∷ []) q (ap not v, tt))

-- one more literal of the cube
without-last : (F : Formula) (Q : List Literal) (l : Literal) (M : Assignment) → IsModelIn F (Q ++ l ∷ []) M → IsModelIn F Q M
without-last F Q l M g = record { satisfies = g.satisfies; cube = (front-true (value M) Q (l ∷ []) g.cube).0 }

-- by each search it is a model in the cube
pub leaf-found : (search : Search) (F : Formula) (Q : List Literal) (M : Assignment) → IsCheckedFirstLeaf search F Q M → IsFoundIn search F Q M
leaf-found ordered F Q M leaf = leaf-first F Q M leaf
leaf-found (focused c) F Q M (found_here h) = h
leaf-found (focused c) F Q M (found_left x s leaf) = without-last F Q (negative x) M (leaf-found (focused c) F (false_half Q x) M leaf)
leaf-found (focused c) F Q M (found_right x t s l none leaf) = without-last F Q (positive x) M (leaf-found (focused c) F (true_half Q x) M leaf)

pub found-whole : (search : Search) (F : Formula) (M : Assignment) → IsFoundIn search F [] M → IsFound search F M
found-whole ordered F M g = record { satisfies = g.satisfies; least = λ N n. g.least N n tt }
found-whole (focused c) F M g = g.satisfies

-- A checked result that is a model is what the search finds; a checked tree leaves none.
pub IsCheckedResult-says : (search : Search) (F : Formula) (r : Result) → IsCheckedResult search F r → ResultSays search F r
IsCheckedResult-says search F (model_of M) h = found-whole search F M (leaf-found search F [] M h)
IsCheckedResult-says search F (tree_of t) h = λ s. checked-unsatisfiable (value s.0) F [] t h.0 h.1 s.1.clauses tt

-- The formula's result is a checked one.
pub IsCheckedResult-IsResult : (F : Formula) (plan : Plan) (r : Result) → IsFormula F → IsResult F plan r → IsCheckedResult plan.search F r
IsCheckedResult-IsResult F plan (model_of M) f h = IsCheckedFirstLeaf-IsFirstLeaf F plan [] M f refl (λ k d j. absurd (omega arith)) h
IsCheckedResult-IsResult F plan (tree_of t) f h = (IsCheckedTree-IsTree F plan [] t f refl (λ k d j. absurd (omega arith)) h.0, h.1)

pub IsResult-says : (F : Formula) (plan : Plan) (r : Result) → IsFormula F → IsResult F plan r → ResultSays plan.search F r
IsResult-says F plan r f h = IsCheckedResult-says plan.search F r (IsCheckedResult-IsResult F plan r f h)
