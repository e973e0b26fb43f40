-- A cube has one outcome, one tree and one first model leaf.
use Rattle.std.proofs.Common.{◌≡◌, ℕ, List, refl, sym, ap, ap₂, ◌∙◌, Option, Some, None}
use Rattle.theory.specs.Literals.{Literal}
use Rattle.theory.specs.Truth.{Formula, Assignment}
use Rattle.theory.specs.Plans.{Search, ordered, focused, Plan}
use Rattle.theory.specs.Trails.{Trail}
use Rattle.theory.specs.Propagation.{Closed, by_number}
use Rattle.theory.specs.Search.{Outcome, Next}
use Rattle.theory.specs.Ordered.{OrderedState, begin, after, IsOrderedStep}
use Rattle.theory.specs.Runs.{RunsBy, Runs, by_search, by_look}
use Rattle.theory.specs.Trees.{Tree, satisfied, refutation, split, IsTree, false_half, true_half, first_model, or_else, IsFirstLeaf, here, on_left, on_right}
use Rattle.theory.proofs.searching.PropagationLemmas.{Propagates-unique}
use Rattle.theory.proofs.searching.RunLemmas.{RunsFrom-unique}
use Rattle.theory.proofs.searching.FocusedRuns.{RunsFocused-unique}
use Rattle.theory.proofs.searching.LookedCubes.{Looks-unique}

-- a state of the ordered search has one step
IsOrderedStep-unique : (V budget : ℕ) (s : OrderedState) (m n : Next OrderedState) → IsOrderedStep V budget s m → IsOrderedStep V budget s n → m ≡ n
IsOrderedStep-unique V budget s m n h k =
    let one = Propagates-unique by_number s.clauses s.trail h.trail k.trail h.answer k.answer h.propagates k.propagates in
    sym h.follows ∙ ap₂ (λ (T : Trail) (a : Closed). after V budget (record s { trail = T }) a) one.0 one.1 ∙ k.follows

RunsBy-unique : (search : Search) (F : Formula) (B : ℕ) (Q : List Literal) (o p : Outcome) → RunsBy search F B Q o → RunsBy search F B Q p → o ≡ p
RunsBy-unique ordered F B Q o p h k = RunsFrom-unique (IsOrderedStep F.vars _) (IsOrderedStep-unique F.vars _) (begin F Q) o p h k
RunsBy-unique (focused c) F B Q o p h k = RunsFocused-unique c F B Q o p h k

pub Runs-unique : (F : Formula) (plan : Plan) (Q : List Literal) (o p : Outcome) → Runs F plan Q o → Runs F plan Q p → o ≡ p
Runs-unique F plan Q o p (by_search n h) (by_search m k) = RunsBy-unique plan.search F plan.budget Q o p h k
Runs-unique F plan Q o p (by_search n h) (by_look l k) = absurd (n l)
Runs-unique F plan Q o p (by_look l h) (by_search n k) = absurd (n l)
Runs-unique F plan Q o p (by_look l h) (by_look m k) = Looks-unique F Q o p h k

-- a cube has one tree
pub IsTree-unique : (F : Formula) (plan : Plan) (Q : List Literal) (t u : Tree) → IsTree F plan Q t → IsTree F plan Q u → t ≡ u
IsTree-unique F plan Q (satisfied M) (satisfied N) h k = let o = Runs-unique F plan Q _ _ h k in let m : M ≡ N = cc in ap satisfied m
IsTree-unique F plan Q (satisfied M) (refutation ls) h k = absurd (let o = Runs-unique F plan Q _ _ h k in cc)
IsTree-unique F plan Q (satisfied M) (split x l r) h k = absurd (let o = Runs-unique F plan Q _ _ h k.0 in cc)
IsTree-unique F plan Q (refutation ls) (satisfied M) h k = absurd (let o = Runs-unique F plan Q _ _ h k in cc)
IsTree-unique F plan Q (refutation ls) (refutation ms) h k = let o = Runs-unique F plan Q _ _ h k in let m : ls ≡ ms = cc in ap refutation m
IsTree-unique F plan Q (refutation ls) (split x l r) h k = absurd (let o = Runs-unique F plan Q _ _ h k.0 in cc)
IsTree-unique F plan Q (split x l r) (satisfied M) h k = absurd (let o = Runs-unique F plan Q _ _ h.0 k in cc)
IsTree-unique F plan Q (split x l r) (refutation ls) h k = absurd (let o = Runs-unique F plan Q _ _ h.0 k in cc)
IsTree-unique F plan Q (split x l r) (split y m s) h k =
    let o = Runs-unique F plan Q _ _ h.0 k.0 in
    let v : x ≡ y = cc in
    let left = IsTree-unique F plan (false_half Q x) l m h.1 (rw v k.1) in
    let right = IsTree-unique F plan (true_half Q x) r s h.2 (rw v k.2) in
    cc

or_else-cases : (o p : Option Assignment) (M : Assignment) → or_else o p ≡ Some M → (P : Type 0) → (o ≡ Some M → P) → (o ≡ None → p ≡ Some M → P) → P
or_else-cases (Some N) p M h P f g = f h
or_else-cases None p M h P f g = g refl h

-- on a whole tree the first model leaf is its first model
pub first_model-IsFirstLeaf : (F : Formula) (plan : Plan) (Q : List Literal) (t : Tree) (M : Assignment) → IsTree F plan Q t → first_model t ≡ Some M → IsFirstLeaf F plan Q M
first_model-IsFirstLeaf F plan Q (satisfied N) M h e = let m : N ≡ M = cc in here (rw (← m) h)
first_model-IsFirstLeaf F plan Q (refutation ls) M h e = absurd (cc)
first_model-IsFirstLeaf F plan Q (split x l r) M h e =
    or_else-cases (first_model l) (first_model r) M e (IsFirstLeaf F plan Q M)
    (λ f. on_left h.0 (first_model-IsFirstLeaf F plan (false_half Q x) l M h.1 f))
    (λ n f. on_right l h.0 h.1 n (first_model-IsFirstLeaf F plan (true_half Q x) r M h.2 f))

-- and the other way round
pub IsFirstLeaf-first_model : (F : Formula) (plan : Plan) (Q : List Literal) (t : Tree) (M : Assignment) → IsTree F plan Q t → IsFirstLeaf F plan Q M → first_model t ≡ Some M
IsFirstLeaf-first_model F plan Q (satisfied N) M h (here k) = let o = Runs-unique F plan Q _ _ h k in cc
IsFirstLeaf-first_model F plan Q (satisfied N) M h (on_left k f) = absurd (let o = Runs-unique F plan Q _ _ h k in cc)
IsFirstLeaf-first_model F plan Q (satisfied N) M h (on_right l k i n f) = absurd (let o = Runs-unique F plan Q _ _ h k in cc)
IsFirstLeaf-first_model F plan Q (refutation ls) M h (here k) = absurd (let o = Runs-unique F plan Q _ _ h k in cc)
IsFirstLeaf-first_model F plan Q (refutation ls) M h (on_left k f) = absurd (let o = Runs-unique F plan Q _ _ h k in cc)
IsFirstLeaf-first_model F plan Q (refutation ls) M h (on_right l k i n f) = absurd (let o = Runs-unique F plan Q _ _ h k in cc)
IsFirstLeaf-first_model F plan Q (split x l r) M h (here k) = absurd (let o = Runs-unique F plan Q _ _ h.0 k in cc)
IsFirstLeaf-first_model F plan Q (split x l r) M h (on_left {x = y} k f) =
    let o = Runs-unique F plan Q _ _ h.0 k in
    let v : x ≡ y = cc in
    let left = IsFirstLeaf-first_model F plan (false_half Q x) l M h.1 (rw v f) in
    rw left refl
IsFirstLeaf-first_model F plan Q (split x l r) M h (on_right {x = y} m k i n f) =
    let o = Runs-unique F plan Q _ _ h.0 k in
    let v : x ≡ y = cc in
    let one : l ≡ m = IsTree-unique F plan (false_half Q x) l m h.1 (rw v i) in
    let none : first_model l ≡ None = rw one n in
    let right = IsFirstLeaf-first_model F plan (true_half Q x) r M h.2 (rw v f) in
    rw none right
