-- The traversal of a tree of cubes: what is settled before a place, and how much is still to come.
use Rattle.std.proofs.Common.{◌≡◌, ℕ, zero, suc, ◌+◌, ◌-◌, ◌<◌, ◌≤◌, false, List, [], ◌∷◌, ◌++◌, length, length-append, Option, Some, None, refl, sym, ap, ap₂, ◌∙◌, subst, append_assoc, append-nil, arith, MatchOption}
use Rattle.std.proofs.lemmas.List.{same_from_push}
use Rattle.theory.specs.Literals.{Literal, IsCube, IsVariable, has_var, positive, negative, negated}
use Rattle.theory.specs.Truth.{Formula, Assignment, IsOver}
use Rattle.theory.specs.Plans.{Search, Plan}
use Rattle.theory.specs.Learning.{Line}
use Rattle.theory.specs.Search.{model, refuted, exhausted}
use Rattle.theory.specs.Runs.{Runs}
use Rattle.theory.specs.Trees.{Tree, satisfied, refutation, split, IsTree, first_model, IsFirstLeaf, on_left, on_right, LeadsOn, false_half, true_half}
use Rattle.theory.specs.Results.{Solved, done}
use Rattle.theory.specs.Checked.{IsCheckedSplit, IsCheckedTree, IsCheckedFirstLeaf, found_left, found_right}
use Rattle.theory.proofs.trees.CubePlaces.{LeadsOn-append}
use Rattle.theory.proofs.trees.CheckedTrees.{IsFitSplit-checked}
use Rattle.theory.proofs.literals.DistinctLiterals.{length-distinct}
use Rattle.theory.proofs.literals.OverVariables.{AreOver, AreOver-snoc, AreOver-from_IsOver, IsOver-from_AreOver}
use Rattle.theory.proofs.searching.OutcomeLemmas.{Runs-exhausted}
use Rattle.theory.proofs.trails.TrailEntries.{are_distinct-push}
use Rattle.cubes.specs.declared.traversal.Split.{Split}
use Rattle.cubes.specs.Traversal.{half, path, beside, behind}

-- the nodes of a tree of depth n, at most
abbrev whole : ℕ → ℕ
whole zero = 1
whole (suc n) = whole n + whole n + 1

-- the right half of a split, where it is still to come
abbrev right_half : {T : Type 0} → ℕ → Option T → ℕ
right_half n None = whole n
right_half n (Some left) = 0

-- the right halves that are still to come, where the place has at most n splits below it
abbrev right_halves : {T : Type 0} → ℕ → List (Split T) → ℕ
right_halves n [] = 0
right_halves n (s ∷ above) = right_half n s.left + right_halves (suc n) above

-- the nodes that are still to come, where no way has more than n splits
abbrev pub to_come : {T : Type 0} → ℕ → List (Split T) → ℕ
to_come n ss = whole (n - length ss) + right_halves (n - length ss) ss

whole-positive : (n : ℕ) → 1 ≤ whole n
whole-positive zero = omega arith
whole-positive (suc n) = omega arith

pub to_come-enter : {T : Type 0} (n x : ℕ) (ss : List (Split T)) → length ss < n → to_come n (record { var = x; left = None } ∷ ss) < to_come n ss
to_come-enter n x ss short =
    let k : n - length ss ≡ suc (n - suc (length ss)) = omega arith in
    rw k (omega arith)

to_come-above : {T : Type 0} (n : ℕ) (d : T) (ss ts : List (Split T)) → length ss ≤ n → behind d ss ≡ Some ts → to_come n ts ≤ right_halves (n - length ss) ss
to_come-above n d [] ts short e = absurd (cc)
to_come-above {T} n d (s ∷ ss) ts short e = go s.left e (λ f. to_come-above n d ss ts (omega arith) f)
  where
    k : n - length ss ≡ suc (n - suc (length ss))
    k = omega arith

    go : (o : Option T) → beside d s.var o ss (behind d ss) ≡ Some ts → (behind d ss ≡ Some ts → to_come n ts ≤ right_halves (n - length ss) ss)
        → to_come n ts ≤ right_half (n - suc (length ss)) o + right_halves (suc (n - suc (length ss))) ss
    go None e up = let one : record { var = s.var; left = Some d } ∷ ss ≡ ts = cc in subst (λ us. to_come n us ≤ whole (n - suc (length ss)) + right_halves (suc (n - suc (length ss))) ss) one (omega arith)
    go (Some left) e up = let less = subst (λ m. to_come n ts ≤ right_halves m ss) k (up e) in omega arith

pub to_come-behind : {T : Type 0} (n : ℕ) (d : T) (ss ts : List (Split T)) → length ss ≤ n → behind d ss ≡ Some ts → to_come n ts < to_come n ss
to_come-behind n d ss ts short e = let less = to_come-above n d ss ts short e in let some = whole-positive (n - length ss) in omega arith

pub length-path : {T : Type 0} (ss : List (Split T)) → length (path ss) ≡ length ss
length-path [] = refl
length-path (s ∷ ss) = length-append (path ss) (half s.var s.left ∷ []) ∙ (let more = length-path ss in omega arith)

-- a cube of a half has a last literal: that of the half, and before it the cube of the split
last-there : {T : Type 0} (H Q : List Literal) (s : Split T) (ss : List (Split T)) → Q ≡ H ++ path (s ∷ ss) → Q ≡ [] → ⊥
last-there H Q s ss e none =
    let long = length-append H (path (s ∷ ss)) in
    let one = length-append (path ss) (half s.var s.left ∷ []) in
    let same = ap length (sym e ∙ none) in
    absurd (omega arith)

last-off : {T : Type 0} (H Q R : List Literal) (s : Split T) (ss : List (Split T)) (l : Literal) → Q ≡ H ++ path (s ∷ ss) → Q ≡ R ++ l ∷ [] → (R ≡ H ++ path ss) × (l ≡ half s.var s.left)
last-off H Q R s ss l e f = same_from_push R (H ++ path ss) l (half s.var s.left) (sym f ∙ e ∙ sym (append_assoc H (path ss) (half s.var s.left ∷ [])))

pub above-popped : {T : Type 0} (H Q R : List Literal) (s : Split T) (ss : List (Split T)) (o : Option Literal) → Q ≡ H ++ path (s ∷ ss)
    → MatchOption o ((Q ≡ []) × (R ≡ [])) (λ l. (Q ≡ R ++ l ∷ []) × (has_var R l.var ≡ false)) → R ≡ H ++ path ss
above-popped H Q R s ss None e h = absurd (last-there H Q s ss e h.0)
above-popped H Q R s ss (Some l) e h = (last-off H Q R s ss l e h.0).0

pub right-turned : {T : Type 0} (H Q R S : List Literal) (x : ℕ) (d : T) (ss : List (Split T)) (l m : Literal) → Q ≡ H ++ path (record { var = x; left = None } ∷ ss) → Q ≡ R ++ l ∷ []
    → S ≡ R ++ m ∷ [] → m ≡ negated l → S ≡ H ++ path (record { var = x; left = Some d } ∷ ss)
right-turned {T} H Q R S x d ss l m e f g n =
    let off = last-off H Q R (record { var = x; left = None }) ss l e f in
    g ∙ ap₂ (λ P k. P ++ k ∷ []) off.0 (n ∙ ap negated off.1) ∙ append_assoc H (path ss) (positive x ∷ [])

pub nothing-turned : {T : Type 0} (H Q R : List Literal) (s t : Split T) (ss : List (Split T)) → Q ≡ H ++ path (s ∷ ss) → (Q ≡ []) × (R ≡ []) → R ≡ H ++ path (t ∷ ss)
nothing-turned H Q R s t ss e none = absurd (last-there H Q s ss e none.0)

-- the results of a tree's cubes, as it is gone through
abbrev pub results_of : List Literal → Tree → List Solved
results_of Q (satisfied M) = record { cube = Q; what = done (model M) } ∷ []
results_of Q (refutation lines) = record { cube = Q; what = done (refuted lines) } ∷ []
results_of Q (split x left right) = record { cube = Q; what = done (exhausted x) } ∷ results_of (false_half Q x) left ++ results_of (true_half Q x) right

-- what is known of the splits, the trees and the leaves with a model that a walk comes to. A split
-- is on a variable that its cube doesn't have; with the trees of both halves it is a tree; and a
-- leaf of a half is one of the cube, of the right half where the left one has a tree without a model
pub record Walkable (F : Formula) : Type 1 where
  pub IsSplitOn : List Literal → ℕ → Type 0
  pub IsTreeOf : List Literal → Tree → Type 0
  pub IsLeafOf : List Literal → Assignment → Type 0
  pub free : (Q : List Literal) (x : ℕ) → IsSplitOn Q x → IsVariable F.vars x × (has_var Q x ≡ false)
  pub whole : (Q : List Literal) (x : ℕ) (l r : Tree) → IsSplitOn Q x → IsTreeOf (false_half Q x) l → IsTreeOf (true_half Q x) r → IsTreeOf Q (split x l r)
  pub on_the_left : (Q : List Literal) (x : ℕ) (M : Assignment) → IsSplitOn Q x → IsLeafOf (false_half Q x) M → IsLeafOf Q M
  pub on_the_right : (Q : List Literal) (x : ℕ) (t : Tree) (M : Assignment) → IsSplitOn Q x → IsTreeOf (false_half Q x) t → first_model t ≡ None → IsLeafOf (true_half Q x) M → IsLeafOf Q M

-- what is true by a plan
abbrev pub by_plan : (F : Formula) → Plan → Walkable F
by_plan F plan = record {
  IsSplitOn = λ Q x. Runs F plan Q (exhausted x);
  IsTreeOf = λ Q t. IsTree F plan Q t;
  IsLeafOf = λ Q M. IsFirstLeaf F plan Q M;
  free = λ Q x runs. Runs-exhausted F plan Q x runs;
  whole = λ Q x l r runs left right. (runs, left, right);
  on_the_left = λ Q x M runs leaf. on_left runs leaf;
  on_the_right = λ Q x t M runs left none leaf. on_right t runs left none leaf;
}

-- what is checked, by a search
abbrev pub by_checks : (F : Formula) → Search → Walkable F
by_checks F search = record {
  IsSplitOn = λ Q x. IsCheckedSplit search F Q x;
  IsTreeOf = λ Q t. IsCheckedTree F Q t;
  IsLeafOf = λ Q M. IsCheckedFirstLeaf search F Q M;
  free = λ Q x split. IsFitSplit-checked search F Q x split;
  whole = λ Q x l r split left right. (IsFitSplit-checked search F Q x split, left, right);
  on_the_left = λ Q x M split leaf. found_left x split leaf;
  on_the_right = λ Q x t M split left none leaf. found_right x t split left none leaf;
}

module _ (F : Formula) (known : Walkable F) where
  -- the tree of the cube Q has no model, and its cubes have these results
  pub record IsDone (Q : List Literal) (rs : List Solved) : Type 0 where
    pub tree : Tree
    pub of_cube : known.IsTreeOf Q tree
    pub none : first_model tree ≡ None
    pub results : rs ≡ results_of Q tree

  -- a refuted cube is done
  pub IsDone-refuted : (Q : List Literal) (lines : List Line) → known.IsTreeOf Q (refutation lines) → IsDone Q (record { cube = Q; what = done (refuted lines) } ∷ [])
  IsDone-refuted Q lines is_tree = record { tree = refutation lines; of_cube = is_tree; none = refl; results = refl }

  abbrev pub IsLeftDone : {T : Type 0} → List Literal → ℕ → Option T → List Solved → Type 0
  IsLeftDone Q x None rs = rs ≡ []
  IsLeftDone Q x (Some left) rs = IsDone (false_half Q x) rs

  -- a split of the cube Q, with the results before it and those of its left half
  pub record IsSplit {T : Type 0} (Q : List Literal) (s : Split T) (before left rs : List Solved) : Type 0 where
    pub splits : known.IsSplitOn Q s.var
    pub is_left : IsLeftDone Q s.var s.left left
    pub results : rs ≡ before ++ record { cube = Q; what = done (exhausted s.var) } ∷ left

  module _ (H : List Literal) where
    -- the place below H is reached, and these are the results of the cubes before it
    abbrev pub IsReached : {T : Type 0} → List (Split T) → List Solved → Type 0
    IsReached [] rs = rs ≡ []
    IsReached (s ∷ ss) rs = (before : List Solved) × (left : List Solved) × IsSplit (H ++ path ss) s before left rs × IsReached ss before

    -- into the left half of a cube that is split
    pub IsReached-enter : {T : Type 0} (ss : List (Split T)) (rs : List Solved) (x : ℕ) → IsReached ss rs → known.IsSplitOn (H ++ path ss) x
        → IsReached (record { var = x; left = None } ∷ ss) (rs ++ record { cube = H ++ path ss; what = done (exhausted x) } ∷ [])
    IsReached-enter ss rs x h splits = (rs, [], record { splits = splits; is_left = refl; results = refl }, h)

    -- behind a place that is done: at the next one, or H is done
    abbrev pub ComesTo : {T : Type 0} → Option (List (Split T)) → List Solved → Type 0
    ComesTo None rs = IsDone H rs
    ComesTo (Some ts) rs = IsReached ts rs

    pub IsReached-behind : {T : Type 0} (d : T) (ss : List (Split T)) (rs more : List Solved) → IsReached ss rs → IsDone (H ++ path ss) more → ComesTo (behind d ss) (rs ++ more)
    IsReached-behind d [] rs more h is_done = rw h (subst (λ Q. IsDone Q more) (append-nil H) is_done)
    IsReached-behind {T} d (s ∷ ss) rs more h is_done = go s.left h.2.is_left (subst (λ Q. IsDone Q more) (sym (append_assoc H (path ss) (half s.var s.left ∷ []))) is_done) (λ all. IsReached-behind d ss h.0 all h.3)
      where
        here : Solved
        here = record { cube = H ++ path ss; what = done (exhausted s.var) }

        grouped : rs ++ more ≡ h.0 ++ (here ∷ (h.1 ++ more))
        grouped = ap (λ r. r ++ more) h.2.results ∙ append_assoc h.0 (here ∷ h.1) more

        both : (l r : IsDone (false_half (H ++ path ss) s.var) h.1) → IsDone (true_half (H ++ path ss) s.var) more → IsDone (H ++ path ss) (here ∷ (h.1 ++ more))
        both l k r = record {
          tree = split s.var l.tree r.tree;
          of_cube = known.whole (H ++ path ss) s.var l.tree r.tree h.2.splits l.of_cube r.of_cube;
          none = rw (l.none, r.none) refl;
          results = rw (l.results, r.results) refl;
        }

        go : (o : Option T) → IsLeftDone (H ++ path ss) s.var o h.1 → IsDone (H ++ path ss ++ half s.var o ∷ []) more
            → ((all : List Solved) → IsDone (H ++ path ss) all → ComesTo (behind d ss) (h.0 ++ all)) → ComesTo (beside d s.var o ss (behind d ss)) (rs ++ more)
        go None l now up = (h.0, more, record { splits = h.2.splits; is_left = now; results = grouped ∙ ap (λ r. h.0 ++ (here ∷ (r ++ more))) l }, h.3)
        go (Some left) l now up = subst (ComesTo (behind d ss)) (sym grouped) (up (here ∷ (h.1 ++ more)) (both l l now))

    -- the first model leaf of a reached cube is that of H
    pub IsReached-leaf : {T : Type 0} (ss : List (Split T)) (rs : List Solved) (M : Assignment) → IsReached ss rs → known.IsLeafOf (H ++ path ss) M → known.IsLeafOf H M
    IsReached-leaf [] rs M h leaf = subst (λ Q. known.IsLeafOf Q M) (append-nil H) leaf
    IsReached-leaf {T} (s ∷ ss) rs M h leaf = IsReached-leaf ss h.0 M h.3 (go s.left h.2.is_left (subst (λ Q. known.IsLeafOf Q M) (sym (append_assoc H (path ss) (half s.var s.left ∷ []))) leaf))
      where
        go : (o : Option T) → IsLeftDone (H ++ path ss) s.var o h.1 → known.IsLeafOf (H ++ path ss ++ half s.var o ∷ []) M → known.IsLeafOf (H ++ path ss) M
        go None l below = known.on_the_left (H ++ path ss) s.var M h.2.splits below
        go (Some left) l below = known.on_the_right (H ++ path ss) s.var l.tree M h.2.splits l.of_cube l.none below

    -- a reached cube has distinct variables, all of them the formula's
    formed : {T : Type 0} (ss : List (Split T)) (rs : List Solved) → IsCube H → AreOver F.vars H → IsReached ss rs → IsCube (H ++ path ss) × AreOver F.vars (H ++ path ss)
    formed [] rs cube over h = rw append-nil (cube, over)
    formed {T} (s ∷ ss) rs cube over h = rw (← append_assoc H (path ss) (half s.var s.left ∷ [])) (go s.left (formed ss h.0 cube over h.3) (known.free (H ++ path ss) s.var h.2.splits))
      where
        go : (o : Option T) → IsCube (H ++ path ss) × AreOver F.vars (H ++ path ss) → IsVariable F.vars s.var × (has_var (H ++ path ss) s.var ≡ false)
            → IsCube (H ++ path ss ++ half s.var o ∷ []) × AreOver F.vars (H ++ path ss ++ half s.var o ∷ [])
        go None r free = (are_distinct-push (H ++ path ss) (negative s.var) r.0 free.1, AreOver-snoc F.vars (H ++ path ss) (negative s.var) r.1 free.0)
        go (Some left) r free = (are_distinct-push (H ++ path ss) (positive s.var) r.0 free.1, AreOver-snoc F.vars (H ++ path ss) (positive s.var) r.1 free.0)

    module _ {T : Type 0} (ss : List (Split T)) (rs : List Solved) (Q : List Literal) (is_cube : Q ≡ H ++ path ss) (cube : IsCube H) (over : IsOver F.vars H) (h : IsReached ss rs) where
      pub IsReached-over : IsOver F.vars Q
      IsReached-over = subst (IsOver F.vars) (sym is_cube) (IsOver-from_AreOver F.vars (H ++ path ss) (formed ss rs cube (AreOver-from_IsOver F.vars H over) h).1)

      pub IsReached-cube : IsCube Q
      IsReached-cube = subst (λ R. IsCube R) (sym is_cube) (formed ss rs cube (AreOver-from_IsOver F.vars H over) h).0

      pub IsReached-short : length ss ≤ F.vars
      IsReached-short =
          let all = formed ss rs cube (AreOver-from_IsOver F.vars H over) h in
          let most = length-distinct F.vars (H ++ path ss) all.0 all.1 in
          let long = length-append H (path ss) in
          let same = length-path ss in
          omega arith

-- by a plan, a reached cube is one of H's tree
pub IsReached-leads : {T : Type 0} (F : Formula) (plan : Plan) (H : List Literal) (ss : List (Split T)) (rs : List Solved) → IsReached F (by_plan F plan) H ss rs → LeadsOn F plan H (path ss)
IsReached-leads F plan H [] rs h = tt
IsReached-leads {T} F plan H (s ∷ ss) rs h = LeadsOn-append F plan H (path ss) (half s.var s.left ∷ []) (IsReached-leads F plan H ss h.0 h.3) (go s.left, tt)
  where
    go : (o : Option T) → Runs F plan (H ++ path ss) (exhausted (half s.var o).var)
    go None = h.2.splits
    go (Some left) = h.2.splits
