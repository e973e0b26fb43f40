-- What is true of a cube by a plan is checked: its outcome, its tree, and its first model leaf.
use Rattle.std.proofs.Common.{◌≡◌, ℕ, List, [], ◌∷◌, ◌++◌, refl}
use Rattle.theory.specs.Literals.{Literal, positive, negative, IsCube}
use Rattle.theory.specs.Truth.{Formula, Assignment, IsFormula, IsOver}
use Rattle.theory.specs.Plans.{Search, ordered, focused, Plan}
use Rattle.theory.specs.Search.{Outcome, model, refuted, exhausted}
use Rattle.theory.specs.Runs.{RunsBy, Runs, by_search, by_look}
use Rattle.theory.specs.Trees.{Tree, satisfied, refutation, split, IsTree, false_half, true_half, IsFirstLeaf, here, on_left, on_right}
use Rattle.theory.specs.Results.{What, done, skipped, IsTrueOf, OutcomeSays}
use Rattle.theory.specs.Checked.{IsFitSplit, IsCheckedSplit, IsCheckedTree, IsCheckedFirstLeaf, found_here, found_left, found_right, IsCheckedOutcome, IsCheckedOf}
use Rattle.theory.proofs.trails.TrailEntries.{are_distinct-push}
use Rattle.theory.proofs.searching.LeastSplits.{IsFitSplit-least, IsLeastSplit-exhausted}
use Rattle.theory.proofs.searching.OutcomeLemmas.{Runs-says, Runs-exhausted, Runs-AreRefutation, IsLookedAt-search}
use Rattle.theory.proofs.trees.TreeSoundness.{push-over}

-- what is checked of a split makes it fit
pub IsFitSplit-checked : (search : Search) (F : Formula) (Q : List Literal) (x : ℕ) → IsCheckedSplit search F Q x → IsFitSplit F Q x
IsFitSplit-checked ordered F Q x s = IsFitSplit-least F Q x s
IsFitSplit-checked (focused c) F Q x s = s

-- the halves of a split that is fit
pub IsCube-half : (F : Formula) (Q : List Literal) (l : Literal) → IsFitSplit F Q l.var → IsCube Q → IsCube (Q ++ l ∷ [])
IsCube-half F Q l fit cube = are_distinct-push Q l cube fit.1

pub IsOver-half : (F : Formula) (Q : List Literal) (l : Literal) → IsFitSplit F Q l.var → IsOver F.vars Q → IsOver F.vars (Q ++ l ∷ [])
IsOver-half F Q l fit over = push-over F.vars Q l over fit.0

RunsBy-checked : (search : Search) (F : Formula) (B : ℕ) (Q : List Literal) (x : ℕ) → RunsBy search F B Q (exhausted x) → IsFitSplit F Q x → IsCheckedSplit search F Q x
RunsBy-checked ordered F B Q x runs fit = IsLeastSplit-exhausted F B Q x runs
RunsBy-checked (focused c) F B Q x runs fit = fit

looked-checked : (search : Search) (F : Formula) (Q : List Literal) (x : ℕ) → (search ≡ ordered → ⊥) → IsFitSplit F Q x → IsCheckedSplit search F Q x
looked-checked ordered F Q x never fit = absurd (never refl)
looked-checked (focused c) F Q x never fit = fit

-- A cube is exhausted in a variable on which it is split.
pub Runs-checked : (F : Formula) (plan : Plan) (Q : List Literal) (x : ℕ) → Runs F plan Q (exhausted x) → IsCheckedSplit plan.search F Q x
Runs-checked F plan Q x (by_search n runs) = RunsBy-checked plan.search F plan.budget Q x runs (Runs-exhausted F plan Q x (by_search n runs))
Runs-checked F plan Q x (by_look l looks) = looked-checked plan.search F Q x (IsLookedAt-search F plan Q l) (Runs-exhausted F plan Q x (by_look l looks))

-- A cube's outcome is checked.
pub IsCheckedOutcome-said : (F : Formula) (plan : Plan) (Q : List Literal) (o : Outcome) → Runs F plan Q o → OutcomeSays plan.search F Q o → IsCheckedOutcome plan.search F Q o
IsCheckedOutcome-said F plan Q (model M) h says = says
IsCheckedOutcome-said F plan Q (refuted lines) h says = says.1
IsCheckedOutcome-said F plan Q (exhausted x) h says = Runs-checked F plan Q x h

pub IsCheckedOutcome-Runs : (F : Formula) (plan : Plan) (Q : List Literal) (o : Outcome) → IsFormula F → IsCube Q → IsOver F.vars Q → Runs F plan Q o → IsCheckedOutcome plan.search F Q o
IsCheckedOutcome-Runs F plan Q o formed cube over h = IsCheckedOutcome-said F plan Q o h (Runs-says F plan Q o formed cube over h)

pub IsCheckedOf-IsTrueOf : (F : Formula) (plan : Plan) (Q : List Literal) (w : What) → IsFormula F → IsTrueOf F plan Q w → IsCheckedOf plan.search F Q w
IsCheckedOf-IsTrueOf F plan Q (done o) formed h = λ cube over. IsCheckedOutcome-Runs F plan Q o formed cube over h
IsCheckedOf-IsTrueOf F plan Q (skipped place) formed h = tt

-- A cube's tree is checked.
pub IsCheckedTree-IsTree : (F : Formula) (plan : Plan) (Q : List Literal) (t : Tree) → IsFormula F → IsCube Q → IsOver F.vars Q → IsTree F plan Q t → IsCheckedTree F Q t
IsCheckedTree-IsTree F plan Q (satisfied M) formed cube over h = tt
IsCheckedTree-IsTree F plan Q (refutation lines) formed cube over h = Runs-AreRefutation F plan Q lines formed cube over h
IsCheckedTree-IsTree F plan Q (split x l r) formed cube over h =
    let fit = Runs-exhausted F plan Q x h.0 in (
      fit,
      IsCheckedTree-IsTree F plan (false_half Q x) l formed (IsCube-half F Q (negative x) fit cube) (IsOver-half F Q (negative x) fit over) h.1,
      IsCheckedTree-IsTree F plan (true_half Q x) r formed (IsCube-half F Q (positive x) fit cube) (IsOver-half F Q (positive x) fit over) h.2,
    )

-- Its first model leaf is a checked one.
pub IsCheckedFirstLeaf-IsFirstLeaf : (F : Formula) (plan : Plan) (Q : List Literal) (M : Assignment) → IsFormula F → IsCube Q → IsOver F.vars Q → IsFirstLeaf F plan Q M → IsCheckedFirstLeaf plan.search F Q M
IsCheckedFirstLeaf-IsFirstLeaf F plan Q M formed cube over (here h) = found_here (Runs-says F plan Q (model M) formed cube over h)
IsCheckedFirstLeaf-IsFirstLeaf F plan Q M formed cube over (on_left {x = x} h leaf) =
    let fit = Runs-exhausted F plan Q x h in
    found_left x (Runs-checked F plan Q x h)
    (IsCheckedFirstLeaf-IsFirstLeaf F plan (false_half Q x) M formed (IsCube-half F Q (negative x) fit cube) (IsOver-half F Q (negative x) fit over) leaf)
IsCheckedFirstLeaf-IsFirstLeaf F plan Q M formed cube over (on_right {x = x} t h l none leaf) =
    let fit = Runs-exhausted F plan Q x h in
    found_right x t (Runs-checked F plan Q x h)
    (IsCheckedTree-IsTree F plan (false_half Q x) t formed (IsCube-half F Q (negative x) fit cube) (IsOver-half F Q (negative x) fit over) l) none
    (IsCheckedFirstLeaf-IsFirstLeaf F plan (true_half Q x) M formed (IsCube-half F Q (positive x) fit cube) (IsOver-half F Q (positive x) fit over) leaf)
