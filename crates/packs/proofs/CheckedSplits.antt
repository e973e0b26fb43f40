-- Splits by the ordered search, and lines by either.
use Rattle.std.proofs.Common.{◌≡◌, ◌↔◌, ℕ, Bool, IsTrue, List, append-nil, Some, Result, IfOk, refl, ap, subst, ◌∙◌}
use Rattle.theory.specs.Literals.{Literal, Clause}
use Rattle.theory.specs.Truth.{Formula}
use Rattle.theory.specs.Plans.{Search, ordered, focused}
use Rattle.theory.specs.Pure.{searched}
use Rattle.theory.specs.Beginnings.{begun_by}
use Rattle.theory.specs.Learning.{Line}
use Rattle.theory.specs.Checked.{IsLeastSplit, IsCheckedSplit, AreCheckedLines}
use Rattle.packs.specs.declared.replay.splits.LeastSplits.{LeastSplits}
use Rattle.packs.specs.Opened.{with_units}
use Rattle.packs.specs.Checking.{units_by, IsSplitting}

-- where least splits are looked for, the search is the ordered one
pub least-answers : {E : Type 0} (search : Search) (F : Formula) (s : LeastSplits) (Q : List Literal) (x : ℕ) (r : Result Bool E) → IsSplitting search F (Some s)
    → IfOk r (λ b. IsTrue b ↔ IsLeastSplit (searched F) Q x) → IfOk r (λ b. IsTrue b ↔ IsCheckedSplit search (begun_by search F) Q x)
least-answers ordered F s Q x r h k = k
least-answers (focused c) F s Q x r h k = absurd h

-- the clauses behind which lines replay are those that the search begins with
pub units-begin : (search : Search) (F : Formula) → with_units F (units_by search F) ≡ begun_by search F
units-begin ordered F = refl
units-begin (focused c) F = ap (λ (K : List Clause). record F { clauses = K }) (append-nil F.clauses)

-- lines are checked where they replay behind these
pub lines-answer : {E : Type 0} (search : Search) (F : Formula) (units : List Literal) (Q : List Literal) (lines : List Line) (r : Result Bool E) → units ≡ units_by search F
    → IfOk r (λ b. IsTrue b ↔ AreCheckedLines (with_units F units) Q lines) → IfOk r (λ b. IsTrue b ↔ AreCheckedLines (begun_by search F) Q lines)
lines-answer search F units Q lines r is h =
    subst (λ (G : Formula). IfOk r (λ b. IsTrue b ↔ AreCheckedLines G Q lines)) (ap (with_units F) is ∙ units-begin search F) h
