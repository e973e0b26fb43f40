-- However a plan's search begins, the text of its proof is accepted: the lines before, and behind them
-- those of what is searched.
use Rattle.std.proofs.Common.{◌≡◌, List, [], ◌++◌, length, None, ap, sym, subst, ◌∙◌}
use Rattle.theory.specs.Truth.{Formula}
use Rattle.theory.specs.Plans.{Search, Plan}
use Rattle.theory.specs.Trees.{Tree, tree_of, first_model}
use Rattle.theory.specs.Steps.{Step}
use Rattle.theory.specs.Texts.{proof_text}
use Rattle.theory.specs.Reading.{Limits, large, IsWithinLimits}
use Rattle.theory.specs.Checked.{IsCheckedTree, IsCheckedResult}
use Rattle.theory.specs.Beginnings.{Beginning, IsBeginning, begun, begun_by, beginning_by, proof}
use Rattle.theory.proofs.trees.BegunSearches.{Begins-beginning, checks-begun}
use Rattle.lrat_text.proofs.WrittenTexts.{proof_text-ProofReads}
use Rattle.join.proofs.StepLemmas.{begun-within}
use Rattle.strategies.specs.declared.begun_formula.Begun.{Begun}
use Rattle.strategies.specs.Begun.{formula_in, lines_in, IsBegunBy}
use Rattle.runs.specs.Answer.{IsAccepted}
use Rattle.runs.proofs.LineTexts.{short-large}

pub tree-accepted : (L : Limits) (F : Formula) (search : Search) (b : Beginning) (t : Tree) → IsWithinLimits large F → IsBeginning search F b → IsCheckedTree (begun F b) [] t → first_model t ≡ None → IsAccepted L F (proof_text (proof F b t))
tree-accepted L F search b t within begins checked none = λ short. (
  proof F b t,
  proof_text-ProofReads L (proof F b t) (begun-within search F b t within begins checked none (short-large L (length (proof_text (proof F b t))) short)) short,
  checks-begun search F b t begins checked none,
)

-- the lines before, and those of what is searched, are the proof
pub begun-lines : (F : Formula) (plan : Plan) (x : Begun) (t : Tree) (steps : List Step) (h : IsBegunBy F plan x) → steps ≡ proof (formula_in x F) (beginning_by plan.search) t → lines_in x F ++ steps ≡ proof F h.0 t
begun-lines F plan x t steps h are = ap (λ (ss : List Step). lines_in x F ++ ss) are ∙ sym (h.1.lines t)

pub begun-accepted : (L : Limits) (F : Formula) (plan : Plan) (x : Begun) (t : Tree) (steps : List Step) → IsWithinLimits large F → IsBegunBy F plan x → IsCheckedResult plan.search (begun_by plan.search (formula_in x F)) (tree_of t)
    → steps ≡ proof (formula_in x F) (beginning_by plan.search) t → IsAccepted L F (proof_text (lines_in x F ++ steps))
begun-accepted L F plan x t steps within h checked are =
    let begins = Begins-beginning F plan h.0 within.formula h.1.begins in
    let tree = subst (λ (G : Formula). IsCheckedTree G [] t) h.1.formula checked.0 in
    subst (λ (ss : List Step). IsAccepted L F (proof_text ss)) (sym (begun-lines F plan x t steps h are)) (tree-accepted L F plan.search h.0 t within begins tree checked.1)
