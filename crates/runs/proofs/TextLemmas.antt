-- The texts that a formula's result gives.
use Rattle.std.proofs.Common.{◌≡◌, ℕ, List, [], ◌++◌, None, refl, ap, ap₂, sym, subst, ◌∙◌, inl}
use Rattle.theory.specs.Reading.{Limits, large, IsWithinLimits}
use Rattle.theory.specs.Truth.{Formula, IsFormula, Satisfiable}
use Rattle.theory.specs.Plans.{Search, ordered, focused, Plan}
use Rattle.theory.specs.Beginnings.{begun_by, beginning_by, proof}
use Rattle.theory.specs.Trees.{Tree, IsTree, tree_of, IsResult}
use Rattle.theory.specs.Steps.{Step}
use Rattle.theory.specs.Texts.{proof_text, answer_text}
use Rattle.theory.specs.Written.{IsUnsatisfiableText}
use Rattle.cdcl.specs.Plans.{search_of, search_from, constants_from, beginning_of}
use Rattle.cdcl.specs.declared.api.plan.Search as declared
use Rattle.strategies.specs.declared.begun_formula.Begun.{Begun}
use Rattle.strategies.specs.Begun.{formula_in, lines_in, IsBegunBy}
use Rattle.cubes.specs.declared.tree.Tree.TheVariants.{Model, Refuted}
use Rattle.cubes.specs.Result.{LinesTree, Says}
use Rattle.strategies.specs.Strategies.{Strategy, by_plan, search_by}
use Rattle.strategies.specs.Choosing.{IsChosen}
use Rattle.strategies.specs.Deciding.{IsDecidedAs, IsFoundTree}
use Rattle.strategies.proofs.DecidedTrees.{refuted-says}
use Rattle.strategies.proofs.FoundModels.{result-checked, kept-answer}
use Rattle.join.specs.Numbered.{AreChecked, AreStepsOf}
use Rattle.join.proofs.JoinLemmas.{AreChecked-result}
use Rattle.runs.specs.declared.verdict.Verdict.{Verdict}
use Rattle.runs.specs.declared.verdict.Verdict.TheVariants.{Satisfiable as Found, Unsatisfiable}
use Rattle.runs.proofs.BegunTexts.{begun-lines, begun-accepted}
use Rattle.runs.specs.Run.{AreTexts}
use Rattle.runs.specs.Written.{IsAnswer}

-- a search begins as its name says
pub named-beginning : (p : Search) → beginning_of (search_from p) ≡ beginning_by p
named-beginning ordered = refl
named-beginning (focused c) = refl

named-search : (p : Search) → search_of (search_from p) (constants_from p) ≡ p
named-search ordered = refl
named-search (focused c) = refl

-- the nodes that a strategy came to are those of a checked tree of what is searched
pub decided-checked : (F : Formula) (s : Strategy) (search : declared.Search) (x : Begun) (tree : LinesTree) → IsFormula (formula_in x F) → IsDecidedAs F s search x tree → AreChecked (formula_in x F) search tree
decided-checked F s search x (Model values) formed result = tt
decided-checked F s search x (Refuted nodes) formed result =
    let plan = result.0 in
    AreChecked-result (formula_in x F) plan search (constants_from plan.search) (Refuted nodes) (ap (λ n. search_of n (constants_from plan.search)) result.2 ∙ named-search plan.search) formed result.3.1

-- the texts of a refuted tree of what is searched, behind the lines before
pub refuted-texts : (L : Limits) (F : Formula) (s : Strategy) (plan : Plan) (x : Begun) (t : Tree) (steps : List Step) (answer : List ℕ) → IsWithinLimits large F → IsChosen F s plan → IsBegunBy F plan x → ¬ (Satisfiable F)
    → IsResult (begun_by plan.search (formula_in x F)) plan (tree_of t) → answer ≡ answer_text None → steps ≡ proof (formula_in x F) (beginning_by plan.search) t → AreTexts L F s Unsatisfiable (proof_text (lines_in x F ++ steps)) answer
refuted-texts L F s plan x t steps answer limits chosen h says result is same =
    let text : IsUnsatisfiableText F plan (proof_text (lines_in x F ++ steps)) answer = record {
      unsatisfiable = says;
      beginning = h.0;
      begins = h.1.begins;
      tree = t;
      is_tree = subst (λ (G : Formula). IsTree G plan [] t) h.1.formula result.0;
      proof_is = ap proof_text (begun-lines F plan x t steps h same);
      answer_is = is;
    } in
    (record { plan = plan; chosen = chosen; text = text }, begun-accepted L F plan x t steps limits h (result-checked F plan x (tree_of t) limits.formula h result) same)

pub result-texts : (L : Limits) (F : Formula) (s : Strategy) (search : declared.Search) (x : Begun) (tree : LinesTree) (verdict : Verdict) (before steps : List Step) (answer : List ℕ) → IsWithinLimits large F → IsDecidedAs F s search x tree → Says (search_by s) F tree
    → IsAnswer tree verdict answer → (verdict ≡ Found → before ≡ []) → (verdict ≡ Unsatisfiable → before ≡ lines_in x F) → AreStepsOf (formula_in x F) (beginning_of search) tree steps → AreTexts L F s verdict (proof_text (before ++ steps)) answer
result-texts L F s search x (Model values) verdict before steps answer limits result says is none whole are =
    let first = none is.0 in
    rw is.0 (record { model = values.items; found = says; is_answer = result; proof_is = ap proof_text (ap₂ (λ (b : List Step) (ss : List Step). b ++ ss) first are); answer_is = is.1 })
result-texts L F s search x (Refuted nodes) verdict before steps answer limits result says is none whole are =
    let plan = result.0 in
    let h = result.3.0 in
    let tree = result.3.1 in
    let begins : beginning_of search ≡ beginning_by plan.search = ap beginning_of result.2 ∙ named-beginning plan.search in
    let same = are tree.0 tree.1.1 (sym tree.2) ∙ ap (λ b. proof (formula_in x F) b tree.0) begins in
    subst (λ (b : List Step). AreTexts L F s verdict (proof_text (b ++ steps)) answer) (sym (whole is.0))
    (rw is.0 (refuted-texts L F s plan x tree.0 steps answer limits result.1 h says tree.1 is.1 same))

-- what a plan alone decides is its answer
pub alone-decided : (F : Formula) (plan p : Plan) (x : Begun) (tree : LinesTree) → IsFormula F → IsChosen F (by_plan plan) p → IsFoundTree (λ lines. lines) F p x tree → IsDecidedAs F (by_plan plan) (search_from p.search) x tree × Says (search_by (by_plan plan)) F tree
alone-decided F plan p x (Model values) formed chosen h = kept-answer F (by_plan plan) p values.items formed (inl refl) (chosen, h)
alone-decided F plan p x (Refuted nodes) formed chosen h = ((p, chosen, refl, (h.0, h.1)), refuted-says (λ lines. lines) F p x nodes formed h)
