-- Runs on the same bytes, by the same strategy, write the same.
use Rattle.std.proofs.Common.{◌≡◌, ℕ, List, Some, refl, sym, subst, ◌∙◌}
use Rattle.theory.specs.Truth.{Formula}
use Rattle.theory.specs.Reading.{Limits, ReadsWithin, formula}
use Rattle.theory.proofs.searching.FoundModels.{IsFound-satisfies}
use Rattle.theory.proofs.trees.OneText.{Reads-one_formula}
use Rattle.strategies.specs.Strategies.{Strategy, search_by}
use Rattle.strategies.proofs.OneStrategy.{model-texts-same, refutation-texts-same}
use Rattle.runs.specs.Run.{AreTexts, IsRunOf}
use Rattle.runs.specs.declared.verdict.Verdict.{Verdict}
use Rattle.runs.specs.declared.verdict.Verdict.TheVariants.{Satisfiable, Unsatisfiable}

texts-same : (L : Limits) (F : Formula) (s : Strategy) (v w : Verdict) (p a q b : List ℕ) → AreTexts L F s v p a → AreTexts L F s w q b → (v ≡ w) × (p ≡ q) × (a ≡ b)
texts-same L F s Satisfiable Satisfiable p a q b t u = let same = model-texts-same F s p a q b t u in (refl, same.0, same.1)
texts-same L F s Satisfiable Unsatisfiable p a q b t u = absurd (u.0.text.unsatisfiable (t.model, IsFound-satisfies (search_by s) F t.model t.found))
texts-same L F s Unsatisfiable Satisfiable p a q b t u = absurd (t.0.text.unsatisfiable (u.model, IsFound-satisfies (search_by s) F u.model u.found))
texts-same L F s Unsatisfiable Unsatisfiable p a q b t u = let same = refutation-texts-same F s p a q b t.0 u.0 in (refl, same.0, same.1)

pub runs-same : (L : Limits) (input : List ℕ) (s : Strategy) (v w : Verdict) (p a q b : List ℕ) → IsRunOf L (Some input) s v p a → IsRunOf L (Some input) s w q b → (v ≡ w) × (p ≡ q) × (a ≡ b)
runs-same L input s v w p a q b t u =
    let reads : ReadsWithin L u.bytes (formula t.value) = subst (λ bytes. ReadsWithin L bytes (formula t.value)) (t.are ∙ sym u.are) t.reads in
    texts-same L u.value s v w p a q b (subst (λ F. AreTexts L F s v p a) (Reads-one_formula L u.bytes t.value u.value reads u.reads) t.texts) u.texts
