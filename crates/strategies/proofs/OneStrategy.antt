-- A formula has one chosen plan, and so a strategy has one text of each kind.
use Rattle.std.proofs.Common.{◌≡◌, ℕ, Bool, true, false, List, [], Some, refl, sym, ap, subst, ◌∙◌}
use Rattle.theory.specs.Truth.{Formula, Assignment}
use Rattle.theory.specs.Plans.{Plan, ordered_within}
use Rattle.theory.specs.Pure.{searched}
use Rattle.theory.specs.Search.{Outcome, exhausted}
use Rattle.theory.specs.Runs.{Runs}
use Rattle.theory.specs.Texts.{answer_text}
use Rattle.theory.specs.Written.{IsUnsatisfiableText}
use Rattle.theory.proofs.trees.FirstModelLemmas.{IsFirst-unique}
use Rattle.theory.proofs.trees.OneText.{Same, unsatisfiable-same}
use Rattle.theory.proofs.trees.SearchLemmas.{Runs-unique}
use Rattle.strategies.specs.Strategies.{Strategy}
use Rattle.strategies.specs.Choosing.{IsDecision, IsChosen, alone, decides, goes_on, IsModelByPlan, IsModelBy}
use Rattle.strategies.proofs.FoundModels.{plan-models-same}
use Rattle.strategies.specs.Texts.{IsModelText, IsRefutationText}

-- an outcome that decides isn't an exhaustion
not-exhausted : (F : Formula) (B C x : ℕ) (o : Outcome) → B ≡ C → Runs (searched F) (ordered_within B) [] o → IsDecision o → Runs (searched F) (ordered_within C) [] (exhausted x) → ⊥
not-exhausted F B C x o same r d k =
    let e : o ≡ exhausted x = Runs-unique (searched F) (ordered_within C) [] o (exhausted x) (subst (λ n. Runs (searched F) (ordered_within n) [] o) same r) k in
    subst IsDecision e d

pub IsChosen-unique : (F : Formula) (s : Strategy) (p q : Plan) → IsChosen F s p → IsChosen F s q → p ≡ q
IsChosen-unique F s p q (alone n) (alone m) = refl
IsChosen-unique F s p q (alone n) (decides f r d) = absurd (cc)
IsChosen-unique F s p q (alone n) (goes_on f r) = refl
IsChosen-unique F s p q (decides f r d) (alone n) = absurd (cc)
IsChosen-unique F s p q (decides {B = B} f r d) (decides {B = C} g k e) = let same : B ≡ C = cc in ap ordered_within same
IsChosen-unique F s p q (decides {B = B} {o = o} f r d) (goes_on {B = C} {x = x} g k) = let same : B ≡ C = cc in absurd (not-exhausted F B C x o same r d k)
IsChosen-unique F s p q (goes_on f r) (alone n) = refl
IsChosen-unique F s p q (goes_on {B = B} {x = x} f r) (decides {B = C} {o = o} g k d) = let same : C ≡ B = cc in absurd (not-exhausted F C B x o same k d r)
IsChosen-unique F s p q (goes_on f r) (goes_on g k) = refl

-- there is one model that is the answer
pub models-same : (b : Bool) (F : Formula) (s : Strategy) (M N : Assignment) → IsModelBy b F s M → IsModelBy b F s N → M ≡ N
models-same true F s M N h k = IsFirst-unique F M N h k
models-same false F s M N h k =
    plan-models-same F k.0 M N (subst (λ (p : Plan). IsModelByPlan F p M) (IsChosen-unique F s h.0 k.0 h.1 k.1) h.2) k.2

pub model-texts-same : (F : Formula) (s : Strategy) (p a q b : List ℕ) → IsModelText F s p a → IsModelText F s q b → Same p a q b
model-texts-same F s p a q b t u =
    (t.proof_is ∙ sym u.proof_is, t.answer_is ∙ ap (λ m. answer_text (Some m)) (models-same s.lowers F s t.model u.model t.is_answer u.is_answer) ∙ sym u.answer_is)

pub refutation-texts-same : (F : Formula) (s : Strategy) (p a q b : List ℕ) → IsRefutationText F s p a → IsRefutationText F s q b → Same p a q b
refutation-texts-same F s p a q b t u =
    unsatisfiable-same F u.plan p a q b (subst (λ plan. IsUnsatisfiableText F plan p a) (IsChosen-unique F s t.plan u.plan t.chosen u.chosen) t.text) u.text
