-- The texts of strategies: each is one, those of a plan alone are the plan's, and the answer of one
-- that lowers is the ordered search's.
use Rattle.std.proofs.Common.{◌≡◌, ℕ, Bool, true, false, List, [], ◌⊎◌, inl, inr, Some, None, refl, sym, ap, subst, ◌∙◌, if◌then◌else◌}
use Rattle.theory.specs.Truth.{Formula, Assignment, IsFormula}
use Rattle.theory.specs.Plans.{Search, ordered, focused, Plan, ordered_within}
use Rattle.theory.specs.Pure.{searched}
use Rattle.theory.specs.Beginnings.{model_back}
use Rattle.theory.specs.FirstModel.{IsFirst, IsFound}
use Rattle.theory.specs.Search.{Outcome, model, refuted, exhausted}
use Rattle.theory.specs.Runs.{Runs}
use Rattle.theory.specs.Trees.{here}
use Rattle.theory.specs.Texts.{answer_text}
use Rattle.theory.specs.Reading.{Limits, ReadsWithin, formula}
use Rattle.theory.specs.Written.{IsSatisfiableText, IsUnsatisfiableText, IsWrittenWithin}
use Rattle.theory.proofs.searching.FoundModels.{IsFound-satisfies}
use Rattle.theory.proofs.searching.OutcomeLemmas.{Runs-refuted}
use Rattle.theory.proofs.searching.PureModels.{Satisfiable-searched}
use Rattle.theory.proofs.trees.FirstModelLemmas.{IsFirst-unique}
use Rattle.theory.proofs.trees.OneText.{Same, Reads-one_formula}
use Rattle.strategies.specs.Strategies.{Strategy, by_plan, search_by}
use Rattle.strategies.specs.Choosing.{first_within, IsDecision, IsChosen, alone, decides, IsModelByPlan, IsModelBy}
use Rattle.strategies.specs.Texts.{IsModelText, IsRefutationText, IsWrittenBy}
use Rattle.strategies.proofs.FoundModels.{model-found, ordered-model, chosen-found}
use Rattle.strategies.proofs.OneStrategy.{IsChosen-unique, model-texts-same, refutation-texts-same}

-- the texts of a plan with a model
satisfiable-text : (F : Formula) (plan : Plan) (M : Assignment) (p a : List ℕ) → IsFound plan.search F M → IsModelByPlan F plan M → p ≡ [] → a ≡ answer_text (Some M) → IsSatisfiableText F plan p a
satisfiable-text F plan M p a found h proof_is answer_is = record {
  beginning = h.beginning;
  begins = h.begins;
  model = h.model;
  found = subst (IsFound plan.search F) h.is found;
  is_result = h.is_result;
  proof_is = proof_is;
  answer_is = answer_is ∙ ap (λ N. answer_text (Some N)) h.is;
}

satisfiable-model : (F : Formula) (plan : Plan) (p a : List ℕ) → IsSatisfiableText F plan p a
    → (M : Assignment) × IsFound plan.search F M × IsModelByPlan F plan M × (p ≡ []) × (a ≡ answer_text (Some M))
satisfiable-model F plan p a t = (
  model_back F t.beginning t.model,
  t.found,
  record { beginning = t.beginning; begins = t.begins; model = t.model; is_result = t.is_result; is = refl },
  t.proof_is,
  t.answer_is,
)

-- the texts for a formula
abbrev AreFor : Formula → Strategy → List ℕ → List ℕ → Type 0
AreFor F s p a = IsModelText F s p a ⊎ IsRefutationText F s p a

texts-same : (F : Formula) (s : Strategy) (p a q b : List ℕ) → AreFor F s p a → AreFor F s q b → Same p a q b
texts-same F s p a q b (inl t) (inl u) = model-texts-same F s p a q b t u
texts-same F s p a q b (inl t) (inr u) = absurd (u.text.unsatisfiable (t.model, IsFound-satisfies (search_by s) F t.model t.found))
texts-same F s p a q b (inr t) (inl u) = absurd (t.text.unsatisfiable (u.model, IsFound-satisfies (search_by s) F u.model u.found))
texts-same F s p a q b (inr t) (inr u) = refutation-texts-same F s p a q b t u

-- those for the formula of the bytes
for-this : (L : Limits) (bytes : List ℕ) (s : Strategy) (F : Formula) (p a : List ℕ) → ReadsWithin L bytes (formula F) → IsWrittenBy L bytes s p a → AreFor F s p a
for-this L bytes s F p a reads w = subst (λ G. AreFor G s p a) (Reads-one_formula L bytes w.value F w.reads reads) w.texts

pub IsWrittenBy-one : (L : Limits) (bytes : List ℕ) (s : Strategy) (p a q b : List ℕ) → IsWrittenBy L bytes s p a → IsWrittenBy L bytes s q b → Same p a q b
IsWrittenBy-one L bytes s p a q b t u = texts-same u.value s p a q b (for-this L bytes s u.value p a u.reads t) u.texts

-- a plan alone
alone-plan : (F : Formula) (plan : Plan) (p a : List ℕ) → AreFor F (by_plan plan) p a → IsSatisfiableText F plan p a ⊎ IsUnsatisfiableText F plan p a
alone-plan F plan p a (inl t) = inl (satisfiable-text F plan t.model p a t.found
    (subst (λ (q : Plan). IsModelByPlan F q t.model) (IsChosen-unique F (by_plan plan) t.is_answer.0 plan t.is_answer.1 (alone refl)) t.is_answer.2) t.proof_is t.answer_is)
alone-plan F plan p a (inr t) = inr (subst (λ q. IsUnsatisfiableText F q p a) (IsChosen-unique F (by_plan plan) t.plan plan t.chosen (alone refl)) t.text)

plan-alone : (F : Formula) (plan : Plan) (p a : List ℕ) → IsSatisfiableText F plan p a ⊎ IsUnsatisfiableText F plan p a → AreFor F (by_plan plan) p a
plan-alone F plan p a (inl t) =
    let m = satisfiable-model F plan p a t in
    inl (record { model = m.0; found = m.1; is_answer = (plan, alone refl, m.2); proof_is = m.3; answer_is = m.4 })
plan-alone F plan p a (inr t) = inr (record { plan = plan; chosen = alone refl; text = t })

pub IsWritten-alone : (L : Limits) (bytes : List ℕ) (plan : Plan) (p a : List ℕ) → IsWrittenBy L bytes (by_plan plan) p a → IsWrittenWithin L bytes plan p a
IsWritten-alone L bytes plan p a w = record { value = w.value; reads = w.reads; texts = alone-plan w.value plan p a w.texts }

pub alone-IsWritten : (L : Limits) (bytes : List ℕ) (plan : Plan) (p a : List ℕ) → IsWrittenWithin L bytes plan p a → IsWrittenBy L bytes (by_plan plan) p a
alone-IsWritten L bytes plan p a w = record { value = w.value; reads = w.reads; texts = plan-alone w.value plan p a w.texts }

-- the answer of a strategy that lowers
lowered-first : (F : Formula) (s : Strategy) (M : Assignment) → s.lowers ≡ true → IsModelBy s.lowers F s M → IsFirst F M
lowered-first F s M low h = subst (λ b. IsModelBy b F s M) low h

ordered-first : (F : Formula) (search : Search) (M : Assignment) → search ≡ ordered → IsFound search F M → IsFirst F M
ordered-first F search M it h = subst (λ search. IsFound search F M) it h

answers-same : (F : Formula) (s : Strategy) (plan : Plan) (p a q b : List ℕ) → s.lowers ≡ true → plan.search ≡ ordered → AreFor F s p a → IsSatisfiableText F plan q b ⊎ IsUnsatisfiableText F plan q b → a ≡ b
answers-same F s plan p a q b low it (inl t) (inl u) =
    let m = satisfiable-model F plan q b u in
    t.answer_is ∙ ap (λ m. answer_text (Some m)) (IsFirst-unique F t.model m.0 (lowered-first F s t.model low t.is_answer) (ordered-first F plan.search m.0 it m.1)) ∙ sym m.4
answers-same F s plan p a q b low it (inl t) (inr u) = absurd (u.unsatisfiable (t.model, IsFound-satisfies (search_by s) F t.model t.found))
answers-same F s plan p a q b low it (inr t) (inl u) = absurd (let m = satisfiable-model F plan q b u in t.text.unsatisfiable (m.0, IsFound-satisfies plan.search F m.0 m.1))
answers-same F s plan p a q b low it (inr t) (inr u) = t.text.answer_is ∙ sym u.answer_is

pub answer-first : (L : Limits) (bytes : List ℕ) (s : Strategy) (plan : Plan) (p a q b : List ℕ) → s.lowers ≡ true → plan.search ≡ ordered → IsWrittenBy L bytes s p a → IsWrittenWithin L bytes plan q b → a ≡ b
answer-first L bytes s plan p a q b low it t u = answers-same u.value s plan p a q b low it (for-this L bytes s u.value p a u.reads t) u.texts

-- the model of a formula that the ordered search decides is its result
decided-model : (F : Formula) (B : ℕ) (o : Outcome) (M : Assignment) → IsFormula F → Runs (searched F) (ordered_within B) [] o → IsDecision o → IsFirst F M → IsModelByPlan F (ordered_within B) M
decided-model F B (model N) M formed r d first =
    let found = ordered-model F B N (here r) in
    let same : N ≡ M = IsFirst-unique F N M (model-found F (ordered_within B) N formed found) first in
    subst (IsModelByPlan F (ordered_within B)) same found
decided-model F B (refuted lines) M formed r d first =
    let some = Satisfiable-searched F formed (M, first.satisfies) in
    absurd (Runs-refuted (searched F) (ordered_within B) [] lines refl r some.0 some.1 tt)
decided-model F B (exhausted x) M formed r d first = absurd d

decided-result : (b : Bool) (F : Formula) (s : Strategy) (B : ℕ) (o : Outcome) (M : Assignment) → IsFormula F → first_within F s ≡ Some B → Runs (searched F) (ordered_within B) [] o → IsDecision o → IsModelBy b F s M → IsModelByPlan F (ordered_within B) M
decided-result true F s B o M formed f r d h = decided-model F B o M formed r d h
decided-result false F s B o M formed f r d h = subst (λ (p : Plan). IsModelByPlan F p M) (IsChosen-unique F s h.0 (ordered_within B) h.1 (decides f r d)) h.2

decided-texts : (F : Formula) (s : Strategy) (B : ℕ) (o : Outcome) (p a : List ℕ) → IsFormula F → first_within F s ≡ Some B → Runs (searched F) (ordered_within B) [] o → IsDecision o → AreFor F s p a
    → IsSatisfiableText F (ordered_within B) p a ⊎ IsUnsatisfiableText F (ordered_within B) p a
decided-texts F s B o p a formed f r d (inl t) =
    let result = decided-result s.lowers F s B o t.model formed f r d t.is_answer in
    inl (satisfiable-text F (ordered_within B) t.model p a (model-found F (ordered_within B) t.model formed result) result t.proof_is t.answer_is)
decided-texts F s B o p a formed f r d (inr t) = inr (subst (λ q. IsUnsatisfiableText F q p a) (IsChosen-unique F s t.plan (ordered_within B) t.chosen (decides f r d)) t.text)

pub decided-written : (L : Limits) (bytes : List ℕ) (s : Strategy) (B : ℕ) (F : Formula) (o : Outcome) (p a : List ℕ) → first_within F s ≡ Some B → ReadsWithin L bytes (formula F) → Runs (searched F) (ordered_within B) [] o → IsDecision o → IsWrittenBy L bytes s p a
    → IsWrittenWithin L bytes (ordered_within B) p a
decided-written L bytes s B F o p a f reads r d w =
    record { value = F; reads = reads; texts = decided-texts F s B o p a reads.1.within.formula f r d (for-this L bytes s F p a reads w) }

-- a strategy and its chosen plan
abbrev chosen_of : Strategy → Plan → Strategy
chosen_of s plan = record s { first = None; plan = plan }

model-by-chosen : (b : Bool) (F : Formula) (s : Strategy) (plan : Plan) (M : Assignment) → IsFormula F → IsChosen F s plan → IsModelBy b F s M
    → IsFound (if b then ordered else plan.search) F M × IsModelBy b F (chosen_of s plan) M
model-by-chosen true F s plan M formed chosen h = (h, h)
model-by-chosen false F s plan M formed chosen h =
    let result = subst (λ (p : Plan). IsModelByPlan F p M) (IsChosen-unique F s h.0 plan h.1 chosen) h.2 in
    (model-found F plan M formed result, (plan, alone refl, result))

model-by-strategy : (b : Bool) (F : Formula) (s : Strategy) (plan : Plan) (M : Assignment) → IsFormula F → IsChosen F s plan → IsModelBy b F (chosen_of s plan) M
    → IsFound (if b then ordered else s.plan.search) F M × IsModelBy b F s M
model-by-strategy true F s plan M formed chosen h = (h, h)
model-by-strategy false F s plan M formed chosen h =
    let result = subst (λ (p : Plan). IsModelByPlan F p M) (IsChosen-unique F (chosen_of s plan) h.0 plan h.1 (alone refl)) h.2 in
    (chosen-found F s plan M formed chosen result, (plan, chosen, result))

to-chosen : (F : Formula) (s : Strategy) (plan : Plan) (p a : List ℕ) → IsFormula F → IsChosen F s plan → AreFor F s p a → AreFor F (chosen_of s plan) p a
to-chosen F s plan p a formed chosen (inl t) =
    let m = model-by-chosen s.lowers F s plan t.model formed chosen t.is_answer in
    inl (record { model = t.model; found = m.0; is_answer = m.1; proof_is = t.proof_is; answer_is = t.answer_is })
to-chosen F s plan p a formed chosen (inr t) =
    inr (record { plan = plan; chosen = alone refl; text = subst (λ q. IsUnsatisfiableText F q p a) (IsChosen-unique F s t.plan plan t.chosen chosen) t.text })

from-chosen : (F : Formula) (s : Strategy) (plan : Plan) (p a : List ℕ) → IsFormula F → IsChosen F s plan → AreFor F (chosen_of s plan) p a → AreFor F s p a
from-chosen F s plan p a formed chosen (inl t) =
    let m = model-by-strategy s.lowers F s plan t.model formed chosen t.is_answer in
    inl (record { model = t.model; found = m.0; is_answer = m.1; proof_is = t.proof_is; answer_is = t.answer_is })
from-chosen F s plan p a formed chosen (inr t) =
    inr (record { plan = plan; chosen = chosen; text = subst (λ q. IsUnsatisfiableText F q p a) (IsChosen-unique F (chosen_of s plan) t.plan plan t.chosen (alone refl)) t.text })

pub chosen-written : (L : Limits) (bytes : List ℕ) (s : Strategy) (F : Formula) (plan : Plan) (p a : List ℕ) → ReadsWithin L bytes (formula F) → IsChosen F s plan → IsWrittenBy L bytes s p a → IsWrittenBy L bytes (record s { first = None; plan = plan }) p a
chosen-written L bytes s F plan p a reads chosen w =
    record { value = F; reads = reads; texts = to-chosen F s plan p a reads.1.within.formula chosen (for-this L bytes s F p a reads w) }

pub written-chosen : (L : Limits) (bytes : List ℕ) (s : Strategy) (F : Formula) (plan : Plan) (p a : List ℕ) → ReadsWithin L bytes (formula F) → IsChosen F s plan → IsWrittenBy L bytes (record s { first = None; plan = plan }) p a → IsWrittenBy L bytes s p a
written-chosen L bytes s F plan p a reads chosen w =
    record { value = F; reads = reads; texts = from-chosen F s plan p a reads.1.within.formula chosen (for-this L bytes (record s { first = None; plan = plan }) F p a reads w) }
