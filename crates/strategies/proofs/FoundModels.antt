-- What the models of a strategy are.
use Rattle.std.proofs.Common.{Bool, ◌⊎◌, inl, inr, None, refl, ◌≡◌, true, false, sym, ap, ap₂, ◌∙◌, subst, length, ℕ, [], if◌then◌else◌}
use Rattle.theory.specs.Truth.{Formula, Assignment, IsFormula, Satisfies}
use Rattle.theory.specs.Plans.{Search, ordered, focused, Plan, ordered_within}
use Rattle.theory.specs.FirstModel.{IsFirst, IsFound}
use Rattle.theory.specs.Pure.{searched}
use Rattle.theory.specs.Beginnings.{Beginning, by_pure_units, begun, begun_by, model_back, result_back, Begins, directly}
use Rattle.theory.specs.Trees.{Result, model_of, IsResult}
use Rattle.theory.specs.Results.{ResultSays}
use Rattle.theory.specs.Checked.{IsCheckedResult}
use Rattle.theory.proofs.searching.FoundModels.{IsFound-satisfies}
use Rattle.theory.proofs.trees.ResultLemmas.{IsCheckedResult-IsResult}
use Rattle.theory.proofs.trees.OneResult.{IsFirstLeaf-unique}
use Rattle.theory.proofs.trees.BegunSearches.{IsFormula-begun, IsResult-back, IsCheckedResult-back, Begins-beginning, Begins-unique}
use Rattle.theory.proofs.trees.ResultLemmas.{IsCheckedResult-says}
use Rattle.strategies.specs.declared.begun_formula.Begun.{Begun}
use Rattle.strategies.specs.declared.begun_formula.Begun.TheVariants.{Given, Simplified}
use Rattle.strategies.specs.Begun.{formula_in, model_in, HasVariables, IsBegun, IsBegunBy}
use Rattle.strategies.specs.Strategies.{Strategy, search_by}
use Rattle.strategies.specs.Choosing.{IsChosen, alone, decides, goes_on, IsModelByPlan, IsModelBy}
use Rattle.strategies.specs.Deciding.{IsFoundBy, IsModelOf}

-- the first model is one that any search may find
pub first-found : (search : Search) (F : Formula) (M : Assignment) → IsFirst F M → IsFound search F M
first-found ordered F M h = h
first-found (focused c) F M h = h.satisfies

-- what the result of what a plan's search begins with says of the formula
pub result-says : (F : Formula) (p : Plan) (b : Beginning) (r : Result) → IsFormula F → Begins p F b → IsResult (begun F b) p r → ResultSays p.search F (result_back F b r)
result-says F p b r formed begins result = IsResult-back F b p r formed (Begins-beginning F p b formed begins) result

pub checked-says : (F : Formula) (p : Plan) (b : Beginning) (r : Result) → IsFormula F → Begins p F b → IsCheckedResult p.search (begun F b) r → ResultSays p.search F (result_back F b r)
checked-says F p b r formed begins result = IsCheckedResult-back p.search F b r formed (Begins-beginning F p b formed begins) result

-- so it is found as the plan's search finds models
pub model-found : (F : Formula) (p : Plan) (M : Assignment) → IsFormula F → IsModelByPlan F p M → IsFound p.search F M
model-found F p M formed h = subst (IsFound p.search F) (sym h.is) (result-says F p h.beginning (model_of h.model) formed h.begins h.is_result)

-- there is one by a plan
pub plan-models-same : (F : Formula) (p : Plan) (M N : Assignment) → IsModelByPlan F p M → IsModelByPlan F p N → M ≡ N
plan-models-same F p M N h k =
    let same : h.beginning ≡ k.beginning = Begins-unique p F h.beginning k.beginning h.begins k.begins in
    let one = IsFirstLeaf-unique (begun F k.beginning) p [] h.model k.model (subst (λ b. IsResult (begun F b) p (model_of h.model)) same h.is_result) k.is_result in
    h.is ∙ ap₂ (λ b (P : Assignment). model_back F b P) same one ∙ sym k.is

-- the ordered search's is that of the formula with the units of pure variables
pub ordered-begins : (F : Formula) (B : ℕ) → Begins (ordered_within B) F by_pure_units
ordered-begins F B = directly (λ y. y.hard) refl

pub ordered-model : (F : Formula) (B : ℕ) (M : Assignment) → IsResult (searched F) (ordered_within B) (model_of M) → IsModelByPlan F (ordered_within B) M
ordered-model F B M r = record { beginning = by_pure_units; begins = ordered-begins F B; model = M; is_result = r; is = refl }

-- what is searched has the formula's variables
searched-vars : (F : Formula) (x : Begun) → HasVariables x F.vars → (formula_in x F).vars ≡ F.vars
searched-vars F Given h = refl
searched-vars F (Simplified made) h = sym h

searched-formula : (F : Formula) (p : Plan) (x : Begun) → IsFormula F → IsBegunBy F p x → IsFormula (begun_by p.search (formula_in x F))
searched-formula F p x formed h = subst IsFormula (sym h.1.formula) (IsFormula-begun p.search F h.0 formed (Begins-beginning F p h.0 formed h.1.begins))

-- so a model of it has values for them
pub checked-long : (F : Formula) (p : Plan) (x : Begun) (M : Assignment) → IsBegunBy F p x → IsCheckedResult p.search (begun_by p.search (formula_in x F)) (model_of M) → length M ≡ F.vars
checked-long F p x M h r =
    (IsFound-satisfies p.search (begun_by p.search (formula_in x F)) M (IsCheckedResult-says p.search (begun_by p.search (formula_in x F)) (model_of M) r)).values ∙ searched-vars F x h.1.vars

pub result-checked : (F : Formula) (p : Plan) (x : Begun) (r : Result) → IsFormula F → IsBegunBy F p x → IsResult (begun_by p.search (formula_in x F)) p r → IsCheckedResult p.search (begun_by p.search (formula_in x F)) r
result-checked F p x r formed h result = IsCheckedResult-IsResult (begun_by p.search (formula_in x F)) p r (searched-formula F p x formed h) result

pub result-long : (F : Formula) (p : Plan) (x : Begun) (M : Assignment) → IsFormula F → IsBegunBy F p x → IsResult (begun_by p.search (formula_in x F)) p (model_of M) → length M ≡ F.vars
result-long F p x M formed h r = checked-long F p x M h (result-checked F p x (model_of M) formed h r)

pub long-variables : (F : Formula) (p : Plan) (x : Begun) (M : Assignment) → IsBegunBy F p x → length M ≡ F.vars → HasVariables x (length M)
long-variables F p x M h long = subst (HasVariables x) (sym long) h.1.vars

-- and made one of the formula it is the plan's
pub model-begun : (F : Formula) (p : Plan) (x : Begun) (M : Assignment) → IsFormula F → IsBegunBy F p x → IsResult (begun_by p.search (formula_in x F)) p (model_of M) → IsModelByPlan F p (model_in x M)
model-begun F p x M formed h r = record {
  beginning = h.0;
  begins = h.1.begins;
  model = M;
  is_result = subst (λ (G : Formula). IsResult G p (model_of M)) h.1.formula r;
  is = h.1.back M (result-long F p x M formed h r);
}

-- where it is checked alone, it is found as the plan's search finds models
pub checked-found : (F : Formula) (p : Plan) (x : Begun) (M : Assignment) → IsFormula F → IsBegunBy F p x → IsCheckedResult p.search (begun_by p.search (formula_in x F)) (model_of M) → IsFound p.search F (model_in x M)
checked-found F p x M formed h r =
    subst (IsFound p.search F) (sym (h.1.back M (checked-long F p x M h r)))
    (checked-says F p h.0 (model_of M) formed h.1.begins (subst (λ (G : Formula). IsCheckedResult p.search G (model_of M)) h.1.formula r))

-- the model of the chosen plan satisfies the formula
pub found-satisfies : (F : Formula) (s : Strategy) (p : Plan) (M : Assignment) → IsFormula F → IsFoundBy F s p M → Satisfies F M
found-satisfies F s p M formed h = IsFound-satisfies p.search F M (model-found F p M formed h.1)

-- the chosen plan finds models as the strategy's own plan does, or better ones
pub chosen-found : (F : Formula) (s : Strategy) (p : Plan) (M : Assignment) → IsFormula F → IsChosen F s p → IsModelByPlan F p M → IsFound s.plan.search F M
chosen-found F s p M formed (alone n) h = model-found F s.plan M formed h
chosen-found F s p M formed (decides {B = B} f runs d) h = first-found s.plan.search F M (model-found F (ordered_within B) M formed h)
chosen-found F s p M formed (goes_on f runs) h = model-found F s.plan M formed h

-- the model that was found is the answer, where nothing is lowered
pub found-answer : (F : Formula) (s : Strategy) (p : Plan) (M : Assignment) → IsFormula F → s.lowers ≡ false → IsFoundBy F s p M → IsModelOf F s M
found-answer F s p M formed as_found h =
    let kind : search_by s ≡ s.plan.search = ap (λ b. if b then ordered else s.plan.search) as_found in
    (subst (λ b. IsModelBy b F s M) (sym as_found) (p, h.0, h.1), subst (λ search. IsFound search F M) (sym kind) (chosen-found F s p M formed h.0 h.1))

-- and the first one, where it is lowered
pub first-answer : (F : Formula) (s : Strategy) (M : Assignment) → s.lowers ≡ true → IsFirst F M → IsModelOf F s M
first-answer F s M low h =
    let kind : search_by s ≡ ordered = ap (λ b. if b then ordered else s.plan.search) low in
    (subst (λ b. IsModelBy b F s M) (sym low) h, subst (λ search. IsFound search F M) (sym kind) h)

-- the ordered search's is the first
ordered-first : (F : Formula) (p : Plan) (M : Assignment) → IsFormula F → p.search ≡ ordered → IsModelByPlan F p M → IsFirst F M
ordered-first F p M formed it h = subst (λ search. IsFound search F M) it (model-found F p M formed h)

-- so either is the answer as it is
pub kept-answer : (F : Formula) (s : Strategy) (p : Plan) (M : Assignment) → IsFormula F → (s.lowers ≡ false) ⊎ (p.search ≡ ordered) → IsFoundBy F s p M → IsModelOf F s M
kept-answer F s p M formed (inl as_found) h = found-answer F s p M formed as_found h
kept-answer F s p M formed (inr it) h = go s.lowers refl
  where
    go : (b : Bool) → s.lowers ≡ b → IsModelOf F s M
    go true low = first-answer F s M low (ordered-first F p M formed it h.1)
    go false as_found = found-answer F s p M formed as_found h

-- the search whose models are as the strategy's is the plan's, where nothing is lowered
pub kept-kind : (b : Bool) (s : Search) → (b ≡ false) ⊎ (s ≡ ordered) → (if b then ordered else s) ≡ s
kept-kind true s (inl lowers) = absurd (cc)
kept-kind true s (inr it) = sym it
kept-kind false s k = refl
