-- The bytes and the plan fix the proof and the answer.
use Rattle.std.proofs.Common.{◌≡◌, ℕ, List, [], ◌⊎◌, inl, inr, sym, ap, ◌∙◌, subst, Option, Some}
use Rattle.theory.specs.Truth.{Formula}
use Rattle.theory.specs.Plans.{Plan}
use Rattle.theory.specs.Beginnings.{begun, model_back, proof}
use Rattle.theory.specs.Trees.{IsTree, IsFirstLeaf}
use Rattle.theory.proofs.trees.BegunSearches.{Begins-unique}
use Rattle.theory.specs.Texts.{proof_text, answer_text}
use Rattle.theory.specs.Reading.{Limits, Token, IsReadable, ReadsWithin, formula, tokens_in, tokens_of}
use Rattle.theory.specs.Written.{IsSatisfiableText, IsUnsatisfiableText, IsWrittenWithin}
use Rattle.theory.proofs.reading.ReadingMachine.{ReaderState, at_p, at_body}
use Rattle.theory.proofs.searching.FoundModels.{IsFound-satisfies}
use Rattle.theory.proofs.trees.OneResult.{IsFirstLeaf-unique}
use Rattle.theory.proofs.trees.SearchLemmas.{IsTree-unique}
use Rattle.theory.proofs.reading.PrintedTokens.{states, formula-states}

formula_in : Option ReaderState → Formula
formula_in (Some (at_body V C cs part)) = record { vars = V; clauses = cs }
formula_in o = record { vars = 0; clauses = [] }

IsReadable-unique : (L : Limits) (ts : List Token) (F G : Formula) → IsReadable L ts F → IsReadable L ts G → F ≡ G
unfolding formula_in
IsReadable-unique L ts F G f g = ap formula_in (sym (formula-states L F f.within) ∙ ap (states L (Some at_p)) (sym f.tokens ∙ g.tokens) ∙ formula-states L G g.within)

pub Reads-one_formula : (L : Limits) (bytes : List ℕ) (F G : Formula) → ReadsWithin L bytes (formula F) → ReadsWithin L bytes (formula G) → F ≡ G
Reads-one_formula L bytes F G f g = IsReadable-unique L (tokens_in (tokens_of bytes)) F G f.1 g.1

-- two proofs and two answers are the same
abbrev pub Same : (p a q b : List ℕ) → Type 0
Same p a q b = (p ≡ q) × (a ≡ b)

pub satisfiable-same : (F : Formula) (plan : Plan) (p a q b : List ℕ) → IsSatisfiableText F plan p a → IsSatisfiableText F plan q b → Same p a q b
satisfiable-same F plan p a q b s t =
    let same : s.beginning ≡ t.beginning = Begins-unique plan F s.beginning t.beginning s.begins t.begins in
    let left : IsFirstLeaf (begun F t.beginning) plan [] s.model = subst (λ c. IsFirstLeaf (begun F c) plan [] s.model) same s.is_result in
    let one : model_back F s.beginning s.model ≡ model_back F t.beginning t.model
    = ap (λ c. model_back F c s.model) same ∙ ap (model_back F t.beginning) (IsFirstLeaf-unique (begun F t.beginning) plan [] s.model t.model left t.is_result) in
    (s.proof_is ∙ sym t.proof_is, s.answer_is ∙ ap (λ m. answer_text (Some m)) one ∙ sym t.answer_is)

pub unsatisfiable-same : (F : Formula) (plan : Plan) (p a q b : List ℕ) → IsUnsatisfiableText F plan p a → IsUnsatisfiableText F plan q b → Same p a q b
unsatisfiable-same F plan p a q b s t =
    let same : s.beginning ≡ t.beginning = Begins-unique plan F s.beginning t.beginning s.begins t.begins in
    let left : IsTree (begun F t.beginning) plan [] s.tree = subst (λ c. IsTree (begun F c) plan [] s.tree) same s.is_tree in
    let one : proof F s.beginning s.tree ≡ proof F t.beginning t.tree
    = ap (λ c. proof F c s.tree) same ∙ ap (proof F t.beginning) (IsTree-unique (begun F t.beginning) plan [] s.tree t.tree left t.is_tree) in
    (s.proof_is ∙ ap proof_text one ∙ sym t.proof_is, s.answer_is ∙ sym t.answer_is)

texts-same : (F : Formula) (plan : Plan) (p a q b : List ℕ) → IsSatisfiableText F plan p a ⊎ IsUnsatisfiableText F plan p a
    → IsSatisfiableText F plan q b ⊎ IsUnsatisfiableText F plan q b → Same p a q b
texts-same F plan p a q b (inl s) (inl t) = satisfiable-same F plan p a q b s t
texts-same F plan p a q b (inl s) (inr t) = absurd (t.unsatisfiable (model_back F s.beginning s.model, IsFound-satisfies plan.search F (model_back F s.beginning s.model) s.found))
texts-same F plan p a q b (inr s) (inl t) = absurd (s.unsatisfiable (model_back F t.beginning t.model, IsFound-satisfies plan.search F (model_back F t.beginning t.model) t.found))
texts-same F plan p a q b (inr s) (inr t) = unsatisfiable-same F plan p a q b s t

pub IsWritten-one : (L : Limits) (bytes : List ℕ) (plan : Plan) (p a q b : List ℕ) → IsWrittenWithin L bytes plan p a → IsWrittenWithin L bytes plan q b → Same p a q b
IsWritten-one L bytes plan p a q b s t =
    texts-same t.value plan p a q b (subst (λ F. IsSatisfiableText F plan p a ⊎ IsUnsatisfiableText F plan p a) (Reads-one_formula L bytes s.value t.value s.reads t.reads) s.texts) t.texts
