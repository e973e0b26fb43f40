-- What a run over stored facts has written, of which nobody vouches for the facts.
use Rattle.std.specs.Prelude.{◌≡◌, ℕ, ◌+◌, Bool, true, false, List, [], ◌∷◌, ◌++◌, ◌⊎◌, length, Option, take, IfSome}
use Rattle.std.specs.Io.KnownBytes.{Appends, Keeps}
use Rattle.theory.specs.Truth as truth
use Rattle.theory.specs.Plans.{Search, Plan}
use Rattle.theory.specs.Reading.{Limits, ReadsWithin, formula, large, max_bytes, IsWithinLimits}
use Rattle.theory.specs.Steps.{Step}
use Rattle.theory.specs.Texts.{step_text, proof_text}
use Rattle.theory.specs.Trees as trees
use Rattle.theory.specs.Beginnings.{begun_by, beginning_by, proof}
use Rattle.theory.specs.Checked.{IsCheckedResult}
use Rattle.packs.specs.declared.fact.Fact.{Fact}
use Rattle.gathering.specs.Stored.{AreTrueFacts}
use Rattle.strategies.specs.declared.begun_formula.Begun.{Begun}
use Rattle.strategies.specs.Begun.{formula_in, IsBegunBy}
use Rattle.cdcl.specs.Plans.{first_units}
use Rattle.cdcl.specs.declared.api.plan.Search as declared
use Rattle.cubes.specs.declared.tree.Tree.{Tree}
use Rattle.cubes.specs.declared.tree.Tree.TheVariants.{Model, Refuted}
use Rattle.join.specs.Joining.{Joined, behind, on_nodes}
use Rattle.join.specs.Walking.{joined, IsJoining}
use Rattle.runs.specs.Answer.{IsRight}
use Rattle.runs.specs.Run.{IsUnreadable}
use Rattle.runs.specs.declared.fault.RunFault.{RunFault}
use Rattle.runs.specs.declared.fault.RunFault.TheVariants.{Read, NoMemory, ProofWriteFailed, AnswerWriteFailed, ProofReadFailed}
use Rattle.runs.specs.declared.proof_stream.ProofStream.{ProofStream}
use Rattle.runs.specs.declared.verdict.Verdict.{Verdict}

-- the first line of those that came stands in the buffer, and the others are left
pub record PutsFirst (old new : Joined) (before after : List ℕ) : Type 0 where
  pub step : Step
  pub lines : old ≡ behind (step ∷ []) new
  pub text : after ≡ before ++ step_text step

-- whether there was one
abbrev pub PutsNext : Joined → Joined → List ℕ → List ℕ → Bool → Type 0
PutsNext old new before after true = PutsFirst old new before after
PutsNext old new before after false = (old.steps ≡ []) × (new ≡ old) × (after ≡ before)

-- lines were made, and their text went through the buffer: what isn't written stands there
pub record IsPassedOn (a b : Option (List ℕ)) (before after : List ℕ) (lines : List Step) : Type 0 where
  pub written : List ℕ
  pub appended : Appends a b written
  pub text : written ++ after ≡ before ++ proof_text lines

-- of what the nodes give in all, some lines were made, and their text went through the buffer; the
-- stream goes on with the others
pub record IsMaking (a b : Option (List ℕ)) (whole : Joined) (before : List ℕ) (s : ProofStream) : Type 0 where
  pub lines : List Step
  pub made : whole ≡ behind lines (joined s.joiner)
  pub passed : IsPassedOn a b before s.buffer.items lines

-- all lines were made of the nodes that came
pub record IsDrained (a b : Option (List ℕ)) (old new : ProofStream) : Type 0 where
  pub making : IsMaking a b (joined old.joiner) old.buffer.items new
  pub all : (joined new.joiner).steps ≡ []
  pub clauses : new.joiner.clauses ≡ old.joiner.clauses

-- it makes lines of nodes of the formula's tree by this search
pub record IsStreamFor (search : declared.Search) (F : truth.Formula) (s : ProofStream) : Type 0 where
  pub within : IsWithinLimits large F
  pub clauses : s.joiner.clauses ≡ length F.clauses + length (first_units search F)
  pub lawful : IsJoining s.joiner

-- by taking these nodes it came from the first state to the last one
pub record IsStreamed (a b : Option (List ℕ)) (first : ProofStream) (nodes : List trees.Node) (last : ProofStream) : Type 0 where
  pub making : IsMaking a b (on_nodes first.joiner.clauses (joined first.joiner) nodes) first.buffer.items last
  pub clauses : last.joiner.clauses ≡ first.joiner.clauses

-- the text of the proof of a checked tree of what is searched, behind the lines before, and where
-- the facts are true that of the plan's own
pub record IsProofText (F : truth.Formula) (plan : Plan) (are_true : Type 0) (text : List ℕ) : Type 0 where
  pub tree : trees.Tree
  pub checked : IsCheckedResult plan.search (begun_by plan.search F) (trees.tree_of tree)
  pub text_is : text ≡ proof_text (proof F (beginning_by plan.search) tree)
  pub own : are_true → (t : trees.Tree) × trees.IsResult (begun_by plan.search F) plan (trees.tree_of t) × (text ≡ proof_text (proof F (beginning_by plan.search) t))

-- and for any result, with the lines before: that of a model has none
abbrev pub IsProofOf : {L : Type 0} → truth.Formula → Plan → Type 0 → List Step → Tree L → List ℕ → Type 0
IsProofOf F plan are_true before (Model values) text = text ≡ []
IsProofOf F plan are_true before (Refuted nodes) text = (rest : List ℕ) × IsProofText F plan are_true rest × (text ≡ proof_text before ++ rest)

abbrev pub IsRefutedTree : {L : Type 0} → Tree L → Type 0
IsRefutedTree (Model values) = ⊥
IsRefutedTree (Refuted nodes) = Unit {0}

-- a proof that isn't written whole: nothing is written, for want of memory, or some of it may be
abbrev pub IsUnwritten : Option (List ℕ) → Option (List ℕ) → RunFault → Type 0
IsUnwritten a b e = ((e ≡ NoMemory) × Keeps a b) ⊎ (e ≡ ProofWriteFailed)

-- what a store gives is true for what the plan's search begins with, of the formula of the bytes
-- that a reader gives, where it tells them
abbrev pub AreTrueStored : {S : Type 0} → (S → Option (List Fact)) → Limits → Option (List ℕ) → Plan → S → Type 0
AreTrueStored facts L known plan s = (bytes : List ℕ) (F : truth.Formula) → IfSome known (λ xs. bytes ≡ take (max_bytes L + 1) xs) → ReadsWithin L bytes (formula F) → (x : Begun) → IsBegunBy F plan x → AreTrueFacts facts (formula_in x F) plan s

-- the texts are right for the formula of the bytes that a reader gave, where it tells them
pub record AreRightTexts (L : Limits) (search : Search) (known : Option (List ℕ)) (proof answer : List ℕ) : Type 0 where
  pub bytes : List ℕ
  pub are : IfSome known (λ xs. bytes ≡ take (max_bytes L + 1) xs)
  pub value : truth.Formula
  pub reads : ReadsWithin L bytes (formula value)
  pub verdict : Verdict
  pub right : IsRight L search value verdict proof answer

-- a right proof is written whole, and a beginning of the answer
pub record StopsInRightAnswer (L : Limits) (search : Search) (known proof_old proof_new answer_old answer_new : Option (List ℕ)) : Type 0 where
  pub proof : List ℕ
  pub answer : List ℕ
  pub right : AreRightTexts L search known proof answer
  pub count : ℕ
  pub proof_written : Appends proof_old proof_new proof
  pub answer_written : Appends answer_old answer_new (take count answer)

-- what a fault leaves, whatever a store gives: no answer stands behind a proof that isn't whole
abbrev pub LeavesStored : Limits → Search → Option (List ℕ) → Option (List ℕ) → Option (List ℕ) → Option (List ℕ) → Option (List ℕ) → RunFault → Type 0
LeavesStored L search known p q a b (Read fault) = IsUnreadable L known p q a b fault
LeavesStored L search known p q a b NoMemory = Keeps p q × Keeps a b
LeavesStored L search known p q a b ProofWriteFailed = Keeps a b
LeavesStored L search known p q a b AnswerWriteFailed = StopsInRightAnswer L search known p q a b
LeavesStored L search known p q a b ProofReadFailed = ⊥
