-- The text of a proof whose nodes come one after the other: what went through the buffer; and what a
-- run over stored facts says.
use Rattle.std.proofs.Common.{◌≡◌, ℕ, ◌+◌, Bool, true, false, List, [], ◌∷◌, ◌++◌, length, map, take, Option, None, Result, Ok, Err, IfErr, ◌⊎◌, inl, inr, refl, sym, ap, ap₂, subst, ◌∙◌, append-nil, append_assoc}
use Rattle.std.specs.Io.KnownBytes.{Appends}
use Rattle.theory.specs.Literals.{Literal}
use Rattle.theory.specs.Truth.{Formula, IsFormula, Satisfiable}
use Rattle.theory.specs.Plans.{Search, ordered, focused, Plan}
use Rattle.theory.specs.Beginnings.{begun, begun_by, beginning_by, proof}
use Rattle.theory.specs.Reading.{Limits, large, IsWithinLimits}
use Rattle.theory.specs.Steps.{Step}
use Rattle.theory.specs.Texts.{step_text, proof_text, answer_text}
use Rattle.theory.specs.Trees as trees
use Rattle.theory.specs.Checked.{IsCheckedResult}
use Rattle.theory.specs.Written.{IsUnsatisfiableText}
use Rattle.cnf.specs.declared.fault.ReadFault.{ReadFault}
use Rattle.cnf.specs.declared.fault.ReadFault.TheVariants as reading
use Rattle.cnf.specs.Faults.{IsReadOf}
use Rattle.cdcl.specs.Plans.{search_from, beginning_of, first_units}
use Rattle.cdcl.specs.declared.api.plan.Search as declared
use Rattle.packs.specs.declared.fact.Fact.{Fact}
use Rattle.gathering.specs.Stored.{AreTrueFacts}
use Rattle.cubes.specs.declared.tree.Tree.{Tree}
use Rattle.cubes.specs.declared.tree.Tree.TheVariants.{Model, Refuted}
use Rattle.cubes.specs.Result.{LinesNode, LinesTree, node_of, Says}
use Rattle.strategies.specs.declared.begun_formula.Begun.{Begun}
use Rattle.strategies.specs.Begun.{formula_in, lines_in, IsBegunBy}
use Rattle.strategies.proofs.SatisfiedFormulas.{satisfiable-back}
use Rattle.strategies.specs.Strategies.{Strategy, search_by}
use Rattle.strategies.specs.Choosing.{IsChosen}
use Rattle.strategies.proofs.DecidedTrees.{alone-chosen}
use Rattle.strategies.specs.Deciding.{IsDecidedAs}
use Rattle.strategies.specs.Texts.{IsRefutationText}
use Rattle.cubes.specs.Streaming.{IsCheckedNode}
use Rattle.join.specs.Joining.{Joined, behind, before_nodes, after_nodes, on_node, on_nodes}
use Rattle.join.specs.Walking.{joined}
use Rattle.join.specs.Numbered.{IsNode}
use Rattle.join.proofs.FedLemmas.{on_nodes-last, on_node-behind, behind-append, IsNode-split, IsNode-refuted, after-tree}
use Rattle.runs.specs.Answer.{IsAccepted, IsRight}
use Rattle.runs.specs.Run.{AreTexts, RunSays}
use Rattle.runs.specs.Written.{IsAnswer}
use Rattle.runs.specs.Stored.{PutsFirst, PutsNext, IsPassedOn, IsMaking, IsDrained, IsStreamFor, IsStreamed, IsProofText, IsProofOf, IsRefutedTree, AreTrueStored, AreRightTexts, StopsInRightAnswer, LeavesStored}
use Rattle.runs.specs.declared.fault.RunFault.{RunFault}
use Rattle.runs.specs.declared.fault.RunFault.TheVariants.{Read, NoMemory, ProofWriteFailed, AnswerWriteFailed, ProofReadFailed}
use Rattle.runs.specs.declared.verdict.Verdict.{Verdict}
use Rattle.runs.specs.declared.verdict.Verdict.TheVariants.{Unsatisfiable}
use Rattle.runs.specs.declared.proof_stream.ProofStream.{ProofStream}
use Rattle.runs.proofs.RightAnswers.{texts-right}
use Rattle.runs.proofs.TextLemmas.{named-beginning}
use Rattle.runs.proofs.LineTexts.{proof_text-append}
use Rattle.runs.proofs.BegunTexts.{begun-lines, begun-accepted}
use Rattle.runs.proofs.WrittenLemmas.{Appends-then}

-- a line more in the buffer
pub passed-line : (a b : Option (List ℕ)) (before middle after : List ℕ) (lines : List Step) (step : Step) → IsPassedOn a b before middle lines → after ≡ middle ++ step_text step → IsPassedOn a b before after (lines ++ step ∷ [])
passed-line a b before middle after lines step p e = record {
  written = p.written;
  appended = p.appended;
  text = ap (λ t. p.written ++ t) e
      ∙ sym (append_assoc p.written middle (step_text step))
      ∙ ap (λ t. t ++ step_text step) p.text
      ∙ append_assoc before (proof_text lines) (step_text step)
      ∙ ap (λ t. before ++ (proof_text lines ++ t)) (sym (append-nil (step_text step)))
      ∙ ap (λ t. before ++ t) (sym (proof_text-append lines (step ∷ [])));
}

-- the buffer is written
pub passed-written : (a b c : Option (List ℕ)) (before buffer after : List ℕ) (lines : List Step) → IsPassedOn a b before buffer lines → Appends b c buffer → after ≡ [] → IsPassedOn a c before after lines
passed-written a b c before buffer after lines p w none = record {
  written = p.written ++ buffer;
  appended = Appends-then a b c p.written buffer p.appended w;
  text = ap (λ t. (p.written ++ buffer) ++ t) none ∙ append-nil (p.written ++ buffer) ∙ p.text;
}

-- lines, and then others
pub passed-then : (a b c : Option (List ℕ)) (before middle after : List ℕ) (ls ms : List Step) → IsPassedOn a b before middle ls → IsPassedOn b c middle after ms → IsPassedOn a c before after (ls ++ ms)
passed-then a b c before middle after ls ms p q = record {
  written = p.written ++ q.written;
  appended = Appends-then a b c p.written q.written p.appended q.appended;
  text = append_assoc p.written q.written after
      ∙ ap (λ t. p.written ++ t) q.text
      ∙ sym (append_assoc p.written middle (proof_text ms))
      ∙ ap (λ t. t ++ proof_text ms) p.text
      ∙ append_assoc before (proof_text ls) (proof_text ms)
      ∙ ap (λ t. before ++ t) (sym (proof_text-append ls ms));
}

-- a line that was put
pub put-first : (old new : Joined) (before after : List ℕ) (more : Bool) → more ≡ true → PutsNext old new before after more → PutsFirst old new before after
put-first old new before after true e p = p
put-first old new before after false e p = absurd (cc)

pub making-line : (a b : Option (List ℕ)) (whole : Joined) (before : List ℕ) (s t : ProofStream) → IsMaking a b whole before s → PutsFirst (joined s.joiner) (joined t.joiner) s.buffer.items t.buffer.items → IsMaking a b whole before t
making-line a b whole before s t m p = record {
  lines = m.lines ++ p.step ∷ [];
  made = m.made ∙ ap (behind m.lines) p.lines ∙ sym (behind-append m.lines (p.step ∷ []) (joined t.joiner));
  passed = passed-line a b before s.buffer.items t.buffer.items m.lines p.step m.passed p.text;
}

pub making-written : (a b c : Option (List ℕ)) (whole : Joined) (before : List ℕ) (s t : ProofStream) → IsMaking a b whole before s → t.joiner ≡ s.joiner → Appends b c s.buffer.items → t.buffer.items ≡ [] → IsMaking a c whole before t
making-written a b c whole before s t m same w none = record {
  lines = m.lines;
  made = m.made ∙ ap (λ j. behind m.lines (joined j)) (sym same);
  passed = passed-written a b c before s.buffer.items t.buffer.items m.lines m.passed w none;
}

-- some lines, and then others
pub making-then : (a b c : Option (List ℕ)) (whole : Joined) (before : List ℕ) (s t : ProofStream) → IsMaking a b whole before s → IsMaking b c (joined s.joiner) s.buffer.items t → IsMaking a c whole before t
making-then a b c whole before s t m n = record {
  lines = m.lines ++ n.lines;
  made = m.made ∙ ap (behind m.lines) n.made ∙ sym (behind-append m.lines n.lines (joined t.joiner));
  passed = passed-then a b c before s.buffer.items t.buffer.items m.lines n.lines m.passed n.passed;
}

-- one node more
pub making-node : (a b : Option (List ℕ)) (N : ℕ) (whole : Joined) (before : List ℕ) (n : trees.Node) (s t : ProofStream) → IsMaking a b whole before s → joined t.joiner ≡ on_node N (joined s.joiner) n → t.buffer.items ≡ s.buffer.items
    → IsMaking a b (on_node N whole n) before t
making-node a b N whole before n s t m taken same = record {
  lines = m.lines;
  made = ap (λ w. on_node N w n) m.made ∙ on_node-behind N m.lines (joined s.joiner) n ∙ ap (behind m.lines) (sym taken);
  passed = subst (λ buffer. IsPassedOn a b before buffer m.lines) (sym same) m.passed;
}

-- what is made in the end
pub streamed-node : (a b c : Option (List ℕ)) (first old drained new : ProofStream) (nodes : List trees.Node) (n : trees.Node) → IsStreamed a b first nodes old → IsDrained b c old drained → joined new.joiner ≡ on_node drained.joiner.clauses (joined drained.joiner) n
    → new.joiner.clauses ≡ drained.joiner.clauses → new.buffer.items ≡ drained.buffer.items → IsStreamed a c first (nodes ++ n ∷ []) new
streamed-node a b c first old drained new nodes n s d taken clauses same =
    let N = first.joiner.clauses in
    let whole = on_nodes N (joined first.joiner) nodes in
    let count : drained.joiner.clauses ≡ N = d.clauses ∙ s.clauses in
    record {
      making = subst (λ (w : Joined). IsMaking a c w first.buffer.items new) (sym (on_nodes-last N (joined first.joiner) nodes n))
          (making-node a c N whole first.buffer.items n drained new (making-then a b c whole first.buffer.items old drained s.making d.making) (taken ∙ ap (λ m. on_node m (joined drained.joiner) n) count) same);
      clauses = clauses ∙ count;
    }

-- nothing more came, and lines were made
pub streamed-drained : (a b c : Option (List ℕ)) (first old drained : ProofStream) (nodes : List trees.Node) → IsStreamed a b first nodes old → IsDrained b c old drained → IsStreamed a c first nodes drained
streamed-drained a b c first old drained nodes s d = record {
  making = making-then a b c (on_nodes first.joiner.clauses (joined first.joiner) nodes) first.buffer.items old drained s.making d.making;
  clauses = d.clauses ∙ s.clauses;
}

-- all that is made, where the rest is written at once
pub streamed-ended : (a b c : Option (List ℕ)) (whole : Joined) (s : ProofStream) → IsMaking a b whole [] s → Appends b c (s.buffer.items ++ proof_text (joined s.joiner).steps) → Appends a c (proof_text whole.steps)
streamed-ended a b c whole s m w =
    let rest = proof_text (joined s.joiner).steps in
    subst (Appends a c)
    (sym (append_assoc m.passed.written s.buffer.items rest)
    ∙ ap (λ t. t ++ rest) m.passed.text
    ∙ sym (proof_text-append m.lines (joined s.joiner).steps)
    ∙ ap (λ (j : Joined). proof_text j.steps) (sym m.made))
    (Appends-then a b c m.passed.written (s.buffer.items ++ rest) m.passed.appended w)

-- the node of a cube that was checked is within its limits
checked-in : (F : Formula) (s : declared.Search) (search : Search) (Q : List Literal) (N : ℕ) (n : trees.Node) → IsWithinLimits large F → N ≡ length F.clauses + length (first_units s F) → IsCheckedNode search (begun F (beginning_of s)) Q n → IsNode N n
checked-in F s search Q N (trees.split_on x) within count checked = IsNode-split F s search Q N x within checked
checked-in F s search Q N (trees.refuted_leaf lines) within count checked = IsNode-refuted F s search Q N lines within count checked

-- a search begins as its name says
begun-named : (F : Formula) (search : Search) → begun_by search F ≡ begun F (beginning_of (search_from search))
begun-named F ordered = refl
begun-named F (focused c) = refl

pub checked-node : (F : Formula) (search : Search) (Q : List Literal) (N : ℕ) (n : trees.Node) → IsWithinLimits large F → N ≡ length F.clauses + length (first_units (search_from search) F) → IsCheckedNode search (begun_by search F) Q n → IsNode N n
checked-node F search Q N n within count checked = checked-in F (search_from search) search Q N n within count (subst (λ (G : Formula). IsCheckedNode search G Q n) (begun-named F search) checked)

-- what the nodes of a tree without a model give is its proof
pub nodes-proof : (F : Formula) (s : declared.Search) (first : ProofStream) (ns : List trees.Node) (t : trees.Tree) → IsStreamFor s F first → joined first.joiner ≡ before_nodes (length F.clauses) (first_units s F) → ns ≡ trees.nodes_of t
    → trees.first_model t ≡ None → proof_text (on_nodes first.joiner.clauses (joined first.joiner) ns).steps ≡ proof_text (proof F (beginning_of s) t)
nodes-proof F s first ns t stream before same none =
    ap (λ (N : ℕ). proof_text (on_nodes N (joined first.joiner) ns).steps) stream.clauses
    ∙ ap (λ (j : Joined). proof_text (on_nodes (length F.clauses + length (first_units s F)) j ns).steps) before
    ∙ ap (λ ms. proof_text (after_nodes F (first_units s F) ms).steps) same
    ∙ ap proof_text (after-tree F s t none)

-- that of a plan
plan-proof : (F : Formula) (plan : Plan) (first : ProofStream) (ns : List trees.Node) (t : trees.Tree) → IsStreamFor (search_from plan.search) F first → joined first.joiner ≡ before_nodes (length F.clauses) (first_units (search_from plan.search) F)
    → ns ≡ trees.nodes_of t → trees.first_model t ≡ None → proof_text (on_nodes first.joiner.clauses (joined first.joiner) ns).steps ≡ proof_text (proof F (beginning_by plan.search) t)
plan-proof F plan first ns t stream before same none =
    nodes-proof F (search_from plan.search) first ns t stream before same none ∙ ap (λ b. proof_text (proof F b t)) (named-beginning plan.search)

-- all nodes of a tree without a model were taken, and what was left is written
pub refutation-written : (F : Formula) (plan : Plan) (are_true : Type 0) (a b c : Option (List ℕ)) (first last : ProofStream) (nodes : List LinesNode) → IsStreamFor (search_from plan.search) F first
    → joined first.joiner ≡ before_nodes (length F.clauses) (first_units (search_from plan.search) F) → first.buffer.items ≡ [] → (t : trees.Tree) × IsCheckedResult plan.search (begun_by plan.search F) (trees.tree_of t) × (map node_of nodes ≡ trees.nodes_of t)
    → (are_true → (t : trees.Tree) × trees.IsResult (begun_by plan.search F) plan (trees.tree_of t) × (map node_of nodes ≡ trees.nodes_of t)) → IsStreamed a b first (map node_of nodes) last
    → Appends b c (last.buffer.items ++ proof_text (joined last.joiner).steps) → (text : List ℕ) × IsProofText F plan are_true text × Appends a c text
refutation-written F plan are_true a b c first last nodes stream begun empty checked own streamed ended =
    let ns = map node_of nodes in
    let whole = on_nodes first.joiner.clauses (joined first.joiner) ns in (
      proof_text whole.steps,
      record {
        tree = checked.0;
        checked = checked.1;
        text_is = plan-proof F plan first ns checked.0 stream begun checked.2 checked.1.1;
        own = λ are. let o = own are in (o.0, o.1, plan-proof F plan first ns o.0 stream begun o.2 o.1.1);
      },
      streamed-ended a b c whole last (subst (λ before. IsMaking a b whole before last) empty streamed.making) ended,
    )

-- behind the lines before it is the formula's
whole-text : (F : Formula) (plan : Plan) (x : Begun) (t : trees.Tree) (before : List Step) (rest : List ℕ) (h : IsBegunBy F plan x) → before ≡ lines_in x F → rest ≡ proof_text (proof (formula_in x F) (beginning_by plan.search) t) → proof_text before ++ rest ≡ proof_text (proof F h.0 t)
whole-text F plan x t before rest h e is =
    let own = proof (formula_in x F) (beginning_by plan.search) t in
    ap₂ (λ (b : List Step) (r : List ℕ). proof_text b ++ r) e is ∙ sym (proof_text-append (lines_in x F) own) ∙ ap proof_text (begun-lines F plan x t own h refl)

-- so it is accepted
whole-accepted : (L : Limits) (F : Formula) (plan : Plan) (x : Begun) (t : trees.Tree) (before : List Step) (rest : List ℕ) → IsWithinLimits large F → IsBegunBy F plan x → before ≡ lines_in x F → IsCheckedResult plan.search (begun_by plan.search (formula_in x F)) (trees.tree_of t)
    → rest ≡ proof_text (proof (formula_in x F) (beginning_by plan.search) t) → IsAccepted L F (proof_text before ++ rest)
whole-accepted L F plan x t before rest within h e checked is =
    let own = proof (formula_in x F) (beginning_by plan.search) t in
    subst (IsAccepted L F) (ap proof_text (begun-lines F plan x t own h refl) ∙ sym (whole-text F plan x t before rest h e is)) (begun-accepted L F plan x t own within h checked refl)

-- with it the verdict is right
pub refuted-right : (L : Limits) (F : Formula) (plan : Plan) (x : Begun) (search : Search) (are_true : Type 0) (before : List Step) (rest answer : List ℕ) → IsWithinLimits large F → IsBegunBy F plan x → before ≡ lines_in x F → ¬ (Satisfiable F) → answer ≡ answer_text None
    → IsProofText (formula_in x F) plan are_true rest → IsRight L search F Unsatisfiable (proof_text before ++ rest) answer
refuted-right L F plan x search are_true before rest answer within h e says is of = (says, whole-accepted L F plan x of.tree before rest within h e of.checked of.text_is, is)

-- and where the facts are true, the texts are those of a strategy that has chosen the plan
pub refuted-texts : (L : Limits) (F : Formula) (plan : Plan) (x : Begun) (s : Strategy) (are_true : Type 0) (before : List Step) (rest answer : List ℕ) → IsWithinLimits large F → IsBegunBy F plan x → before ≡ lines_in x F → IsChosen F s plan → are_true → ¬ (Satisfiable F)
    → answer ≡ answer_text None → IsProofText (formula_in x F) plan are_true rest → AreTexts L F s Unsatisfiable (proof_text before ++ rest) answer
refuted-texts L F plan x s are_true before rest answer within h e chosen are says is of =
    let own = of.own are in
    let text = proof_text before ++ rest in
    let written : IsUnsatisfiableText F plan text answer = record {
      unsatisfiable = says;
      beginning = h.0;
      begins = h.1.begins;
      tree = own.0;
      is_tree = subst (λ (G : Formula). trees.IsTree G plan [] own.0) h.1.formula own.1.0;
      proof_is = whole-text F plan x own.0 before rest h e own.2;
      answer_is = is;
    } in
    let refutation : IsRefutationText F s text answer = record { plan = plan; chosen = chosen; text = written } in
    (refutation, whole-accepted L F plan x of.tree before rest within h e of.checked of.text_is)

-- a checked result is enough for the answer to be right
pub stored-right : {K : Type 0} (L : Limits) (F : Formula) (plan : Plan) (x : Begun) (search : Search) (are_true : Type 0) (tree : Tree K) (verdict : Verdict) (before : List Step) (text answer : List ℕ) → IsWithinLimits large F → IsBegunBy F plan x → before ≡ lines_in x F → Says search F tree
    → IsAnswer tree verdict answer → IsProofOf (formula_in x F) plan are_true before tree text → IsRight L search F verdict text answer
stored-right L F plan x search are_true (Model values) verdict before text answer within h e says is of = rw is.0 (values.items, says, is.1)
stored-right L F plan x search are_true (Refuted nodes) verdict before text answer within h e says is of =
    rw (is.0, of.2) (refuted-right L F plan x search are_true before of.0 answer within h e says is.1 of.1)

-- and of true facts, for the strategy's own texts
pub stored-texts : (L : Limits) (F : Formula) (s : Strategy) (plan : Plan) (x : Begun) (are_true : Type 0) (tree : LinesTree) (verdict : Verdict) (before : List Step) (text answer : List ℕ) → IsWithinLimits large F → IsBegunBy F plan x → before ≡ lines_in x F → s.first ≡ None → plan ≡ s.plan
    → are_true → IsDecidedAs F s (search_from s.plan.search) x tree → Says (search_by s) F tree → IsAnswer tree verdict answer → IsProofOf (formula_in x F) plan are_true before tree text → AreTexts L F s verdict text answer
stored-texts L F s plan x are_true (Model values) verdict before text answer within h e lone same are result says is of =
    rw is.0 (record { model = values.items; found = says; is_answer = result; proof_is = of; answer_is = is.1 })
stored-texts L F s plan x are_true (Refuted nodes) verdict before text answer within h e lone same are result says is of =
    rw (is.0, of.2) (refuted-texts L F plan x s are_true before of.0 answer within h e (subst (IsChosen F s) (sym same) (alone-chosen F s lone)) are says is.1 of.1)

-- where the answer is a refuted tree, what is searched isn't satisfiable
pub refuted-searched : {K : Type 0} (search : Search) (F : Formula) (plan : Plan) (x : Begun) (tree : Tree K) → IsFormula F → IsFormula (formula_in x F) → IsBegunBy F plan x → Says search F tree → IsRefutedTree tree → ¬ (Satisfiable (formula_in x F))
refuted-searched search F plan x (Model values) formed inside h says is = absurd is
refuted-searched search F plan x (Refuted nodes) formed inside h says is = λ s. says (satisfiable-back F plan x formed inside h s)

-- right texts for a formula that was read
pub AreRightTexts-made : (L : Limits) (search : Search) (known : Option (List ℕ)) (F : Formula) (verdict : Verdict) (proof answer : List ℕ)
    → ◌≡◌ {A = Result Formula ReadFault} (Ok F) (Err reading.ReadFailed) ⊎ IsReadOf L known (Ok F) → IsRight L search F verdict proof answer → AreRightTexts L search known proof answer
AreRightTexts-made L search known F verdict proof answer (inl e) right = absurd (cc)
AreRightTexts-made L search known F verdict proof answer (inr r) right = record { bytes = r.bytes; are = r.are; value = F; reads = r.is_read; verdict = verdict; right = right }

-- what a run leaves on a fault
pub says-Stored : (L : Limits) (known : Option (List ℕ)) (s : Strategy) (p q a b : Option (List ℕ)) (fault : RunFault) → RunSays L known s p q a b (Err fault) → LeavesStored L (search_by s) known p q a b fault
says-Stored L known s p q a b (Read fault) says = says
says-Stored L known s p q a b NoMemory says = says
says-Stored L known s p q a b ProofWriteFailed says = says.answer_kept
says-Stored L known s p q a b AnswerWriteFailed says =
    let run = says.run in record {
      proof = says.proof;
      answer = says.answer;
      right = record { bytes = run.bytes; are = run.are; value = run.value; reads = run.reads; verdict = says.verdict; right = texts-right L run.value s says.verdict says.proof says.answer run.texts };
      count = says.count;
      proof_written = says.proof_written;
      answer_written = says.answer_written;
    }
says-Stored L known s p q a b ProofReadFailed says = says

-- an answer that could not be written
pub unanswered-Stored : {X : Type 0} (L : Limits) (search : Search) (known p q a b : Option (List ℕ)) (r : Result X RunFault) (e : RunFault) (proof answer : List ℕ) → r ≡ Err e → AreRightTexts L search known proof answer → Appends p q proof
    → (e ≡ AnswerWriteFailed) × (count : ℕ) × Appends a b (take count answer) → IfErr r (LeavesStored L search known p q a b)
unanswered-Stored L search known p q a b r e proof answer f right pw h =
    rw (f, h.0) (let stops : StopsInRightAnswer L search known p q a b = record { proof = proof; answer = answer; right = right; count = h.1; proof_written = pw; answer_written = h.2 } in stops)

-- a formula that was read: what a store tells is true of what is searched
pub stored-truths : {S : Type 0} (facts : S → Option (List Fact)) (L : Limits) (known : Option (List ℕ)) (plan : Plan) (s t : S) (F : Formula) (x : Begun) → ◌≡◌ {A = Result Formula ReadFault} (Ok F) (Err reading.ReadFailed) ⊎ IsReadOf L known (Ok F) → IsBegunBy F plan x
    → facts t ≡ facts s → AreTrueStored facts L known plan s → AreTrueFacts facts (formula_in x F) plan t
stored-truths facts L known plan s t F x (inl e) h same are = absurd (cc)
stored-truths facts L known plan s t F x (inr r) h same are = let true_facts = are r.bytes F r.are r.is_read x h in (true_facts.0, same ∙ true_facts.1, true_facts.2)
