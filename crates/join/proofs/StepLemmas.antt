-- The numbers in a tree's proof are within their limits, where its text is no longer than a proof
-- may be.
use Rattle.std.proofs.Common.{◌≡◌, ℕ, ◌+◌, ◌-◌, ◌<◌, ◌≤◌, not, List, [], ◌∷◌, ◌++◌, length, length-append, map, None, refl, ap, sym, subst, ◌∙◌, append_assoc, arith, All}
use Rattle.std.proofs.lemmas.List.Elements.{All-nil, All-cons, All-filter, All-push, All-append, All-weaker, All-map}
use Rattle.std.proofs.lemmas.List.{map-append}
use Rattle.lrat_text.specs.declared.step.Step as steps
use Rattle.lrat_text.specs.Steps.{step_of}
use Rattle.theory.specs.Literals.{Literal, IsVariable, positive, negative, negated, negations}
use Rattle.theory.specs.Truth.{Formula, IsOver}
use Rattle.theory.specs.Reading.{large, IsWithinLimits, max_vars}
use Rattle.theory.specs.Learning.{Line}
use Rattle.theory.specs.Pure.{searched}
use Rattle.theory.specs.Plans.{Search}
use Rattle.theory.specs.Simplifying.{simplified, unsimplified}
use Rattle.theory.specs.Beginnings.{Beginning, as_it_is, by_pure_units, by_changes, begun, lines_before, IsBeginning, proof}
use Rattle.theory.specs.Deletions.{is_among}
use Rattle.theory.specs.Steps.{Step, delete}
use Rattle.std.specs.List.{join_with_byte}
use Rattle.theory.specs.Texts.{lf, space, step_words, step_text, proof_text}
use Rattle.theory.specs.Trees.{Tree, satisfied, refutation, split, first_model, false_half, true_half}
use Rattle.theory.specs.Checked.{IsCheckedTree}
use Rattle.theory.specs.Proofs.{additions, renumbered, leaf_steps, refuted_steps, tree_steps, split_steps, deletion, forget_steps, forgotten_by, undeleted, numbers_from, prelude, lines_of}
use Rattle.theory.proofs.checker.PreludeSteps.{IsStep-prelude}
use Rattle.theory.proofs.searching.PureVariables.{length-first_clauses, length-pure_literals}
use Rattle.theory.proofs.checker.DeletedNumbers.{numbers_from-All}
use Rattle.theory.specs.ProofReading.{IsStep, IsNumber, max_number, max_proof_bytes}
use Rattle.theory.proofs.simplifying.AcceptedSimplifications.{length-kept_clauses}
use Rattle.theory.proofs.simplifying.WithinLimits.{last-bounded, lines_before-within}
use Rattle.theory.proofs.checker.AcceptedProofs.{or_else-none}
use Rattle.theory.proofs.literals.OverVariables.{AreOver, IsOver-from_AreOver, AreOver-snoc}
use Rattle.join.specs.Joining.{split_line, learnt_line}
use Rattle.join.specs.Numbered.{AreUpTo, AreLines}
use Rattle.join.proofs.NumberLemmas.{AreOwn-renumbered, AreUpTo-renumbered, IsAddition-line}
use Rattle.join.proofs.TreeLemmas.{refutation-lines}
use Rattle.cdcl.specs.Plans.{beginning_of}
use Rattle.cdcl.specs.declared.api.plan.Search as declared
use Rattle.cdcl.specs.declared.api.plan.Search.TheVariants.{Ordered, Focused}

-- each line of a text has a byte
pub few-steps : (steps : List Step) → length steps ≤ length (proof_text steps)
few-steps [] = omega arith
few-steps (s ∷ ss) =
    let more = few-steps ss in
    let whole = length-append (step_text s) (proof_text ss) in
    let line : 1 ≤ length (step_text s) = let e = length-append {A = ℕ} (join_with_byte space (step_words s)) (lf ∷ []) in omega (arith, e) in
    omega arith

-- a leaf's lines, and some deletions
leaf-length : (N first n : ℕ) (Q : List Literal) (lines : List Line) → length lines ≤ length (leaf_steps N first n Q lines)
leaf-length N first n Q [] = omega arith
leaf-length N first n Q (line ∷ lines) =
    let more = leaf-length N first (n + 1) Q lines in
    let both = length-append (forget_steps n (map (renumbered N first) line.forgets)) (leaf_steps N first (n + 1) Q lines) in
    omega (arith, more, both)

-- a tree's steps are its additions and some deletions
tree-length : (N n : ℕ) (Q : List Literal) (t : Tree) → additions t ≤ length (tree_steps N n Q t)
tree-length N n Q (satisfied M) = omega arith
tree-length N n Q (refutation lines) =
    let leaf = leaf-length N n n Q lines in
    let all = length-append (leaf_steps N n n Q lines) (deletion Q (n + length lines - 1) (undeleted N n lines)) in
    omega arith
tree-length N n Q (split x l r) =
    let left = tree-length N n (false_half Q x) l in
    let right = tree-length N (n + additions l) (true_half Q x) r in
    let all = length-append (tree_steps N n (false_half Q x) l ++ tree_steps N (n + additions l) (true_half Q x) r)
    (split_steps (n + additions l + additions r) Q (n + additions l - 1) (n + additions l + additions r - 1)) in
    let both = length-append (tree_steps N n (false_half Q x) l) (tree_steps N (n + additions l) (true_half Q x) r) in
    omega arith

IsOver-opposites : (V : ℕ) (Q : List Literal) → V ≤ max_vars large → IsOver V Q → IsOver (max_vars large) (negations Q)
IsOver-opposites V Q few h =
    All-map (λ (l : Literal). IsVariable (max_vars large) l.var) negated Q (All-weaker (λ (l : Literal). IsVariable V l.var) (λ (l : Literal). IsVariable (max_vars large) (negated l).var) (λ l v. let low = v.0 in let high = v.1 in (low, omega arith)) Q h)

forget-within : (last : ℕ) (ns : List ℕ) → IsNumber last → All IsNumber ns → All IsStep (forget_steps last ns)
forget-within last [] h all = All-nil IsStep
forget-within last (n ∷ ns) h all = All-cons IsStep (delete (record { id = last; ids = n ∷ ns })) [] (record { id = h; ids = all }) (All-nil IsStep)

leaf-steps : (N first n k : ℕ) (Q : List Literal) (lines : List Line) → N < first → n ≡ first + k → n + length lines ≤ max_number + 1 → IsOver (max_vars large) (negations Q) → AreLines N (N + k) lines
    → All IsStep (leaf_steps N first n Q lines)
leaf-steps N first n k Q [] low number fits over h = All-nil IsStep
leaf-steps N first n k Q (line ∷ lines) low number fits over h =
    let later : N + k + 1 ≡ N + (k + 1) = omega arith in
    let before : first + k - 1 ≡ n - 1 = omega arith in
    let own : N + k ≡ N + (n - first) = omega arith in
    let forgets = map (renumbered N first) line.forgets in
    All-cons IsStep (learnt_line N first n Q line) (forget_steps n forgets ++ leaf_steps N first (n + 1) Q lines)
    (IsAddition-line n (line.clause ++ negations Q) (map (renumbered N first) line.hints) (omega arith) (omega arith) (All-append (λ (l : Literal). IsVariable (max_vars large) l.var) line.clause (negations Q) h.0.over over)
    (subst (λ m. AreUpTo m (map (renumbered N first) line.hints)) before (AreUpTo-renumbered N first k line.hints low h.0.hints)))
    (All-append IsStep (forget_steps n forgets) (leaf_steps N first (n + 1) Q lines)
    (forget-within n forgets (omega arith, omega arith)
    (All-weaker (λ j. (first ≤ j) × (j < n)) IsNumber (λ j w. let from = w.0 in let to = w.1 in (omega arith, omega arith)) forgets
    (AreOwn-renumbered N first n line.forgets (omega arith) (subst (λ m. All (λ j. (N < j) × (j ≤ m)) line.forgets) own h.0.forgets))))
    (leaf-steps N first (n + 1) (k + 1) Q lines low (omega arith) (omega arith) over (subst (λ m. AreLines N m lines) later h.1)))

deletion-within : (Q : List Literal) (last : ℕ) (ns : List ℕ) → IsNumber last → All IsNumber ns → All IsStep (deletion Q last ns)
deletion-within [] last ns h all = All-nil IsStep
deletion-within (l ∷ Q) last ns h all = forget-within last ns h all

-- the lines of a refuted cube, and what deletes its learnt clauses
refuted-steps : (N n : ℕ) (Q : List Literal) (lines : List Line) → N < n → 0 < length lines → n + length lines ≤ max_number + 1 → IsOver (max_vars large) (negations Q) → AreLines N N lines
    → All IsStep (refuted_steps N n Q lines)
refuted-steps N n Q lines low some fits over are =
    let same : N ≡ N + 0 = omega arith in
    All-append IsStep (leaf_steps N n n Q lines) (deletion Q (n + length lines - 1) (undeleted N n lines))
    (leaf-steps N n n 0 Q lines low (omega arith) fits over (subst (λ m. AreLines N m lines) same are))
    (deletion-within Q (n + length lines - 1) (undeleted N n lines) (omega arith, omega arith)
    (All-filter (λ k. not (is_among k (map (renumbered N n) (forgotten_by lines)))) IsNumber (numbers_from n (length lines - 1))
    (All-weaker (λ k. (n ≤ k) × (k < n + (length lines - 1))) IsNumber (λ k w. let from = w.0 in let to = w.1 in (omega arith, omega arith)) (numbers_from n (length lines - 1)) (numbers_from-All n (length lines - 1)))))

-- the line of a split, and what deletes the last lines of its halves
split-steps : (n left right : ℕ) (Q : List Literal) → n ≤ max_number → 1 ≤ left → left < n → 1 ≤ right → right < n → IsOver (max_vars large) (negations Q) → All IsStep (split_steps n Q left right)
split-steps n left right Q fits some before more behind over =
    let hints : AreUpTo (n - 1) (left ∷ right ∷ []) =
    All-cons (λ h. (1 ≤ h) × (h ≤ n - 1)) left (right ∷ []) (some, omega arith)
    (All-cons (λ h. (1 ≤ h) × (h ≤ n - 1)) right [] (more, omega arith) (All-nil (λ h. (1 ≤ h) × (h ≤ n - 1)))) in
    All-cons IsStep (split_line n Q left right) (deletion Q n (left ∷ right ∷ []))
    (IsAddition-line n (negations Q) (left ∷ right ∷ []) (omega arith) fits over hints)
    (deletion-within Q n (left ∷ right ∷ []) (omega arith, fits) (All-weaker (λ h. (1 ≤ h) × (h ≤ n - 1)) IsNumber (λ h w. let from = w.0 in let to = w.1 in (from, omega arith)) (left ∷ right ∷ []) hints))

-- the lines of a tree without a model, of which there is one at least
tree-steps : (F : Formula) (n : ℕ) (Q : List Literal) (t : Tree) → F.vars ≤ max_vars large → AreOver F.vars Q → IsCheckedTree F Q t → first_model t ≡ None → length F.clauses < n
    → n + additions t ≤ max_number + 1 → All IsStep (tree_steps (length F.clauses) n Q t) × (1 ≤ additions t)
tree-steps F n Q (satisfied M) within over h none low fits = absurd (cc)
tree-steps F n Q (refutation lines) within over h none low fits =
    let are = refutation-lines F Q lines within h in (
      refuted-steps (length F.clauses) n Q lines low are.0 fits (IsOver-opposites F.vars Q within (IsOver-from_AreOver F.vars Q over)) are.1,
      are.0,
    )
tree-steps F n Q (split x l r) within over h none low fits =
    let both = or_else-none (first_model l) (first_model r) none in
    let left = tree-steps F n (false_half Q x) l within (AreOver-snoc F.vars Q (negative x) over h.0.0) h.1 both.0 low (omega arith) in
    let right = tree-steps F (n + additions l) (true_half Q x) r within (AreOver-snoc F.vars Q (positive x) over h.0.0) h.2 both.1 (omega arith) (omega arith) in
    let some = left.1 in
    let more = right.1 in
    let last = split-steps (n + additions l + additions r) (n + additions l - 1) (n + additions l + additions r - 1) Q (omega arith) (omega arith) (omega arith) (omega arith) (omega arith)
    (IsOver-opposites F.vars Q within (IsOver-from_AreOver F.vars Q over)) in
    let N = length F.clauses in (
      All-append IsStep (tree_steps N n (false_half Q x) l ++ tree_steps N (n + additions l) (true_half Q x) r) (split_steps (n + additions l + additions r) Q (n + additions l - 1) (n + additions l + additions r - 1))
          (All-append IsStep (tree_steps N n (false_half Q x) l) (tree_steps N (n + additions l) (true_half Q x) r) left.0 right.0) last,
      omega arith,
    )

-- behind lines that are within their limits, so are those of a tree of these clauses
lines-within : (F G : Formula) (before : List Step) (t : Tree) → IsWithinLimits large F → G.vars ≡ F.vars → length G.clauses ≤ length F.clauses + F.vars + length before → All IsStep before → IsCheckedTree G [] t → first_model t ≡ None
    → length (proof_text (before ++ lines_of G.clauses t)) ≤ max_proof_bytes large → All IsStep (before ++ lines_of G.clauses t)
lines-within F G before t within same few_clauses are h none short =
    let N = length G.clauses in
    let few = few-steps (before ++ lines_of G.clauses t) in
    let whole = length-append before (tree_steps N (N + 1) [] t) in
    let count = tree-length N (N + 1) [] t in
    let clauses = within.clauses in
    let vars = within.vars in
    All-append IsStep before (tree_steps N (N + 1) [] t) are (tree-steps G (N + 1) [] t (omega arith) (λ l a. absurd (cc)) h none (omega arith) (omega arith)).0

pub proof-within : (F : Formula) (s : declared.Search) (t : Tree) → IsWithinLimits large F → IsCheckedTree (begun F (beginning_of s)) [] t → first_model t ≡ None → length (proof_text (proof F (beginning_of s) t)) ≤ max_proof_bytes large
    → All IsStep (proof F (beginning_of s) t)
proof-within F Focused t within h none short = lines-within F F [] t within refl (omega arith) (All-nil IsStep) h none short
proof-within F Ordered t within h none short =
    let first = length-first_clauses F in
    let units = length-pure_literals F in
    lines-within F (searched F) (prelude F) t within refl (omega arith) (IsStep-prelude F within) h none short

-- however a search begins, it begins with no more clauses than it has lines before
few-begun : (F : Formula) (b : Beginning) → length (begun F b).clauses ≤ length F.clauses + F.vars + length (lines_before F b)
few-begun F as_it_is = omega arith
few-begun F by_pure_units =
    let first = length-first_clauses F in
    let units = length-pure_literals F in
    omega arith
few-begun F (by_changes cs) =
    let all = length-kept_clauses (simplified F cs) in
    let few = last-bounded (unsimplified F) cs in
    omega arith

same-vars : (F : Formula) (b : Beginning) → (begun F b).vars ≡ F.vars
same-vars F as_it_is = refl
same-vars F by_pure_units = refl
same-vars F (by_changes cs) = refl

pub begun-within : (search : Search) (F : Formula) (b : Beginning) (t : Tree) → IsWithinLimits large F → IsBeginning search F b → IsCheckedTree (begun F b) [] t → first_model t ≡ None → length (proof_text (proof F b t)) ≤ max_proof_bytes large → All IsStep (proof F b t)
begun-within search F b t within begins h none short =
    let few = few-steps (proof F b t) in
    let whole = length-append (lines_before F b) (lines_of (begun F b).clauses t) in
    lines-within F (begun F b) (lines_before F b) t within (same-vars F b) (few-begun F b) (lines_before-within search F b within begins (omega arith)) h none short

-- a line more in the list of steps
pub steps-more : (old new : List steps.Step) (step : steps.Step) (line : Step) (before after whole : List Step) → All IsStep (map step_of old) → map step_of old ++ before ≡ whole → before ≡ line ∷ after → IsStep line
    → new ≡ old ++ step ∷ [] → step_of step ≡ line → All IsStep (map step_of new) × (map step_of new ++ after ≡ whole)
steps-more old new step line before after whole within is goes fits pushed same =
    let made : map step_of new ≡ map step_of old ++ line ∷ [] = ap (map step_of) pushed ∙ map-append step_of old (step ∷ []) ∙ ap (λ s. map step_of old ++ s ∷ []) same in (
      subst (All IsStep) (sym made) (All-push IsStep (map step_of old) line within fits),
      ap (λ ss. ss ++ after) made ∙ append_assoc (map step_of old) (line ∷ []) after ∙ ap (λ ss. map step_of old ++ ss) (sym goes) ∙ is,
    )
