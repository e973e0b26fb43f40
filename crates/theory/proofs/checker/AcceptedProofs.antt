-- The checker accepts the proof of a refuted tree.
use Rattle.std.proofs.Common.{◌≡◌, ℕ, ◌+◌, ◌-◌, ◌<◌, ◌≤◌, Bool, true, false, not, List, [], ◌∷◌, ◌++◌, map, filter, length, refl, ap, sym, subst, ◌∙◌, nat_eq, nat_le, eqb-true, le-leb, ◌⊎◌, inl, inr, Option, Some, None, append_assoc, append-nil, length-append, arith, if◌then◌else◌, ◌&&◌, ◌||◌, is_some}
use Rattle.std.proofs.lemmas.List.{length-map}
use Rattle.theory.specs.Literals.{Literal, Clause, negated, negations, positive, negative, same, has, has_var, has_both_signs, are_distinct}
use Rattle.theory.specs.Truth.{Formula, Assignment, IsOver}
use Rattle.theory.specs.Propagation.{clause_at}
use Rattle.theory.specs.Learning.{Line}
use Rattle.theory.specs.Trees.{Tree, satisfied, refutation, split, false_half, true_half, first_model, or_else}
use Rattle.theory.specs.Steps.{Step, add}
use Rattle.theory.specs.Checking.{Numbered, clause_of, hint, take_hints, conflicts, Checker, accepted, no_empty_clause, check_from, checks}
use Rattle.theory.specs.Rup.{are_by_hints, is_rup}
use Rattle.theory.specs.Replaying.{IsReplayed, AreReplayed, IsForgetting, AreForgetting, AreRefutation}
use Rattle.theory.specs.Forgetting.{forgotten}
use Rattle.theory.specs.Checked.{IsCheckedTree}
use Rattle.theory.specs.Proofs.{additions, renumbered, forget_steps, leaf_steps, forgotten_by, undeleted, tree_steps, lines_of, numbers_from, deletion, refuted_steps}
use Rattle.theory.proofs.literals.LiteralLemmas.{and-left, and-right, not_true, or-cases}
use Rattle.theory.specs.Deletions.{is_among}
use Rattle.theory.proofs.literals.LiteralSets.{Refutes, true_false, false_unless, negated-negated, other-same, has-head, has-tail, has-equal, has-cases, has-append_right, has-append_cases, has_var-has, has_var-none, has-negations, has-from_negations, Refutes-negations, has_both_signs-none}
use Rattle.theory.proofs.trails.TrailEntries.{are_distinct-push}
use Rattle.theory.proofs.checker.Hints.{hint-false, hint-unit, take_hints-false, take_hints-unit}
use Rattle.theory.proofs.literals.OverVariables.{AreOver, AreOver-negations, AreOver-from_IsOver}
use Rattle.theory.proofs.trees.TreeSoundness.{push-over}
use Rattle.theory.proofs.checker.AcceptedPrelude.{AreInput, start}
use Rattle.theory.proofs.checker.AcceptedSteps.{Leads, Leads-then, ByHints, Follows-then, renumbered-high, AreMoved, Passes-moved, LinesLead, LinesLead-from_AreReplayed}
use Rattle.theory.proofs.checker.DeletedNumbers.{numbers_from-within, are_different-numbers_from, is_among-filter, are_different-filter, is_among-map}
use Rattle.theory.proofs.checker.AcceptedCubes.{CubeLeads, EndsEmpty, ending, AreOwn, CubeLeads-end}

-- the clauses stand in the checker under their own numbers, but forgotten ones needn't
abbrev pub AreLeftIn : List Clause → Numbered → Type 0
AreLeftIn K here = (n : ℕ) → 1 ≤ n → n ≤ length K → (clause_of here n ≡ Some (clause_at K n)) ⊎ (clause_at K n ≡ forgotten)

pub AreLeftIn-all : (K : List Clause) (here : Numbered) → AreInput K here → AreLeftIn K here
AreLeftIn-all K here h n one end = inl (h n one end)

AreLeftIn-kept : (K : List Clause) (before behind : Numbered) → ((n : ℕ) → 1 ≤ n → n ≤ length K → clause_of behind n ≡ clause_of before n) → AreLeftIn K before → AreLeftIn K behind
AreLeftIn-kept K before behind kept h n one end = elim (h n one end) [
  | inl there ↦ inl (kept n one end ∙ there)
  | inr lost ↦ inr lost
]

-- The line of a split cube is accepted, given the last lines of its halves.
pub take_hints-split : (there : Numbered) (Q : List Literal) (x left right : ℕ) → has_var Q x ≡ false → clause_of there left ≡ Some (negations (false_half Q x))
    → clause_of there right ≡ Some (negations (true_half Q x)) → take_hints there (negations (negations Q)) (left ∷ right ∷ []) ≡ conflicts
take_hints-split there Q x left right free l r =
    take_hints-unit there P left (right ∷ []) (positive x) conflicts (ap (hint P) l ∙ hint-unit P (negations (false_half Q x)) (positive x) holds open_yet others)
    (take_hints-false there (positive x ∷ P) right (ap (hint (positive x ∷ P)) r ∙ hint-false (positive x ∷ P) (negations (true_half Q x)) all))
  where
    P : List Literal
    P = negations (negations Q)

    -- the negation of a literal of Q is false under P
    of_cube : (k : Literal) → has Q (negated k) ≡ true → has P (negated k) ≡ true
    of_cube k a = Refutes-negations (negations Q) k (subst (λ y. has (negations Q) y ≡ true) (negated-negated k) (has-negations Q (negated k) a))

    holds : has (negations (false_half Q x)) (positive x) ≡ true
    holds = has-negations (false_half Q x) (negative x) (has-append_right Q (negative x ∷ []) (negative x) (has-head (negative x) []))

    open_yet : has_var P x ≡ false
    open_yet = has_var-none P x (λ k a e. true_false (has_var Q x)
        (subst (λ v. has_var Q v ≡ true) e (has_var-has Q (negated (negated k)) (has-from_negations Q (negated k) (has-from_negations (negations Q) k a)))) free)

    others : (k : Literal) → has (negations (false_half Q x)) k ≡ true → same (positive x) k ≡ false → has P (negated k) ≡ true
    others k a s = elim (has-append_cases Q (negative x ∷ []) (negated k) (has-from_negations (false_half Q x) k a)) [
      | inl i ↦ of_cube k i
      | inr i ↦ elim (has-cases (negative x) (negated k) [] i) [
        | inl e ↦ absurd (other-same (positive x) k s (sym (ap negated e) ∙ negated-negated k))
        | inr none ↦ absurd (cc)
      ]
    ]

    all : Refutes (positive x ∷ P) (negations (true_half Q x))
    all k a = elim (has-append_cases Q (positive x ∷ []) (negated k) (has-from_negations (true_half Q x) k a)) [
      | inl i ↦ has-tail (positive x) (negated k) P (of_cube k i)
      | inr i ↦ elim (has-cases (positive x) (negated k) [] i) [
        | inl e ↦ has-equal (positive x) (negated k) P e
        | inr none ↦ absurd (cc)
      ]
    ]

-- where no variable stands twice, no literal stands with its negation
distinct-consistent : (Q : List Literal) (l : Literal) → are_distinct Q ≡ true → has Q l ≡ true → has Q (negated l) ≡ true → ⊥
distinct-consistent [] l d a b = cc
distinct-consistent (q ∷ Q) l d a b = go (has-cases q l Q a) (has-cases q (negated l) Q b) (distinct-consistent Q l (and-right (not (has_var Q q.var)) (are_distinct Q) d))
  where
    alone : has_var Q q.var ≡ false
    alone = not_true (has_var Q q.var) (and-left (not (has_var Q q.var)) (are_distinct Q) d)

    go : (l ≡ q) ⊎ (has Q l ≡ true) → (negated l ≡ q) ⊎ (has Q (negated l) ≡ true) → (has Q l ≡ true → has Q (negated l) ≡ true → ⊥) → ⊥
    go (inl i) (inl j) more = apart l.positive (ap (λ (x : Literal). x.positive) (i ∙ sym j))
      where
        apart : (b : Bool) → b ≡ not b → ⊥
        apart true e = cc
        apart false e = cc
    go (inl i) (inr j) more = true_false (has_var Q q.var) (subst (λ v. has_var Q v ≡ true) (ap (λ (x : Literal). x.var) i) (has_var-has Q (negated l) j)) alone
    go (inr i) (inl j) more = true_false (has_var Q q.var) (subst (λ v. has_var Q v ≡ true) (ap (λ (x : Literal). x.var) j) (has_var-has Q l i)) alone
    go (inr i) (inr j) more = more i j

has_both_signs-negations : (Q : List Literal) → are_distinct Q ≡ true → has_both_signs (negations Q) ≡ false
has_both_signs-negations Q d =
    has_both_signs-none (negations Q) (λ l a b. distinct-consistent Q (negated l) d (has-from_negations Q l a) (has-from_negations Q (negated l) b))

-- the lines of a refuted cube in two parts
leaf_steps-append : (N first n : ℕ) (Q : List Literal) (xs ys : List Line) → leaf_steps N first n Q (xs ++ ys) ≡ leaf_steps N first n Q xs ++ leaf_steps N first (n + length xs) Q ys
leaf_steps-append N first n Q [] ys = let number : n ≡ n + 0 = omega arith in ap (λ k. leaf_steps N first k Q ys) number
leaf_steps-append N first n Q (x ∷ xs) ys =
    let number : n + 1 + length xs ≡ n + length (x ∷ xs) = omega arith in
    let gone = forget_steps n (map (renumbered N first) x.forgets) in
    ap (λ rest. add (record { id = n; clause = x.clause ++ negations Q; hints = map (renumbered N first) x.hints; groups = [] }) ∷ rest)
    (ap (λ rest. gone ++ rest) (leaf_steps-append N first (n + 1) Q xs ys ∙ ap (λ k. leaf_steps N first (n + 1) Q xs ++ leaf_steps N first k Q ys) number)
    ∙ sym (append_assoc gone (leaf_steps N first (n + 1) Q xs) (leaf_steps N first (n + length (x ∷ xs)) Q ys)))

AreReplayed-parts : (V N : ℕ) (Q : List Literal) (K : List Clause) (lines : List Line) (line : Line) → AreReplayed V N Q K (lines ++ line ∷ [])
    → AreReplayed V N Q K lines × IsReplayed V N Q (K ++ map (λ (x : Line). x.clause) lines) line
AreReplayed-parts V N Q K [] line h = (tt, rw (append-nil K) h.0)
AreReplayed-parts V N Q K (l ∷ lines) line h =
    let more = AreReplayed-parts V N Q (K ++ l.clause ∷ []) lines line h.1 in
    ((h.0, more.0), rw (append_assoc K (l.clause ∷ []) (map (λ (x : Line). x.clause) lines)) at more.1)

-- what they forget, and where
AreForgetting-parts : (N n : ℕ) (gone : List ℕ) (lines : List Line) (line : Line) → AreForgetting N n gone (lines ++ line ∷ [])
    → AreForgetting N n gone lines × IsForgetting N (n + length lines) (gone ++ forgotten_by lines) line
AreForgetting-parts N n gone [] line h =
    let number : n ≡ n + 0 = omega arith in
    (tt, subst (λ ns. IsForgetting N (n + 0) ns line) (sym (append-nil gone)) (subst (λ k. IsForgetting N k gone line) number h.0))
AreForgetting-parts N n gone (x ∷ lines) line h =
    let more = AreForgetting-parts N (n + 1) (gone ++ x.forgets) lines line h.1 in
    let number : n + 1 + length lines ≡ n + length (x ∷ lines) = omega arith in
    ((h.0, more.0), subst (λ ns. IsForgetting N (n + length (x ∷ lines)) ns line) (append_assoc gone x.forgets (forgotten_by lines)) (subst (λ k. IsForgetting N k ((gone ++ x.forgets) ++ forgotten_by lines) line) number more.1))

forgotten_by-append : (xs : List Line) (y : Line) → forgotten_by (xs ++ y ∷ []) ≡ forgotten_by xs ++ y.forgets
forgotten_by-append [] y = append-nil y.forgets
forgotten_by-append (x ∷ xs) y = ap (λ ns. x.forgets ++ ns) (forgotten_by-append xs y) ∙ sym (append_assoc x.forgets (forgotten_by xs) y.forgets)

AreMoved-input : (n : ℕ) (Q : List Literal) (K : List Clause) (here : Numbered) → AreLeftIn K here → AreMoved (length K) (renumbered (length K) n) [] Q K here
AreMoved-input n Q K here h m one end not_gone =
    let low : nat_le m (length K) ≡ true = le-leb m (length K) end in
    let left : clause_of here (renumbered (length K) n m) ≡ clause_of here m = ap (λ b. clause_of here (if b then m else n + (m - length K - 1))) low in
    elim (h m one end) [
      | inl there ↦ inl (left ∙ (there ∙ sym (ap (λ b. Some (if b then clause_at K m else clause_at K m ++ negations Q)) low)))
      | inr lost ↦ inr (end, lost)
    ]

-- The lines of a refuted cube are accepted, and so is the deletion behind them.
pub CubeLeads-leaf : (V n : ℕ) (Q : List Literal) (K : List Clause) (s : Checker) (lines : List Line) → length K < n → s.last < n → AreLeftIn K s.clauses → are_distinct Q ≡ true → AreOver V Q
    → AreRefutation V (length K) Q K lines → CubeLeads V n (length lines) Q s (refuted_steps (length K) n Q lines)
unfolding ending
CubeLeads-leaf V n Q K s lines low rises input distinct over r =
    subst (λ ls. CubeLeads V n (length ls) Q s (refuted_steps N n Q ls)) (sym r.ends) (subst (CubeLeads V n (length (r.before ++ r.last ∷ [])) Q s) (sym parted) whole)
  where
    N : ℕ
    N = length K

    parts : AreReplayed V N Q K r.before × IsReplayed V N Q (K ++ map (λ (x : Line). x.clause) r.before) r.last
    parts = AreReplayed-parts V N Q K r.before r.last (subst (AreReplayed V N Q K) r.ends r.replayed)

    forgets : AreForgetting N (N + 1) [] r.before × IsForgetting N (N + 1 + length r.before) (forgotten_by r.before) r.last
    forgets = AreForgetting-parts N (N + 1) [] r.before r.last (subst (AreForgetting N (N + 1) []) r.ends r.forgetting)

    gone : List ℕ
    gone = forgotten_by r.before

    first : LinesLead V N n n [] Q K s r.before
    first = LinesLead-from_AreReplayed V N n n [] Q K s r.before (omega arith) low (omega arith) rises (AreMoved-input n Q K s.clauses input) parts.0 forgets.0

    hints : List ℕ
    hints = map (renumbered N n) r.last.hints

    conflict_last : take_hints first.state.clauses (negations (negations Q)) hints ≡ conflicts
    conflict_last = subst (λ c. take_hints first.state.clauses (negations (c ++ negations Q)) hints ≡ conflicts) r.empty
        (Passes-moved V N (renumbered N n) gone Q (K ++ map (λ (x : Line). x.clause) r.before) first.state.clauses r.last first.moved forgets.1.clear parts.1)

    count : length (r.before ++ r.last ∷ []) ≡ length r.before + 1
    count = length-append r.before (r.last ∷ [])

    learnt : List ℕ
    learnt = filter (λ k. not (is_among k (map (renumbered N n) gone))) (numbers_from n (length r.before))

    within : (k : ℕ) → is_among k learnt ≡ true → (n ≤ k) × (k < n + length r.before)
    within k a = numbers_from-within n (length r.before) k (is_among-filter (λ k. not (is_among k (map (renumbered N n) gone))) k (numbers_from n (length r.before)) a).0

    own : AreOwn n (n + length r.before) first.state.clauses learnt
    own = record {
      distinct = are_different-filter (λ k. not (is_among k (map (renumbered N n) gone))) (numbers_from n (length r.before)) (are_different-numbers_from n (length r.before));
      first = λ k a. (within k a).0;
      before = λ k a. (within k a).1;
      there = λ k a. there_at k (within k a) (is_among-filter (λ k. not (is_among k (map (renumbered N n) gone))) k (numbers_from n (length r.before)) a).1;
    }
      where
        there_at : (k : ℕ) → (n ≤ k) × (k < n + length r.before) → not (is_among k (map (renumbered N n) gone)) ≡ true → is_some (clause_of first.state.clauses k) ≡ true
        there_at k w left =
            let low_end = w.0 in
            let high_end = w.1 in
            let longer : length (K ++ map (λ (x : Line). x.clause) r.before) ≡ N + length r.before = length-append K (map (λ (x : Line). x.clause) r.before) ∙ ap (λ i. N + i) (length-map r.before (λ (x : Line). x.clause)) in
            let place : ℕ = N + 1 + (k - n) in
            let number : renumbered N n place ≡ n + (place - N - 1) = renumbered-high N n place (omega arith) in
            let same : renumbered N n place ≡ k = number ∙ omega arith in
            let not_gone : is_among place gone ≡ false = false_unless (is_among place gone) (λ t.
            true_false (is_among k (map (renumbered N n) gone)) (subst (λ i. is_among i (map (renumbered N n) gone) ≡ true) same (is_among-map (renumbered N n) place gone t)) (not_true (is_among k (map (renumbered N n) gone)) left)) in
            elim (first.moved place (omega arith) (omega arith) not_gone) [
              | inl at ↦ ap (λ i. is_some (clause_of first.state.clauses i)) (sym same) ∙ ap is_some at
              | inr lost ↦ absurd (let low_number = lost.0 in omega arith)
            ]

    parted : refuted_steps N n Q (r.before ++ r.last ∷ []) ≡ leaf_steps N n n Q r.before ++ add (ending (n + length r.before) Q hints) ∷ deletion Q (n + length r.before) learnt
    parted =
        let last : n + length (r.before ++ r.last ∷ []) - 1 ≡ n + length r.before = omega (arith, count) in
        let others : length (r.before ++ r.last ∷ []) - 1 ≡ length r.before = omega (arith, count) in
        let same_gone : forgotten_by (r.before ++ r.last ∷ []) ≡ gone = forgotten_by-append r.before r.last ∙ (ap (λ ns. gone ++ ns) r.keeps ∙ append-nil gone) in
        let numbers : undeleted N n (r.before ++ r.last ∷ []) ≡ learnt
        = ap (λ ns. filter (λ k. not (is_among k (map (renumbered N n) ns))) (numbers_from n (length (r.before ++ r.last ∷ []) - 1))) same_gone
        ∙ ap (λ i. filter (λ k. not (is_among k (map (renumbered N n) gone))) (numbers_from n i)) others in
        ap (λ A. A ++ deletion Q (n + length (r.before ++ r.last ∷ []) - 1) (undeleted N n (r.before ++ r.last ∷ []))) lines_parted
        ∙ (ap (λ i. (leaf_steps N n n Q r.before ++ add (ending (n + length r.before) Q hints) ∷ []) ++ deletion Q i (undeleted N n (r.before ++ r.last ∷ []))) last
        ∙ (ap (λ ns. (leaf_steps N n n Q r.before ++ add (ending (n + length r.before) Q hints) ∷ []) ++ deletion Q (n + length r.before) ns) numbers
        ∙ append_assoc (leaf_steps N n n Q r.before) (add (ending (n + length r.before) Q hints) ∷ []) (deletion Q (n + length r.before) learnt)))
      where
        lines_parted : leaf_steps N n n Q (r.before ++ r.last ∷ []) ≡ leaf_steps N n n Q r.before ++ add (ending (n + length r.before) Q hints) ∷ []
        lines_parted = leaf_steps-append N n n Q r.before (r.last ∷ []) ∙ ap (λ (steps : List Step). leaf_steps N n n Q r.before ++ steps) (last_alone r.last.clause r.last.forgets r.empty r.keeps)
          where
            last_alone : (c : Clause) (ns : List ℕ) → c ≡ [] → ns ≡ [] → add (record { id = n + length r.before; clause = c ++ negations Q; hints = hints; groups = [] })
                ∷ (forget_steps (n + length r.before) (map (renumbered N n) ns) ++ []) ≡ add (ending (n + length r.before) Q hints) ∷ []
            last_alone [] [] e k = refl
            last_alone (l ∷ c) ns e k = absurd (cc)
            last_alone [] (m ∷ ns) e k = absurd (cc)

    whole : CubeLeads V n (length (r.before ++ r.last ∷ [])) Q s (leaf_steps N n n Q r.before ++ add (ending (n + length r.before) Q hints) ∷ deletion Q (n + length r.before) learnt)
    whole = CubeLeads-end V n (n + length r.before) (length (r.before ++ r.last ∷ [])) Q s first.state (leaf_steps N n n Q r.before) hints learnt first.leads (omega arith)
        (omega (arith, count)) first.last first.kept (AreOver-negations V Q over) (has_both_signs-negations Q distinct) conflict_last own

-- The lines of a split cube's halves and then its own are accepted, and so is the deletion behind
-- them.
pub CubeLeads-split : (V N n : ℕ) (Q : List Literal) (x : ℕ) (l r : Tree) (s : Checker) → are_distinct Q ≡ true → AreOver V Q → has_var Q x ≡ false
    → (left : CubeLeads V n (additions l) (false_half Q x) s (tree_steps N n (false_half Q x) l))
    → CubeLeads V (n + additions l) (additions r) (true_half Q x) left.state (tree_steps N (n + additions l) (true_half Q x) r)
    → CubeLeads V n (additions (split x l r)) Q s (tree_steps N n Q (split x l r))
unfolding ending
CubeLeads-split V N n Q x l r s distinct over free left right =
    CubeLeads-end V n last (additions l + additions r + 1) Q s right.state (tree_steps N n (false_half Q x) l ++ tree_steps N middle (true_half Q x) r) ((middle - 1) ∷ (last - 1) ∷ []) ((middle - 1) ∷ (last - 1) ∷ [])
    (Follows-then V s left.state right.state (tree_steps N n (false_half Q x) l) (tree_steps N middle (true_half Q x) r) left.leads right.leads)
    (omega arith) (omega arith) (let e = right.last in omega arith)
    (λ k h. right.kept k (omega arith) ∙ left.kept k h)
    (AreOver-negations V Q over) (has_both_signs-negations Q distinct)
    (take_hints-split right.state.clauses Q x (middle - 1) (last - 1) free clause_left clause_right) own
  where
    middle : ℕ
    middle = n + additions l

    last : ℕ
    last = middle + additions r

    clause_left : clause_of right.state.clauses (middle - 1) ≡ Some (negations (false_half Q x))
    clause_left =
        let e = left.last in
        let number : left.state.last ≡ middle - 1 = omega arith in
        right.kept (middle - 1) (omega arith) ∙ subst (λ k. clause_of left.state.clauses k ≡ Some (negations (false_half Q x))) number left.final

    clause_right : clause_of right.state.clauses (last - 1) ≡ Some (negations (true_half Q x))
    clause_right =
        let e = right.last in
        let number : right.state.last ≡ last - 1 = omega arith in
        subst (λ k. clause_of right.state.clauses k ≡ Some (negations (true_half Q x))) number right.final

    both : (P : ℕ → Type 0) → P (middle - 1) → P (last - 1) → (k : ℕ) → is_among k ((middle - 1) ∷ (last - 1) ∷ []) ≡ true → P k
    both P f g k a = elim (or-cases (nat_eq k (middle - 1)) (is_among k ((last - 1) ∷ [])) a) [
      | inl e ↦ subst P (sym (eqb-true k (middle - 1) e)) f
      | inr r ↦ elim (or-cases (nat_eq k (last - 1)) false r) [ inl e ↦ subst P (sym (eqb-true k (last - 1) e)) g | inr none ↦ absurd (cc) ]
    ]

    own : AreOwn n last right.state.clauses ((middle - 1) ∷ (last - 1) ∷ [])
    own =
        let some_left = left.some in
        let some_right = right.some in
        let apart : nat_eq (middle - 1) (last - 1) ≡ false = false_unless (nat_eq (middle - 1) (last - 1)) (λ t. let q : middle - 1 ≡ last - 1 = eqb-true (middle - 1) (last - 1) t in omega arith) in
        record {
          distinct = ap (λ b. not (b || false) && true) apart;
          first = both (λ k. n ≤ k) (omega arith) (omega arith);
          before = both (λ k. k < last) (omega arith) (omega arith);
          there = both (λ k. is_some (clause_of right.state.clauses k) ≡ true) (ap is_some clause_left) (ap is_some clause_right);
        }

pub or_else-none : (o p : Option Assignment) → or_else o p ≡ None → (o ≡ None) × (p ≡ None)
or_else-none (Some M) p h = absurd (cc)
or_else-none None p h = (refl, h)

-- The lines of a checked tree without a satisfied leaf are accepted.
pub CubeLeads-tree : (F : Formula) (n : ℕ) (Q : List Literal) (t : Tree) (s : Checker) → are_distinct Q ≡ true → IsOver F.vars Q → IsCheckedTree F Q t → first_model t ≡ None
    → length F.clauses < n → s.last < n → AreLeftIn F.clauses s.clauses → CubeLeads F.vars n (additions t) Q s (tree_steps (length F.clauses) n Q t)
CubeLeads-tree F n Q (satisfied M) s distinct over h none low rises input = absurd (cc)
CubeLeads-tree F n Q (refutation lines) s distinct over h none low rises input =
    CubeLeads-leaf F.vars n Q F.clauses s lines low rises input distinct (AreOver-from_IsOver F.vars Q over) h
CubeLeads-tree F n Q (split x l r) s distinct over h none low rises input =
    let both = or_else-none (first_model l) (first_model r) none in
    let fit = h.0 in
    let left = CubeLeads-tree F n (false_half Q x) l s (are_distinct-push Q (negative x) distinct fit.1) (push-over F.vars Q (negative x) over fit.0) h.1 both.0 low rises input in
    let e = left.last in
    let right = CubeLeads-tree F (n + additions l) (true_half Q x) r left.state (are_distinct-push Q (positive x) distinct fit.1) (push-over F.vars Q (positive x) over fit.0) h.2 both.1
    (omega arith) (omega arith) (AreLeftIn-kept F.clauses s.clauses left.state.clauses (λ m one end. left.kept m (omega arith)) input) in
    CubeLeads-split F.vars (length F.clauses) n Q x l r s distinct (AreOver-from_IsOver F.vars Q over) fit.1 left right

-- what stands before the lines of a tree: steps that leave the clauses that its search begins with
pub record AreBefore (F : Formula) (K : List Clause) (before : List Step) : Type 0 where
  pub state : Checker
  pub leads : Leads F.vars (start F) before state
  pub last : state.last ≡ length K
  pub input : AreLeftIn K state.clauses

-- what comes behind them is checked from there
pub AreBefore-checks : (F : Formula) (K : List Clause) (before rest : List Step) → (begun : AreBefore F K before) → checks F (before ++ rest) ≡ check_from F.vars (1 + length before) begun.state rest
AreBefore-checks F K before rest begun = begun.leads 1 rest

-- The checker accepts these steps and then the lines of a checked tree without a satisfied leaf.
tree-leads : (F : Formula) (K : List Clause) (before : List Step) (t : Tree) → (begun : AreBefore F K before) → IsCheckedTree (record F { clauses = K }) [] t → first_model t ≡ None
    → CubeLeads F.vars (length K + 1) (additions t) [] begun.state (lines_of K t)
tree-leads F K before t begun h none =
    let last = begun.last in
    CubeLeads-tree (record F { clauses = K }) (length K + 1) [] t begun.state refl (λ k d j. absurd (omega arith)) h none (omega arith) (omega arith) begun.input

pub checks-checked : (F : Formula) (K : List Clause) (before : List Step) (t : Tree) → AreBefore F K before → IsCheckedTree (record F { clauses = K }) [] t → first_model t ≡ None
    → checks F (before ++ lines_of K t) ≡ accepted
checks-checked F K before t begun h none =
    let tree = tree-leads F K before t begun h none in
    let whole : Leads F.vars (start F) (before ++ lines_of K t) tree.state = Leads-then F.vars (start F) begun.state tree.state before (lines_of K t) begun.leads tree.leads.0 in
    ap (check_from F.vars 1 (start F)) (sym (append-nil (before ++ lines_of K t))) ∙ (whole 1 [] ∙ ap (λ b. if b then accepted else no_empty_clause) (tree.empty refl))

-- Its last line is the empty clause.
pub checked-ends_empty : (F : Formula) (K : List Clause) (before : List Step) (t : Tree) → AreBefore F K before → IsCheckedTree (record F { clauses = K }) [] t → first_model t ≡ None
    → EndsEmpty (before ++ lines_of K t)
checked-ends_empty F K before t begun h none =
    let e = (tree-leads F K before t begun h none).ends refl in
    (before ++ e.0, e.1, ap (λ steps. before ++ steps) e.2 ∙ sym (append_assoc before e.0 (add e.1 ∷ [])), e.3)

-- Where the steps before pass by their hints alone, so do all.
pub checked-by_hints : (F : Formula) (K : List Clause) (before : List Step) (t : Tree) → (begun : AreBefore F K before) → ByHints F.vars (start F) before begun.state → IsCheckedTree (record F { clauses = K }) [] t
    → first_model t ≡ None → is_rup F (before ++ lines_of K t) ≡ true
checked-by_hints F K before t begun by_hints h none =
    let tree = tree-leads F K before t begun h none in
    by_hints (lines_of K t) ∙ (ap (are_by_hints F.vars begun.state) (sym (append-nil (lines_of K t))) ∙ tree.leads.1 [])
