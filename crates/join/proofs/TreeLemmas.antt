-- The numbers and variables in a formula's checked tree.
use Rattle.std.proofs.Common.{◌≡◌, ℕ, ◌+◌, ◌<◌, ◌≤◌, true, nat_eq, eq-eqb, List, [], ◌∷◌, ◌++◌, length, length-append, Option, Some, None, refl, ap, sym, subst, ◌∙◌, arith, All}
use Rattle.std.proofs.lemmas.List.{same_from_push}
use Rattle.std.proofs.lemmas.List.Elements.{All-nil, All-cons, All-weaker}
use Rattle.theory.specs.Literals.{Literal, Clause, IsVariable, negations}
use Rattle.theory.specs.Truth.{Formula}
use Rattle.theory.specs.Reading.{large, max_vars}
use Rattle.theory.specs.Learning.{Line}
use Rattle.theory.specs.Checked.{IsCheckedTree}
use Rattle.theory.specs.Trees.{Tree, satisfied, refutation, split, Node, nodes_of, false_half, true_half}
use Rattle.theory.specs.Checking.{clause_of, Hint, missing, false_clause, not_unit, unit_in, hint, conflicts, fails, end_at_conflict, no_such_clause, hint_not_unit, take_hints}
use Rattle.theory.specs.Deletions.{is_among}
use Rattle.theory.specs.Replaying.{carrying_from, AreReplayed, AreForgetting, AreRefutation}
use Rattle.theory.proofs.literals.LiteralLemmas.{or-left, or-right}
use Rattle.theory.proofs.literals.OverVariables.{IsOver-left}
use Rattle.join.specs.Numbered.{AreUpTo, AreLines, AreNodes}
use Rattle.theory.proofs.checker.AcceptedSteps.{clause_of-carrying_within}

-- a number that is there is one of those given away
-- hints that come to a conflict are numbers that are there
hints-numbered : (N : ℕ) (Q : List Literal) (K : List Clause) (P : List Literal) (ns : List ℕ) → take_hints (carrying_from 1 N Q K) P ns ≡ conflicts → AreUpTo (length K) ns
hints-numbered N Q K P [] h = All-nil (λ n. (1 ≤ n) × (n ≤ length K))
hints-numbered N Q K P (n ∷ ns) h = go (clause_of (carrying_from 1 N Q K) n) refl h (λ R. hints-numbered N Q K R ns)
  where
    here : (c : Clause) → clause_of (carrying_from 1 N Q K) n ≡ Some c → AreUpTo (length K) ns → AreUpTo (length K) (n ∷ ns)
    here c e rest =
        let at = clause_of-carrying_within 1 N Q K n c e in
        let low = at.0 in
        let high = at.1 in
        All-cons (λ m. (1 ≤ m) × (m ≤ length K)) n ns (low, omega arith) rest

    after : (c : Clause) (t : Hint) → clause_of (carrying_from 1 N Q K) n ≡ Some c
        → elim t [ missing ↦ fails no_such_clause | false_clause ↦ end_at_conflict ns | not_unit ↦ fails hint_not_unit | unit_in l ↦ take_hints (carrying_from 1 N Q K) (l ∷ P) ns ] ≡ conflicts
        → ((R : List Literal) → take_hints (carrying_from 1 N Q K) R ns ≡ conflicts → AreUpTo (length K) ns) → AreUpTo (length K) (n ∷ ns)
    after c missing e k more = absurd (cc)
    after c false_clause e k more = last ns k e
      where
        last : (ms : List ℕ) → end_at_conflict ms ≡ conflicts → clause_of (carrying_from 1 N Q K) n ≡ Some c → AreUpTo (length K) (n ∷ ms)
        last [] q e = let at = clause_of-carrying_within 1 N Q K n c e in let low = at.0 in let high = at.1 in All-cons (λ m. (1 ≤ m) × (m ≤ length K)) n [] (low, omega arith) (All-nil (λ m. (1 ≤ m) × (m ≤ length K)))
        last (m ∷ ms) q e = absurd (cc)
    after c not_unit e k more = absurd (cc)
    after c (unit_in l) e k more = here c e (more (l ∷ P) k)

    go : (o : Option Clause) → clause_of (carrying_from 1 N Q K) n ≡ o
        → elim (hint P o) [ missing ↦ fails no_such_clause | false_clause ↦ end_at_conflict ns | not_unit ↦ fails hint_not_unit | unit_in l ↦ take_hints (carrying_from 1 N Q K) (l ∷ P) ns ] ≡ conflicts
        → ((R : List Literal) → take_hints (carrying_from 1 N Q K) R ns ≡ conflicts → AreUpTo (length K) ns) → AreUpTo (length K) (n ∷ ns)
    go None e k more = absurd (cc)
    go (Some c) e k more = after c (hint P (Some c)) e k more

-- what holds of each number among them
All-among : (P : ℕ → Type 0) (ns : List ℕ) → ((k : ℕ) → is_among k ns ≡ true → P k) → All P ns
All-among P [] h = All-nil P
All-among P (n ∷ ns) h = All-cons P n ns (h n (or-left (nat_eq n n) (is_among n ns) (eq-eqb n n refl))) (All-among P ns (λ k a. h k (or-right (nat_eq k n) (is_among k ns) a)))

-- the last line forgets nothing
abbrev KeepsLast : List Line → Type 0
KeepsLast lines = (before : List Line) (last : Line) → lines ≡ before ++ last ∷ [] → last.forgets ≡ []

replayed-lines : (V N n : ℕ) (Q : List Literal) (K : List Clause) (gone : List ℕ) (lines : List Line) → V ≤ max_vars large → length K ≡ n → AreReplayed V N Q K lines → AreForgetting N (n + 1) gone lines → KeepsLast lines
    → AreLines N n lines
replayed-lines V N n Q K gone [] few count h f keeps = tt
replayed-lines V N n Q K gone (line ∷ lines) few count h f keeps =
    let longer : length (K ++ line.clause ∷ []) ≡ n + 1 = length-append K (line.clause ∷ []) ∙ ap (λ m. m + 1) count in (
      record {
        over = All-weaker (λ (l : Literal). IsVariable V l.var) (λ l. IsVariable (max_vars large) l.var) (λ l v. let low = v.0 in let high = v.1 in (low, omega arith)) line.clause
            (IsOver-left V line.clause (negations Q) h.0.over);
        hints = subst (λ m. AreUpTo m line.hints) count (hints-numbered N Q K (negations (line.clause ++ negations Q)) line.hints h.0.passes);
        forgets = All-among (λ k. (N < k) × (k ≤ n)) line.forgets (λ k a. let own = f.0.own k a in let high = own.1 in (own.0, omega arith));
        keeps = λ e. keeps [] line (ap (λ (ls : List Line). line ∷ ls) e);
      },
      replayed-lines V N (n + 1) Q (K ++ line.clause ∷ []) (gone ++ line.forgets) lines few longer h.1 f.1 (λ before last e. keeps (line ∷ before) last (ap (λ (ls : List Line). line ∷ ls) e)),
    )

pub refutation-lines : (F : Formula) (Q : List Literal) (lines : List Line) → F.vars ≤ max_vars large → AreRefutation F.vars (length F.clauses) Q F.clauses lines
    → (0 < length lines) × AreLines (length F.clauses) (length F.clauses) lines
refutation-lines F Q lines within h =
    let long = ap length h.ends ∙ length-append h.before (h.last ∷ []) in
    let keeps : KeepsLast lines = λ before last e. ap (λ (l : Line). l.forgets) (same_from_push before h.before last h.last (sym e ∙ h.ends)).1 ∙ h.keeps in
    (omega arith, replayed-lines F.vars (length F.clauses) (length F.clauses) Q F.clauses [] lines within refl h.replayed h.forgetting keeps)

nodes-append : (N : ℕ) (ns ms : List Node) → AreNodes N ns → AreNodes N ms → AreNodes N (ns ++ ms)
nodes-append N [] ms h k = k
nodes-append N (n ∷ ns) ms h k = (h.0, nodes-append N ns ms h.1 k)

-- the nodes of a cube's tree
pub tree-nodes : (F : Formula) (Q : List Literal) (t : Tree) → F.vars ≤ max_vars large → IsCheckedTree F Q t → AreNodes (length F.clauses) (nodes_of t)
tree-nodes F Q (satisfied M) within h = tt
tree-nodes F Q (refutation lines) within h = (refutation-lines F Q lines within h, tt)
tree-nodes F Q (split x l r) within h =
    let low = h.0.0.0 in
    let high = h.0.0.1 in
    let few = within in (
      (low, omega arith),
      nodes-append (length F.clauses) (nodes_of l) (nodes_of r) (tree-nodes F (false_half Q x) l within h.1) (tree-nodes F (true_half Q x) r within h.2),
    )
