-- A line that passes by its hints over true clauses is true, where the cube is; so lines that
-- replay as a refutation of a cube leave it no model.
use Rattle.std.proofs.Common.{◌≡◌, ℕ, ◌+◌, Bool, true, false, not, ◌||◌, List, [], ◌∷◌, ◌++◌, refl, ap, sym, subst, ◌∙◌, Some, nat_eq, nat_le, append-nil, if◌then◌else◌}
use Rattle.std.proofs.lemmas.List.Folds.{list_any-append}
use Rattle.theory.specs.Literals.{Literal, Clause, negated, negations}
use Rattle.theory.specs.Truth.{AreTrue, is_true, is_true_clause, are_true}
use Rattle.theory.specs.Learning.{Line}
use Rattle.theory.specs.Checking.{clause_of}
use Rattle.theory.specs.Replaying.{carrying_from, Passes, AreReplayed, AreRefutation}
use Rattle.theory.proofs.literals.LiteralLemmas.{and-left, and-right, or-left, is_true-negated}
use Rattle.theory.proofs.literals.LiteralSets.{true_false, and-true, or-none}
use Rattle.theory.proofs.checker.Soundness.{AllTrue, conflict-true}

-- no negation of a true literal is true
untrue-negations : (m : ℕ → Bool) (Q : List Literal) → AreTrue m Q → is_true_clause m (negations Q) ≡ false
untrue-negations m [] h = refl
untrue-negations m (q ∷ Q) h = or-none (is_true m (negated q)) (is_true_clause m (negations Q)) (is_true-negated m q ∙ ap not h.0) (untrue-negations m Q h.1)

more-true : (m : ℕ → Bool) (c d : Clause) → is_true_clause m c ≡ true → is_true_clause m (c ++ d) ≡ true
more-true m c d h = list_any-append (is_true m) c d ∙ or-left (is_true_clause m c) (is_true_clause m d) h

less-true : (m : ℕ → Bool) (c : Clause) (Q : List Literal) → AreTrue m Q → is_true_clause m (c ++ negations Q) ≡ true → is_true_clause m c ≡ true
less-true m c Q q h = go (is_true_clause m c) (sym (list_any-append (is_true m) c (negations Q)) ∙ h)
  where
    go : (b : Bool) → b || is_true_clause m (negations Q) ≡ true → b ≡ true
    go true e = refl
    go false e = true_false (is_true_clause m (negations Q)) e (untrue-negations m Q q)

-- true clauses are true where they carry more
carrying-true : (m : ℕ → Bool) (n N : ℕ) (Q : List Literal) (K : List Clause) → are_true m K ≡ true → AllTrue m (carrying_from n N Q K)
carrying-true m n N Q [] h k c e = absurd (cc)
carrying-true m n N Q (d ∷ K) h k c e = go (nat_eq n k) e (carrying-true m (n + 1) N Q K (and-right (is_true_clause m d) (are_true m K) h) k c)
  where
    here : (b : Bool) → is_true_clause m (if b then d else d ++ negations Q) ≡ true
    here true = and-left (is_true_clause m d) (are_true m K) h
    here false = more-true m d (negations Q) (and-left (is_true_clause m d) (are_true m K) h)

    go : (b : Bool) → (if b then Some (if nat_le n N then d else d ++ negations Q) else clause_of (carrying_from (n + 1) N Q K) k) ≡ Some c
        → (clause_of (carrying_from (n + 1) N Q K) k ≡ Some c → is_true_clause m c ≡ true) → is_true_clause m c ≡ true
    go true q more = let clause : (if nat_le n N then d else d ++ negations Q) ≡ c = cc in ap (is_true_clause m) (sym clause) ∙ here (nat_le n N)
    go false q more = more q

pub are_true-push : (m : ℕ → Bool) (K : List Clause) (c : Clause) → are_true m K ≡ true → is_true_clause m c ≡ true → are_true m (K ++ c ∷ []) ≡ true
are_true-push m [] c a t = and-true (is_true_clause m c) true t refl
are_true-push m (d ∷ K) c a t =
    and-true (is_true_clause m d) (are_true m (K ++ c ∷ [])) (and-left (is_true_clause m d) (are_true m K) a) (are_true-push m K c (and-right (is_true_clause m d) (are_true m K) a) t)

-- a line that passes over true clauses is true
pub Passes-true : (m : ℕ → Bool) (N : ℕ) (Q : List Literal) (K : List Clause) (line : Line) → AreTrue m Q → are_true m K ≡ true → Passes N Q K line → is_true_clause m line.clause ≡ true
Passes-true m N Q K line q a passes =
    less-true m line.clause Q q (conflict-true m (carrying_from 1 N Q K) [] (line.clause ++ negations Q) line.hints (carrying-true m 1 N Q K a) tt (rw append-nil passes))

-- so is the last of lines that replay one after the other
last-true : (m : ℕ → Bool) (V N : ℕ) (Q : List Literal) (K : List Clause) (before : List Line) (last : Line) → AreTrue m Q → are_true m K ≡ true
    → AreReplayed V N Q K (before ++ last ∷ []) → is_true_clause m last.clause ≡ true
last-true m V N Q K [] last q a h = Passes-true m N Q K last q a h.0.passes
last-true m V N Q K (line ∷ before) last q a h =
    last-true m V N Q (K ++ line.clause ∷ []) before last q (are_true-push m K line.clause a (Passes-true m N Q K line q a h.0.passes)) h.1

-- Lines that replay as a refutation leave no truth values that make the clauses and the cube true.
pub AreRefutation-refutes : (m : ℕ → Bool) (V N : ℕ) (Q : List Literal) (K : List Clause) (lines : List Line) → AreRefutation V N Q K lines → are_true m K ≡ true → AreTrue m Q → ⊥
AreRefutation-refutes m V N Q K lines r a q =
    let last : is_true_clause m r.last.clause ≡ true = last-true m V N Q K r.before r.last q a (subst (AreReplayed V N Q K) r.ends r.replayed) in
    let none : is_true_clause m [] ≡ true = subst (λ (c : Clause). is_true_clause m c ≡ true) r.empty last in
    cc
