-- What each change keeps: the clauses follow from the formula's, and a model of them extends to one
-- of the formula.
use Rattle.std.proofs.Common.{◌≡◌, ℕ, ◌+◌, ◌<◌, ◌≤◌, Bool, true, false, not, List, [], ◌∷◌, length, refl, ap, sym, subst, ◌∙◌, ◌⊎◌, inl, inr, Contains, All, nat_eq, eqb-true, eq-eqb, Some, append-nil, arith, if◌then◌else◌}
use Rattle.std.proofs.lemmas.List.Elements.{All-cons}
use Rattle.theory.specs.Literals.{Clause, negations, positive}
use Rattle.theory.specs.Truth.{Formula, IsFormula, IsOver, is_true_clause, are_true}
use Rattle.theory.specs.Learning.{Line}
use Rattle.theory.specs.Checking.{Numbered, numbered_from, clause_of, without_number, take_hints}
use Rattle.theory.specs.Deletions.{without_numbers}
use Rattle.theory.specs.Simplifying.{Eliminated, Simplified, unsimplified, Change, adds, drops, eliminates, clauses_in, having, changed, IsAddable, IsFit, AreFit, changed_by, extended, AreNumbered, IsSimplificationOf}
use Rattle.theory.proofs.literals.LiteralLemmas.{and-right, not_true}
use Rattle.theory.proofs.literals.LiteralSets.{and-true, true_false, false_unless}
use Rattle.theory.proofs.literals.Membership.{All-from, All-at, map-Contains, Contains-here, Contains-there, Contains-cases, Contains-none}
use Rattle.theory.proofs.checker.Soundness.{AllTrue, conflict-true, without_number-at}
use Rattle.theory.proofs.checker.FewerClauses.{clause_of-without}
use Rattle.theory.proofs.simplifying.ListTests.{all-at, has-filter_of}
use Rattle.theory.proofs.simplifying.Elimination.{entry-there, without_numbers-of, without_numbers-true, dropped-true, eliminated-true, extended-push}

-- the clause of a number is there
pub clause_of-there : (K : Numbered) (n : ℕ) (c : Clause) → clause_of K n ≡ Some c → Contains K (n, c)
clause_of-there [] n c h = absurd (cc)
clause_of-there (e ∷ K) n c h = go (nat_eq e.0 n) refl h (clause_of-there K n c)
  where
    go : (b : Bool) → nat_eq e.0 n ≡ b → (if b then Some e.1 else clause_of K n) ≡ Some c → (clause_of K n ≡ Some c → Contains K (n, c)) → Contains (e ∷ K) (n, c)
    go true i k more =
        let number : e.0 ≡ n = eqb-true e.0 n i in
        let clause : e.1 ≡ c = cc in
        let whole : e ≡ (n, c) = λ i. (number i, clause i) in
        subst (λ (x : ℕ × Clause). Contains (e ∷ K) x) whole (Contains-here e K)
    go false i k more = Contains-there e K (n, c) (more k)

pub AllTrue-from_are_true : (m : ℕ → Bool) (K : Numbered) → are_true m (clauses_in K) ≡ true → AllTrue m K
AllTrue-from_are_true m K h n c e = all-at (is_true_clause m) (clauses_in K) c h (entry-there K (n, c) (clause_of-there K n c e))

-- the formula's clauses
numbered_from-above : (n : ℕ) (K : List Clause) (e : ℕ × Clause) → Contains (numbered_from n K) e → (n ≤ e.0) × (e.0 < n + length K)
numbered_from-above n [] e c = absurd (Contains-none e c)
numbered_from-above n (d ∷ K) e c = go (Contains-cases (n, d) (numbered_from (n + 1) K) e c) (numbered_from-above (n + 1) K e)
  where
    go : ((n, d) ≡ e) ⊎ Contains (numbered_from (n + 1) K) e → (Contains (numbered_from (n + 1) K) e → (n + 1 ≤ e.0) × (e.0 < n + 1 + length K)) → (n ≤ e.0) × (e.0 < n + length (d ∷ K))
    go (inl i) more = let number : n ≡ e.0 = ap (λ (x : ℕ × Clause). x.0) i in (omega arith, omega arith)
    go (inr r) more = let low = (more r).0 in let high = (more r).1 in (omega arith, omega arith)

numbered_from-alone : (n : ℕ) (K : List Clause) (e : ℕ × Clause) → Contains (numbered_from n K) e → clause_of (numbered_from n K) e.0 ≡ Some e.1
numbered_from-alone n [] e c = absurd (Contains-none e c)
numbered_from-alone n (d ∷ K) e c = go (Contains-cases (n, d) (numbered_from (n + 1) K) e c) (numbered_from-alone (n + 1) K e)
  where
    go : ((n, d) ≡ e) ⊎ Contains (numbered_from (n + 1) K) e → (Contains (numbered_from (n + 1) K) e → clause_of (numbered_from (n + 1) K) e.0 ≡ Some e.1)
        → clause_of (numbered_from n (d ∷ K)) e.0 ≡ Some e.1
    go (inl i) more =
        let here : clause_of (numbered_from n (d ∷ K)) n ≡ Some d = ap (λ b. if b then Some d else clause_of (numbered_from (n + 1) K) n) (eq-eqb n n refl) in
        subst (λ (x : ℕ × Clause). clause_of (numbered_from n (d ∷ K)) x.0 ≡ Some x.1) i here
    go (inr r) more =
        let low = (numbered_from-above (n + 1) K e r).0 in
        let other : nat_eq n e.0 ≡ false = false_unless (nat_eq n e.0) (λ t. let q : n ≡ e.0 = eqb-true n e.0 t in omega arith) in
        ap (λ b. if b then Some d else clause_of (numbered_from (n + 1) K) e.0) other ∙ more r

pub AreNumbered-formula : (K : List Clause) → AreNumbered (length K) (numbered_from 1 K)
AreNumbered-formula K = record {
  alone = numbered_from-alone 1 K;
  within = λ n c h. (let w = numbered_from-above 1 K (n, c) (clause_of-there (numbered_from 1 K) n c h) in let low = w.0 in let high = w.1 in (low, omega arith));
}

-- one more clause
AreNumbered-added : (last : ℕ) (K : Numbered) (c : Clause) → AreNumbered last K → AreNumbered (last + 1) ((last + 1, c) ∷ K)
AreNumbered-added last K c h = record { alone = alone; within = within }
  where
    alone : (e : ℕ × Clause) → Contains ((last + 1, c) ∷ K) e → clause_of ((last + 1, c) ∷ K) e.0 ≡ Some e.1
    alone e a = go (Contains-cases (last + 1, c) K e a)
      where
        go : ((last + 1, c) ≡ e) ⊎ Contains K e → clause_of ((last + 1, c) ∷ K) e.0 ≡ Some e.1
        go (inl i) =
            let here : clause_of ((last + 1, c) ∷ K) (last + 1) ≡ Some c = ap (λ b. if b then Some c else clause_of K (last + 1)) (eq-eqb (last + 1) (last + 1) refl) in
            subst (λ (x : ℕ × Clause). clause_of ((last + 1, c) ∷ K) x.0 ≡ Some x.1) i here
        go (inr r) =
            let old = h.alone e r in
            let high = (h.within e.0 e.1 old).1 in
            let other : nat_eq (last + 1) e.0 ≡ false = false_unless (nat_eq (last + 1) e.0) (λ t. let q : last + 1 ≡ e.0 = eqb-true (last + 1) e.0 t in omega arith) in
            ap (λ b. if b then Some c else clause_of K e.0) other ∙ old

    within : (n : ℕ) (d : Clause) → clause_of ((last + 1, c) ∷ K) n ≡ Some d → (1 ≤ n) × (n ≤ last + 1)
    within n d e = go (nat_eq (last + 1) n) refl e
      where
        go : (b : Bool) → nat_eq (last + 1) n ≡ b → (if b then Some c else clause_of K n) ≡ Some d → (1 ≤ n) × (n ≤ last + 1)
        go true q k = let number : last + 1 ≡ n = eqb-true (last + 1) n q in (omega arith, omega arith)
        go false q k = let w = h.within n d k in let low = w.0 in let high = w.1 in (low, omega arith)

-- fewer clauses
AreNumbered-without : (last : ℕ) (K : Numbered) (n : ℕ) → AreNumbered last K → AreNumbered last (without_number K n)
AreNumbered-without last K n h = record {
  alone = λ e a. (let it = has-filter_of (λ e. not (nat_eq e.0 n)) K e a in clause_of-without K n e.0 (turned e it.1) ∙ h.alone e it.0);
  within = λ k c e. h.within k c (without_number-at K n k c e).0;
}
  where
    turned : (e : ℕ × Clause) → not (nat_eq e.0 n) ≡ true → nat_eq n e.0 ≡ false
    turned e t = false_unless (nat_eq n e.0) (λ q. true_false (nat_eq e.0 n) (eq-eqb e.0 n (sym (eqb-true n e.0 q))) (not_true (nat_eq e.0 n) t))

AreNumbered-without_numbers : (last : ℕ) (K : Numbered) (ns : List ℕ) → AreNumbered last K → AreNumbered last (without_numbers K ns)
AreNumbered-without_numbers last K [] h = h
AreNumbered-without_numbers last K (n ∷ ns) h = AreNumbered-without_numbers last (without_number K n) ns (AreNumbered-without last K n h)

-- each change keeps them numbered, be it fit or not
pub AreNumbered-changed : (s : Simplified) (c : Change) → AreNumbered s.last s.clauses → AreNumbered (changed s c).last (changed s c).clauses
AreNumbered-changed s (adds line) h = AreNumbered-added s.last s.clauses line.clause h
AreNumbered-changed s (drops ns) h = AreNumbered-without_numbers s.last s.clauses ns h
AreNumbered-changed s (eliminates x ns) h = AreNumbered-without_numbers s.last s.clauses ns h

pub AreNumbered-all : (s : Simplified) (cs : List Change) → AreNumbered s.last s.clauses → AreNumbered (changed_by s cs).last (changed_by s cs).clauses
AreNumbered-all s [] h = h
AreNumbered-all s (c ∷ cs) h = AreNumbered-all (changed s c) cs (AreNumbered-changed s c h)

over-without : (V : ℕ) (K : Numbered) (ns : List ℕ) → All (IsOver V) (clauses_in K) → All (IsOver V) (clauses_in (without_numbers K ns))
over-without V K ns h = All-from (IsOver V) (clauses_in (without_numbers K ns)) (λ c a. go c (map-Contains (λ e. e.1) (without_numbers K ns) c a))
  where
    go : (c : Clause) → (e : ℕ × Clause) × Contains (without_numbers K ns) e × (e.1 ≡ c) → IsOver V c
    go c f = subst (IsOver V) f.2 (All-at (IsOver V) (clauses_in K) f.0.1 h (entry-there K f.0 (without_numbers-of K ns f.0 f.1)))

-- an added clause follows
added-true : (V : ℕ) (m : ℕ → Bool) (K : Numbered) (line : Line) → IsAddable V K line → are_true m (clauses_in K) ≡ true → is_true_clause m line.clause ≡ true
added-true V m K line fit h =
    conflict-true m K [] line.clause line.hints (AllTrue-from_are_true m K h) tt (ap (λ P. take_hints K P line.hints) (append-nil (negations line.clause)) ∙ fit.passes)

-- the clauses of the formula's first state are its own
clauses_in-numbered : (n : ℕ) (K : List Clause) → clauses_in (numbered_from n K) ≡ K
clauses_in-numbered n [] = refl
clauses_in-numbered n (c ∷ K) = ap (λ L. c ∷ L) (clauses_in-numbered (n + 1) K)

pub simplification-begins : (F : Formula) → IsFormula F → IsSimplificationOf F (unsimplified F)
simplification-begins F formed = record {
  over = subst (All (IsOver F.vars)) (sym (clauses_in-numbered 1 F.clauses)) formed;
  follows = λ m h. ap (are_true m) (clauses_in-numbered 1 F.clauses) ∙ h;
  extends = λ m h. ap (are_true m) (sym (clauses_in-numbered 1 F.clauses)) ∙ h;
  numbered = AreNumbered-formula F.clauses;
}

-- Each change that is fit keeps it.
pub simplification-goes_on : (F : Formula) (s : Simplified) (c : Change) → IsSimplificationOf F s → IsFit F.vars s c → IsSimplificationOf F (changed s c)
simplification-goes_on F s (adds line) h fit = record {
  over = All-cons (IsOver F.vars) line.clause (clauses_in s.clauses) fit.over h.over;
  follows = λ m t. (let old = h.follows m t in and-true (is_true_clause m line.clause) (are_true m (clauses_in s.clauses)) (added-true F.vars m s.clauses line fit old) old);
  extends = λ m t. h.extends m (and-right (is_true_clause m line.clause) (are_true m (clauses_in s.clauses)) t);
  numbered = AreNumbered-added s.last s.clauses line.clause h.numbered;
}
simplification-goes_on F s (drops ns) h fit = record {
  over = over-without F.vars s.clauses ns h.over;
  follows = λ m t. without_numbers-true m s.clauses ns (h.follows m t);
  extends = λ m t. h.extends m (dropped-true m s.clauses ns fit t);
  numbered = AreNumbered-without_numbers s.last s.clauses ns h.numbered;
}
simplification-goes_on F s (eliminates x ns) h fit = record {
  over = over-without F.vars s.clauses ns h.over;
  follows = λ m t. without_numbers-true m s.clauses ns (h.follows m t);
  extends = λ m t. ap (λ n. are_true n F.clauses) (extended-push m s.eliminated gone) ∙ h.extends (extended m (gone ∷ [])) (eliminated-true m s.clauses x ns fit t);
  numbered = AreNumbered-without_numbers s.last s.clauses ns h.numbered;
}
  where
    gone : Eliminated
    gone = record { var = x; clauses = having (positive x) s.clauses }

pub simplification-all : (F : Formula) (s : Simplified) (cs : List Change) → IsSimplificationOf F s → AreFit F.vars s cs → IsSimplificationOf F (changed_by s cs)
simplification-all F s [] h fit = h
simplification-all F s (c ∷ cs) h fit = simplification-all F (changed s c) cs (simplification-goes_on F s c h fit.0) fit.1
