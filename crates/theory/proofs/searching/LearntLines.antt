-- The line learnt from a conflict passes the checker by its hints.
use Rattle.std.proofs.Common.{◌≡◌, ℕ, zero, suc, ◌+◌, ◌-◌, ◌<◌, ◌≤◌, Bool, true, false, not, ◌&&◌, List, [], ◌∷◌, ◌++◌, map, map-id, length, refl, ap, sym, subst, ◌∙◌, nat_eq, nat_le, eqb-true, eq-eqb, ◌⊎◌, inl, inr, filter, Option, Some, None, is_some, get_or, arith, if◌then◌else◌}
use Rattle.std.proofs.lemmas.Option.{unwrap_or-slice_get}
use Rattle.theory.specs.Literals.{Literal, Clause, negated, negations, same, has, has_var, has_both_signs, without, IsVariable}
use Rattle.theory.specs.Status.{is_false}
use Rattle.theory.specs.Trails.{Entry, Trail, literals, entry_of, is_given}
use Rattle.theory.specs.Propagation.{clause_at}
use Rattle.theory.specs.Lawful.{IsReason, IsLawfulEntry, IsLawful, cube_of}
use Rattle.theory.specs.Learning.{with_literals, resolved, reason_used, walk, is_of_cube, learn_removing}
use Rattle.theory.specs.Checking.{Numbered, clause_of, false_clause, unit_in, hint, take_hints, conflicts}
use Rattle.theory.specs.Replaying.{carrying_from, Passes}
use Rattle.theory.proofs.literals.LiteralLemmas.{or-cases, or-right}
use Rattle.theory.proofs.literals.LiteralSets.{Refutes, Apart, true_false, false_unless, or-none, negated-negated, other-same, one_or_other, same_variable, has-head, has-tail, has-equal, has-append_left, has-append_right, has-append_cases, has_var-head, has_var-has, has_var-none, has_var-append_left, has-negations, has-from_negations, Refutes-negations, has-filter, has-from_filter, has-with_literals, has-resolved_set, has-resolved_clause, has-from_resolved}
use Rattle.theory.proofs.checker.Hints.{hint-false, hint-unit, take_hints-false, take_hints-unit}
use Rattle.theory.proofs.searching.Walks.{walk-all, at-place, entry-place, reason_used-reason, grounded-place, Refutes-others, Refutes-resolved, Refutes-begin, Refutes-walk}
use Rattle.theory.proofs.trails.TrailEntries.{IsAt, literals-at, has-literals_at, entry_of-at, literals-consistent, has_both_signs-refuted, has-from_cube_of, has-cube_of}

-- d has the literals of c, and besides them at most negations of Q's
pub record Carries (Q : List Literal) (c d : Clause) : Type 0 where
  pub within : (l : Literal) → has c l ≡ true → has d l ≡ true
  pub besides : (l : Literal) → has d l ≡ true → (has c l ≡ true) ⊎ (has (negations Q) l ≡ true)

-- each clause of K is carried by the one there of its new number
abbrev pub AreThere : List Clause → List Literal → Numbered → (ℕ → ℕ) → Type 0
AreThere K Q there f = (n : ℕ) → 1 ≤ n → n ≤ length K → (d : Clause) × (clause_of there (f n) ≡ Some d) × Carries Q (clause_at K n) d

-- from any literals that refute S and Q's negations, and have no variable of U, the hints lead to
-- the conflict
abbrev Ready : List Literal → Numbered → (ℕ → ℕ) → Clause → List ℕ → List Literal → Type 0
Ready Q there f S hints U = (P : List Literal) → Refutes P S → Refutes P (negations Q) → Apart U P → take_hints there P (map f hints) ≡ conflicts

Ready-conflict : (K : List Clause) (Q : List Literal) (there : Numbered) (f : ℕ → ℕ) (n : ℕ) → AreThere K Q there f → 1 ≤ n → n ≤ length K
    → Ready Q there f (with_literals (clause_at K n) []) (n ∷ []) []
Ready-conflict K Q there f n all one end P r q u =
    let c = all n one end in
    let here : hint P (Some c.0) ≡ false_clause = hint-false P c.0 refuted in
    take_hints-false there P (f n) (ap (hint P) c.1 ∙ here)
  where
    refuted : Refutes P (all n one end).0
    refuted l a = elim ((all n one end).2.besides l a) [
      | inl i ↦ r l (has-with_literals (clause_at K n) [] l (inl i))
      | inr i ↦ q l i
    ]

Ready-reason : (K : List Clause) (Q : List Literal) (there : Numbered) (f : ℕ → ℕ) (S : Clause) (hints : List ℕ) (U : List Literal) (l : Literal) (n : ℕ)
    → AreThere K Q there f → 1 ≤ n → n ≤ length K → has (clause_at K n) l ≡ true → has_var U l.var ≡ false
    → Ready Q there f S hints U → Ready Q there f (resolved S l (clause_at K n)) (n ∷ hints) (l ∷ U)
Ready-reason K Q there f S hints U l n all one end holds new ready P r q u =
    let c = all n one end in
    let here : hint P (Some c.0) ≡ unit_in l = hint-unit P c.0 l (c.2.within l holds) (u l.var (has_var-head l U)) others in
    let more : take_hints there (l ∷ P) (map f hints) ≡ conflicts = ready (l ∷ P) set (λ k a. has-tail l (negated k) P (q k a)) apart in
    take_hints-unit there P (f n) (map f hints) l conflicts (ap (hint P) c.1 ∙ here) more
  where
    others : (k : Literal) → has (all n one end).0 k ≡ true → same l k ≡ false → has P (negated k) ≡ true
    others k a s = elim ((all n one end).2.besides k a) [
      | inl i ↦ r k (has-resolved_clause S (clause_at K n) l k i s)
      | inr i ↦ q k i
    ]

    set : Refutes (l ∷ P) S
    set k a = elim (one_or_other (negated l) k) [
      | inl e ↦ has-equal l (negated k) P (ap negated (sym e) ∙ negated-negated l)
      | inr e ↦ has-tail l (negated k) P (r k (has-resolved_set S (clause_at K n) l k a e))
    ]

    apart : Apart U (l ∷ P)
    apart v a = or-none (nat_eq v l.var) (has_var P v) (false_unless (nat_eq v l.var) (λ t. true_false (has_var U l.var) (subst (λ x. has_var U x ≡ true) (eqb-true v l.var t) a) new)) (u v (or-right (nat_eq v l.var) (has_var U v) a))

-- the state of the walk behind the entries before: U are the literals on whose reasons was resolved
record Walked (T : Trail) (Q : List Literal) (there : Numbered) (f : ℕ → ℕ) (before : Trail) (S : Clause) (hints : List ℕ) (U : List Literal) : Type 0 where
  refuted : Refutes (literals T) S
  apart_set : Apart U S
  apart_rest : Apart U (literals before)
  reasons : (v : ℕ) → has_var U v ≡ true → is_given (entry_of T v) ≡ false
  ready : Ready Q there f S hints U

pub rest-apart : (before : Trail) (e : Entry) (U : List Literal) → Apart U (literals (before ++ e ∷ [])) → Apart U (literals before)
rest-apart before e U h v a = has_var-append_left (literals before) (e.lit ∷ []) v (subst (λ c. has_var c v ≡ false) (literals-at before e []) (h v a))

-- an entry on whose reason isn't resolved
Walked-pass : (T : Trail) (Q : List Literal) (there : Numbered) (f : ℕ → ℕ) (before : Trail) (e : Entry) (S : Clause) (hints : List ℕ) (U : List Literal)
    → Walked T Q there f (before ++ e ∷ []) S hints U → Walked T Q there f before S hints U
Walked-pass T Q there f before e S hints U w = record {
  refuted = w.refuted;
  apart_set = w.apart_set;
  apart_rest = rest-apart before e U w.apart_rest;
  reasons = w.reasons;
  ready = w.ready;
}

-- an entry on whose reason is resolved
Walked-resolve : (K : List Clause) (T : Trail) (R : List Literal) (Q : List Literal) (there : Numbered) (f : ℕ → ℕ) (before : Trail) (e : Entry) (es : Trail) (S : Clause) (hints : List ℕ) (U : List Literal) (n : ℕ)
    → IsLawful K T → AreThere K Q there f → T ≡ before ++ e ∷ es → reason_used T R S e ≡ Some n → Walked T Q there f (before ++ e ∷ []) S hints U
    → Walked T Q there f before (resolved S e.lit (clause_at K n)) (n ∷ hints) (e.lit ∷ U)
Walked-resolve K T R Q there f before e es S hints U n lawful all place used w = record {
  refuted = Refutes-resolved K T R before e es S n lawful place used w.refuted;
  apart_set = λ v a. has_var-none (resolved S e.lit (clause_at K n)) v (λ k b i. set_free v a k (has-from_resolved S (clause_at K n) e.lit k b) i);
  apart_rest = λ v a. rest_free v (or-cases (nat_eq v e.lit.var) (has_var U v) a);
  reasons = λ v a. given v (or-cases (nat_eq v e.lit.var) (has_var U v) a);
  ready = Ready-reason K Q there f S hints U e.lit n all reason.numbered.0 reason.numbered.1 reason.holds new w.ready;
}
  where
    at : IsAt T e
    at = at-place T before e es place

    entry : IsLawfulEntry K before e
    entry = entry-place K T before e es lawful place

    reason : IsReason K (literals before) e.lit n
    reason = (grounded-place K T R before e es S n lawful place used).1

    before_it : Refutes (literals before) (without (clause_at K n) e.lit)
    before_it = Refutes-others K (literals before) e.lit n reason

    on_trail : has (literals T) e.lit ≡ true
    on_trail = has-literals_at T e at

    new : has_var U e.lit.var ≡ false
    new = false_unless (has_var U e.lit.var) (λ t. true_false (has_var (literals (before ++ e ∷ [])) e.lit.var)
        (has_var-has (literals (before ++ e ∷ [])) e.lit (subst (λ c. has c e.lit ≡ true) (sym (literals-at before e [])) (has-append_right (literals before) (e.lit ∷ []) e.lit (has-head e.lit []))))
        (w.apart_rest e.lit.var t))

    rest_free : (v : ℕ) → (nat_eq v e.lit.var ≡ true) ⊎ (has_var U v ≡ true) → has_var (literals before) v ≡ false
    rest_free v (inl i) = subst (λ x. has_var (literals before) x ≡ false) (sym (eqb-true v e.lit.var i)) entry.is_new
    rest_free v (inr i) = rest-apart before e U w.apart_rest v i

    given : (v : ℕ) → (nat_eq v e.lit.var ≡ true) ⊎ (has_var U v ≡ true) → is_given (entry_of T v) ≡ false
    given v (inl i) =
        let found : entry_of T e.lit.var ≡ Some e = entry_of-at K T e lawful at in
        let here : is_given (entry_of T e.lit.var) ≡ false = ap is_given found ∙ no_gift (nat_eq e.level 0) e.reason (reason_used-reason T R S e n used) in
        subst (λ x. is_given (entry_of T x) ≡ false) (sym (eqb-true v e.lit.var i)) here
      where
        no_gift : (b : Bool) (r : Option ℕ) → r ≡ Some n → b && not (is_some r) ≡ false
        no_gift true (Some m) h = refl
        no_gift false (Some m) h = refl
        no_gift b None h = absurd (cc)
    given v (inr i) = w.reasons v i

    old : (v : ℕ) (k : Literal) → has S k ≡ true → same (negated e.lit) k ≡ false → k.var ≡ v → (nat_eq v e.lit.var ≡ true) ⊎ (has_var U v ≡ true) → ⊥
    old v k b s i (inl t) = elim (same_variable k e.lit (i ∙ eqb-true v e.lit.var t)) [
      | inl j ↦ literals-consistent K T e.lit lawful on_trail (subst (λ (x : Literal). has (literals T) (negated x) ≡ true) j (w.refuted k b))
      | inr j ↦ other-same (negated e.lit) k s (sym j)
    ]
    old v k b s i (inr t) = true_false (has_var S v) (subst (λ x. has_var S x ≡ true) i (has_var-has S k b)) (w.apart_set v t)

    set_free : (v : ℕ) → has_var (e.lit ∷ U) v ≡ true → (k : Literal) → ((has S k ≡ true) × (same (negated e.lit) k ≡ false)) ⊎ (has (without (clause_at K n) e.lit) k ≡ true) → k.var ≡ v → ⊥
    set_free v a k (inl b) i = old v k b.0 b.1 i (or-cases (nat_eq v e.lit.var) (has_var U v) a)
    set_free v a k (inr b) i = true_false (has_var (literals before) v)
        (subst (λ x. has_var (literals before) x ≡ true) i (has_var-has (literals before) (negated k) (before_it k b)))
        (rest_free v (or-cases (nat_eq v e.lit.var) (has_var U v) a))

-- what the walk comes to
abbrev Walks : Trail → List Literal → Numbered → (ℕ → ℕ) → Trail → Clause × List ℕ → Type 0
Walks T Q there f before w = (U : List Literal) × Walked T Q there f before w.0 w.1 U

walk-Walks : (K : List Clause) (T : Trail) (R : List Literal) (Q : List Literal) (there : Numbered) (f : ℕ → ℕ) (S : Clause) (hints : List ℕ)
    → IsLawful K T → AreThere K Q there f → Walked T Q there f T S hints [] → Walks T Q there f [] (walk K T R T S hints)
walk-Walks K T R Q there f S hints lawful all start =
    walk-all K T R (Walks T Q there f) (λ before e es w place h i. (i.0, Walked-pass T Q there f before e w.0 w.1 i.0 i.1))
    (λ before e es w n place h i. (e.lit ∷ i.0, Walked-resolve K T R Q there f before e es w.0 w.1 i.0 n lawful all place h i.1)) S hints ([], start)

-- the walk from a false clause
Walked-begin : (K : List Clause) (T : Trail) (Q : List Literal) (there : Numbered) (f : ℕ → ℕ) (n : ℕ) → AreThere K Q there f → 1 ≤ n → n ≤ length K
    → is_false (literals T) (clause_at K n) ≡ true → Walked T Q there f T (with_literals (clause_at K n) []) (n ∷ []) []
Walked-begin K T Q there f n all one end clash = record {
  refuted = Refutes-begin K T n clash;
  apart_set = λ v a. absurd (cc);
  apart_rest = λ v a. absurd (cc);
  reasons = λ v a. absurd (cc);
  ready = Ready-conflict K Q there f n all one end;
}

-- a clause without the cube's literals, and the negations of the cube, have the negation of each
-- literal in whose negation the trail is true
kept : Trail → Clause → Clause
kept T S = filter (λ l. not (is_of_cube T l)) S

refuted-kept : (K : List Clause) (T : Trail) (S : Clause) (l : Literal) → IsLawful K T → Refutes (literals T) S → has S l ≡ true → has (kept T S ++ negations (cube_of T)) l ≡ true
unfolding kept
refuted-kept K T S l lawful r a = go (is_of_cube T l) refl
  where
    go : (b : Bool) → is_of_cube T l ≡ b → has (kept T S ++ negations (cube_of T)) l ≡ true
    go false e = has-append_left (kept T S) (negations (cube_of T)) l (has-filter (λ l. not (is_of_cube T l)) S l a (ap not e))
    go true e =
        let given : has (cube_of T) (negated l) ≡ true = has-cube_of K T (negated l) lawful (r l a) e in
        let here : has (negations (cube_of T)) l ≡ true = subst (λ x. has (negations (cube_of T)) x ≡ true) (negated-negated l) (has-negations (cube_of T) (negated l) given) in
        has-append_right (kept T S) (negations (cube_of T)) l here

kept-passes : (K : List Clause) (T : Trail) (there : Numbered) (f : ℕ → ℕ) (w : Clause × List ℕ) → IsLawful K T → Walks T (cube_of T) there f [] w
    → take_hints there (negations (kept T w.0 ++ negations (cube_of T))) (map f w.1) ≡ conflicts
unfolding kept
kept-passes K T there f w lawful v = v.1.ready P
    (λ l a. Refutes-negations c l (refuted-kept K T w.0 l lawful v.1.refuted a))
    (λ l a. Refutes-negations c l (has-append_right (kept T w.0) (negations (cube_of T)) l a))
    (λ x a. has_var-none P x (λ k b i. clear x a k (has-append_cases (kept T w.0) (negations (cube_of T)) (negated k) (has-from_negations c k b)) i))
  where
    c : Clause
    c = kept T w.0 ++ negations (cube_of T)

    P : List Literal
    P = negations c

    clear : (x : ℕ) → has_var v.0 x ≡ true → (k : Literal) → (has (kept T w.0) (negated k) ≡ true) ⊎ (has (negations (cube_of T)) (negated k) ≡ true) → k.var ≡ x → ⊥
    clear x a k (inl b) i =
        let in_set = (has-from_filter (λ l. not (is_of_cube T l)) w.0 (negated k) b).0 in
        true_false (has_var w.0 x) (subst (λ y. has_var w.0 y ≡ true) i (has_var-has w.0 (negated k) in_set)) (v.1.apart_set x a)
    clear x a k (inr b) i =
        let in_cube : has (cube_of T) k ≡ true = subst (λ y. has (cube_of T) y ≡ true) (negated-negated k) (has-from_negations (cube_of T) (negated k) b) in
        let given : is_given (entry_of T k.var) ≡ true = (has-from_cube_of K T k lawful in_cube).1 in
        true_false (is_given (entry_of T x)) (subst (λ y. is_given (entry_of T y) ≡ true) i given) (v.1.reasons x a)

-- The line learnt from a false clause, with the negations of the cube, passes by its hints: over
-- any clauses that carry K's, under new numbers.
pub take_hints-learn : (R : List Literal) (K : List Clause) (T : Trail) (there : Numbered) (f : ℕ → ℕ) (n : ℕ) → IsLawful K T → AreThere K (cube_of T) there f → 1 ≤ n → n ≤ length K
    → is_false (literals T) (clause_at K n) ≡ true
    → take_hints there (negations ((learn_removing R K T n).clause ++ negations (cube_of T))) (map f (learn_removing R K T n).hints) ≡ conflicts
unfolding kept
take_hints-learn R K T there f n lawful all one end clash =
    kept-passes K T there f (walk K T R T (with_literals (clause_at K n) []) (n ∷ [])) lawful
    (walk-Walks K T R (cube_of T) there f (with_literals (clause_at K n) []) (n ∷ []) lawful all (Walked-begin K T (cube_of T) there f n all one end clash))

-- the clauses of K by their own numbers
clause_of-carrying : (n N : ℕ) (Q : List Literal) (K : List Clause) (i : ℕ) → i < length K
    → clause_of (carrying_from n N Q K) (n + i) ≡ Some (if nat_le (n + i) N then get_or K i [] else get_or K i [] ++ negations Q)
clause_of-carrying n N Q [] i h = absurd (omega arith)
clause_of-carrying n N Q (c ∷ K) zero h =
    let here : nat_eq n (n + 0) ≡ true = eq-eqb n (n + 0) (omega arith) in
    let number : n + 0 ≡ n = omega arith in
    rw here (rw number refl)
clause_of-carrying n N Q (c ∷ K) (suc i) h =
    let number : n + suc i ≡ (n + 1) + i = omega arith in
    let other : nat_eq n ((n + 1) + i) ≡ false = false_unless (nat_eq n ((n + 1) + i)) (λ t. let e : n ≡ (n + 1) + i = eqb-true n ((n + 1) + i) t in omega arith) in
    rw (number, other) (clause_of-carrying (n + 1) N Q K i (omega arith))

pub clause_of-carrying_at : (N : ℕ) (Q : List Literal) (K : List Clause) (n : ℕ) → 1 ≤ n → n ≤ length K
    → clause_of (carrying_from 1 N Q K) n ≡ Some (if nat_le n N then clause_at K n else clause_at K n ++ negations Q)
clause_of-carrying_at N Q K n one end =
    let number : 1 + (n - 1) ≡ n = omega arith in
    let same_clause : get_or K (n - 1) [] ≡ clause_at K n = sym (unwrap_or-slice_get K (n - 1) []) in
    let at : clause_of (carrying_from 1 N Q K) (1 + (n - 1)) ≡ Some (if nat_le (1 + (n - 1)) N then get_or K (n - 1) [] else get_or K (n - 1) [] ++ negations Q)
    = clause_of-carrying 1 N Q K (n - 1) (omega arith) in
    rw (number, same_clause) at at

pub AreThere-carrying : (N : ℕ) (Q : List Literal) (K : List Clause) → AreThere K Q (carrying_from 1 N Q K) (λ n. n)
AreThere-carrying N Q K n one end = go (nat_le n N) (clause_of-carrying_at N Q K n one end)
  where
    there : Numbered
    there = carrying_from 1 N Q K

    go : (b : Bool) → clause_of there n ≡ Some (if b then clause_at K n else clause_at K n ++ negations Q) → (d : Clause) × (clause_of there n ≡ Some d) × Carries Q (clause_at K n) d
    go true e = (clause_at K n, e, record { within = λ l a. a; besides = λ l a. inl a })
    go false e = (clause_at K n ++ negations Q, e, record { within = λ l a. has-append_left (clause_at K n) (negations Q) l a; besides = λ l a. has-append_cases (clause_at K n) (negations Q) l a })

pub Passes-learn : (N : ℕ) (R : List Literal) (K : List Clause) (T : Trail) (n : ℕ) → IsLawful K T → 1 ≤ n → n ≤ length K → is_false (literals T) (clause_at K n) ≡ true
    → Passes N (cube_of T) K (learn_removing R K T n)
Passes-learn N R K T n lawful one end clash =
    let moved = take_hints-learn R K T (carrying_from 1 N (cube_of T) K) (λ n. n) n lawful (AreThere-carrying N (cube_of T) K) one end clash in
    subst (λ ns. take_hints (carrying_from 1 N (cube_of T) K) (negations ((learn_removing R K T n).clause ++ negations (cube_of T))) ns ≡ conflicts) (map-id (learn_removing R K T n).hints) moved

-- the literals of a learnt clause are false on the trail
pub Refutes-learn : (R : List Literal) (K : List Clause) (T : Trail) (n : ℕ) → IsLawful K T → is_false (literals T) (clause_at K n) ≡ true → Refutes (literals T) (learn_removing R K T n).clause
Refutes-learn R K T n lawful clash l a =
    Refutes-walk K T R (with_literals (clause_at K n) []) (n ∷ []) lawful (Refutes-begin K T n clash)
    l (has-from_filter (λ l. not (is_of_cube T l)) (walk K T R T (with_literals (clause_at K n) []) (n ∷ [])).0 l a).0

-- so are the negations of the cube
pub Refutes-cube_of : (K : List Clause) (T : Trail) → IsLawful K T → Refutes (literals T) (negations (cube_of T))
Refutes-cube_of K T lawful l a = (has-from_cube_of K T (negated l) lawful (has-from_negations (cube_of T) l a)).0

pub Refutes-learn_line : (R : List Literal) (K : List Clause) (T : Trail) (n : ℕ) → IsLawful K T → is_false (literals T) (clause_at K n) ≡ true
    → Refutes (literals T) ((learn_removing R K T n).clause ++ negations (cube_of T))
Refutes-learn_line R K T n lawful clash l a = elim (has-append_cases (learn_removing R K T n).clause (negations (cube_of T)) l a) [
  | inl i ↦ Refutes-learn R K T n lawful clash l i
  | inr i ↦ Refutes-cube_of K T lawful l i
]

-- a learnt clause, with the negations of the cube too, has no variable in both signs
pub has_both_signs-learn : (R : List Literal) (K : List Clause) (T : Trail) (n : ℕ) → IsLawful K T → is_false (literals T) (clause_at K n) ≡ true
    → has_both_signs ((learn_removing R K T n).clause ++ negations (cube_of T)) ≡ false
has_both_signs-learn R K T n lawful clash = has_both_signs-refuted K T ((learn_removing R K T n).clause ++ negations (cube_of T)) lawful (Refutes-learn_line R K T n lawful clash)

pub has_both_signs-learn_clause : (R : List Literal) (K : List Clause) (T : Trail) (n : ℕ) → IsLawful K T → is_false (literals T) (clause_at K n) ≡ true → has_both_signs (learn_removing R K T n).clause ≡ false
has_both_signs-learn_clause R K T n lawful clash = has_both_signs-refuted K T (learn_removing R K T n).clause lawful (Refutes-learn R K T n lawful clash)

-- it is over the variables of the trail
pub IsVariable-learn : (V : ℕ) (R : List Literal) (K : List Clause) (T : Trail) (n : ℕ) → IsLawful K T → ((l : Literal) → has (literals T) l ≡ true → IsVariable V l.var)
    → is_false (literals T) (clause_at K n) ≡ true → (l : Literal) → has ((learn_removing R K T n).clause ++ negations (cube_of T)) l ≡ true → IsVariable V l.var
IsVariable-learn V R K T n lawful over clash l a = over (negated l) (Refutes-learn_line R K T n lawful clash l a)
