-- The clauses that hints name: where a cube's literals are held true, it is all one whether the
-- lines' clauses carry their negations.
use Rattle.std.proofs.Common.{◌≡◌, ℕ, zero, suc, ◌+◌, ◌-◌, ◌<◌, ◌≤◌, Bool, true, false, not, ◌&&◌, ◌||◌, List, [], ◌∷◌, ◌++◌, length, length-drop, length-append, take, drop, All, get_or, Option, Some, None, find, cond, nat_eq, nat_le, slice_get, if◌then◌else◌, refl, ap, sym, subst, ◌∙◌, arith, add-one, eq-eqb, ne_eqb}
use Rattle.std.specs.List.{list_all}
use Rattle.std.specs.Option.{option_or, unwrap_or}
use Rattle.std.proofs.Math.Seq.{drop-cons}
use Rattle.std.proofs.lemmas.List.{drop_all}
use Rattle.std.proofs.lemmas.List.Folds.{list_all-append, find-append}
use Rattle.std.proofs.lemmas.List.{length-map}
use Rattle.std.proofs.lemmas.Option.{slice_get_within, slice_get-get_or, get_or_from_slice_get}
use Rattle.theory.specs.Truth.{IsOver}
use Rattle.theory.specs.Pure.{unit_clauses}
use Rattle.theory.specs.Literals.{Literal, Clause, has, has_var, negated, negations, same}
use Rattle.theory.specs.Status.{is_false, others_false, is_unit_in, unit_literal}
use Rattle.theory.specs.Propagation.{clause_at}
use Rattle.theory.specs.Checking.{Numbered, clause_of, Hint, missing, false_clause, not_unit, unit_in, unit_hint, hint, Taken, conflicts, holds, fails, end_at_conflict, take_hints}
use Rattle.theory.specs.Replaying.{carrying_from}
use Rattle.theory.proofs.literals.LiteralSets.{and-true, has-tail, has-head, has_var-has, has-append_right, has-from_negations, is_false-from_Refutes}
use Rattle.theory.proofs.literals.LiteralLemmas.{or-right}
use Rattle.theory.proofs.checker.Hints.{take_on}
use Rattle.theory.proofs.checker.AcceptedSteps.{clause_of-carrying_within}
use Rattle.theory.proofs.searching.LearntLines.{clause_of-carrying_at}
use Rattle.lrat.specs.Held.{Extends}
use Rattle.lrat.proofs.SameLiterals.{AreSameTaken}
use Rattle.packs.specs.Known.{numbered, is_conflict, AreHeld}

-- a number names the clause, maybe with the negations behind it
numbered-some : (N : ℕ) (Q : List Literal) (K : List Clause) (n : ℕ) (c : Clause) → numbered K n ≡ Some c
    → clause_of (carrying_from 1 N Q K) n ≡ Some (if nat_le n N then c else c ++ negations Q)
numbered-some N Q K zero c h = absurd (cc)
numbered-some N Q K (suc n) c h =
    let less : n < length K = slice_get_within K n c h in
    let below : suc n - 1 ≡ n = omega arith in
    let here : clause_at K (suc n) ≡ c = ap (λ k. unwrap_or (slice_get K k) []) below ∙ ap (λ o. unwrap_or o []) h in
    clause_of-carrying_at N Q K (suc n) (omega arith) (omega arith) ∙ ap (λ (d : Clause). Some (if nat_le (suc n) N then d else d ++ negations Q)) here

-- or none
numbered-none : (N : ℕ) (Q : List Literal) (K : List Clause) (n : ℕ) → numbered K n ≡ None → clause_of (carrying_from 1 N Q K) n ≡ None
numbered-none N Q K n h = go (clause_of (carrying_from 1 N Q K) n) refl
  where
    absent : (m : ℕ) → numbered K m ≡ None → 1 ≤ m → m < 1 + length K → ⊥
    absent zero e low high = omega arith
    absent (suc m) e low high = let there = slice_get-get_or K m [] (omega arith) in cc

    go : (o : Option Clause) → clause_of (carrying_from 1 N Q K) n ≡ o → o ≡ None
    go None e = refl
    go (Some d) e = let within = clause_of-carrying_within 1 N Q K n d e in absurd (absent n h within.0 within.1)

-- the negations of literals that are held true are false
false-negations : (P Q : List Literal) → AreHeld Q P → is_false P (negations Q) ≡ true
false-negations P Q held = is_false-from_Refutes P (negations Q) (λ l a. held (negated l) (has-from_negations Q l a))

and-true_right : (a b : Bool) → b ≡ true → a && b ≡ a
and-true_right true b h = h
and-true_right false b h = refl

is_false-carrying : (P Q : List Literal) (c : Clause) → AreHeld Q P → is_false P (c ++ negations Q) ≡ is_false P c
is_false-carrying P Q c held =
    list_all-append (λ l. has P (negated l)) c (negations Q) ∙ and-true_right (is_false P c) (is_false P (negations Q)) (false-negations P Q held)

list_all-from : (p : Literal → Bool) (c : Clause) → ((l : Literal) → has c l ≡ true → p l ≡ true) → list_all p c ≡ true
list_all-from p [] h = refl
list_all-from p (k ∷ c) h = and-true (p k) (list_all p c) (h k (has-head k c)) (list_all-from p c (λ l a. h l (has-tail k l c a)))

others_false-carrying : (P Q : List Literal) (c : Clause) (l : Literal) → AreHeld Q P → others_false P (c ++ negations Q) l ≡ others_false P c l
others_false-carrying P Q c l held =
    list_all-append (λ k. same l k || has P (negated k)) c (negations Q)
    ∙ and-true_right (others_false P c l) (others_false P (negations Q) l)
    (list_all-from (λ k. same l k || has P (negated k)) (negations Q) (λ k a. or-right (same l k) (has P (negated k)) (held (negated k) (has-from_negations Q k a))))

find-nothing : (p : Literal → Bool) (c : Clause) → ((l : Literal) → has c l ≡ true → p l ≡ false) → find p c ≡ None
find-nothing p [] h = refl
find-nothing p (k ∷ c) h = ap (λ b. cond b (Some k) (find p c)) (h k (has-head k c)) ∙ find-nothing p c (λ l a. h l (has-tail k l c a))

or-nothing : (o p : Option Literal) → p ≡ None → option_or o p ≡ o
or-nothing None p h = h
or-nothing (Some l) p h = refl

unit_literal-carrying : (P Q : List Literal) (c : Clause) → AreHeld Q P → unit_literal P (c ++ negations Q) ≡ unit_literal P c
unit_literal-carrying P Q c held =
    ap (λ (p : Literal → Bool). find p (c ++ negations Q)) alike
    ∙ find-append (is_unit_in P c) c (negations Q)
    ∙ or-nothing (find (is_unit_in P c) c) (find (is_unit_in P c) (negations Q)) (find-nothing (is_unit_in P c) (negations Q) none)
  where
    alike : is_unit_in P (c ++ negations Q) ≡ is_unit_in P c
    alike = λ i l. not (has_var P l.var) && others_false-carrying P Q c l held i

    none : (l : Literal) → has (negations Q) l ≡ true → is_unit_in P c l ≡ false
    none l a = ap (λ b. not b && others_false P c l) (has_var-has P (negated l) (held (negated l) (has-from_negations Q l a)))

hint-carrying : (P Q : List Literal) (c : Clause) (b : Bool) → AreHeld Q P → hint P (Some (if b then c else c ++ negations Q)) ≡ hint P (Some c)
hint-carrying P Q c true held = refl
hint-carrying P Q c false held =
    ap (λ x. if x then false_clause else unit_hint (unit_literal P (c ++ negations Q))) (is_false-carrying P Q c held)
    ∙ ap (λ o. if is_false P c then false_clause else unit_hint o) (unit_literal-carrying P Q c held)

-- so the hint is what the clause itself is
hint-numbered : (N : ℕ) (P Q : List Literal) (K : List Clause) (n : ℕ) (c : Clause) → AreHeld Q P → numbered K n ≡ Some c
    → hint P (clause_of (carrying_from 1 N Q K) n) ≡ hint P (Some c)
hint-numbered N P Q K n c held h = ap (hint P) (numbered-some N Q K n c h) ∙ hint-carrying P Q c (nat_le n N) held

-- the hint at a place goes first of those that are left
take_hints-first : (C : Numbered) (P : List Literal) (hints : List ℕ) (i : ℕ) (r : Hint) → i < length hints → hint P (clause_of C (get_or hints i 0)) ≡ r
    → take_hints C P (drop i hints) ≡ take_on C P (drop (i + 1) hints) r
unfolding take_on
take_hints-first C P hints i r less h =
    let split : drop i hints ≡ get_or hints i 0 ∷ drop (i + 1) hints = rw add-one (drop-cons hints i 0 less) in
    ap (take_hints C P) split ∙ ap (take_on C P (drop (i + 1) hints)) h

-- the steps of the walk over the hints, where K are the clauses that they name
pub ends-missing : (N : ℕ) (P Q : List Literal) (K : List Clause) (hints : List ℕ) (i : ℕ) → i < length hints → None ≡ numbered K (get_or hints i 0)
    → is_conflict (take_hints (carrying_from 1 N Q K) P (drop i hints)) ≡ false
unfolding take_on
ends-missing N P Q K hints i less h =
    ap is_conflict (take_hints-first (carrying_from 1 N Q K) P hints i missing less (ap (hint P) (numbered-none N Q K (get_or hints i 0) (sym h))))

pub ends-not_unit : (N : ℕ) (P Q : List Literal) (K : List Clause) (hints : List ℕ) (i : ℕ) (c : Clause) → AreHeld Q P → i < length hints
    → Some c ≡ numbered K (get_or hints i 0) → not_unit ≡ hint P (Some c) → is_conflict (take_hints (carrying_from 1 N Q K) P (drop i hints)) ≡ false
unfolding take_on
ends-not_unit N P Q K hints i c held less h is =
    ap is_conflict (take_hints-first (carrying_from 1 N Q K) P hints i not_unit less (hint-numbered N P Q K (get_or hints i 0) c held (sym h) ∙ sym is))

pub ends-conflict : (N : ℕ) (P Q : List Literal) (K : List Clause) (hints : List ℕ) (i : ℕ) (c : Clause) → AreHeld Q P → i < length hints
    → Some c ≡ numbered K (get_or hints i 0) → false_clause ≡ hint P (Some c) → is_conflict (take_hints (carrying_from 1 N Q K) P (drop i hints)) ≡ nat_eq (i + 1) (length hints)
unfolding take_on
ends-conflict N P Q K hints i c held less h is =
    ap is_conflict (take_hints-first (carrying_from 1 N Q K) P hints i false_clause less (hint-numbered N P Q K (get_or hints i 0) c held (sym h) ∙ sym is))
    ∙ ended (drop (i + 1) hints) (length-drop (i + 1) hints)
  where
    ended : (ns : List ℕ) → length ns ≡ length hints - (i + 1) → is_conflict (end_at_conflict ns) ≡ nat_eq (i + 1) (length hints)
    ended [] e = sym (eq-eqb (i + 1) (length hints) (omega arith))
    ended (n ∷ ns) e = sym (ne_eqb (i + 1) (length hints) (λ f. omega arith))

pub goes_on : (N : ℕ) (P Q : List Literal) (K : List Clause) (hints : List ℕ) (i : ℕ) (c : Clause) (l : Literal) → AreHeld Q P → i < length hints
    → Some c ≡ numbered K (get_or hints i 0) → unit_in l ≡ hint P (Some c)
    → is_conflict (take_hints (carrying_from 1 N Q K) (l ∷ P) (drop (i + 1) hints)) ≡ is_conflict (take_hints (carrying_from 1 N Q K) P (drop i hints))
unfolding take_on
goes_on N P Q K hints i c l held less h is =
    ap is_conflict (sym (take_hints-first (carrying_from 1 N Q K) P hints i (unit_in l) less (hint-numbered N P Q K (get_or hints i 0) c held (sym h) ∙ sym is)))

pub ends-open : (C : Numbered) (P : List Literal) (hints : List ℕ) (i : ℕ) → length hints ≤ i → is_conflict (take_hints C P (drop i hints)) ≡ false
ends-open C P hints i past = ap (λ ns. is_conflict (take_hints C P ns)) (drop_all i hints past)

-- a conflict and nothing else
pub conflicts-from_is : (t : Taken) → is_conflict t ≡ true → t ≡ conflicts
conflicts-from_is conflicts h = refl
conflicts-from_is (holds P) h = absurd (cc)
conflicts-from_is (fails f) h = absurd (cc)

pub is_conflict-same : (t u : Taken) → AreSameTaken t u → is_conflict t ≡ is_conflict u
is_conflict-same conflicts u h = ap is_conflict (sym h)
is_conflict-same (holds P) u h = ap is_conflict (sym h.1)
is_conflict-same (fails f) u h = ap is_conflict (sym h)

-- more literals held true
pub AreHeld-Extends : (Q P R : List Literal) → Extends P R → AreHeld Q P → AreHeld Q R
AreHeld-Extends Q P R h held l a = subst (λ (x : List Literal). has x l ≡ true) (sym h.whole) (has-append_right h.later P l (held l a))

-- the clauses of three lists, one behind the other
slice_get-front : {X : Type 0} (xs ys : List X) (i : ℕ) → i < length xs → slice_get (xs ++ ys) i ≡ slice_get xs i
slice_get-front [] ys i h = absurd (omega arith)
slice_get-front (x ∷ xs) ys zero h = refl
slice_get-front (x ∷ xs) ys (suc i) h = slice_get-front xs ys i (omega arith)

slice_get-behind : {X : Type 0} (xs ys : List X) (i : ℕ) → length xs ≤ i → slice_get (xs ++ ys) i ≡ slice_get ys (i - length xs)
slice_get-behind [] ys i h = let e : i - 0 ≡ i = omega arith in ap (slice_get ys) (sym e)
slice_get-behind (x ∷ xs) ys zero h = absurd (omega arith)
slice_get-behind (x ∷ xs) ys (suc i) h =
    let e : suc i - suc (length xs) ≡ i - length xs = omega arith in slice_get-behind xs ys i (omega arith) ∙ ap (slice_get ys) (sym e)

pub numbered-from : (K : List Clause) (n : ℕ) → 1 ≤ n → numbered K n ≡ slice_get K (n - 1)
numbered-from K zero h = absurd (omega arith)
numbered-from K (suc n) h = let e : suc n - 1 ≡ n = omega arith in ap (slice_get K) (sym e)

pub numbered-first : (A B C : List Clause) (n i : ℕ) → 1 ≤ n → i ≡ n - 1 → i < length A → numbered ((A ++ B) ++ C) n ≡ slice_get A i
numbered-first A B C n i some e h =
    let long : length (A ++ B) ≡ length A + length B = length-append A B in
    numbered-from ((A ++ B) ++ C) n some
    ∙ (ap (slice_get ((A ++ B) ++ C)) (sym e) ∙ (slice_get-front (A ++ B) C i (omega arith) ∙ slice_get-front A B i h))

pub numbered-second : (A B C : List Clause) (n i : ℕ) → 1 ≤ n → i + length A ≡ n - 1 → i < length B → numbered ((A ++ B) ++ C) n ≡ slice_get B i
numbered-second A B C n i some e h =
    let long : length (A ++ B) ≡ length A + length B = length-append A B in
    let back : i + length A - length A ≡ i = omega arith in
    numbered-from ((A ++ B) ++ C) n some
    ∙ (ap (slice_get ((A ++ B) ++ C)) (sym e)
    ∙ (slice_get-front (A ++ B) C (i + length A) (omega arith) ∙ (slice_get-behind A B (i + length A) (omega arith) ∙ ap (slice_get B) back)))

pub numbered-third : (A B C : List Clause) (n i : ℕ) → 1 ≤ n → i + length B + length A ≡ n - 1 → numbered ((A ++ B) ++ C) n ≡ slice_get C i
numbered-third A B C n i some e =
    let long : length (A ++ B) ≡ length A + length B = length-append A B in
    let back : i + length B + length A - length (A ++ B) ≡ i = omega arith in
    numbered-from ((A ++ B) ++ C) n some
    ∙ (ap (slice_get ((A ++ B) ++ C)) (sym e) ∙ (slice_get-behind (A ++ B) C (i + length B + length A) (omega arith) ∙ ap (slice_get C) back))

-- the clause of one literal
pub unit-range : (us : List Literal) (i : ℕ) → i < length us → slice_get (unit_clauses us) i ≡ Some (take (i + 1 - i) (drop i us))
unit-range [] i h = absurd (omega arith)
unit-range (u ∷ us) zero h = let one : 0 + 1 - 0 ≡ suc zero = omega arith in ap (λ n. Some (take n (u ∷ us))) (sym one)
unit-range (u ∷ us) (suc i) h =
    let same : i + 1 - i ≡ suc i + 1 - suc i = omega arith in unit-range us i (omega arith) ∙ ap (λ n. Some (take n (drop i us))) same

pub length-units : (us : List Literal) → length (unit_clauses us) ≡ length us
length-units us = length-map us (λ l. l ∷ [])

pub over-at : (V : ℕ) (K : List Clause) (i : ℕ) (c : Clause) → All (IsOver V) K → slice_get K i ≡ Some c → IsOver V c
over-at V K i c all h = subst (IsOver V) (get_or_from_slice_get K i c c h) (all i c (slice_get_within K i c h))
