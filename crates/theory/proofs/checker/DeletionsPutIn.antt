-- An accepted list of steps is accepted with a deletion put in, of clauses that no later step
-- names.
use Rattle.std.proofs.Common.{◌≡◌, ℕ, ◌+◌, ◌<◌, ◌≤◌, Bool, true, false, not, List, [], ◌∷◌, ◌++◌, length, refl, ap, sym, subst, ◌∙◌, nat_eq, eqb-true, eq-eqb, Option, Some, None, is_some, cond, arith, if◌then◌else◌}
use Rattle.std.specs.List.{list_any}
use Rattle.theory.specs.Literals.{Clause}
use Rattle.theory.specs.Truth.{Formula}
use Rattle.theory.specs.Steps.{Addition, Deletion, Step, add, delete}
use Rattle.theory.specs.Checking.{Fault, Numbered, numbered_from, clause_of, without_number, addition_fault, addition_test, deletion_test, deleted, Checker, added, Tested, leaves, faulty, test, Checked, accepted, refused, check_from, checks}
use Rattle.theory.specs.Deletions.{is_among, names, without_numbers, clauses_after, AreDeletable}
use Rattle.theory.proofs.literals.LiteralLemmas.{or-left, or-right}
use Rattle.theory.proofs.literals.LiteralSets.{false_unless, or-false_left, or-false_right}
use Rattle.theory.proofs.checker.AcceptedSteps.{Leads, Leads-none, Leads-one, Leads-then, addition-rises}
use Rattle.theory.proofs.checker.Soundness.{without_number-at}
use Rattle.theory.proofs.checker.FewerClauses.{addition_fault-without, deleted-without, deleted-there, deleted-without_numbers}

-- what a step without a fault leaves
add-leaves : (s t : Checker) (a : Addition) (r : Option Fault) → addition_test s a r ≡ leaves t → (r ≡ None) × (added s a ≡ t)
add-leaves s t a None h = (refl, cc)
add-leaves s t a (Some f) h = absurd (cc)

delete-leaves : (s t : Checker) (r : Option Numbered) → deletion_test s r ≡ leaves t → (L : Numbered) × (r ≡ Some L) × (record s { clauses = L } ≡ t)
delete-leaves s t None h = absurd (cc)
delete-leaves s t (Some L) h = (L, refl, cc)

-- the state without the clause of a number
abbrev lacking : Checker → ℕ → Checker
lacking s n = record s { clauses = without_number s.clauses n }

-- a step that doesn't name it leaves the same, without it
added-lacking : (s : Checker) (a : Addition) (n : ℕ) → nat_eq a.id n ≡ false → added (lacking s n) a ≡ lacking (added s a) n
added-lacking s a n h =
    sym (ap (λ b. record (added s a) { clauses = cond (not b) ((a.id, a.clause) ∷ without_number s.clauses n) (without_number s.clauses n) }) h)

test-lacking : (V n : ℕ) (s t : Checker) (step : Step) → test V s step ≡ leaves t → names n step ≡ false → n ≤ s.last
    → (test V (lacking s n) step ≡ leaves (lacking t n)) × (n ≤ t.last)
test-lacking V n s t (add a) h unnamed low =
    let left = add-leaves s t a (addition_fault V s.last s.clauses a) h in
    let rises = addition-rises V s.last s.clauses a left.0 in
    let other : nat_eq a.id n ≡ false = false_unless (nat_eq a.id n) (λ e. let same : a.id ≡ n = eqb-true a.id n e in omega arith) in
    let last : a.id ≡ t.last = ap (λ (u : Checker). u.last) left.1 in (
      ap (addition_test (lacking s n) a) (addition_fault-without V s.last s.clauses n a unnamed left.0)
          ∙ (ap leaves (added-lacking s a n other) ∙ ap (λ (u : Checker). leaves (lacking u n)) left.1),
      omega arith,
    )
test-lacking V n s t (delete d) h unnamed low =
    let left = delete-leaves s t (deleted s.clauses d.ids) h in
    let last : s.last ≡ t.last = ap (λ (u : Checker). u.last) left.2 in (
      ap (deletion_test (lacking s n)) (deleted-without s.clauses left.0 n d.ids unnamed left.1) ∙ ap (λ (u : Checker). leaves (lacking u n)) left.2,
      omega arith,
    )

on_test : ℕ → ℕ → List Step → Tested → Checked
on_test V n rest r = elim r [ leaves t ↦ check_from V (n + 1) t rest | faulty f ↦ refused f n ]

-- accepted steps that don't name it are accepted without it
accepted-lacking : (V n k m : ℕ) (s : Checker) (steps : List Step) → n ≤ s.last → list_any (names n) steps ≡ false
    → check_from V k s steps ≡ accepted → check_from V m (lacking s n) steps ≡ accepted
unfolding on_test
accepted-lacking V n k m s [] low unnamed h = h
accepted-lacking V n k m s (step ∷ steps) low unnamed h =
    go (test V s step) refl h (λ t. accepted-lacking V n (k + 1) (m + 1) t steps)
  where
    go : (r : Tested) → test V s step ≡ r → on_test V k steps r ≡ accepted
        → ((t : Checker) → n ≤ t.last → list_any (names n) steps ≡ false → check_from V (k + 1) t steps ≡ accepted → check_from V (m + 1) (lacking t n) steps ≡ accepted)
        → check_from V m (lacking s n) (step ∷ steps) ≡ accepted
    go (leaves t) q e more =
        let next = test-lacking V n s t step q (or-false_left (names n step) (list_any (names n) steps) unnamed) low in
        ap (on_test V m steps) next.0 ∙ more t next.1 (or-false_right (names n step) (list_any (names n) steps) unnamed) e
    go (faulty f) q e more = absurd (cc)

-- the number of the first step matters to faults alone
accepted-from : (V k m : ℕ) (s : Checker) (steps : List Step) → check_from V k s steps ≡ accepted → check_from V m s steps ≡ accepted
unfolding on_test
accepted-from V k m s [] h = h
accepted-from V k m s (step ∷ steps) h = go (test V s step) h (λ t. accepted-from V (k + 1) (m + 1) t steps)
  where
    go : (r : Tested) → on_test V k steps r ≡ accepted → ((t : Checker) → check_from V (k + 1) t steps ≡ accepted → check_from V (m + 1) t steps ≡ accepted)
        → on_test V m steps r ≡ accepted
    go (leaves t) e more = more t e
    go (faulty f) e more = absurd (cc)

-- and without several
accepted-without : (V k m : ℕ) (s : Checker) (ns : List ℕ) (steps : List Step) → ((n : ℕ) → is_among n ns ≡ true → (n ≤ s.last) × (list_any (names n) steps ≡ false))
    → check_from V k s steps ≡ accepted → check_from V m (record s { clauses = without_numbers s.clauses ns }) steps ≡ accepted
accepted-without V k m s [] steps within h = accepted-from V k m s steps h
accepted-without V k m s (n ∷ ns) steps within h =
    let first = within n (or-left (nat_eq n n) (is_among n ns) (eq-eqb n n refl)) in
    accepted-without V k m (lacking s n) ns steps (λ i a. within i (or-right (nat_eq i n) (is_among i ns) a)) (accepted-lacking V n k k s steps first.0 first.1 h)

-- each clause that is there has a number given away already
AreUpTo : ℕ → Numbered → Type 0
AreUpTo last K = (n : ℕ) (c : Clause) → clause_of K n ≡ Some c → n ≤ last

AreUpTo-added : (s : Checker) (a : Addition) → s.last < a.id → AreUpTo s.last s.clauses → AreUpTo a.id ((a.id, a.clause) ∷ s.clauses)
unfolding AreUpTo
AreUpTo-added s a rises h n c e = go (nat_eq a.id n) refl e
  where
    go : (b : Bool) → nat_eq a.id n ≡ b → (if b then Some a.clause else clause_of s.clauses n) ≡ Some c → n ≤ a.id
    go true q k = let same : a.id ≡ n = eqb-true a.id n q in omega arith
    go false q k = let low : n ≤ s.last = h n c k in omega arith

AreUpTo-without : (last : ℕ) (K : Numbered) (ns : List ℕ) → AreUpTo last K → AreUpTo last (without_numbers K ns)
unfolding AreUpTo
AreUpTo-without last K [] h = h
AreUpTo-without last K (n ∷ ns) h = AreUpTo-without last (without_number K n) ns (λ k c e. h k c (without_number-at K n k c e).0)

AreUpTo-numbered : (n last : ℕ) (K : List Clause) → n + length K ≡ last + 1 → AreUpTo last (numbered_from n K)
unfolding AreUpTo
AreUpTo-numbered n last [] h k c e = absurd (cc)
AreUpTo-numbered n last (d ∷ K) h k c e = go (nat_eq n k) refl e (AreUpTo-numbered (n + 1) last K (omega arith) k c)
  where
    go : (b : Bool) → nat_eq n k ≡ b → (if b then Some d else clause_of (numbered_from (n + 1) K) k) ≡ Some c
        → (clause_of (numbered_from (n + 1) K) k ≡ Some c → k ≤ last) → k ≤ last
    go true q r more = let same : n ≡ k = eqb-true n k q in omega arith
    go false q r more = more r

-- what the first steps of an accepted list leave
record Led (V : ℕ) (s : Checker) (steps : List Step) : Type 0 where
  state : Checker
  leads : Leads V s steps state
  clauses : state.clauses ≡ clauses_after s.clauses steps
  bounded : AreUpTo state.last state.clauses

-- by one step
led-step : (V : ℕ) (s t : Checker) (step : Step) (steps : List Step) → test V s step ≡ leaves t → AreUpTo s.last s.clauses
    → (clauses_after t.clauses steps ≡ clauses_after s.clauses (step ∷ steps)) × AreUpTo t.last t.clauses
led-step V s t (add a) steps h bounded =
    let left = add-leaves s t a (addition_fault V s.last s.clauses a) h in (
      ap (λ (u : Checker). clauses_after u.clauses steps) (sym left.1),
      subst (λ (u : Checker). AreUpTo u.last u.clauses) left.1 (AreUpTo-added s a (addition-rises V s.last s.clauses a left.0) bounded),
    )
led-step V s t (delete d) steps h bounded =
    let left = delete-leaves s t (deleted s.clauses d.ids) h in
    let one = deleted-without_numbers s.clauses left.0 d.ids left.1 in (
      ap (λ (u : Checker). clauses_after u.clauses steps) (sym left.2) ∙ ap (λ L. clauses_after L steps) one,
      subst (λ (u : Checker). AreUpTo u.last u.clauses) left.2 (subst (AreUpTo s.last) (sym one) (AreUpTo-without s.last s.clauses d.ids bounded)),
    )

accepted-led : (V k : ℕ) (s : Checker) (before behind : List Step) → AreUpTo s.last s.clauses → check_from V k s (before ++ behind) ≡ accepted → Led V s before
unfolding on_test
accepted-led V k s [] behind bounded h = record { state = s; leads = Leads-none V s; clauses = refl; bounded = bounded }
accepted-led V k s (step ∷ before) behind bounded h = go (test V s step) refl h (λ t. accepted-led V (k + 1) t before behind)
  where
    go : (r : Tested) → test V s step ≡ r → on_test V k (before ++ behind) r ≡ accepted
        → ((t : Checker) → AreUpTo t.last t.clauses → check_from V (k + 1) t (before ++ behind) ≡ accepted → Led V t before) → Led V s (step ∷ before)
    go (leaves t) q e more =
        let one = led-step V s t step before q bounded in
        let rest = more t one.1 e in
        record {
          state = rest.state;
          leads = Leads-then V s t rest.state (step ∷ []) before (Leads-one V s t step q) rest.leads;
          clauses = rest.clauses ∙ one.0;
          bounded = rest.bounded;
        }
    go (faulty f) q e more = absurd (cc)

some-clause : (o : Option Clause) → is_some o ≡ true → (c : Clause) × (o ≡ Some c)
some-clause None h = absurd (cc)
some-clause (Some c) h = (c, refl)

-- Accepted steps are accepted with the deletion put in.
pub checks-deletion : (F : Formula) (before behind : List Step) (d : Deletion) → checks F (before ++ behind) ≡ accepted → AreDeletable F before behind d.ids
    → checks F (before ++ delete d ∷ behind) ≡ accepted
unfolding AreUpTo on_test
checks-deletion F before behind d h can =
    led.leads 1 (delete d ∷ behind)
    ∙ (ap (λ o. on_test F.vars (1 + length before) behind (deletion_test led.state o)) (deleted-there led.state.clauses d.ids can.distinct there)
    ∙ accepted-without F.vars (1 + length before) (1 + length before + 1) led.state d.ids behind within (sym (led.leads 1 behind) ∙ h))
  where
    start : Checker
    start = record { clauses = numbered_from 1 F.clauses; last = length F.clauses; empty = false }

    led : Led F.vars start before
    led = accepted-led F.vars 1 start before behind (AreUpTo-numbered 1 (length F.clauses) F.clauses (omega arith)) h

    there : (n : ℕ) → is_among n d.ids ≡ true → is_some (clause_of led.state.clauses n) ≡ true
    there n a = ap (λ K. is_some (clause_of K n)) led.clauses ∙ can.there n a

    within : (n : ℕ) → is_among n d.ids ≡ true → (n ≤ led.state.last) × (list_any (names n) behind ≡ false)
    within n a = let c = some-clause (clause_of led.state.clauses n) (there n a) in (led.bounded n c.0 c.1, can.unnamed n a)
