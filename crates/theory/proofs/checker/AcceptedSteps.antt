-- Steps that the checker accepts one after the other.
use Rattle.std.proofs.Common.{◌≡◌, ℕ, ◌+◌, ◌-◌, ◌<◌, ◌≤◌, Bool, true, false, not, ◌&&◌, List, [], ◌∷◌, ◌++◌, map, length, refl, ap, sym, ◌∙◌, nat_eq, nat_le, eqb-true, eq-eqb, le-leb, leb-true, leb-false, ◌||◌, ◌⊎◌, inl, inr, subst, Option, Some, None, is_some, get_or, append_assoc, append-nil, length-append, arith, if◌then◌else◌}
use Rattle.std.specs.List.{list_any}
use Rattle.std.proofs.lemmas.List.{get_or_at}
use Rattle.std.proofs.lemmas.Option.{unwrap_or-slice_get}
use Rattle.theory.specs.Literals.{Literal, Clause, negations, has_both_signs}
use Rattle.theory.specs.Propagation.{clause_at}
use Rattle.theory.specs.Learning.{Line}
use Rattle.theory.specs.Forgetting.{forgotten}
use Rattle.theory.specs.Steps.{Addition, Step, add, delete}
use Rattle.theory.specs.Checking.{id_not_rising, literal_out_of_range, both_signs, Numbered, clause_of, take_hints, conflicts, hints_fault, addition_fault, addition_test, deletion_test, Checker, added, Tested, leaves, faulty, test, Checked, refused, check_from}
use Rattle.theory.specs.Rup.{is_conflict, passes_by_hints, are_by_hints}
use Rattle.theory.specs.Replaying.{carrying_from, IsReplayed, AreReplayed, AreForgetting}
use Rattle.theory.specs.Deletions.{is_among, are_different, without_numbers}
use Rattle.theory.specs.Proofs.{renumbered, forget_steps, leaf_steps, forgotten_by}
use Rattle.std.proofs.lemmas.List.Folds.{list_any-append}
use Rattle.theory.proofs.literals.LiteralLemmas.{and-left, and-right, or-cases, or-left, or-right, not_true}
use Rattle.theory.proofs.literals.LiteralSets.{true_false, false_unless, and-true, or-false_left, or-false_right, list_any-none}
use Rattle.theory.proofs.trails.LawfulTrails.{clause_at-append}
use Rattle.theory.proofs.checker.LeftHints.{take_hints-left, AreConsistent-negations}
use Rattle.theory.proofs.checker.FewerClauses.{take_hints-without_numbers, clause_of-without_numbers, clause_of-gone, deleted-there}
use Rattle.theory.proofs.searching.LearntLines.{clause_of-carrying_at}
use Rattle.theory.proofs.literals.OverVariables.{AreOver, AreOver-from_IsOver}

-- from the state s on the steps are accepted, and leave the state t
abbrev pub Leads : ℕ → Checker → List Step → Checker → Type 0
Leads V s steps t = (n : ℕ) (rest : List Step) → check_from V n s (steps ++ rest) ≡ check_from V (n + length steps) t rest

pub Leads-none : (V : ℕ) (s : Checker) → Leads V s [] s
Leads-none V s n rest = let number : n ≡ n + 0 = omega arith in ap (λ k. check_from V k s rest) number

on_test : ℕ → ℕ → List Step → Tested → Checked
on_test V n rest r = elim r [ leaves t ↦ check_from V (n + 1) t rest | faulty f ↦ refused f n ]

pub Leads-one : (V : ℕ) (s t : Checker) (step : Step) → test V s step ≡ leaves t → Leads V s (step ∷ []) t
unfolding on_test
Leads-one V s t step h n rest = ap (on_test V n rest) h

pub Leads-then : (V : ℕ) (s t u : Checker) (xs ys : List Step) → Leads V s xs t → Leads V t ys u → Leads V s (xs ++ ys) u
Leads-then V s t u xs ys h k n rest =
    let joined : check_from V n s ((xs ++ ys) ++ rest) ≡ check_from V n s (xs ++ (ys ++ rest)) = ap (check_from V n s) (append_assoc xs ys rest) in
    let lengths : length (xs ++ ys) ≡ length xs + length ys = length-append xs ys in
    let number : n + length xs + length ys ≡ n + length (xs ++ ys) = omega arith in
    joined ∙ (h n (ys ++ rest) ∙ (k (n + length xs) rest ∙ ap (λ m. check_from V m u rest) number))

-- an addition whose hints alone lead to a conflict
pub addition_fault-none : (V last : ℕ) (there : Numbered) (id : ℕ) (c : Clause) (hints : List ℕ) → last < id → AreOver V c → has_both_signs c ≡ false
    → take_hints there (negations c) hints ≡ conflicts → addition_fault V last there (record { id = id; clause = c; hints = hints; groups = [] }) ≡ None
addition_fault-none V last there id c hints rises over sign h =
    let new : nat_le id last ≡ false = false_unless (nat_le id last) (λ t. let l : id ≤ last = leb-true id last t in omega arith) in
    let within : list_any (λ l. not (nat_le l.var V)) c ≡ false = list_any-none (λ l. not (nat_le l.var V)) c (λ l a. ap not (le-leb l.var V (over l a).1)) in
    first (nat_le id last) (list_any (λ l. not (nat_le l.var V)) c) (has_both_signs c) new within sign
  where
    a : Addition
    a = record { id = id; clause = c; hints = hints; groups = [] }

    first : (x y z : Bool) → x ≡ false → y ≡ false → z ≡ false
        → (if x then Some id_not_rising else if y then Some literal_out_of_range else if z then Some both_signs else hints_fault there a (take_hints there (negations c) hints)) ≡ None
    first false false false p q r = ap (hints_fault there a) h
    first true y z p q r = absurd (cc)
    first false true z p q r = absurd (cc)
    first false false true p q r = absurd (cc)

-- and one without a fault has a number above all given away
pub addition-rises : (V last : ℕ) (there : Numbered) (a : Addition) → addition_fault V last there a ≡ None → last < a.id
addition-rises V last there a h = go (nat_le a.id last) refl h
  where
    go : (b : Bool) → nat_le a.id last ≡ b
        → (if b then Some id_not_rising else if list_any (λ l. not (nat_le l.var V)) a.clause then Some literal_out_of_range else if has_both_signs a.clause then Some both_signs
        else hints_fault there a (take_hints there (negations a.clause) a.hints)) ≡ None → last < a.id
    go true e k = absurd (cc)
    go false e k = leb-false a.id last e

pub Leads-add : (V : ℕ) (s : Checker) (a : Addition) → addition_fault V s.last s.clauses a ≡ None → Leads V s (add a ∷ []) (added s a)
Leads-add V s a h = Leads-one V s (added s a) (add a) (ap (addition_test s a) h)

-- the same steps, each addition by its hints alone
abbrev pub ByHints : ℕ → Checker → List Step → Checker → Type 0
ByHints V s steps t = (rest : List Step) → are_by_hints V s (steps ++ rest) ≡ are_by_hints V t rest

-- from the state s on the steps are accepted by their hints alone, and leave the state t
abbrev pub Follows : ℕ → Checker → List Step → Checker → Type 0
Follows V s steps t = Leads V s steps t × ByHints V s steps t

pub Follows-none : (V : ℕ) (s : Checker) → Follows V s [] s
Follows-none V s = (Leads-none V s, λ rest. refl)

by_test : ℕ → List Step → Tested → Bool
by_test V rest r = elim r [ leaves t ↦ are_by_hints V t rest | faulty f ↦ false ]

pub Follows-one : (V : ℕ) (s t : Checker) (step : Step) → test V s step ≡ leaves t → passes_by_hints s step ≡ true → Follows V s (step ∷ []) t
unfolding by_test
Follows-one V s t step h p = (Leads-one V s t step h, λ rest. ap (λ b. b && by_test V rest (test V s step)) p ∙ ap (by_test V rest) h)

pub Follows-then : (V : ℕ) (s t u : Checker) (xs ys : List Step) → Follows V s xs t → Follows V t ys u → Follows V s (xs ++ ys) u
Follows-then V s t u xs ys h k =
    (Leads-then V s t u xs ys h.0 k.0, λ rest. ap (are_by_hints V s) (append_assoc xs ys rest) ∙ (h.1 (ys ++ rest) ∙ k.1 rest))

pub Follows-add : (V : ℕ) (s : Checker) (a : Addition) → addition_fault V s.last s.clauses a ≡ None → take_hints s.clauses (negations a.clause) a.hints ≡ conflicts → Follows V s (add a ∷ []) (added s a)
Follows-add V s a h k = Follows-one V s (added s a) (add a) (ap (addition_test s a) h) (ap is_conflict k)

-- which numbers the clauses have
pub clause_of-carrying_within : (n N : ℕ) (Q : List Literal) (K : List Clause) (m : ℕ) (d : Clause) → clause_of (carrying_from n N Q K) m ≡ Some d → (n ≤ m) × (m < n + length K)
clause_of-carrying_within n N Q [] m d h = absurd (cc)
clause_of-carrying_within n N Q (c ∷ K) m d h = go (nat_eq n m) refl h (clause_of-carrying_within (n + 1) N Q K m d)
  where
    go : (b : Bool) → nat_eq n m ≡ b → (if b then Some (if nat_le n N then c else c ++ negations Q) else clause_of (carrying_from (n + 1) N Q K) m) ≡ Some d
        → (clause_of (carrying_from (n + 1) N Q K) m ≡ Some d → (n + 1 ≤ m) × (m < n + 1 + length K)) → (n ≤ m) × (m < n + length (c ∷ K))
    go true e k more = let number : n ≡ m = eqb-true n m e in (omega arith, omega arith)
    go false e k more = let low = (more k).0 in let high = (more k).1 in (omega arith, omega arith)

-- each clause of K that isn't gone stands in the checker, under the number that f gives it; but of
-- those up to N forgotten ones needn't
abbrev pub AreMoved : ℕ → (ℕ → ℕ) → List ℕ → List Literal → List Clause → Numbered → Type 0
AreMoved N f gone Q K here = (n : ℕ) → 1 ≤ n → n ≤ length K → is_among n gone ≡ false
    → (clause_of here (f n) ≡ Some (if nat_le n N then clause_at K n else clause_at K n ++ negations Q)) ⊎ ((n ≤ N) × (clause_at K n ≡ forgotten))

pub Passes-moved : (V N : ℕ) (f : ℕ → ℕ) (gone : List ℕ) (Q : List Literal) (K : List Clause) (here : Numbered) (line : Line) → AreMoved N f gone Q K here
    → ((k : ℕ) → is_among k gone ≡ true → is_among k line.hints ≡ false) → IsReplayed V N Q K line → take_hints here (negations (line.clause ++ negations Q)) (map f line.hints) ≡ conflicts
Passes-moved V N f gone Q K here line moved clear h =
    take_hints-left (without_numbers all gone) here f P line.hints (AreConsistent-negations (line.clause ++ negations Q) h.one_sign) at (take_hints-without_numbers all gone P line.hints clear ∙ h.passes)
  where
    all : Numbered
    all = carrying_from 1 N Q K

    P : List Literal
    P = negations (line.clause ++ negations Q)

    at : (n : ℕ) (d : Clause) → clause_of (without_numbers all gone) n ≡ Some d → (clause_of here (f n) ≡ Some d) ⊎ (d ≡ forgotten)
    at n d e = go (is_among n gone) refl
      where
        go : (b : Bool) → is_among n gone ≡ b → (clause_of here (f n) ≡ Some d) ⊎ (d ≡ forgotten)
        go true a = absurd (let none = clause_of-gone all gone n a in cc)
        go false a = on (moved n low end a)
          where
            there : clause_of all n ≡ Some d
            there = sym (clause_of-without_numbers all gone n a) ∙ e

            low : 1 ≤ n
            low = (clause_of-carrying_within 1 N Q K n d there).0

            end : n ≤ length K
            end = let high = (clause_of-carrying_within 1 N Q K n d there).1 in omega arith

            it : Some (if nat_le n N then clause_at K n else clause_at K n ++ negations Q) ≡ Some d
            it = sym (clause_of-carrying_at N Q K n low end) ∙ there

            on : (clause_of here (f n) ≡ Some (if nat_le n N then clause_at K n else clause_at K n ++ negations Q)) ⊎ ((n ≤ N) × (clause_at K n ≡ forgotten)) → (clause_of here (f n) ≡ Some d) ⊎ (d ≡ forgotten)
            on (inl at) = inl (at ∙ it)
            on (inr lost) = inr (
                let first : (if nat_le n N then clause_at K n else clause_at K n ++ negations Q) ≡ clause_at K n = ap (λ b. if b then clause_at K n else clause_at K n ++ negations Q) (le-leb n N lost.0) in
                let same : (if nat_le n N then clause_at K n else clause_at K n ++ negations Q) ≡ d = (let joined = it in cc) in
                sym same ∙ (first ∙ lost.1))

-- renumbering
renumbered-low : (N first m : ℕ) → m ≤ N → renumbered N first m ≡ m
renumbered-low N first m h = let low : nat_le m N ≡ true = le-leb m N h in rw low refl

pub renumbered-high : (N first m : ℕ) → N < m → renumbered N first m ≡ first + (m - N - 1)
renumbered-high N first m h = let high : nat_le m N ≡ false = false_unless (nat_le m N) (λ t. let l : m ≤ N = leb-true m N t in omega arith) in rw high refl

renumbered-below : (N first m n k : ℕ) → m ≤ k → N ≤ k → N < first → first + k ≡ n + N → renumbered N first m < n
renumbered-below N first m n k end long low e = go (nat_le m N) refl
  where
    go : (b : Bool) → nat_le m N ≡ b → renumbered N first m < n
    go true t = let l : m ≤ N = leb-true m N t in let r = renumbered-low N first m l in omega arith
    go false t = let l : N < m = leb-false m N t in let r = renumbered-high N first m l in omega arith

pub clause_at-push : (K : List Clause) (c : Clause) → clause_at (K ++ c ∷ []) (length K + 1) ≡ c
clause_at-push K c =
    let place : length K + 1 - 1 ≡ length K = omega arith in
    unwrap_or-slice_get (K ++ c ∷ []) (length K + 1 - 1) [] ∙ (ap (λ i. get_or (K ++ c ∷ []) i []) place ∙ get_or_at K c [] [] (length K) refl)

-- one more line
AreMoved-push : (N first n : ℕ) (gone : List ℕ) (Q : List Literal) (K : List Clause) (c : Clause) (here : Numbered) → N ≤ length K → N < first → first + length K ≡ n + N
    → AreMoved N (renumbered N first) gone Q K here → AreMoved N (renumbered N first) gone Q (K ++ c ∷ []) ((n, c ++ negations Q) ∷ here)
AreMoved-push N first n gone Q K c here long low e moved m one end not_gone = go (nat_le m (length K)) refl
  where
    longer : length (K ++ c ∷ []) ≡ length K + 1
    longer = length-append K (c ∷ [])

    wanted : Clause → Option Clause
    wanted d = Some (if nat_le m N then d else d ++ negations Q)

    Claim : Type 0
    Claim = (clause_of ((n, c ++ negations Q) ∷ here) (renumbered N first m) ≡ wanted (clause_at (K ++ c ∷ []) m)) ⊎ ((m ≤ N) × (clause_at (K ++ c ∷ []) m ≡ forgotten))

    old : m ≤ length K → Claim
    old h =
        let below : renumbered N first m < n = renumbered-below N first m n (length K) h long low e in
        let other : nat_eq n (renumbered N first m) ≡ false = false_unless (nat_eq n (renumbered N first m)) (λ t. let q : n ≡ renumbered N first m = eqb-true n (renumbered N first m) t in omega arith) in
        let here_too : clause_of ((n, c ++ negations Q) ∷ here) (renumbered N first m) ≡ clause_of here (renumbered N first m)
        = ap (λ b. if b then Some (c ++ negations Q) else clause_of here (renumbered N first m)) other in
        let at : clause_at (K ++ c ∷ []) m ≡ clause_at K m = clause_at-append K (c ∷ []) m one h in
        elim (moved m one h not_gone) [
          | inl there ↦ inl (here_too ∙ (there ∙ ap wanted (sym at)))
          | inr lost ↦ inr (lost.0, at ∙ lost.1)
        ]

    new : length K < m → Claim
    new h =
        let number : m ≡ length K + 1 = omega (arith, longer) in
        let r : renumbered N first m ≡ first + (m - N - 1) = renumbered-high N first m (omega arith) in
        let it : nat_eq n (renumbered N first m) ≡ true = eq-eqb n (renumbered N first m) (omega arith) in
        let high : nat_le m N ≡ false = false_unless (nat_le m N) (λ t. let l : m ≤ N = leb-true m N t in omega arith) in
        let left : clause_of ((n, c ++ negations Q) ∷ here) (renumbered N first m) ≡ Some (c ++ negations Q)
        = ap (λ b. if b then Some (c ++ negations Q) else clause_of here (renumbered N first m)) it in
        let last : clause_at (K ++ c ∷ []) m ≡ c = ap (clause_at (K ++ c ∷ [])) number ∙ clause_at-push K c in
        let right : wanted (clause_at (K ++ c ∷ []) m) ≡ Some (c ++ negations Q) = ap wanted last ∙ ap (λ b. Some (if b then c else c ++ negations Q)) high in
        inl (left ∙ sym right)

    go : (b : Bool) → nat_le m (length K) ≡ b → Claim
    go true t = old (leb-true m (length K) t)
    go false t = new (leb-false m (length K) t)

-- a deletion of clauses that are there, each once
pub Leads-forget : (V : ℕ) (s : Checker) (n : ℕ) (ns : List ℕ) → are_different ns ≡ true → ((k : ℕ) → is_among k ns ≡ true → is_some (clause_of s.clauses k) ≡ true)
    → Follows V s (forget_steps n ns) (record s { clauses = without_numbers s.clauses ns })
Leads-forget V s n [] distinct there = Follows-none V s
Leads-forget V s n (i ∷ ns) distinct there =
    Follows-one V s (record s { clauses = without_numbers s.clauses (i ∷ ns) }) (delete (record { id = n; ids = i ∷ ns })) (ap (deletion_test s) (deleted-there s.clauses (i ∷ ns) distinct there)) refl

-- numbers keep apart where they are renumbered
renumbered-same : (N first k m : ℕ) → N < first → renumbered N first k ≡ renumbered N first m → k ≡ m
renumbered-same N first k m low h = go (nat_le k N) refl (nat_le m N) refl
  where
    go : (b : Bool) → nat_le k N ≡ b → (d : Bool) → nat_le m N ≡ d → k ≡ m
    go true p true q = sym (renumbered-low N first k (leb-true k N p)) ∙ (h ∙ renumbered-low N first m (leb-true m N q))
    go true p false q =
        let a : k ≤ N = leb-true k N p in
        let b : N < m = leb-false m N q in
        let c = renumbered-low N first k a in
        let d = renumbered-high N first m b in
        absurd (omega (arith, a, b, c, d, h, low))
    go false p true q =
        let a : N < k = leb-false k N p in
        let b : m ≤ N = leb-true m N q in
        let c = renumbered-high N first k a in
        let d = renumbered-low N first m b in
        absurd (omega (arith, a, b, c, d, h, low))
    go false p false q =
        let a : N < k = leb-false k N p in
        let b : N < m = leb-false m N q in
        let c = renumbered-high N first k a in
        let d = renumbered-high N first m b in
        omega (arith, a, b, c, d, h)

pub is_among-renumbered : (N first k : ℕ) (ns : List ℕ) → N < first → is_among (renumbered N first k) (map (renumbered N first) ns) ≡ true → is_among k ns ≡ true
is_among-renumbered N first k [] low h = h
is_among-renumbered N first k (n ∷ ns) low h =
    elim (or-cases (nat_eq (renumbered N first k) (renumbered N first n)) (is_among (renumbered N first k) (map (renumbered N first) ns)) h) [
      | inl e ↦ or-left (nat_eq k n) (is_among k ns) (eq-eqb k n (renumbered-same N first k n low (eqb-true (renumbered N first k) (renumbered N first n) e)))
      | inr r ↦ or-right (nat_eq k n) (is_among k ns) (is_among-renumbered N first k ns low r)
    ]

-- a number among the renumbered ones is that of one of them
pub renumbered-from : (N first j : ℕ) (ns : List ℕ) → is_among j (map (renumbered N first) ns) ≡ true → (k : ℕ) × (is_among k ns ≡ true) × (j ≡ renumbered N first k)
renumbered-from N first j [] h = absurd (cc)
renumbered-from N first j (n ∷ ns) h = elim (or-cases (nat_eq j (renumbered N first n)) (is_among j (map (renumbered N first) ns)) h) [
  | inl e ↦ (n, or-left (nat_eq n n) (is_among n ns) (eq-eqb n n refl), eqb-true j (renumbered N first n) e)
  | inr r ↦ let more = renumbered-from N first j ns r in (more.0, or-right (nat_eq more.0 n) (is_among more.0 ns) more.1, more.2)
]

are_different-renumbered : (N first : ℕ) (ns : List ℕ) → N < first → are_different ns ≡ true → are_different (map (renumbered N first) ns) ≡ true
are_different-renumbered N first [] low h = h
are_different-renumbered N first (n ∷ ns) low h =
    let alone : is_among n ns ≡ false = not_true (is_among n ns) (and-left (not (is_among n ns)) (are_different ns) h) in
    let out : is_among (renumbered N first n) (map (renumbered N first) ns) ≡ false
    = false_unless (is_among (renumbered N first n) (map (renumbered N first) ns)) (λ t. true_false (is_among n ns) (is_among-renumbered N first n ns low t) alone) in
    and-true (not (is_among (renumbered N first n) (map (renumbered N first) ns))) (are_different (map (renumbered N first) ns)) (ap not out)
    (are_different-renumbered N first ns low (and-right (not (is_among n ns)) (are_different ns) h))

-- what lines leave: all that was there before the cube, and the clauses that aren't gone
pub record LinesLead (V N first n : ℕ) (gone : List ℕ) (Q : List Literal) (K : List Clause) (s : Checker) (lines : List Line) : Type 0 where
  pub state : Checker
  pub leads : Follows V s (leaf_steps N first n Q lines) state
  pub last : state.last < n + length lines
  pub kept : (m : ℕ) → m < first → clause_of state.clauses m ≡ clause_of s.clauses m
  pub moved : AreMoved N (renumbered N first) (gone ++ forgotten_by lines) Q (K ++ map (λ (x : Line). x.clause) lines) state.clauses

abbrev line_addition : ℕ → ℕ → ℕ → List Literal → Line → Addition
line_addition N first n Q line = record { id = n; clause = line.clause ++ negations Q; hints = map (renumbered N first) line.hints; groups = [] }

-- a line that replays is accepted
Leads-line : (V N first n : ℕ) (gone : List ℕ) (Q : List Literal) (K : List Clause) (s : Checker) (line : Line) → s.last < n → AreMoved N (renumbered N first) gone Q K s.clauses
    → ((k : ℕ) → is_among k gone ≡ true → is_among k line.hints ≡ false) → IsReplayed V N Q K line → Follows V s (add (line_addition N first n Q line) ∷ []) (added s (line_addition N first n Q line))
Leads-line V N first n gone Q K s line rises moved clear h =
    let passes = Passes-moved V N (renumbered N first) gone Q K s.clauses line moved clear h in
    Follows-add V s (line_addition N first n Q line)
    (addition_fault-none V s.last s.clauses n (line.clause ++ negations Q) (map (renumbered N first) line.hints) rises
    (AreOver-from_IsOver V (line.clause ++ negations Q) h.over) h.one_sign passes) passes

kept-added : (s : Checker) (a : Addition) (n m : ℕ) → a.id ≡ n → m < n → clause_of (added s a).clauses m ≡ clause_of s.clauses m
kept-added s a n m e h =
    let other : nat_eq a.id m ≡ false = false_unless (nat_eq a.id m) (λ t. let q : a.id ≡ m = eqb-true a.id m t in omega arith) in
    ap (λ b. if b then Some a.clause else clause_of s.clauses m) other

is_among-append : (k : ℕ) (xs ys : List ℕ) → is_among k (xs ++ ys) ≡ false → (is_among k xs ≡ false) × (is_among k ys ≡ false)
is_among-append k xs ys h =
    let parts : is_among k xs || is_among k ys ≡ false = sym (list_any-append (nat_eq k) xs ys) ∙ h in
    (or-false_left (is_among k xs) (is_among k ys) parts, or-false_right (is_among k xs) (is_among k ys) parts)

pub LinesLead-from_AreReplayed : (V N first n : ℕ) (gone : List ℕ) (Q : List Literal) (K : List Clause) (s : Checker) (lines : List Line) → N ≤ length K → N < first → first + length K ≡ n + N → s.last < n
    → AreMoved N (renumbered N first) gone Q K s.clauses → AreReplayed V N Q K lines → AreForgetting N (length K + 1) gone lines → LinesLead V N first n gone Q K s lines
LinesLead-from_AreReplayed V N first n gone Q K s [] long low e rises moved h f = record {
  state = s;
  leads = Follows-none V s;
  last = omega arith;
  kept = λ m l. refl;
  moved = rw (append-nil K, append-nil gone) moved;
}
LinesLead-from_AreReplayed V N first n gone Q K s (line ∷ lines) long low e rises moved h f =
    finish (LinesLead-from_AreReplayed V N first (n + 1) (gone ++ line.forgets) Q (K ++ line.clause ∷ []) after lines longer low (omega (arith, one_more)) last_rises
    moved_on h.1 (subst (λ k. AreForgetting N k (gone ++ line.forgets) lines) (sym (ap (λ k. k + 1) one_more)) f.1))
  where
    one_more : length (K ++ line.clause ∷ []) ≡ length K + 1
    one_more = length-append K (line.clause ∷ [])

    between : Checker
    between = added s (line_addition N first n Q line)

    numbers : List ℕ
    numbers = map (renumbered N first) line.forgets

    after : Checker
    after = record between { clauses = without_numbers between.clauses numbers }

    longer : N ≤ length (K ++ line.clause ∷ [])
    longer = let l = one_more in omega arith

    last_rises : after.last < n + 1
    last_rises = omega arith

    moved_between : AreMoved N (renumbered N first) gone Q (K ++ line.clause ∷ []) between.clauses
    moved_between = AreMoved-push N first n gone Q K line.clause s.clauses long low e moved

    -- what the line forgets is there
    there : (j : ℕ) → is_among j numbers ≡ true → is_some (clause_of between.clauses j) ≡ true
    there j a =
        let k = renumbered-from N first j line.forgets a in
        let own = f.0.own k.0 k.1 in
        let above = own.0 in
        let below = own.1 in
        elim (moved_between k.0 (omega (arith, above)) (omega (arith, below, one_more)) own.2) [
          | inl at ↦ ap (λ i. is_some (clause_of between.clauses i)) k.2 ∙ ap is_some at
          | inr lost ↦ absurd (let low_number = lost.0 in omega (arith, above, low_number))
        ]

    moved_on : AreMoved N (renumbered N first) (gone ++ line.forgets) Q (K ++ line.clause ∷ []) after.clauses
    moved_on k one end not_gone =
        let parts = is_among-append k gone line.forgets not_gone in
        let out : is_among (renumbered N first k) numbers ≡ false
        = false_unless (is_among (renumbered N first k) numbers) (λ t. true_false (is_among k line.forgets) (is_among-renumbered N first k line.forgets low t) parts.1) in
        elim (moved_between k one end parts.0) [
          | inl at ↦ inl (clause_of-without_numbers between.clauses numbers (renumbered N first k) out ∙ at)
          | inr lost ↦ inr lost
        ]

    kept_on : (m : ℕ) → m < first → clause_of after.clauses m ≡ clause_of s.clauses m
    kept_on m l =
        let out : is_among m numbers ≡ false = false_unless (is_among m numbers) (λ t.
        let k = renumbered-from N first m line.forgets t in
        let own = (f.0.own k.0 k.1).0 in
        let high = renumbered-high N first k.0 own in
        let it = k.2 in
        omega (arith, l, own, high, it)) in
        clause_of-without_numbers between.clauses numbers m out ∙ kept-added s (line_addition N first n Q line) n m refl (omega (arith, l, e, long))

    first_leads : Follows V s (add (line_addition N first n Q line) ∷ forget_steps n numbers) after
    first_leads =
        Follows-then V s between after (add (line_addition N first n Q line) ∷ []) (forget_steps n numbers) (Leads-line V N first n gone Q K s line rises moved f.0.clear h.0)
        (Leads-forget V between n numbers (are_different-renumbered N first line.forgets low f.0.distinct) there)

    finish : LinesLead V N first (n + 1) (gone ++ line.forgets) Q (K ++ line.clause ∷ []) after lines → LinesLead V N first n gone Q K s (line ∷ lines)
    finish more = record {
      state = more.state;
      leads = Follows-then V s after more.state (add (line_addition N first n Q line) ∷ forget_steps n numbers) (leaf_steps N first (n + 1) Q lines) first_leads more.leads;
      last = let l = more.last in omega arith;
      kept = λ m l. more.kept m l ∙ kept_on m l;
      moved = rw (← append_assoc K (line.clause ∷ []) (map (λ (x : Line). x.clause) lines), ← append_assoc gone line.forgets (forgotten_by lines)) more.moved;
    }
