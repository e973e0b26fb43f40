-- What the checker accepts isn't satisfiable. In the lemmas m gives the variables' truth values.
use Rattle.std.proofs.Common.{◌≡◌, ℕ, ◌+◌, Bool, true, false, not, ◌||◌, List, [], ◌∷◌, ◌++◌, refl, ap, sym, subst, ◌∙◌, Option, Some, None, nat_eq, nat_le, eqb-true, eq-eqb, inl, inr, cond, is_some, length, append-nil, if◌then◌else◌}
use Rattle.std.specs.List.{list_any}
use Rattle.theory.specs.Literals.{Literal, Clause, negated, negations, has, has_both_signs, without}
use Rattle.theory.specs.Truth.{Formula, AreTrue, value, is_true, is_true_clause, are_true, Satisfiable}
use Rattle.theory.specs.Status.{is_false, unit_literal}
use Rattle.theory.specs.Steps.{Group, Addition, Step, add, delete}
use Rattle.theory.specs.Checking
use Rattle.theory.specs.Checking.{Numbered, clause_of, numbered_from, without_number, Hint, missing, false_clause, not_unit, unit_in, hint, unit_hint, Taken, conflicts, holds, fails, take_hints, is_closed, are_dealt_with, fault_of, group_fault, groups_fault, rat_fault, hints_fault, addition_fault, deleted, Checker, is_empty, added, Tested, leaves, faulty, test, Checked, accepted, check_from, checks, Fault, closed_fault, bad_candidate}
use Rattle.theory.proofs.literals.LiteralLemmas.{and-left, and-right, or-cases, or-left, true_or_false, not_true}
use Rattle.theory.proofs.literals.TrueClauses.{AreTrue-append, is_false-false, unit-true, negations-AreTrue, some_sign, held-true, flipped, flipped-pivot, without-flipped, absent-flipped}
use Rattle.theory.proofs.checker.Hints.{take_on}

-- each clause there is true
abbrev pub AllTrue : (ℕ → Bool) → Numbered → Type 0
AllTrue m K = (n : ℕ) (c : Clause) → clause_of K n ≡ Some c → is_true_clause m c ≡ true

-- what a hinted clause says, where the clauses there are true
HintSays : (ℕ → Bool) → Hint → Type 0
HintSays m missing = Unit {0}
HintSays m false_clause = ⊥
HintSays m not_unit = Unit {0}
HintSays m (unit_in l) = is_true m l ≡ true

unit_hint-says : (m : ℕ → Bool) (o : Option Literal) → ((l : Literal) → o ≡ Some l → is_true m l ≡ true) → HintSays m (unit_hint o)
unfolding HintSays
unit_hint-says m None f = tt
unit_hint-says m (Some l) f = f l refl

hint-says : (m : ℕ → Bool) (P : List Literal) (o : Option Clause) → AreTrue m P → ((c : Clause) → o ≡ Some c → is_true_clause m c ≡ true) → HintSays m (hint P o)
unfolding HintSays
hint-says m P None h f = tt
hint-says m P (Some c) h f = go (is_false P c) refl
  where
    go : (b : Bool) → is_false P c ≡ b → HintSays m (if b then false_clause else unit_hint (unit_literal P c))
    go true e = let t = f c refl in let n = is_false-false m P c h e in cc
    go false e = unit_hint-says m (unit_literal P c) (λ l u. unit-true m P c l h u (f c refl))

-- what the hints come to: no conflict, and the literals held true are true
TakenSays : (ℕ → Bool) → Taken → Type 0
TakenSays m conflicts = ⊥
TakenSays m (holds P) = AreTrue m P
TakenSays m (fails f) = Unit {0}

take_on-says : (m : ℕ → Bool) (K : Numbered) (P : List Literal) (ns : List ℕ) (r : Hint) → HintSays m r
    → ((l : Literal) → is_true m l ≡ true → TakenSays m (take_hints K (l ∷ P) ns)) → TakenSays m (take_on K P ns r)
unfolding HintSays TakenSays take_on
take_on-says m K P ns missing h f = tt
take_on-says m K P ns false_clause h f = absurd h
take_on-says m K P ns not_unit h f = tt
take_on-says m K P ns (unit_in l) h f = f l h

take_hints-says : (m : ℕ → Bool) (K : Numbered) (P : List Literal) (ns : List ℕ) → AllTrue m K → AreTrue m P → TakenSays m (take_hints K P ns)
unfolding HintSays TakenSays take_on
take_hints-says m K P [] a h = h
take_hints-says m K P (n ∷ ns) a h =
    take_on-says m K P ns (hint P (clause_of K n)) (hint-says m P (clause_of K n) h (a n)) (λ l t. take_hints-says m K (l ∷ P) ns a (t, h))

-- a clause whose negations, and more that is true, lead to a conflict is true
pub conflict-true : (m : ℕ → Bool) (K : Numbered) (P : List Literal) (c : Clause) (ns : List ℕ) → AllTrue m K → AreTrue m P
    → take_hints K (negations c ++ P) ns ≡ conflicts → is_true_clause m c ≡ true
unfolding TakenSays
conflict-true m K P c ns a h e = elim (true_or_false (is_true_clause m c)) [
  | inl t ↦ t
  | inr f ↦
      let says : TakenSays m (take_hints K (negations c ++ P) ns) = take_hints-says m K (negations c ++ P) ns a (AreTrue-append m (negations c) P (negations-AreTrue m c f) h) in
      let none : TakenSays m conflicts = rw e at says in
      absurd none
]

-- a closed clause is true once the pivot is made true
closed-flipped : (m : ℕ → Bool) (P : List Literal) (p : Literal) (d : Clause) → AreTrue m P → is_closed P (negated p) d ≡ true → is_true_clause (flipped m p) d ≡ true
closed-flipped m P p d h e = elim (or-cases (has_both_signs d) (list_any (has P) (without d (negated p))) e) [
  | inl twice ↦ some_sign (flipped m p) d d (λ l k. k) twice
  | inr held ↦ without-flipped m p d (held-true m P (without d (negated p)) h held)
]

-- a group without a fault
group-flipped : (m : ℕ → Bool) (K : Numbered) (P : List Literal) (p : Literal) (named : List ℕ) (g : Group) (d : Clause) → AllTrue m K → AreTrue m P
    → group_fault K P (negated p) named g (Some d) ≡ None → is_true_clause (flipped m p) d ≡ true
group-flipped m K P p named g d a h e = bad (not (has d (negated p)) || list_any (nat_eq g.candidate) named) e
  where
    hinted : (r : Taken) → take_hints K (negations (without d (negated p)) ++ P) g.hints ≡ r → fault_of r ≡ None → is_true_clause (flipped m p) d ≡ true
    hinted conflicts q k = without-flipped m p d (conflict-true m K P (without d (negated p)) g.hints a h q)
    hinted (holds R) q k = absurd (cc)
    hinted (fails f) q k = absurd (cc)

    shut : (b : Bool) → is_closed P (negated p) d ≡ b
        → (if b then closed_fault g.hints else fault_of (take_hints K (negations (without d (negated p)) ++ P) g.hints)) ≡ None → is_true_clause (flipped m p) d ≡ true
    shut true q k = closed-flipped m P p d h q
    shut false q k = hinted (take_hints K (negations (without d (negated p)) ++ P) g.hints) refl k

    bad : (b : Bool)
        → (if b then Some bad_candidate else if is_closed P (negated p) d then closed_fault g.hints else fault_of (take_hints K (negations (without d (negated p)) ++ P) g.hints)) ≡ None
        → is_true_clause (flipped m p) d ≡ true
    bad true k = absurd (cc)
    bad false k = shut (is_closed P (negated p) d) refl k

-- the clause of the number, if there is one, is true
Kept : (ℕ → Bool) → Numbered → ℕ → Type 0
Kept m K n = (c : Clause) → clause_of K n ≡ Some c → is_true_clause m c ≡ true

-- the test that each clause was dealt with, at one of them
dealt-at : (K : Numbered) (P : List Literal) (q : Literal) (named : List ℕ) (n : ℕ) (c : Clause) → are_dealt_with K P q named ≡ true → clause_of K n ≡ Some c
    → not (has c q) || (is_closed P q c || list_any (nat_eq n) named) ≡ true
dealt-at [] P q named n c e k = absurd (cc)
dealt-at (x ∷ K) P q named n c e k = go (nat_eq x.0 n) refl k (dealt-at K P q named n c (and-right here (are_dealt_with K P q named) e))
  where
    here : Bool
    here = not (has x.1 q) || (is_closed P q x.1 || list_any (nat_eq x.0) named)

    go : (b : Bool) → nat_eq x.0 n ≡ b → cond b (Some x.1) (clause_of K n) ≡ Some c
        → (clause_of K n ≡ Some c → not (has c q) || (is_closed P q c || list_any (nat_eq n) named) ≡ true)
        → not (has c q) || (is_closed P q c || list_any (nat_eq n) named) ≡ true
    go true i k more =
        let number : x.0 ≡ n = eqb-true x.0 n i in
        let clause : x.1 ≡ c = cc in
        let first : here ≡ true = and-left here (are_dealt_with K P q named) e in
        rw (← number, ← clause) first
    go false i k more = more k

-- groups without a fault
named_or-flipped : (m : ℕ → Bool) (K : Numbered) (P : List Literal) (p : Literal) (named : List ℕ) (n : ℕ) (c : Clause) → AllTrue m K → AreTrue m P
    → ((k : ℕ) → list_any (nat_eq k) named ≡ true → Kept (flipped m p) K k) → clause_of K n ≡ Some c
    → not (has c (negated p)) || (is_closed P (negated p) c || list_any (nat_eq n) named) ≡ true → is_true_clause (flipped m p) c ≡ true
unfolding Kept
named_or-flipped m K P p named n c a h kept k e = elim (or-cases (not (has c (negated p))) (is_closed P (negated p) c || list_any (nat_eq n) named) e) [
  | inl absent ↦ absent-flipped m p c (not_true (has c (negated p)) absent) (a n c k)
  | inr other ↦ elim (or-cases (is_closed P (negated p) c) (list_any (nat_eq n) named) other) [
    | inl shut ↦ closed-flipped m P p c h shut
    | inr there ↦ kept n there c k
  ]
]

groups_on : Numbered → List Literal → Literal → List ℕ → Group → List Group → Option Fault → Option Fault
groups_on K P q named g gs r = elim r [ Some f ↦ Some f | None ↦ groups_fault K P q (g.candidate ∷ named) gs ]

groups-flipped : (m : ℕ → Bool) (K : Numbered) (P : List Literal) (p : Literal) (named : List ℕ) (gs : List Group) → AllTrue m K → AreTrue m P
    → ((k : ℕ) → list_any (nat_eq k) named ≡ true → Kept (flipped m p) K k) → groups_fault K P (negated p) named gs ≡ None → AllTrue (flipped m p) K
unfolding Kept groups_on
groups-flipped m K P p named [] a h kept e = all (are_dealt_with K P (negated p) named) refl e
  where
    all : (b : Bool) → are_dealt_with K P (negated p) named ≡ b → (if b then None else Some Checking.missing_candidate) ≡ None → AllTrue (flipped m p) K
    all true d q = λ n c k. named_or-flipped m K P p named n c a h kept k (dealt-at K P (negated p) named n c d k)
    all false d q = absurd (cc)
groups-flipped m K P p named (g ∷ gs) a h kept e = one (group_fault K P (negated p) named g (clause_of K g.candidate)) refl e (groups-flipped m K P p (g.candidate ∷ named) gs a h)
  where
    this : group_fault K P (negated p) named g (clause_of K g.candidate) ≡ None → (k : ℕ) → k ≡ g.candidate → Kept (flipped m p) K k
    this f k i c q = group-flipped m K P p named g c a h (let there : clause_of K g.candidate ≡ Some c = rw (← i) q in rw there at f)

    extended : group_fault K P (negated p) named g (clause_of K g.candidate) ≡ None → (k : ℕ) → list_any (nat_eq k) (g.candidate ∷ named) ≡ true → Kept (flipped m p) K k
    extended f k t = elim (or-cases (nat_eq k g.candidate) (list_any (nat_eq k) named) t) [
      | inl here ↦ this f k (eqb-true k g.candidate here)
      | inr there ↦ kept k there
    ]

    one : (r : Option Fault) → group_fault K P (negated p) named g (clause_of K g.candidate) ≡ r
        → groups_on K P (negated p) named g gs r ≡ None
        → (((k : ℕ) → list_any (nat_eq k) (g.candidate ∷ named) ≡ true → Kept (flipped m p) K k) → groups_fault K P (negated p) (g.candidate ∷ named) gs ≡ None → AllTrue (flipped m p) K)
        → AllTrue (flipped m p) K
    one (Some f) q s more = absurd (cc)
    one None q s more = more (extended q) s

-- a clause that is there without the number n is there, and has another number
pub without_number-at : (K : Numbered) (n k : ℕ) (c : Clause) → clause_of (without_number K n) k ≡ Some c → (clause_of K k ≡ Some c) × (nat_eq n k ≡ false)
without_number-at [] n k c q = absurd (cc)
without_number-at (x ∷ K) n k c q = drop_it (nat_eq x.0 n) refl q (without_number-at K n k c)
  where
    Claim : Type 0
    Claim = (clause_of (x ∷ K) k ≡ Some c) × (nat_eq n k ≡ false)

    other : (b : Bool) → nat_eq n k ≡ b → nat_eq x.0 n ≡ false → x.0 ≡ k → nat_eq n k ≡ false
    other true e i f = absurd (let g : nat_eq x.0 n ≡ true = eq-eqb x.0 n (f ∙ sym (eqb-true n k e)) in cc)
    other false e i f = e

    keep_it : (b : Bool) → nat_eq x.0 k ≡ b → nat_eq x.0 n ≡ false → (if b then Some x.1 else clause_of (without_number K n) k) ≡ Some c
        → (clause_of (without_number K n) k ≡ Some c → (clause_of K k ≡ Some c) × (nat_eq n k ≡ false)) → Claim
    keep_it true e i r more = (rw e r, other (nat_eq n k) refl i (eqb-true x.0 k e))
    keep_it false e i r more = (rw e (more r).0, (more r).1)

    drop_it : (b : Bool) → nat_eq x.0 n ≡ b → clause_of (cond (not b) (x ∷ without_number K n) (without_number K n)) k ≡ Some c
        → (clause_of (without_number K n) k ≡ Some c → (clause_of K k ≡ Some c) × (nat_eq n k ≡ false)) → Claim
    drop_it true i r more =
        let differs : nat_eq x.0 k ≡ false = ap (λ y. nat_eq y k) (eqb-true x.0 n i) ∙ (more r).1 in
        (rw differs (more r).0, (more r).1)
    drop_it false i r more = keep_it (nat_eq x.0 k) refl i r more

-- after a deletion all that is there is true
without_number-kept : (m : ℕ → Bool) (K : Numbered) (n : ℕ) → AllTrue m K → AllTrue m (without_number K n)
without_number-kept m K n a k c q = a k c (without_number-at K n k c q).0

deleted-kept : (m : ℕ → Bool) (K L : Numbered) (ns : List ℕ) → AllTrue m K → deleted K ns ≡ Some L → AllTrue m L
deleted-kept m K L [] a e = let same_clauses : K ≡ L = cc in rw (← same_clauses) a
deleted-kept m K L (n ∷ ns) a e = go (is_some (clause_of K n)) e (deleted-kept m (without_number K n) L ns (without_number-kept m K n a))
  where
    go : (b : Bool) → (if b then deleted (without_number K n) ns else None) ≡ Some L → (deleted (without_number K n) ns ≡ Some L → AllTrue m L) → AllTrue m L
    go true q more = more q
    go false q more = absurd (cc)

-- the clauses after an addition are true
added-true : (m : ℕ → Bool) (s : Checker) (a : Addition) → AllTrue m s.clauses → is_true_clause m a.clause ≡ true → AllTrue m (added s a).clauses
added-true m s a all t n c k = go (nat_eq a.id n) k
  where
    go : (b : Bool) → (if b then Some a.clause else clause_of s.clauses n) ≡ Some c → is_true_clause m c ≡ true
    go true q = let clause : a.clause ≡ c = cc in ap (is_true_clause m) (sym clause) ∙ t
    go false q = all n c q

-- some truth values make all clauses true, and no empty clause was added
Goes : Checker → Type 0
Goes s = (m : ℕ → Bool) × AllTrue m s.clauses × (s.empty ≡ false)

true-not_empty : (m : ℕ → Bool) (c : Clause) → is_true_clause m c ≡ true → is_empty c ≡ false
true-not_empty m [] t = absurd (cc)
true-not_empty m (l ∷ c) t = refl

added-goes : (m : ℕ → Bool) (s : Checker) (a : Addition) → AllTrue m s.clauses → s.empty ≡ false → is_true_clause m a.clause ≡ true → Goes (added s a)
unfolding Goes
added-goes m s a all e t = (m, added-true m s a all t, rw (e, true-not_empty m a.clause t) refl)

-- by hints alone
rup-goes : (m : ℕ → Bool) (s : Checker) (a : Addition) → AllTrue m s.clauses → s.empty ≡ false → take_hints s.clauses (negations a.clause) a.hints ≡ conflicts → Goes (added s a)
rup-goes m s a all e t =
    added-goes m s a all e (conflict-true m s.clauses [] a.clause a.hints all tt (ap (λ P. take_hints s.clauses P a.hints) (append-nil (negations a.clause)) ∙ t))

-- by the pivot
rat-goes : (m : ℕ → Bool) (s : Checker) (a : Addition) (P : List Literal) → AllTrue m s.clauses → s.empty ≡ false
    → take_hints s.clauses (negations a.clause) a.hints ≡ holds P → rat_fault s.clauses P a.clause a.groups ≡ None → Goes (added s a)
unfolding TakenSays
rat-goes m s a P all e t f = elim (true_or_false (is_true_clause m a.clause)) [
  | inl yes_true ↦ added-goes m s a all e yes_true
  | inr no_true ↦ go (held no_true) a.clause refl f
]
  where
    held : is_true_clause m a.clause ≡ false → AreTrue m P
    held n =
        let says : TakenSays m (take_hints s.clauses (negations a.clause) a.hints) = take_hints-says m s.clauses (negations a.clause) a.hints all (negations-AreTrue m a.clause n) in
        rw t at says

    none_named : (K : Numbered) (p : Literal) (k : ℕ) → list_any (nat_eq k) [] ≡ true → Kept (flipped m p) K k
    none_named K p k h = absurd (cc)

    go : AreTrue m P → (c : Clause) → a.clause ≡ c → rat_fault s.clauses P c a.groups ≡ None → Goes (added s a)
    go h [] q r = absurd (cc)
    go h (p ∷ c) q r =
        let pivot_true : is_true_clause (flipped m p) a.clause ≡ true = ap (is_true_clause (flipped m p)) q ∙ or-left (is_true (flipped m p) p) (is_true_clause (flipped m p) c) (flipped-pivot m p) in
        added-goes (flipped m p) s a (groups-flipped m s.clauses P p [] a.groups all h (none_named s.clauses p) r) e pivot_true

-- an addition without a fault
addition-goes : (V : ℕ) (m : ℕ → Bool) (s : Checker) (a : Addition) → AllTrue m s.clauses → s.empty ≡ false → addition_fault V s.last s.clauses a ≡ None → Goes (added s a)
addition-goes V m s a all e f = rising (nat_le a.id s.last) f
  where
    hinted : (r : Taken) → take_hints s.clauses (negations a.clause) a.hints ≡ r → hints_fault s.clauses a r ≡ None → Goes (added s a)
    hinted conflicts t g = rup-goes m s a all e t
    hinted (holds P) t g = rat-goes m s a P all e t g
    hinted (fails x) t g = absurd (cc)

    signs : (b : Bool) → (if b then Some Checking.both_signs else hints_fault s.clauses a (take_hints s.clauses (negations a.clause) a.hints)) ≡ None → Goes (added s a)
    signs true g = absurd (cc)
    signs false g = hinted (take_hints s.clauses (negations a.clause) a.hints) refl g

    range : (b : Bool) → (if b then Some Checking.literal_out_of_range else if has_both_signs a.clause then Some Checking.both_signs
        else hints_fault s.clauses a (take_hints s.clauses (negations a.clause) a.hints)) ≡ None → Goes (added s a)
    range true g = absurd (cc)
    range false g = signs (has_both_signs a.clause) g

    rising : (b : Bool) → (if b then Some Checking.id_not_rising else if list_any (λ l. not (nat_le l.var V)) a.clause then Some Checking.literal_out_of_range
        else if has_both_signs a.clause then Some Checking.both_signs
        else hints_fault s.clauses a (take_hints s.clauses (negations a.clause) a.hints)) ≡ None → Goes (added s a)
    rising true g = absurd (cc)
    rising false g = range (list_any (λ l. not (nat_le l.var V)) a.clause) g

-- a step without a fault
step-goes : (V : ℕ) (m : ℕ → Bool) (s t : Checker) (step : Step) → AllTrue m s.clauses → s.empty ≡ false → test V s step ≡ leaves t → Goes t
unfolding Goes
step-goes V m s t (add a) all e h = go (addition_fault V s.last s.clauses a) refl h
  where
    go : (r : Option Fault) → addition_fault V s.last s.clauses a ≡ r → Checking.addition_test s a r ≡ leaves t → Goes t
    go None f q = let state : added s a ≡ t = cc in subst Goes state (addition-goes V m s a all e f)
    go (Some x) f q = absurd (cc)
step-goes V m s t (delete d) all e h = go (deleted s.clauses d.ids) refl h
  where
    go : (r : Option Numbered) → deleted s.clauses d.ids ≡ r → Checking.deletion_test s r ≡ leaves t → Goes t
    go (Some K) f q = let state : record s { clauses = K } ≡ t = cc in subst Goes state (m, deleted-kept m s.clauses K d.ids all f, e)
    go None f q = absurd (cc)

-- steps from such a state on are never accepted
never_accepted : (V n : ℕ) (s : Checker) (steps : List Step) → Goes s → check_from V n s steps ≡ accepted → ⊥
unfolding Goes
never_accepted V n s [] g h = let e = g.2 in let out : check_from V n s [] ≡ Checking.no_empty_clause = rw e refl in cc
never_accepted V n s (step ∷ steps) g h = go (test V s step) refl h (λ t. never_accepted V (n + 1) t steps)
  where
    on_test : Tested → Checked
    on_test r = elim r [ leaves t ↦ check_from V (n + 1) t steps | faulty f ↦ Checking.refused f n ]

    go : (r : Tested) → test V s step ≡ r → on_test r ≡ accepted → ((t : Checker) → Goes t → check_from V (n + 1) t steps ≡ accepted → ⊥) → ⊥
    go (leaves t) q k more = more t (step-goes V g.0 s t step g.1 g.2 q) k
    go (faulty f) q k more = cc

-- the clauses of a formula that is satisfied are true
numbered-true : (m : ℕ → Bool) (k : ℕ) (cs : List Clause) → are_true m cs ≡ true → AllTrue m (numbered_from k cs)
numbered-true m k [] h n c q = absurd (cc)
numbered-true m k (d ∷ cs) h n c q = go (nat_eq k n) q (numbered-true m (k + 1) cs (and-right (is_true_clause m d) (are_true m cs) h) n c)
  where
    go : (b : Bool) → (if b then Some d else clause_of (numbered_from (k + 1) cs) n) ≡ Some c → (clause_of (numbered_from (k + 1) cs) n ≡ Some c → is_true_clause m c ≡ true) → is_true_clause m c ≡ true
    go true r more = let clause : d ≡ c = cc in ap (is_true_clause m) (sym clause) ∙ and-left (is_true_clause m d) (are_true m cs) h
    go false r more = more r

-- No formula whose proof the checker accepts is satisfiable.
pub accepted-unsatisfiable : (F : Formula) (steps : List Step) → checks F steps ≡ accepted → ¬ (Satisfiable F)
unfolding Goes
accepted-unsatisfiable F steps h sat =
    never_accepted F.vars 1 (record { clauses = numbered_from 1 F.clauses; last = length F.clauses; empty = false }) steps
    (value sat.0, numbered-true (value sat.0) 1 F.clauses sat.1.clauses, refl) h
