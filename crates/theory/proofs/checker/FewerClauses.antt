-- A step does the same without a clause that it doesn't name: an addition without a fault has none,
-- and a deletion deletes the same.
use Rattle.std.proofs.Common.{◌≡◌, ℕ, Bool, true, false, not, ◌||◌, List, [], ◌∷◌, ◌++◌, refl, ap, sym, ◌∙◌, nat_eq, nat_le, eqb-true, eq-eqb, Option, Some, None, is_some, filter, cond, if◌then◌else◌}
use Rattle.std.specs.List.{list_any, list_all}
use Rattle.theory.specs.Literals.{Literal, Clause, negated, negations, has, has_both_signs, without}
use Rattle.theory.specs.Steps.{Group, Addition}
use Rattle.theory.specs.Checking.{Fault, id_not_rising, literal_out_of_range, both_signs, bad_candidate, missing_candidate, Numbered, clause_of, without_number, Hint, missing, false_clause, not_unit, unit_in, hint, Taken, conflicts, holds, fails, take_hints, is_closed, are_dealt_with, fault_of, closed_fault, group_fault, groups_fault, rat_fault, hints_fault, addition_fault, deleted}
use Rattle.theory.specs.Deletions.{is_among, are_different, group_names, without_numbers}
use Rattle.theory.proofs.literals.LiteralLemmas.{and-left, and-right, or-left, or-right, not_true}
use Rattle.theory.proofs.literals.LiteralSets.{and-true, or-false_left, or-false_right, false_unless, true_false}
use Rattle.theory.proofs.checker.Hints.{take_on}

-- another clause stays under its number
pub clause_of-without : (K : Numbered) (n k : ℕ) → nat_eq n k ≡ false → clause_of (without_number K n) k ≡ clause_of K k
clause_of-without [] n k h = refl
clause_of-without (x ∷ K) n k h = go (nat_eq x.0 n) refl (clause_of-without K n k h)
  where
    go : (b : Bool) → nat_eq x.0 n ≡ b → clause_of (without_number K n) k ≡ clause_of K k
        → clause_of (cond (not b) (x ∷ without_number K n) (without_number K n)) k ≡ clause_of (x ∷ K) k
    go true e more =
        let other : nat_eq x.0 k ≡ false = ap (λ y. nat_eq y k) (eqb-true x.0 n e) ∙ h in
        more ∙ sym (ap (λ b. if b then Some x.1 else clause_of K k) other)
    go false e more = ap (λ o. if nat_eq x.0 k then Some x.1 else o) more

-- hints that don't name it come to the same
pub take_hints-without : (K : Numbered) (n : ℕ) (P : List Literal) (ns : List ℕ) → is_among n ns ≡ false → take_hints (without_number K n) P ns ≡ take_hints K P ns
unfolding take_on
take_hints-without K n P [] h = refl
take_hints-without K n P (m ∷ ms) h =
    ap (λ o. take_on (without_number K n) P ms (hint P o)) (clause_of-without K n m (or-false_left (nat_eq n m) (is_among n ms) h))
    ∙ go (hint P (clause_of K m)) (λ l. take_hints-without K n (l ∷ P) ms (or-false_right (nat_eq n m) (is_among n ms) h))
  where
    go : (r : Hint) → ((l : Literal) → take_hints (without_number K n) (l ∷ P) ms ≡ take_hints K (l ∷ P) ms) → take_on (without_number K n) P ms r ≡ take_on K P ms r
    go missing more = refl
    go false_clause more = refl
    go not_unit more = refl
    go (unit_in l) more = more l

-- and so does a group
group_fault-without : (K : Numbered) (n : ℕ) (P : List Literal) (q : Literal) (named : List ℕ) (g : Group) → group_names n g ≡ false
    → group_fault (without_number K n) P q named g (clause_of (without_number K n) g.candidate) ≡ group_fault K P q named g (clause_of K g.candidate)
group_fault-without K n P q named g h =
    ap (group_fault (without_number K n) P q named g) (clause_of-without K n g.candidate (or-false_left (nat_eq n g.candidate) (is_among n g.hints) h))
    ∙ go (clause_of K g.candidate)
  where
    go : (o : Option Clause) → group_fault (without_number K n) P q named g o ≡ group_fault K P q named g o
    go None = refl
    go (Some d) =
        ap (λ t. if not (has d q) || list_any (nat_eq g.candidate) named then Some bad_candidate else if is_closed P q d then closed_fault g.hints else fault_of t)
        (take_hints-without K n (negations (without d q) ++ P) g.hints (or-false_right (nat_eq n g.candidate) (is_among n g.hints) h))

-- what all pass, those pass that a test leaves
list_all-filter : {A : Type 0} (p q : A → Bool) (xs : List A) → list_all p xs ≡ true → list_all p (filter q xs) ≡ true
list_all-filter p q [] h = refl
list_all-filter p q (x ∷ xs) h = go (q x) (list_all-filter p q xs (and-right (p x) (list_all p xs) h))
  where
    go : (b : Bool) → list_all p (filter q xs) ≡ true → list_all p (cond b (x ∷ filter q xs) (filter q xs)) ≡ true
    go true more = and-true (p x) (list_all p (filter q xs)) (and-left (p x) (list_all p xs) h) more
    go false more = more

groups_on : Numbered → List Literal → Literal → List ℕ → Group → List Group → Option Fault → Option Fault
groups_on K P q named g gs r = elim r [ Some f ↦ Some f | None ↦ groups_fault K P q (g.candidate ∷ named) gs ]

-- groups without a fault have none: the candidates that are left are among those dealt with before
groups_fault-without : (K : Numbered) (n : ℕ) (P : List Literal) (q : Literal) (named : List ℕ) (gs : List Group) → list_any (group_names n) gs ≡ false
    → groups_fault K P q named gs ≡ None → groups_fault (without_number K n) P q named gs ≡ None
unfolding groups_on
groups_fault-without K n P q named [] h e = all (are_dealt_with K P q named) refl e
  where
    dealt : are_dealt_with K P q named ≡ true → are_dealt_with (without_number K n) P q named ≡ true
    dealt t = list_all-filter (λ e. not (has e.1 q) || (is_closed P q e.1 || list_any (nat_eq e.0) named)) (λ e. not (nat_eq e.0 n)) K t

    all : (b : Bool) → are_dealt_with K P q named ≡ b → (if b then None else Some missing_candidate) ≡ None → groups_fault (without_number K n) P q named [] ≡ None
    all true t k = ap (λ b. if b then None else Some missing_candidate) (dealt t)
    all false t k = absurd (cc)
groups_fault-without K n P q named (g ∷ gs) h e =
    ap (groups_on (without_number K n) P q named g gs) (group_fault-without K n P q named g (or-false_left (group_names n g) (list_any (group_names n) gs) h))
    ∙ go (group_fault K P q named g (clause_of K g.candidate)) e
    (groups_fault-without K n P q (g.candidate ∷ named) gs (or-false_right (group_names n g) (list_any (group_names n) gs) h))
  where
    go : (r : Option Fault) → groups_on K P q named g gs r ≡ None
        → (groups_fault K P q (g.candidate ∷ named) gs ≡ None → groups_fault (without_number K n) P q (g.candidate ∷ named) gs ≡ None)
        → groups_on (without_number K n) P q named g gs r ≡ None
    go (Some f) k more = absurd (cc)
    go None k more = more k

rat_fault-without : (K : Numbered) (n : ℕ) (P : List Literal) (c : Clause) (gs : List Group) → list_any (group_names n) gs ≡ false
    → rat_fault K P c gs ≡ None → rat_fault (without_number K n) P c gs ≡ None
rat_fault-without K n P [] gs h e = e
rat_fault-without K n P (p ∷ c) gs h e = groups_fault-without K n P (negated p) [] gs h e

hints_fault-without : (K : Numbered) (n : ℕ) (a : Addition) (t : Taken) → list_any (group_names n) a.groups ≡ false
    → hints_fault K a t ≡ None → hints_fault (without_number K n) a t ≡ None
hints_fault-without K n a conflicts h e = e
hints_fault-without K n a (holds P) h e = rat_fault-without K n P a.clause a.groups h e
hints_fault-without K n a (fails f) h e = e

-- an addition without a fault has none
pub addition_fault-without : (V last : ℕ) (K : Numbered) (n : ℕ) (a : Addition) → is_among n a.hints || list_any (group_names n) a.groups ≡ false
    → addition_fault V last K a ≡ None → addition_fault V last (without_number K n) a ≡ None
addition_fault-without V last K n a h e = go (nat_le a.id last) (list_any (λ l. not (nat_le l.var V)) a.clause) (has_both_signs a.clause) e
  where
    before_it : Taken
    before_it = take_hints K (negations a.clause) a.hints

    after_it : Taken
    after_it = take_hints (without_number K n) (negations a.clause) a.hints

    taken : after_it ≡ before_it
    taken = take_hints-without K n (negations a.clause) a.hints (or-false_left (is_among n a.hints) (list_any (group_names n) a.groups) h)

    go : (x y z : Bool) → (if x then Some id_not_rising else if y then Some literal_out_of_range else if z then Some both_signs else hints_fault K a before_it) ≡ None
        → (if x then Some id_not_rising else if y then Some literal_out_of_range else if z then Some both_signs else hints_fault (without_number K n) a after_it) ≡ None
    go false false false k = ap (hints_fault (without_number K n) a) taken
        ∙ hints_fault-without K n a before_it (or-false_right (is_among n a.hints) (list_any (group_names n) a.groups) h) k
    go true y z k = absurd (cc)
    go false true z k = absurd (cc)
    go false false true k = absurd (cc)

-- two clauses can be left out in either order
filter-commutes : {A : Type 0} (p q : A → Bool) (xs : List A) → filter p (filter q xs) ≡ filter q (filter p xs)
filter-commutes p q [] = refl
filter-commutes p q (x ∷ xs) = go (p x) refl (q x) refl (filter-commutes p q xs)
  where
    go : (a : Bool) → p x ≡ a → (b : Bool) → q x ≡ b → filter p (filter q xs) ≡ filter q (filter p xs)
        → filter p (cond b (x ∷ filter q xs) (filter q xs)) ≡ filter q (cond a (x ∷ filter p xs) (filter p xs))
    go true e true f more = ap (λ b. cond b (x ∷ filter p (filter q xs)) (filter p (filter q xs))) e ∙ (ap (λ ys. x ∷ ys) more
        ∙ sym (ap (λ b. cond b (x ∷ filter q (filter p xs)) (filter q (filter p xs))) f))
    go true e false f more = more ∙ sym (ap (λ b. cond b (x ∷ filter q (filter p xs)) (filter q (filter p xs))) f)
    go false e true f more = ap (λ b. cond b (x ∷ filter p (filter q xs)) (filter p (filter q xs))) e ∙ more
    go false e false f more = more

-- a deletion that doesn't name it deletes the same
pub deleted-without : (K L : Numbered) (n : ℕ) (ns : List ℕ) → is_among n ns ≡ false → deleted K ns ≡ Some L → deleted (without_number K n) ns ≡ Some (without_number L n)
deleted-without K L n [] h e = let one : K ≡ L = cc in ap (λ M. Some (without_number M n)) one
deleted-without K L n (m ∷ ms) h e =
    ap (λ o. if is_some o then deleted (without_number (without_number K n) m) ms else None) (clause_of-without K n m (or-false_left (nat_eq n m) (is_among n ms) h))
    ∙ go (is_some (clause_of K m)) e
    (λ k. ap (λ M. deleted M ms) (filter-commutes (λ e. not (nat_eq e.0 m)) (λ e. not (nat_eq e.0 n)) K)
    ∙ deleted-without (without_number K m) L n ms (or-false_right (nat_eq n m) (is_among n ms) h) k)
  where
    go : (b : Bool) → (if b then deleted (without_number K m) ms else None) ≡ Some L
        → (deleted (without_number K m) ms ≡ Some L → deleted (without_number (without_number K n) m) ms ≡ Some (without_number L n))
        → (if b then deleted (without_number (without_number K n) m) ms else None) ≡ Some (without_number L n)
    go true k more = more k
    go false k more = absurd (cc)

-- distinct numbers of clauses that are there can be deleted
pub deleted-there : (K : Numbered) (ns : List ℕ) → are_different ns ≡ true → ((n : ℕ) → is_among n ns ≡ true → is_some (clause_of K n) ≡ true) → deleted K ns ≡ Some (without_numbers K ns)
deleted-there K [] d h = refl
deleted-there K (n ∷ ns) d h =
    ap (λ b. if b then deleted (without_number K n) ns else None) (h n (or-left (nat_eq n n) (is_among n ns) (eq-eqb n n refl)))
    ∙ deleted-there (without_number K n) ns (and-right (not (is_among n ns)) (are_different ns) d) later
  where
    later : (k : ℕ) → is_among k ns ≡ true → is_some (clause_of (without_number K n) k) ≡ true
    later k a =
        let other : nat_eq n k ≡ false = false_unless (nat_eq n k) (λ t. true_false (is_among n ns) (ap (λ y. is_among y ns) (eqb-true n k t) ∙ a)
        (not_true (is_among n ns) (and-left (not (is_among n ns)) (are_different ns) d))) in
        ap is_some (clause_of-without K n k other) ∙ h k (or-right (nat_eq k n) (is_among k ns) a)

-- what is deleted is what is left out
pub deleted-without_numbers : (K L : Numbered) (ns : List ℕ) → deleted K ns ≡ Some L → L ≡ without_numbers K ns
deleted-without_numbers K L [] e = cc
deleted-without_numbers K L (n ∷ ns) e = go (is_some (clause_of K n)) e (deleted-without_numbers (without_number K n) L ns)
  where
    go : (b : Bool) → (if b then deleted (without_number K n) ns else None) ≡ Some L → (deleted (without_number K n) ns ≡ Some L → L ≡ without_numbers (without_number K n) ns) → L ≡ without_numbers (without_number K n) ns
    go true k more = more k
    go false k more = absurd (cc)

-- the other clauses stay
pub clause_of-without_numbers : (K : Numbered) (ns : List ℕ) (k : ℕ) → is_among k ns ≡ false → clause_of (without_numbers K ns) k ≡ clause_of K k
clause_of-without_numbers K [] k h = refl
clause_of-without_numbers K (n ∷ ns) k h =
    let other : nat_eq n k ≡ false = false_unless (nat_eq n k) (λ t. true_false (nat_eq k n) (eq-eqb k n (sym (eqb-true n k t))) (or-false_left (nat_eq k n) (is_among k ns) h)) in
    clause_of-without_numbers (without_number K n) ns k (or-false_right (nat_eq k n) (is_among k ns) h) ∙ clause_of-without K n k other

-- hints that name none of several come to the same without them
pub take_hints-without_numbers : (K : Numbered) (ns : List ℕ) (P : List Literal) (hints : List ℕ) → ((n : ℕ) → is_among n ns ≡ true → is_among n hints ≡ false)
    → take_hints (without_numbers K ns) P hints ≡ take_hints K P hints
take_hints-without_numbers K [] P hints h = refl
take_hints-without_numbers K (n ∷ ns) P hints h =
    take_hints-without_numbers (without_number K n) ns P hints (λ m a. h m (or-right (nat_eq m n) (is_among m ns) a))
    ∙ take_hints-without K n P hints (h n (or-left (nat_eq n n) (is_among n ns) (eq-eqb n n refl)))

-- what is deleted isn't there
clause_of-deleted : (K : Numbered) (n : ℕ) → clause_of (without_number K n) n ≡ None
clause_of-deleted [] n = refl
clause_of-deleted (x ∷ K) n = go (nat_eq x.0 n) refl (clause_of-deleted K n)
  where
    go : (b : Bool) → nat_eq x.0 n ≡ b → clause_of (without_number K n) n ≡ None → clause_of (cond (not b) (x ∷ without_number K n) (without_number K n)) n ≡ None
    go true e more = more
    go false e more = ap (λ b. if b then Some x.1 else clause_of (without_number K n) n) e ∙ more

clause_of-fewer : (K : Numbered) (n k : ℕ) → clause_of K k ≡ None → clause_of (without_number K n) k ≡ None
clause_of-fewer K n k h = go (nat_eq n k) refl
  where
    go : (b : Bool) → nat_eq n k ≡ b → clause_of (without_number K n) k ≡ None
    go true e = ap (clause_of (without_number K n)) (sym (eqb-true n k e)) ∙ clause_of-deleted K n
    go false e = clause_of-without K n k e ∙ h

clause_of-still_none : (K : Numbered) (ns : List ℕ) (k : ℕ) → clause_of K k ≡ None → clause_of (without_numbers K ns) k ≡ None
clause_of-still_none K [] k h = h
clause_of-still_none K (n ∷ ns) k h = clause_of-still_none (without_number K n) ns k (clause_of-fewer K n k h)

pub clause_of-gone : (K : Numbered) (ns : List ℕ) (k : ℕ) → is_among k ns ≡ true → clause_of (without_numbers K ns) k ≡ None
clause_of-gone K [] k h = absurd (cc)
clause_of-gone K (n ∷ ns) k h = go (nat_eq k n) refl h (clause_of-gone (without_number K n) ns k)
  where
    go : (b : Bool) → nat_eq k n ≡ b → b || is_among k ns ≡ true → (is_among k ns ≡ true → clause_of (without_numbers (without_number K n) ns) k ≡ None)
        → clause_of (without_numbers (without_number K n) ns) k ≡ None
    go true e t more = clause_of-still_none (without_number K n) ns k (ap (clause_of (without_number K n)) (eqb-true k n e) ∙ clause_of-deleted K n)
    go false e t more = more t
