-- Accepted steps are accepted from a state with fewer clauses, in whatever order, where they name
-- only clauses that are in both.
use Rattle.std.proofs.Common.{◌≡◌, ℕ, ◌+◌, Bool, true, false, not, ◌||◌, List, [], ◌∷◌, ◌++◌, refl, ap, sym, subst, ◌∙◌, inl, inr, nat_eq, nat_le, eqb-true, eq-eqb, Option, Some, None, is_some, cond, Contains, if◌then◌else◌}
use Rattle.std.specs.List.{list_any}
use Rattle.theory.specs.Literals.{Literal, Clause, negated, negations, has, has_both_signs, without}
use Rattle.theory.specs.Steps.{Group, Addition, Step, add, delete}
use Rattle.theory.specs.Checking.{Fault, id_not_rising, literal_out_of_range, both_signs, bad_candidate, missing_candidate, Numbered, clause_of, without_number, Hint, missing, false_clause, not_unit, unit_in, hint, Taken, conflicts, holds, fails, take_hints, is_closed, are_dealt_with, fault_of, closed_fault, group_fault, groups_fault, rat_fault, hints_fault, addition_fault, addition_test, deletion_test, deleted, Checker, is_empty, added, Tested, leaves, faulty, test, Checked, accepted, refused, no_empty_clause, check_from}
use Rattle.theory.specs.Deletions.{is_among, group_names, names}
use Rattle.theory.proofs.literals.LiteralLemmas.{or-left, or-right}
use Rattle.theory.proofs.literals.Membership.{Contains-here, Contains-there, Contains-cases}
use Rattle.theory.proofs.checker.Hints.{take_on}
use Rattle.theory.proofs.checker.FewerClauses.{clause_of-without}
use Rattle.theory.proofs.simplifying.ListTests.{all-at, all-from, filter-has, has-filter_of}

-- L has no clause that K hasn't, and those of K but for such as are gone
pub record HasRest (Gone : ℕ → Type 0) (K L : Numbered) : Type 0 where
  pub same : (n : ℕ) → ¬ (Gone n) → clause_of L n ≡ clause_of K n
  pub part : (e : ℕ × Clause) → Contains L e → Contains K e

-- a step that names nothing that is gone
abbrev pub AreNamed : (ℕ → Type 0) → List ℕ → Type 0
AreNamed Gone ns = (n : ℕ) → is_among n ns ≡ true → ¬ (Gone n)

abbrev pub IsNamed : (ℕ → Type 0) → Step → Type 0
IsNamed Gone step = (n : ℕ) → names n step ≡ true → ¬ (Gone n)

take_hints-rest : (Gone : ℕ → Type 0) (K L : Numbered) (P : List Literal) (ns : List ℕ) → HasRest Gone K L → AreNamed Gone ns → take_hints L P ns ≡ take_hints K P ns
unfolding take_on
take_hints-rest Gone K L P [] rest named = refl
take_hints-rest Gone K L P (n ∷ ns) rest named =
    ap (λ o. take_on L P ns (hint P o)) (rest.same n (named n (or-left (nat_eq n n) (is_among n ns) (eq-eqb n n refl))))
    ∙ go (hint P (clause_of K n)) (λ l. take_hints-rest Gone K L (l ∷ P) ns rest (λ k a. named k (or-right (nat_eq k n) (is_among k ns) a)))
  where
    go : (r : Hint) → ((l : Literal) → take_hints L (l ∷ P) ns ≡ take_hints K (l ∷ P) ns) → take_on L P ns r ≡ take_on K P ns r
    go missing more = refl
    go false_clause more = refl
    go not_unit more = refl
    go (unit_in l) more = more l

group_fault-rest : (Gone : ℕ → Type 0) (K L : Numbered) (P : List Literal) (q : Literal) (before : List ℕ) (g : Group) → HasRest Gone K L → ((n : ℕ) → group_names n g ≡ true → ¬ (Gone n))
    → group_fault L P q before g (clause_of L g.candidate) ≡ group_fault K P q before g (clause_of K g.candidate)
group_fault-rest Gone K L P q before g rest named =
    ap (group_fault L P q before g) (rest.same g.candidate (named g.candidate (or-left (nat_eq g.candidate g.candidate) (is_among g.candidate g.hints) (eq-eqb g.candidate g.candidate refl))))
    ∙ go (clause_of K g.candidate)
  where
    go : (o : Option Clause) → group_fault L P q before g o ≡ group_fault K P q before g o
    go None = refl
    go (Some d) =
        ap (λ t. if not (has d q) || list_any (nat_eq g.candidate) before then Some bad_candidate else if is_closed P q d then closed_fault g.hints else fault_of t)
        (take_hints-rest Gone K L (negations (without d q) ++ P) g.hints rest (λ n a. named n (or-right (nat_eq n g.candidate) (is_among n g.hints) a)))

groups_on : Numbered → List Literal → Literal → List ℕ → Group → List Group → Option Fault → Option Fault
groups_on K P q before g gs r = elim r [ Some f ↦ Some f | None ↦ groups_fault K P q (g.candidate ∷ before) gs ]

groups_fault-rest : (Gone : ℕ → Type 0) (K L : Numbered) (P : List Literal) (q : Literal) (before : List ℕ) (gs : List Group) → HasRest Gone K L
    → ((n : ℕ) → list_any (group_names n) gs ≡ true → ¬ (Gone n)) → groups_fault K P q before gs ≡ None → groups_fault L P q before gs ≡ None
unfolding groups_on
groups_fault-rest Gone K L P q before [] rest named e = all (are_dealt_with K P q before) refl e
  where
    dealt : are_dealt_with K P q before ≡ true → are_dealt_with L P q before ≡ true
    dealt t = all-from (λ e. not (has e.1 q) || (is_closed P q e.1 || list_any (nat_eq e.0) before)) L
        (λ e c. all-at (λ e. not (has e.1 q) || (is_closed P q e.1 || list_any (nat_eq e.0) before)) K e t (rest.part e c))

    all : (b : Bool) → are_dealt_with K P q before ≡ b → (if b then None else Some missing_candidate) ≡ None → groups_fault L P q before [] ≡ None
    all true t k = ap (λ b. if b then None else Some missing_candidate) (dealt t)
    all false t k = absurd (cc)
groups_fault-rest Gone K L P q before (g ∷ gs) rest named e =
    ap (groups_on L P q before g gs) (group_fault-rest Gone K L P q before g rest (λ n a. named n (or-left (group_names n g) (list_any (group_names n) gs) a)))
    ∙ go (group_fault K P q before g (clause_of K g.candidate)) e
    (groups_fault-rest Gone K L P q (g.candidate ∷ before) gs rest (λ n a. named n (or-right (group_names n g) (list_any (group_names n) gs) a)))
  where
    go : (r : Option Fault) → groups_on K P q before g gs r ≡ None
        → (groups_fault K P q (g.candidate ∷ before) gs ≡ None → groups_fault L P q (g.candidate ∷ before) gs ≡ None)
        → groups_on L P q before g gs r ≡ None
    go (Some f) k more = absurd (cc)
    go None k more = more k

hints_fault-rest : (Gone : ℕ → Type 0) (K L : Numbered) (a : Addition) (t : Taken) → HasRest Gone K L → ((n : ℕ) → list_any (group_names n) a.groups ≡ true → ¬ (Gone n))
    → hints_fault K a t ≡ None → hints_fault L a t ≡ None
hints_fault-rest Gone K L a conflicts rest named e = e
hints_fault-rest Gone K L a (holds P) rest named e = go a.clause e
  where
    go : (c : Clause) → rat_fault K P c a.groups ≡ None → rat_fault L P c a.groups ≡ None
    go [] k = k
    go (p ∷ c) k = groups_fault-rest Gone K L P (negated p) [] a.groups rest named k
hints_fault-rest Gone K L a (fails f) rest named e = e

addition_fault-rest : (Gone : ℕ → Type 0) (V last : ℕ) (K L : Numbered) (a : Addition) → HasRest Gone K L → IsNamed Gone (add a) → addition_fault V last K a ≡ None → addition_fault V last L a ≡ None
addition_fault-rest Gone V last K L a rest named e = go (nat_le a.id last) (list_any (λ l. not (nat_le l.var V)) a.clause) (has_both_signs a.clause) e
  where
    taken : take_hints L (negations a.clause) a.hints ≡ take_hints K (negations a.clause) a.hints
    taken = take_hints-rest Gone K L (negations a.clause) a.hints rest (λ n h. named n (or-left (is_among n a.hints) (list_any (group_names n) a.groups) h))

    go : (x y z : Bool)
        → (if x then Some id_not_rising else if y then Some literal_out_of_range else if z then Some both_signs else hints_fault K a (take_hints K (negations a.clause) a.hints)) ≡ None
        → (if x then Some id_not_rising else if y then Some literal_out_of_range else if z then Some both_signs else hints_fault L a (take_hints L (negations a.clause) a.hints)) ≡ None
    go false false false k = ap (hints_fault L a) taken
        ∙ hints_fault-rest Gone K L a (take_hints K (negations a.clause) a.hints) rest (λ n h. named n (or-right (is_among n a.hints) (list_any (group_names n) a.groups) h)) k
    go true y z k = absurd (cc)
    go false true z k = absurd (cc)
    go false false true k = absurd (cc)

-- an addition and a deletion leave it so
HasRest-added : (Gone : ℕ → Type 0) (K L : Numbered) (n : ℕ) (c : Clause) → HasRest Gone K L → HasRest Gone ((n, c) ∷ K) ((n, c) ∷ L)
HasRest-added Gone K L n c rest = record {
  same = λ k there. ap (λ o. if nat_eq n k then Some c else o) (rest.same k there);
  part = λ e a. (elim (Contains-cases (n, c) L e a) [
    | inl i ↦ subst (λ (x : ℕ × Clause). Contains (x ∷ K) e) (sym i) (Contains-here e K)
    | inr r ↦ Contains-there (n, c) K e (rest.part e r)
  ]);
}

without_number-none : (K : Numbered) (n : ℕ) → clause_of (without_number K n) n ≡ None
without_number-none [] n = refl
without_number-none (x ∷ K) n = go (nat_eq x.0 n) refl (without_number-none K n)
  where
    go : (b : Bool) → nat_eq x.0 n ≡ b → clause_of (without_number K n) n ≡ None → clause_of (cond (not b) (x ∷ without_number K n) (without_number K n)) n ≡ None
    go true e more = more
    go false e more = ap (λ b. if b then Some x.1 else clause_of (without_number K n) n) e ∙ more

HasRest-without : (Gone : ℕ → Type 0) (K L : Numbered) (n : ℕ) → HasRest Gone K L → HasRest Gone (without_number K n) (without_number L n)
HasRest-without Gone K L n rest = record {
  same = λ k there. at k there (nat_eq n k) refl;
  part = λ e a. (let it = has-filter_of (λ e. not (nat_eq e.0 n)) L e a in filter-has (λ e. not (nat_eq e.0 n)) K e (rest.part e it.0) it.1);
}
  where
    at : (k : ℕ) → ¬ (Gone k) → (b : Bool) → nat_eq n k ≡ b → clause_of (without_number L n) k ≡ clause_of (without_number K n) k
    at k there true e =
        let i : n ≡ k = eqb-true n k e in
        subst (λ j. clause_of (without_number L n) j ≡ clause_of (without_number K n) j) i (without_number-none L n ∙ sym (without_number-none K n))
    at k there false e = clause_of-without L n k e ∙ (rest.same k there ∙ sym (clause_of-without K n k e))

pub record DeletedRest (Gone : ℕ → Type 0) (K : Numbered) (L : Numbered) (ns : List ℕ) : Type 0 where
  pub left : Numbered
  pub is : deleted L ns ≡ Some left
  pub rest : HasRest Gone K left

deleted-rest : (Gone : ℕ → Type 0) (K L M : Numbered) (ns : List ℕ) → HasRest Gone K L → AreNamed Gone ns → deleted K ns ≡ Some M → DeletedRest Gone M L ns
deleted-rest Gone K L M [] rest named e = let same : K ≡ M = cc in record { left = L; is = refl; rest = subst (λ X. HasRest Gone X L) same rest }
deleted-rest Gone K L M (n ∷ ns) rest named e =
    go (is_some (clause_of K n)) refl e (deleted-rest Gone (without_number K n) (without_number L n) M ns (HasRest-without Gone K L n rest)
    (λ k a. named k (or-right (nat_eq k n) (is_among k ns) a)))
  where
    go : (b : Bool) → is_some (clause_of K n) ≡ b → (if b then deleted (without_number K n) ns else None) ≡ Some M
        → (deleted (without_number K n) ns ≡ Some M → DeletedRest Gone M (without_number L n) ns) → DeletedRest Gone M L (n ∷ ns)
    go true t k more =
        let one = more k in
        let here : is_some (clause_of L n) ≡ true = ap is_some (rest.same n (named n (or-left (nat_eq n n) (is_among n ns) (eq-eqb n n refl)))) ∙ t in
        record { left = one.left; is = ap (λ b. if b then deleted (without_number L n) ns else None) here ∙ one.is; rest = one.rest }
    go false t k more = absurd (cc)

-- a state with these clauses, where no empty clause was added or one was
pub record IsLike (Gone : ℕ → Type 0) (s t : Checker) : Type 0 where
  pub rest : HasRest Gone s.clauses t.clauses
  pub last : t.last ≡ s.last
  pub empty : s.empty ≡ true → t.empty ≡ true

-- a step leaves them alike
pub record LeavesLike (Gone : ℕ → Type 0) (V : ℕ) (s t : Checker) (step : Step) : Type 0 where
  pub state : Checker
  pub is : test V t step ≡ leaves state
  pub like : IsLike Gone s state

test-like : (Gone : ℕ → Type 0) (V : ℕ) (s t u : Checker) (step : Step) → IsLike Gone s t → IsNamed Gone step → test V s step ≡ leaves u → LeavesLike Gone V u t step
test-like Gone V s t u (add a) like named h = go (addition_fault V s.last s.clauses a) refl h
  where
    kept : s.empty || is_empty a.clause ≡ true → t.empty || is_empty a.clause ≡ true
    kept e = both s.empty (is_empty a.clause) e like.empty
      where
        both : (x y : Bool) → x || y ≡ true → (x ≡ true → t.empty ≡ true) → t.empty || y ≡ true
        both true y k f = or-left t.empty y (f refl)
        both false y k f = or-right t.empty y k

    go : (r : Option Fault) → addition_fault V s.last s.clauses a ≡ r → addition_test s a r ≡ leaves u → LeavesLike Gone V u t (add a)
    go None f q =
        let state : added s a ≡ u = cc in
        let none : addition_fault V t.last t.clauses a ≡ None = ap (λ l. addition_fault V l t.clauses a) like.last ∙ addition_fault-rest Gone V s.last s.clauses t.clauses a like.rest named f in
        subst (λ (x : Checker). LeavesLike Gone V x t (add a)) state (record {
          state = added t a;
          is = ap (addition_test t a) none;
          like = record { rest = HasRest-added Gone s.clauses t.clauses a.id a.clause like.rest; last = refl; empty = kept };
        })
    go (Some x) f q = absurd (cc)
test-like Gone V s t u (delete d) like named h = go (deleted s.clauses d.ids) refl h
  where
    go : (r : Option Numbered) → deleted s.clauses d.ids ≡ r → deletion_test s r ≡ leaves u → LeavesLike Gone V u t (delete d)
    go (Some M) f q =
        let state : record s { clauses = M } ≡ u = cc in
        let one = deleted-rest Gone s.clauses t.clauses M d.ids like.rest named f in
        subst (λ (x : Checker). LeavesLike Gone V x t (delete d)) state (record {
          state = record t { clauses = one.left };
          is = ap (deletion_test t) one.is;
          like = record { rest = one.rest; last = like.last; empty = like.empty };
        })
    go None f q = absurd (cc)

on_test : ℕ → ℕ → List Step → Tested → Checked
on_test V n rest r = elim r [ leaves t ↦ check_from V (n + 1) t rest | faulty f ↦ refused f n ]

-- Steps that name nothing that is gone are accepted there too.
pub accepted-like : (Gone : ℕ → Type 0) (V k m : ℕ) (s t : Checker) (steps : List Step) → IsLike Gone s t → ((n : ℕ) → list_any (names n) steps ≡ true → ¬ (Gone n))
    → check_from V k s steps ≡ accepted → check_from V m t steps ≡ accepted
unfolding on_test
accepted-like Gone V k m s t [] like named h = go s.empty refl h
  where
    go : (b : Bool) → s.empty ≡ b → (if b then accepted else no_empty_clause) ≡ accepted → (if t.empty then accepted else no_empty_clause) ≡ accepted
    go true e q = ap (λ b. if b then accepted else no_empty_clause) (like.empty e)
    go false e q = absurd (cc)
accepted-like Gone V k m s t (step ∷ steps) like named h = go (test V s step) refl h (λ u v. accepted-like Gone V (k + 1) (m + 1) u v steps)
  where
    go : (r : Tested) → test V s step ≡ r → on_test V k steps r ≡ accepted
        → ((u v : Checker) → IsLike Gone u v → ((n : ℕ) → list_any (names n) steps ≡ true → ¬ (Gone n)) → check_from V (k + 1) u steps ≡ accepted → check_from V (m + 1) v steps ≡ accepted)
        → check_from V m t (step ∷ steps) ≡ accepted
    go (leaves u) q e more =
        let one = test-like Gone V s t u step like (λ n a. named n (or-left (names n step) (list_any (names n) steps) a)) q in
        ap (on_test V m steps) one.is ∙ more u one.state one.like (λ n a. named n (or-right (names n step) (list_any (names n) steps) a)) e
    go (faulty f) q e more = absurd (cc)
