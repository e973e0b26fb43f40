-- The numbers of the clauses that are there and pass a test.
use Rattle.std.proofs.Common.{◌≡◌, ℕ, zero, suc, ◌+◌, ◌<◌, ◌≤◌, Bool, true, false, not, List, [], ◌∷◌, refl, ap, sym, subst, ◌∙◌, ◌⊎◌, inl, inr, cond, filter, Contains, nat_eq, eqb-true, eq-eqb, Option, Some, None, unwrap_or, arith}
use Rattle.theory.specs.Literals.{Clause}
use Rattle.theory.specs.Checking.{clause_of}
use Rattle.theory.specs.Deletions.{is_among, are_different}
use Rattle.theory.specs.Proofs.{numbers_from}
use Rattle.theory.specs.Simplifying.{Simplified}
use Rattle.theory.specs.Eliminating.{clause_there, numbers_of}
use Rattle.theory.proofs.literals.LiteralLemmas.{and-left, and-right, not_true}
use Rattle.theory.proofs.literals.LiteralSets.{and-true, true_false, false_unless}
use Rattle.theory.proofs.literals.Membership.{Contains-cases, Contains-none}
use Rattle.theory.proofs.checker.DeletedNumbers.{are_different-numbers_from}
use Rattle.theory.proofs.simplifying.ListTests.{any-at, any-from, filter-has, has-filter_of}
use Rattle.theory.proofs.simplifying.SimplifiedModels.{numbers_from-has}

-- membership in a list of numbers
pub among-Contains : (n : ℕ) (ns : List ℕ) → is_among n ns ≡ true → Contains ns n
among-Contains n ns h = let one = any-at (nat_eq n) ns h in subst (Contains ns) (sym (eqb-true n one.0 one.2)) one.1

pub Contains-among : (n : ℕ) (ns : List ℕ) → Contains ns n → is_among n ns ≡ true
Contains-among n ns c = any-from (nat_eq n) ns n c (eq-eqb n n refl)

numbers_from-between : (n count k : ℕ) → Contains (numbers_from n count) k → (n ≤ k) × (k < n + count)
numbers_from-between n zero k c = absurd (Contains-none k c)
numbers_from-between n (suc count) k c = go (Contains-cases n (numbers_from (n + 1) count) k c) (numbers_from-between (n + 1) count k)
  where
    go : (n ≡ k) ⊎ Contains (numbers_from (n + 1) count) k → (Contains (numbers_from (n + 1) count) k → (n + 1 ≤ k) × (k < n + 1 + count)) → (n ≤ k) × (k < n + suc count)
    go (inl e) more = (omega arith, omega arith)
    go (inr r) more = let low = (more r).0 in let high = (more r).1 in (omega arith, omega arith)

-- of different numbers those that pass are different
are_different-filter : (p : ℕ → Bool) (ns : List ℕ) → are_different ns ≡ true → are_different (filter p ns) ≡ true
are_different-filter p [] h = refl
are_different-filter p (n ∷ ns) h = go (p n) (are_different-filter p ns (and-right (not (is_among n ns)) (are_different ns) h))
  where
    alone : is_among n (filter p ns) ≡ false
    alone = false_unless (is_among n (filter p ns)) (λ t. true_false (is_among n ns)
        (Contains-among n ns (has-filter_of p ns n (among-Contains n (filter p ns) t)).0) (not_true (is_among n ns) (and-left (not (is_among n ns)) (are_different ns) h)))

    go : (b : Bool) → are_different (filter p ns) ≡ true → are_different (cond b (n ∷ filter p ns) (filter p ns)) ≡ true
    go true more = and-true (not (is_among n (filter p ns))) (are_different (filter p ns)) (ap not alone) more
    go false more = more

pub are_different-numbers_of : (p : Clause → Bool) (s : Simplified) → are_different (numbers_of p s) ≡ true
are_different-numbers_of p s = are_different-filter (λ n. p (clause_there s n)) (numbers_from 1 s.last) (are_different-numbers_from 1 s.last)

-- a number up to the last whose clause passes
pub numbers_of-has : (p : Clause → Bool) (s : Simplified) (n : ℕ) → 1 ≤ n → n ≤ s.last → p (clause_there s n) ≡ true → Contains (numbers_of p s) n
numbers_of-has p s n one end h = filter-has (λ n. p (clause_there s n)) (numbers_from 1 s.last) n (numbers_from-has 1 s.last n one (omega arith)) h

pub has-numbers_of : (p : Clause → Bool) (s : Simplified) (n : ℕ) → Contains (numbers_of p s) n → (1 ≤ n) × (n ≤ s.last) × (p (clause_there s n) ≡ true)
has-numbers_of p s n c =
    let it = has-filter_of (λ n. p (clause_there s n)) (numbers_from 1 s.last) n c in
    let w = numbers_from-between 1 s.last n it.0 in
    let high = w.1 in
    (w.0, omega arith, it.1)

-- where a clause without literals doesn't pass, one is there
pub there-of : (p : Clause → Bool) (s : Simplified) (n : ℕ) → p [] ≡ false → p (clause_there s n) ≡ true → clause_of s.clauses n ≡ Some (clause_there s n)
there-of p s n none h = go (clause_of s.clauses n) refl h
  where
    go : (o : Option Clause) → clause_of s.clauses n ≡ o → p (unwrap_or o []) ≡ true → clause_of s.clauses n ≡ Some (clause_there s n)
    go None e k = true_false (p []) k none
    go (Some c) e k = e ∙ ap Some (sym (ap (λ o. unwrap_or o []) e))

-- and what is there is what stands there
pub clause_there-is : (s : Simplified) (n : ℕ) (c : Clause) → clause_of s.clauses n ≡ Some c → clause_there s n ≡ c
clause_there-is s n c e = ap (λ o. unwrap_or o []) e
