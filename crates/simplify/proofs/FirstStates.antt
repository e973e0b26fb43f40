-- The first state is that of the definition.
use Rattle.std.proofs.Common.{◌≡◌, ℕ, zero, suc, ◌+◌, ◌-◌, ◌<◌, ◌≤◌, Bool, true, false, ◌⊎◌, inl, inr, List, [], ◌∷◌, map, filter, length, refl, ap, sym, subst, ◌∙◌, Some, None, is_some, Contains, All, slice_get, arith, if◌then◌else◌}
use Rattle.std.specs.Option.{option_map}
use Rattle.std.proofs.lemmas.List.{append-nil}
use Rattle.std.proofs.lemmas.List.Elements.{All-nil}
use Rattle.theory.specs.Literals.{IsVariable, Clause, has_both_signs}
use Rattle.theory.specs.Truth.{Formula, IsFormula, IsOver}
use Rattle.theory.specs.Checking.{numbered_from, clause_of}
use Rattle.theory.specs.Deletions.{is_among, without_numbers}
use Rattle.theory.specs.Proofs.{numbers_from}
use Rattle.theory.specs.Simplifying.{Eliminated, unsimplified, changed_by}
use Rattle.theory.specs.Eliminating.{clause_there, numbers_of, tidying}
use Rattle.theory.specs.Trying.{first_trial}
use Rattle.theory.proofs.literals.LiteralSets.{true_false, false_unless}
use Rattle.theory.proofs.literals.Membership.{Contains-here, Contains-there, Contains-cases, Contains-none}
use Rattle.theory.proofs.checker.FewerClauses.{clause_of-without_numbers, clause_of-gone}
use Rattle.theory.proofs.simplifying.Eliminations.{formula-tidy}
use Rattle.theory.proofs.simplifying.Simplifications.{AreNumbered-formula, clause_of-there}
use Rattle.theory.proofs.simplifying.NumberedClauses.{Contains-among, among-Contains, numbers_of-has, has-numbers_of, clause_there-is}
use Rattle.simplify.specs.Entries.{set, entry_of}
use Rattle.simplify.specs.Stored.{stored}
use Rattle.simplify.specs.Tried.{line_of_gone, IsReady}
use Rattle.simplify.specs.Opening.{absent_in, first_state}
use Rattle.simplify.specs.Following.{IsOf, Follows}
use Rattle.simplify.proofs.FollowedTries.{IsOf-dropped}
use Rattle.theory.proofs.searching.MappedVariables as mapped

-- the clause of a number
numbered-at : (n : ℕ) (cs : List Clause) (m : ℕ) (c : Clause) → Contains (numbered_from n cs) (m, c) → (n ≤ m) × (slice_get cs (m - n) ≡ Some c)
numbered-at n [] m c i = absurd (Contains-none (m, c) i)
numbered-at n (d ∷ cs) m c i = go (Contains-cases (n, d) (numbered_from (n + 1) cs) (m, c) i) (numbered-at (n + 1) cs m c)
  where
    go : (◌≡◌ {A = ℕ × Clause} (n, d) (m, c)) ⊎ Contains (numbered_from (n + 1) cs) (m, c) → (Contains (numbered_from (n + 1) cs) (m, c) → (n + 1 ≤ m) × (slice_get cs (m - (n + 1)) ≡ Some c)) → (n ≤ m) × (slice_get (d ∷ cs) (m - n) ≡ Some c)
    go (inl e) more =
        let same : n ≡ m = ap (λ (p : ℕ × Clause). p.0) e in
        let clause : d ≡ c = ap (λ (p : ℕ × Clause). p.1) e in
        let place : m - n ≡ 0 = omega arith in
        (omega arith, ap (slice_get (d ∷ cs)) place ∙ ap (λ x. Some x) clause)
    go (inr r) more =
        let it = more r in
        let low = it.0 in
        let place : m - n ≡ suc (m - (n + 1)) = omega arith in
        (omega arith, ap (slice_get (d ∷ cs)) place ∙ it.1)

numbered-has : (n : ℕ) (cs : List Clause) (i : ℕ) (c : Clause) → slice_get cs i ≡ Some c → Contains (numbered_from n cs) (n + i, c)
numbered-has n [] i c e = absurd (cc)
numbered-has n (d ∷ cs) zero c e =
    let same : d ≡ c = cc in
    let place : n + 0 ≡ n = omega arith in
    subst (λ k. Contains ((n, d) ∷ numbered_from (n + 1) cs) (k, c)) (sym place) (subst (λ x. Contains ((n, d) ∷ numbered_from (n + 1) cs) (n, x)) same (Contains-here (n, d) (numbered_from (n + 1) cs)))
numbered-has n (d ∷ cs) (suc i) c e =
    let place : n + 1 + i ≡ n + suc i = omega arith in
    subst (λ k. Contains ((n, d) ∷ numbered_from (n + 1) cs) (k, c)) place (Contains-there (n, d) (numbered_from (n + 1) cs) (n + 1 + i, c) (numbered-has (n + 1) cs i c e))

clause-at : (F : Formula) (i : ℕ) (c : Clause) → slice_get F.clauses i ≡ Some c → clause_of (numbered_from 1 F.clauses) (1 + i) ≡ Some c
clause-at F i c e = (AreNumbered-formula F.clauses).alone (1 + i, c) (numbered-has 1 F.clauses i c e)

-- a list by its numbers
by-number : {X : Type 0} (f : ℕ → X) (g : Clause → X) (n : ℕ) (cs : List Clause) → ((i : ℕ) (c : Clause) → slice_get cs i ≡ Some c → f (n + i) ≡ g c) → map f (numbers_from n (length cs)) ≡ map g cs
by-number f g n [] h = refl
by-number f g n (c ∷ cs) h =
    ap (λ x. x ∷ map f (numbers_from (n + 1) (length cs))) (ap f (omega arith) ∙ h 0 c refl)
    ∙ ap (λ xs. g c ∷ xs) (by-number f g (n + 1) cs (λ i d e. ap f (omega arith) ∙ h (suc i) d e))

absent-by : (p : ℕ → Bool) (n : ℕ) (cs : List Clause) → ((i : ℕ) (c : Clause) → slice_get cs i ≡ Some c → p (n + i) ≡ has_both_signs c) → absent_in n (map entry_of cs) ≡ filter p (numbers_from n (length cs))
absent-by p n [] h = refl
absent-by p n (c ∷ cs) h = go (has_both_signs c) refl (absent-by p (n + 1) cs (λ i d e. ap p (omega arith) ∙ h (suc i) d e))
  where
    here : p n ≡ has_both_signs c
    here = ap p (omega arith) ∙ h 0 c refl

    go : (b : Bool) → has_both_signs c ≡ b → absent_in (n + 1) (map entry_of cs) ≡ filter p (numbers_from (n + 1) (length cs))
        → (if is_some (entry_of c) then absent_in (n + 1) (map entry_of cs) else n ∷ absent_in (n + 1) (map entry_of cs)) ≡ (if p n then n ∷ filter p (numbers_from (n + 1) (length cs)) else filter p (numbers_from (n + 1) (length cs)))
    go true e more =
        ap (λ b. if is_some (if b then None else Some (set c)) then absent_in (n + 1) (map entry_of cs) else n ∷ absent_in (n + 1) (map entry_of cs)) e
        ∙ (ap (λ ms. n ∷ ms) more ∙ ap (λ b. if b then n ∷ filter p (numbers_from (n + 1) (length cs)) else filter p (numbers_from (n + 1) (length cs))) (sym (here ∙ e)))
    go false e more =
        ap (λ b. if is_some (if b then None else Some (set c)) then absent_in (n + 1) (map entry_of cs) else n ∷ absent_in (n + 1) (map entry_of cs)) e
        ∙ (more ∙ ap (λ b. if b then n ∷ filter p (numbers_from (n + 1) (length cs)) else filter p (numbers_from (n + 1) (length cs))) (sym (here ∙ e)))

module _ (F : Formula) where
  -- those with both signs of a variable
  gone : List ℕ
  gone = numbers_of has_both_signs (unsimplified F)

  both-at : (i : ℕ) (c : Clause) → slice_get F.clauses i ≡ Some c → has_both_signs (clause_there (unsimplified F) (1 + i)) ≡ has_both_signs c
  both-at i c e = ap has_both_signs (clause_there-is (unsimplified F) (1 + i) c (clause-at F i c e))

  pub absent-gone : absent_in 1 (map entry_of F.clauses) ≡ numbers_of has_both_signs (unsimplified F)
  absent-gone = absent-by (λ n. has_both_signs (clause_there (unsimplified F) n)) 1 F.clauses both-at

  below : (i : ℕ) (c : Clause) (cs : List Clause) → slice_get cs i ≡ Some c → i < length cs
  below i c [] e = absurd (cc)
  below zero c (d ∷ cs) e = omega arith
  below (suc i) c (d ∷ cs) e = let rest = below i c cs e in omega arith

  entry-at : (i : ℕ) (c : Clause) → slice_get F.clauses i ≡ Some c → option_map set (clause_of (without_numbers (numbered_from 1 F.clauses) (numbers_of has_both_signs (unsimplified F))) (1 + i)) ≡ entry_of c
  entry-at i c e = go (has_both_signs c) refl
    where
      last : i < length F.clauses
      last = below i c F.clauses e

      go : (b : Bool) → has_both_signs c ≡ b → option_map set (clause_of (without_numbers (numbered_from 1 F.clauses) (numbers_of has_both_signs (unsimplified F))) (1 + i)) ≡ (if has_both_signs c then None else Some (set c))
      go true f =
          ap (option_map set) (clause_of-gone (numbered_from 1 F.clauses) (numbers_of has_both_signs (unsimplified F)) (1 + i)
          (Contains-among (1 + i) (numbers_of has_both_signs (unsimplified F)) (numbers_of-has has_both_signs (unsimplified F) (1 + i) (omega arith) (let l = last in omega arith) (both-at i c e ∙ f))))
          ∙ ap (λ b. if b then None else Some (set c)) (sym f)
      go false f =
          ap (option_map set) (clause_of-without_numbers (numbered_from 1 F.clauses) (numbers_of has_both_signs (unsimplified F)) (1 + i)
          (false_unless (is_among (1 + i) (numbers_of has_both_signs (unsimplified F))) (λ t. true_false (has_both_signs c)
          (sym (both-at i c e) ∙ (has-numbers_of has_both_signs (unsimplified F) (1 + i) (among-Contains (1 + i) (numbers_of has_both_signs (unsimplified F)) t)).2) f)) ∙ clause-at F i c e)
          ∙ ap (λ b. if b then None else Some (set c)) (sym f)

  pub entries-first : map entry_of F.clauses ≡ stored (changed_by (unsimplified F) (tidying (unsimplified F)))
  entries-first = sym (by-number (λ n. option_map set (clause_of (without_numbers (numbered_from 1 F.clauses) (numbers_of has_both_signs (unsimplified F))) n)) entry_of 1 F.clauses entry-at)

  origin-first : IsOf F (unsimplified F)
  origin-first = record {
    longer = omega arith;
    old = λ n c e low. (numbered-at 1 F.clauses n c (clause_of-there (numbered_from 1 F.clauses) n c e)).1;
    new = λ n c e high. absurd (let w = ((AreNumbered-formula F.clauses).within n c e).1 in omega arith);
  }

  pub follows-first : IsFormula F → Follows F (tidying (unsimplified F)) (first_trial F) (first_state F)
  follows-first formed = record {
    vars = refl;
    tidy = (formula-tidy F formed).1;
    changes = refl;
    entries = entries-first;
    weights = refl;
    waits = refl;
    work = refl;
    lines = ap line_of_gone absent-gone ∙ sym (append-nil (line_of_gone (numbers_of has_both_signs (unsimplified F))));
    hinted = tt;
    kept = λ m v. refl;
    over = All-nil (λ (e : Eliminated). IsVariable F.vars e.var × All (IsOver F.vars) e.clauses);
    origin = IsOf-dropped F (unsimplified F) (changed_by (unsimplified F) (tidying (unsimplified F))) (numbers_of has_both_signs (unsimplified F)) refl refl origin-first;
  }

  pub ready-first : IsReady (first_state F)
  ready-first = record { weights = refl; waits = mapped.length-mapped (λ v. true) F.vars }
