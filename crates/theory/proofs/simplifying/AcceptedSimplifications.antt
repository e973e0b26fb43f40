-- The checker accepts the lines of a simplification, and has just the clauses that are there behind
-- them.
use Rattle.std.proofs.Common.{◌≡◌, ℕ, zero, suc, ◌+◌, ◌-◌, ◌<◌, ◌≤◌, Bool, false, List, [], ◌∷◌, ◌++◌, map, length, refl, ap, sym, subst, ◌∙◌, ◌⊎◌, inl, inr, Option, Some, None, slice_get, unwrap_or, arith, Contains, true, false, ◌≤◌}
use Rattle.theory.specs.Literals.{Clause}
use Rattle.theory.specs.Truth.{Formula}
use Rattle.theory.specs.Propagation.{clause_at}
use Rattle.theory.specs.Forgetting.{forgotten}
use Rattle.theory.specs.Steps.{Addition, Step, add, delete}
use Rattle.theory.specs.Checking.{clause_of, deleted, deletion_test, Checker, added, numbered_from, checks, accepted}
use Rattle.theory.specs.Deletions.{without_numbers, names}
use Rattle.theory.specs.Proofs.{numbers_from}
use Rattle.theory.specs.Simplifying.{Simplified, unsimplified, Change, adds, drops, eliminates, changed, AreFit, AreSimplifying, changed_by, kept_clauses, dropping, change_steps, AreNumbered, simplified, simplified_formula, simplification}
use Rattle.theory.proofs.literals.OverVariables.{AreOver-from_IsOver}
use Rattle.theory.proofs.checker.AcceptedSteps.{Follows, Follows-none, Follows-one, Follows-then, Follows-add, addition_fault-none}
use Rattle.theory.proofs.checker.AcceptedProofs.{AreLeftIn}
use Rattle.std.specs.List.{list_any}
use Rattle.theory.proofs.checker.AcceptedPrelude.{start, AreInput-numbered_from}
use Rattle.theory.proofs.checker.OtherClauses.{HasRest, accepted-like}
use Rattle.theory.proofs.simplifying.Simplifications.{AreNumbered-formula, AreNumbered-all, clause_of-there}

-- the checker that has the clauses of s
abbrev pub checker_of : Simplified → Bool → Checker
checker_of s e = record { clauses = s.clauses; last = s.last; empty = e }

-- what the lines of changes leave
pub record ChangesLead (V : ℕ) (s : Simplified) (e : Bool) (cs : List Change) : Type 0 where
  pub empty : Bool
  pub leads : Follows V (checker_of s e) (change_steps s.last cs) (checker_of (changed_by s cs) empty)

-- a deletion
dropping-leads : (V : ℕ) (s : Checker) (ns : List ℕ) → deleted s.clauses ns ≡ Some (without_numbers s.clauses ns) → Follows V s (dropping s.last ns) (record s { clauses = without_numbers s.clauses ns })
dropping-leads V s [] h = Follows-none V s
dropping-leads V s (n ∷ ns) h = Follows-one V s (record s { clauses = without_numbers s.clauses (n ∷ ns) }) (delete (record { id = s.last; ids = n ∷ ns })) (ap (deletion_test s) h) refl

-- one change, then the others
ChangesLead-then : (V : ℕ) (s : Simplified) (e f : Bool) (c : Change) (cs : List Change) (steps : List Step) → change_steps s.last (c ∷ cs) ≡ steps ++ change_steps (changed s c).last cs
    → Follows V (checker_of s e) steps (checker_of (changed s c) f) → ChangesLead V (changed s c) f cs → ChangesLead V s e (c ∷ cs)
ChangesLead-then V s e f c cs steps parted first more = record {
  empty = more.empty;
  leads = subst (λ ss. Follows V (checker_of s e) ss (checker_of (changed_by s (c ∷ cs)) more.empty)) (sym parted)
      (Follows-then V (checker_of s e) (checker_of (changed s c) f) (checker_of (changed_by s (c ∷ cs)) more.empty) steps (change_steps (changed s c).last cs) first more.leads);
}

pub ChangesLead-fit : (V : ℕ) (s : Simplified) (e : Bool) (cs : List Change) → AreFit V s cs → ChangesLead V s e cs
ChangesLead-fit V s e [] fit = record { empty = e; leads = Follows-none V (checker_of s e) }
ChangesLead-fit V s e (adds line ∷ cs) fit =
    ChangesLead-then V s e (added (checker_of s e) one).empty (adds line) cs (add one ∷ []) refl
    (Follows-add V (checker_of s e) one (addition_fault-none V s.last s.clauses (s.last + 1) line.clause line.hints (omega arith) (AreOver-from_IsOver V line.clause fit.0.over) fit.0.one_sign fit.0.passes) fit.0.passes)
    (ChangesLead-fit V (changed s (adds line)) (added (checker_of s e) one).empty cs fit.1)
  where
    one : Addition
    one = record { id = s.last + 1; clause = line.clause; hints = line.hints; groups = [] }
ChangesLead-fit V s e (drops ns ∷ cs) fit =
    ChangesLead-then V s e e (drops ns) cs (dropping s.last ns) refl (dropping-leads V (checker_of s e) ns fit.0.0) (ChangesLead-fit V (changed s (drops ns)) e cs fit.1)
ChangesLead-fit V s e (eliminates x ns ∷ cs) fit =
    ChangesLead-then V s e e (eliminates x ns) cs (dropping s.last ns) refl (dropping-leads V (checker_of s e) ns fit.0.there) (ChangesLead-fit V (changed s (eliminates x ns)) e cs fit.1)

pub simplification-leads : (F : Formula) (cs : List Change) → AreSimplifying F cs → ChangesLead F.vars (unsimplified F) false cs
simplification-leads F cs fit = ChangesLead-fit F.vars (unsimplified F) false cs fit

-- the clauses by number
slice_get-numbers : {X : Type 0} (f : ℕ → X) (n count i : ℕ) → i < count → slice_get (map f (numbers_from n count)) i ≡ Some (f (n + i))
slice_get-numbers f n zero i h = absurd (omega arith)
slice_get-numbers f n (suc count) zero h = let same : n ≡ n + 0 = omega arith in ap (λ k. Some (f k)) same
slice_get-numbers f n (suc count) (suc i) h = let same : n + 1 + i ≡ n + suc i = omega arith in slice_get-numbers f (n + 1) count i (omega arith) ∙ ap (λ k. Some (f k)) same

length-numbers : {X : Type 0} (f : ℕ → X) (n count : ℕ) → length (map f (numbers_from n count)) ≡ count
length-numbers f n zero = refl
length-numbers f n (suc count) = ap suc (length-numbers f (n + 1) count)

pub length-kept_clauses : (s : Simplified) → length (kept_clauses s) ≡ s.last
length-kept_clauses s = length-numbers (λ n. unwrap_or (clause_of s.clauses n) forgotten) 1 s.last

pub clause_at-kept_clauses : (s : Simplified) (n : ℕ) → 1 ≤ n → n ≤ s.last → clause_at (kept_clauses s) n ≡ unwrap_or (clause_of s.clauses n) forgotten
clause_at-kept_clauses s n one end =
    let same : 1 + (n - 1) ≡ n = omega arith in
    ap (λ (o : Option Clause). unwrap_or o []) (slice_get-numbers (λ n. unwrap_or (clause_of s.clauses n) forgotten) 1 s.last (n - 1) (omega arith))
    ∙ ap (λ k. unwrap_or (clause_of s.clauses k) forgotten) same

pub AreLeftIn-kept_clauses : (s : Simplified) → AreLeftIn (kept_clauses s) s.clauses
AreLeftIn-kept_clauses s n one end = go (clause_of s.clauses n) refl
  where
    at : clause_at (kept_clauses s) n ≡ unwrap_or (clause_of s.clauses n) forgotten
    at = clause_at-kept_clauses s n one (let l = length-kept_clauses s in omega arith)

    go : (o : Option Clause) → clause_of s.clauses n ≡ o → (clause_of s.clauses n ≡ Some (clause_at (kept_clauses s) n)) ⊎ (clause_at (kept_clauses s) n ≡ forgotten)
    go None e = inr (at ∙ ap (λ o. unwrap_or o forgotten) e)
    go (Some c) e = inl (e ∙ ap Some (sym (at ∙ ap (λ o. unwrap_or o forgotten) e)))

-- a number up to the last that no clause has any more
abbrev pub IsDropped : Simplified → ℕ → Type 0
IsDropped s n = (n ≤ s.last) × (clause_of s.clauses n ≡ None)

-- the clauses that are there, among those of the list
HasRest-kept : (s : Simplified) → AreNumbered s.last s.clauses → HasRest (IsDropped s) (numbered_from 1 (kept_clauses s)) s.clauses
HasRest-kept s numbered = record { same = same; part = part }
  where
    L : List Clause
    L = kept_clauses s

    listed : AreNumbered (length L) (numbered_from 1 L)
    listed = AreNumbered-formula L

    at : (n : ℕ) → 1 ≤ n → n ≤ s.last → clause_of (numbered_from 1 L) n ≡ Some (unwrap_or (clause_of s.clauses n) forgotten)
    at n one end = AreInput-numbered_from L n one (let l = length-kept_clauses s in omega arith) ∙ ap Some (clause_at-kept_clauses s n one end)

    there : (n : ℕ) (c : Clause) → clause_of s.clauses n ≡ Some c → clause_of (numbered_from 1 L) n ≡ Some c
    there n c e = let w = numbered.within n c e in at n w.0 w.1 ∙ ap (λ o. Some (unwrap_or o forgotten)) e

    same : (n : ℕ) → ¬ (IsDropped s n) → clause_of s.clauses n ≡ clause_of (numbered_from 1 L) n
    same n stays = go (clause_of s.clauses n) refl
      where
        go : (o : Option Clause) → clause_of s.clauses n ≡ o → clause_of s.clauses n ≡ clause_of (numbered_from 1 L) n
        go (Some c) e = e ∙ sym (there n c e)
        go None e = e ∙ sym (above (clause_of (numbered_from 1 L) n) refl)
          where
            above : (o : Option Clause) → clause_of (numbered_from 1 L) n ≡ o → o ≡ None
            above None q = refl
            above (Some c) q = absurd (let w = listed.within n c q in let l = length-kept_clauses s in let high = w.1 in stays (omega arith, e))

    part : (e : ℕ × Clause) → Contains s.clauses e → Contains (numbered_from 1 L) e
    part e c = clause_of-there (numbered_from 1 L) e.0 e.1 (there e.0 e.1 (numbered.alone e c))

-- A proof that is accepted over the simplified clauses, and names none that was dropped, is accepted
-- behind the lines of the simplification.
pub checks-continued : (F : Formula) (cs : List Change) (rest : List Step) → AreSimplifying F cs → checks (simplified_formula F (simplified F cs)) rest ≡ accepted
    → ((n : ℕ) → list_any (names n) rest ≡ true → ¬ (IsDropped (simplified F cs) n)) → checks F (simplification F cs ++ rest) ≡ accepted
checks-continued F cs rest fit h named =
    let lines = simplification-leads F cs fit in
    lines.leads.0 1 rest
    ∙ accepted-like (IsDropped (simplified F cs)) F.vars 1 (1 + length (simplification F cs)) (start (simplified_formula F (simplified F cs))) (checker_of (simplified F cs) lines.empty) rest
    (record {
      rest = HasRest-kept (simplified F cs) (AreNumbered-all (unsimplified F) cs (AreNumbered-formula F.clauses));
      last = sym (length-kept_clauses (simplified F cs));
      empty = λ e. absurd (cc);
    }) named h
