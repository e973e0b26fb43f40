-- A search of which all clauses are true: what it learns is true, so it refutes no cube that is
-- true.
use Rattle.std.proofs.Common.{◌≡◌, ℕ, ◌+◌, Bool, true, false, not, ◌||◌, List, [], ◌∷◌, ◌++◌, length, refl, sym, subst, ◌∙◌, nat_eq, Some, if◌then◌else◌}
use Rattle.std.specs.List.{list_any}
use Rattle.theory.specs.Literals.{Literal, Clause, IsCube}
use Rattle.theory.specs.Truth.{AreTrue, is_true_clause, are_true}
use Rattle.theory.specs.Trails.{Entry, Trail, literals, current_level, cube_trail, up_to}
use Rattle.theory.specs.Propagation.{Rule, IsRule, least_false}
use Rattle.theory.specs.Lawful.{IsLawful, cube_of}
use Rattle.theory.specs.Learning.{Line, learn_removing}
use Rattle.theory.specs.Forgetting.{forgotten, forget}
use Rattle.theory.specs.Units.{unit_line, with_reason, units_of, AreUnits}
use Rattle.theory.proofs.literals.LiteralLemmas.{and-left, and-right}
use Rattle.theory.proofs.literals.LiteralSets.{true_false, and-true}
use Rattle.theory.proofs.trails.LawfulTrails.{least_false-at, IsLawful-append, IsLawful-up_to, IsLawful-decide, IsLawful-Propagates}
use Rattle.theory.proofs.trails.TrailEntries.{cube_of-decide, cube_of-Propagates, cube_of-up_to, cube_of-cube_trail, IsLawful-cube_trail}
use Rattle.theory.proofs.searching.LearntLines.{Passes-learn}
use Rattle.theory.proofs.searching.EmptyLines.{clause-learn_empty}
use Rattle.theory.proofs.searching.ReplayedLines.{Passes-true, are_true-push}
use Rattle.theory.proofs.searching.ForgettingNumbers.{IsLawful-forget}
use Rattle.theory.proofs.searching.UnitLines.{Passes-unit_line}
use Rattle.theory.proofs.searching.KeptUnits.{IsLawful-with_reason, cube_of-with_reason}
use Rattle.theory.proofs.searching.UnitWalks.{units-keep}
use Rattle.theory.proofs.searching.Invariants.{IsInvariant}

-- the clauses are true, on a lawful trail of the cube Q
pub record IsTrueSearch (m : ℕ → Bool) (Q : List Literal) (C : List Clause) (T : Trail) (lines : List Line) : Type 0 where
  pub lawful : IsLawful C T
  pub cube : cube_of T ≡ Q
  pub all_true : are_true m C ≡ true

pub IsTrueSearch-begin : (m : ℕ → Bool) (K : List Clause) (Q : List Literal) → are_true m K ≡ true → IsCube Q → IsTrueSearch m Q K (cube_trail Q) []
IsTrueSearch-begin m K Q a distinct = record { lawful = IsLawful-cube_trail K Q distinct; cube = cube_of-cube_trail Q; all_true = a }

-- a forgotten clause is true
forgotten-true : (m : ℕ → Bool) → is_true_clause m forgotten ≡ true
forgotten-true m = go (m 1)
  where
    go : (b : Bool) → b || (not b || false) ≡ true
    go true = refl
    go false = refl

are_true-forget : (m : ℕ → Bool) (ns : List ℕ) (n : ℕ) (C : List Clause) → are_true m C ≡ true → are_true m (forget ns n C) ≡ true
are_true-forget m ns n [] a = a
are_true-forget m ns n (c ∷ C) a =
    and-true (is_true_clause m (if list_any (nat_eq n) ns then forgotten else c)) (are_true m (forget ns (n + 1) C)) (go (list_any (nat_eq n) ns)) (are_true-forget m ns (n + 1) C (and-right (is_true_clause m c) (are_true m C) a))
  where
    go : (b : Bool) → is_true_clause m (if b then forgotten else c) ≡ true
    go true = forgotten-true m
    go false = and-left (is_true_clause m c) (are_true m C) a

-- what is learnt is true
clause-learn_true : (m : ℕ → Bool) (R : List Literal) (Q : List Literal) (C : List Clause) (T : Trail) (lines : List Line) (n : ℕ) → AreTrue m Q → least_false (literals T) C ≡ Some n → IsTrueSearch m Q C T lines
    → is_true_clause m (learn_removing R C T n).clause ≡ true
clause-learn_true m R Q C T lines n q h i =
    let at = least_false-at (literals T) C n h in
    Passes-true m (length C) (cube_of T) C (learn_removing R C T n) (subst (AreTrue m) (sym i.cube) q) i.all_true (Passes-learn (length C) R C T n i.lawful at.0 at.1 at.2)

-- so is a unit of level 0
pub IsTrueSearch-unit : (m : ℕ → Bool) (Q : List Literal) → AreTrue m Q → (C : List Clause) (before : Trail) (e : Entry) (es : Trail) (lines : List Line) (n : ℕ) → current_level (before ++ e ∷ es) ≡ 0
    → e.reason ≡ Some n → AreUnits C before → IsTrueSearch m Q C (before ++ e ∷ es) lines
    → IsTrueSearch m Q (C ++ (e.lit ∷ []) ∷ []) (before ++ with_reason e (length C + 1) ∷ es) (lines ++ unit_line C before e.lit n ∷ [])
IsTrueSearch-unit m Q q C before e es lines n level reason units i = record {
  lawful = IsLawful-with_reason C before e es n reason i.lawful;
  cube = cube_of-with_reason before e es n (length C + 1) reason ∙ i.cube;
  all_true = are_true-push m C (e.lit ∷ []) i.all_true (Passes-true m (length C) (cube_of T) C (unit_line C before e.lit n) (subst (AreTrue m) (sym i.cube) q) i.all_true
      (Passes-unit_line (length C) C T before e es n i.lawful level refl reason units));
}
  where
    T : Trail
    T = before ++ e ∷ es

pub IsTrueSearch-units : (m : ℕ → Bool) (Q : List Literal) → AreTrue m Q → (C : List Clause) (T : Trail) (lines : List Line) → current_level T ≡ 0 → IsTrueSearch m Q C T lines
    → IsTrueSearch m Q (units_of C T).clauses (units_of C T).trail (lines ++ (units_of C T).lines)
IsTrueSearch-units m Q q C T lines level i =
    (units-keep (Unit {0}) (IsTrueSearch m Q) (λ D before e es ls n l r u s. IsTrueSearch-unit m Q q D before e es ls n l r (u tt) s) C T lines level (λ x. i.lawful) i).0

-- where the clauses of a lawful trail of level 0 are true, and its cube, they are with the units'
pub are_true-units : (m : ℕ → Bool) (C : List Clause) (T : Trail) → IsLawful C T → current_level T ≡ 0 → AreTrue m (cube_of T) → are_true m C ≡ true → are_true m (units_of C T).clauses ≡ true
are_true-units m C T lawful level q a = (IsTrueSearch-units m (cube_of T) q C T [] level (record { lawful = lawful; cube = refl; all_true = a })).all_true

pub IsInvariant-IsTrueSearch : (rule : Rule) → IsRule rule → (vs : List ℕ) (m : ℕ → Bool) (Q : List Literal) → AreTrue m Q → IsInvariant (Unit {0}) rule vs (IsTrueSearch m Q)
IsInvariant-IsTrueSearch rule g vs m Q q = record {
  propagated = λ C T U lines a h i. record {
    lawful = IsLawful-Propagates rule g C T U a h i.lawful;
    cube = cube_of-Propagates rule C T U a h ∙ i.cube;
    all_true = i.all_true;
  };
  unit = λ C before e es lines n level reason units i. IsTrueSearch-unit m Q q C before e es lines n level reason (units tt) i;
  decided = λ C T lines l calm v free i. record { lawful = IsLawful-decide C T l i.lawful free; cube = cube_of-decide T l ∙ i.cube; all_true = i.all_true };
  learnt = λ R C T lines n ns level h above low own unused i. record {
    lawful = IsLawful-append (forget ns 1 C) ((learn_removing R C T n).clause ∷ []) (up_to T level) (IsLawful-forget ns C (up_to T level) (unused tt) (IsLawful-up_to C T level i.lawful));
    cube = cube_of-up_to T level ∙ i.cube;
    all_true = are_true-push m (forget ns 1 C) (learn_removing R C T n).clause (are_true-forget m ns 1 C i.all_true) (clause-learn_true m R Q C T lines n q h i);
  };
}

-- no conflict is at level 0
pub IsTrueSearch-conflict : (m : ℕ → Bool) (R : List Literal) (Q : List Literal) (C : List Clause) (T : Trail) (lines : List Line) (n : ℕ) → AreTrue m Q → least_false (literals T) C ≡ Some n → current_level T ≡ 0
    → IsTrueSearch m Q C T lines → ⊥
IsTrueSearch-conflict m R Q C T lines n q h level i =
    let empty : (learn_removing R C T n).clause ≡ [] = clause-learn_empty R C T n i.lawful level (least_false-at (literals T) C n h).2 in
    true_false (is_true_clause m []) (subst (λ (c : Clause). is_true_clause m c ≡ true) empty (clause-learn_true m R Q C T lines n q h i)) refl
