-- What the answers of a session say of the first clauses and the settled literals.
use Rattle.std.proofs.Common.{◌≡◌, ℕ, Bool, true, List, [], ◌∷◌, ◌++◌, length, sym, ap, subst, ◌∙◌, Option, Some, IfSome, All}
use Rattle.std.proofs.lemmas.List.Elements.{All-head, All-tail}
use Rattle.theory.specs.Literals.{Literal, IsVariable, has, same_sign}
use Rattle.theory.specs.Truth.{Formula, Assignment, IsOver, IsFormula, AreTrue, Satisfies, value, is_true, are_true}
use Rattle.theory.specs.FirstModel.{IsModelIn}
use Rattle.theory.specs.Pure.{first_clauses, searched, unit_clauses}
use Rattle.theory.proofs.literals.TrueClauses.{AreTrue-append, AreTrue-has}
use Rattle.theory.proofs.searching.PureVariables.{IsOver-first_clauses, are_true-append, are_true-left, are_true-right, are_true-unit_clauses, AreTrue-unit_clauses}
use Rattle.session.specs.State.{State}
use Rattle.session.specs.Answers.{IsCore}
use Rattle.session.proofs.AskedLemmas.{clauses-agree}
use Rattle.strategies.specs.Lowering.{HasNoModelIn, IsAsked}
use Rattle.strategies.proofs.TrueTrails.{AreTrue-front, AreTrue-back}

-- literals over variables on which two assignments agree
agree-all : (V : ℕ) (M N : Assignment) (P : List Literal) → IsOver V P → ((v : ℕ) → IsVariable V v → value N v ≡ value M v) → AreTrue (value M) P → AreTrue (value N) P
agree-all V M N [] over same t = tt
agree-all V M N (l ∷ P) over same t = (
  ap (same_sign l.positive) (same l.var (All-head (λ k. IsVariable V k.var) l P over)) ∙ t.0,
  agree-all V M N P (All-tail (λ k. IsVariable V k.var) l P over) same t.1,
)

-- the literals of a core of one assumption are it
core-true : (m : ℕ → Bool) (l : Literal) (core : List Literal) → All (λ k. has (l ∷ []) k ≡ true) core → is_true m l ≡ true → AreTrue m core
core-true m l [] part t = tt
core-true m l (k ∷ core) part t = (
  AreTrue-has m (l ∷ []) k (t, tt) (All-head (λ j. has (l ∷ []) j ≡ true) k core part),
  core-true m l core (All-tail (λ j. has (l ∷ []) j ≡ true) k core part) t,
)

module _ (F : Formula) (P : List Literal) (l : Literal) (G : Formula) (is : G.clauses ≡ first_clauses F ++ unit_clauses P) where
  -- the session's clauses are true where the first clauses and the settled literals are
  asked-true : (N : Assignment) → Satisfies (searched F) N → AreTrue (value N) P → are_true (value N) G.clauses ≡ true
  asked-true N n t = subst (λ K. are_true (value N) K ≡ true) (sym is) (are_true-append (value N) (first_clauses F) (unit_clauses P) n.clauses (are_true-unit_clauses (value N) P t))

  pub none-asked : (core : List Literal) → IsCore G.clauses (l ∷ []) core → HasNoModelIn (searched F) (P ++ l ∷ [])
  none-asked core h N n t = h.refuted (value N) (asked-true N n (AreTrue-front (value N) P (l ∷ []) t)) (core-true (value N) l core h.part (AreTrue-back (value N) P (l ∷ []) t).0)

  -- a model of the session's formula, as far as the formula's variables go
  pub model-asked : (M N : Assignment) → IsFormula F → IsOver F.vars P → IsVariable F.vars l.var → Satisfies G M → AreTrue (value M) (l ∷ []) → length N ≡ F.vars
      → ((v : ℕ) → IsVariable F.vars v → value N v ≡ value M v) → IsModelIn (searched F) (P ++ l ∷ []) N
  model-asked M N formed over variable m t long same =
      let all : are_true (value M) (first_clauses F ++ unit_clauses P) ≡ true = subst (λ K. are_true (value M) K ≡ true) is m.clauses in
      record {
        satisfies = record {
          values = long;
          clauses = clauses-agree F.vars (value N) (value M) (first_clauses F) (IsOver-first_clauses F formed) same ∙ are_true-left (value M) (first_clauses F) (unit_clauses P) all;
        };
        cube = AreTrue-append (value N) P (l ∷ [])
            (agree-all F.vars M N P over same (AreTrue-unit_clauses (value M) P (are_true-right (value M) (first_clauses F) (unit_clauses P) all)))
            (ap (same_sign l.positive) (same l.var variable) ∙ t.0, tt);
      }

-- a session that was there
pub asked-there : (F : Formula) (P : List Literal) (o : Option State) (s : State) → o ≡ Some s → IfSome o (IsAsked F P) → IsAsked F P s
asked-there F P o s is h = subst (λ (u : Option State). IfSome u (IsAsked F P)) is h
