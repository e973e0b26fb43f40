-- What holds of clauses, trail and lines through a whole search.
use Rattle.std.proofs.Common.{◌≡◌, ℕ, ◌+◌, ◌-◌, ◌<◌, ◌≤◌, true, false, List, [], ◌∷◌, ◌++◌, length, nat_eq, Some, None}
use Rattle.std.specs.List.{list_any}
use Rattle.theory.specs.Literals.{Literal, Clause, has_var, has_both_signs}
use Rattle.theory.specs.Trails.{Entry, Trail, literals, current_level, decide, up_to}
use Rattle.theory.specs.Propagation.{Closed, Propagates, Rule, clause_at, least_false}
use Rattle.theory.specs.Learning.{Line, learn_removing, back_level}
use Rattle.theory.specs.Units.{unit_line, with_reason, AreUnits}
use Rattle.theory.specs.Forgetting.{forgetting, forget}
use Rattle.theory.specs.Deletions.{are_different}
use Rattle.theory.proofs.searching.ForgettingNumbers.{AreNoReasons}

-- these are numbers of learnt clauses, each once, of which none is forgotten
pub record AreLearnt (ns : List ℕ) (C : List Clause) (lines : List Line) : Type 0 where
  pub within : (k : ℕ) → list_any (nat_eq k) ns ≡ true → (length C - length lines < k) × (k ≤ length C)
  pub whole : (k : ℕ) → list_any (nat_eq k) ns ≡ true → has_both_signs (clause_at C k) ≡ false
  pub distinct : are_different ns ≡ true

-- what is said of clauses, trail and lines
abbrev pub Kept : Type 1
Kept = List Clause → Trail → List Line → Type 0

-- the variable is one of these
abbrev pub IsAmong : List ℕ → ℕ → Type 0
IsAmong vs v = list_any (nat_eq v) vs ≡ true

-- P is kept where a unit becomes a clause; where H holds, those before it are units
abbrev pub KeepsUnits : Type 0 → Kept → Type 0
KeepsUnits H P = (C : List Clause) (before : Trail) (e : Entry) (es : Trail) (lines : List Line) (n : ℕ) → current_level (before ++ e ∷ es) ≡ 0 → e.reason ≡ Some n → (H → AreUnits C before)
    → P C (before ++ e ∷ es) lines → P (C ++ (e.lit ∷ []) ∷ []) (before ++ with_reason e (length C + 1) ∷ es) (lines ++ unit_line C before e.lit n ∷ [])

-- P is kept by propagation, by units, by decisions of one of these variables, and where a line is learnt, whatever is
-- removable, clauses are forgotten and the trail goes back to the line's level or further; what P
-- needs besides of a search is there where H holds
pub record IsInvariant (H : Type 0) (rule : Rule) (vs : List ℕ) (P : Kept) : Type 0 where
  pub propagated : (C : List Clause) (T U : Trail) (lines : List Line) (a : Closed) → Propagates rule C T a U → P C T lines → P C U lines
  pub unit : KeepsUnits H P
  pub decided : (C : List Clause) (T : Trail) (lines : List Line) (l : Literal) → (H → least_false (literals T) C ≡ None) → IsAmong vs l.var → has_var (literals T) l.var ≡ false
      → P C T lines → P C (decide T l) lines
  pub learnt : (R : List Literal) (C : List Clause) (T : Trail) (lines : List Line) (n : ℕ) (ns : List ℕ) (level : ℕ) → least_false (literals T) C ≡ Some n → 1 ≤ current_level T
      → level ≤ back_level T (learn_removing R C T n).clause → AreLearnt ns C lines → (H → AreNoReasons ns (up_to T level))
      → P C T lines → P (forget ns 1 C ++ (learn_removing R C T n).clause ∷ []) (up_to T level) (lines ++ forgetting ns (learn_removing R C T n) ∷ [])
