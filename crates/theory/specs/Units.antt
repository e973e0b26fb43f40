-- What holds at level 0 becomes clauses of one literal, each by a line; so a later line needs one
-- hint for each such literal. Source: lines for the units of level 0, as solvers that write LRAT
-- have them (Pollitt, Fleury and Biere, SAT 2023).
use Rattle.std.specs.Prelude.{◌≡◌, ℕ, ◌+◌, ◌≤◌, Bool, true, false, not, List, [], ◌∷◌, ◌++◌, length, Option, Some, None, if◌then◌else◌}
use Rattle.std.specs.List.{list_any}
use Rattle.theory.specs.Literals.{Literal, Clause, same, has, negated, without}
use Rattle.theory.specs.Trails.{Entry, Trail}
use Rattle.theory.specs.Propagation.{clause_at}
use Rattle.theory.specs.Learning.{Line}

-- whether two of the clause's literals differ
abbrev pub has_two : Clause → Bool
has_two [] = false
has_two (l ∷ c) = list_any (λ k. not (same l k)) c

-- the entry's reason, where the entry makes a literal of the clause false
abbrev pub reason_against : Clause → Entry → Option ℕ
reason_against c e = if has c (negated e.lit) then e.reason else None

abbrev pub with_number : Option ℕ → List ℕ → List ℕ
with_number None ns = ns
with_number (Some n) ns = n ∷ ns

-- the reasons of the entries that make literals of the clause false, in trail order
abbrev pub reasons_against : Trail → Clause → List ℕ
reasons_against [] c = []
reasons_against (e ∷ T) c = with_number (reason_against c e) (reasons_against T c)

-- the line of the literal l alone, which stands behind these entries by the clause of number n
abbrev pub unit_line : List Clause → Trail → Literal → ℕ → Line
unit_line K before l n = record { clause = l ∷ []; hints = reasons_against before (without (clause_at K n) l) ++ n ∷ []; forgets = [] }

-- the clauses, the entries gone through, and the lines of their units
pub record Units : Type 0 where
  pub clauses : List Clause
  pub trail : Trail
  pub lines : List Line

-- the number of a reason of which two literals differ
abbrev pub wide_reason : List Clause → Option ℕ → Option ℕ
wide_reason K None = None
wide_reason K (Some n) = if has_two (clause_at K n) then Some n else None

-- the entry that has the clause of number n as its reason
abbrev pub with_reason : Entry → ℕ → Entry
with_reason e n = record e { reason = Some n }

-- one entry more: where two literals of its reason differ, its literal becomes the clause of the
-- next number by a line, and this clause its reason
abbrev pub with_entry : Units → Entry → Option ℕ → Units
with_entry u e None = record u { trail = u.trail ++ e ∷ [] }
with_entry u e (Some n) =
    let line = unit_line u.clauses u.trail e.lit n in
    record {
      clauses = u.clauses ++ line.clause ∷ [];
      trail = u.trail ++ with_reason e (length u.clauses + 1) ∷ [];
      lines = u.lines ++ line ∷ [];
    }

abbrev pub with_entries : Units → Trail → Units
with_entries u [] = u
with_entries u (e ∷ es) = with_entries (with_entry u e (wide_reason u.clauses e.reason)) es

-- the units of a trail of level 0, over these clauses
abbrev pub units_of : List Clause → Trail → Units
units_of K T = with_entries (record { clauses = K; trail = []; lines = [] }) T

-- a reason is a clause that has l, and no other literal
abbrev pub IsUnit : List Clause → Literal → Option ℕ → Type 0
IsUnit K l None = Unit {0}
IsUnit K l (Some n) = (1 ≤ n) × (n ≤ length K) × (has (clause_at K n) l ≡ true) × (has_two (clause_at K n) ≡ false)

-- each reason on the trail is a clause of one literal
abbrev pub AreUnits : List Clause → Trail → Type 0
AreUnits K [] = Unit {0}
AreUnits K (e ∷ T) = IsUnit K e.lit e.reason × AreUnits K T
