-- The numbers that groups have named.
use Rattle.std.specs.Prelude.{◌≡◌, ℕ, Bool, true, false, not, ◌||◌, nat_eq, List, [], ◌∷◌, length, Option, Some, None}
use Rattle.std.specs.List.{list_any}
use Rattle.theory.specs.Literals.{Literal, Clause, has}
use Rattle.theory.specs.Steps as theory
use Rattle.theory.specs.Checking.{Numbered, clause_of, is_closed, groups_fault}
use Rattle.lrat.specs.declared.check_fault.Fault.{Fault}
use Rattle.lrat.specs.Slots.{Slot}
use Rattle.lrat.specs.CheckFaults.{fault_of}

-- the set has the numbers of the list
abbrev pub IsNamed : (ℕ → Bool) → List ℕ → Type 0
IsNamed has L = (n : ℕ) → has n ≡ list_any (nat_eq n) L

-- the clause is there, and has q
abbrev pub IsCandidate : Literal → Option Clause → Type 0
IsCandidate q None = ⊥
IsCandidate q (Some c) = has c q ≡ true

-- the numbers are of clauses that have q, each once
abbrev pub AreCandidates : Numbered → Literal → List ℕ → Type 0
AreCandidates K q [] = Unit {0}
AreCandidates K q (n ∷ L) = (list_any (nat_eq n) L ≡ false) × IsCandidate q (clause_of K n) × AreCandidates K q L

-- the set has so many numbers, all of candidates
pub record HasCandidates (K : Numbered) (q : Literal) (has : ℕ → Bool) (n : ℕ) : Type 0 where
  pub list : List ℕ
  pub named : IsNamed has list
  pub candidates : AreCandidates K q list
  pub many : length list ≡ n

-- the slot's clause isn't a candidate, or is closed, or is named
abbrev pub IsDealtWith : List Literal → Literal → List ℕ → Slot → Type 0
IsDealtWith P q L s = not (has s.clause q) || (is_closed P q s.clause || list_any (nat_eq s.id) L) ≡ true

-- the groups come to a fault, or to all candidates but those named being closed
abbrev pub LeavesNamed : Numbered → List Literal → Literal → List theory.Group → (ℕ → Bool) → Option Fault → Type 0
LeavesNamed K P q gs has (Some f) = Some (fault_of f) ≡ groups_fault K P q [] gs
LeavesNamed K P q gs has None = (L : List ℕ) × IsNamed has L × (groups_fault K P q L [] ≡ groups_fault K P q [] gs)
