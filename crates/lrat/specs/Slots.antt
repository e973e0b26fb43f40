-- Clauses in the order in which they came, with those that were taken away left in their places.
use Rattle.std.specs.Prelude.{ℕ, Bool, List, [], ◌∷◌, if◌then◌else◌}
use Rattle.theory.specs.Literals.{Clause}
use Rattle.theory.specs.Checking.{Numbered}

-- a clause, its number, and whether it is there
pub record Slot : Type 0 where
  pub id : ℕ
  pub is_there : Bool
  pub clause : Clause

-- the number of variables, and the slots
pub record Store : Type 0 where
  pub vars : ℕ
  pub slots : List Slot

abbrev pub put : Slot → Numbered → Numbered
put s K = if s.is_there then (s.id, s.clause) ∷ K else K

-- the clauses that are there, the latest first, before those of K
abbrev pub there_before : Numbered → List Slot → Numbered
there_before K [] = K
there_before K (s ∷ ss) = there_before (put s K) ss

abbrev pub there : Store → Numbered
there s = there_before [] s.slots
