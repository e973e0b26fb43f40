-- Clauses beside the same with their literals in an order of the kernel's own: the two watched ones
-- stand in front.
use Rattle.std.specs.Prelude.{◌≡◌, ℕ, List, [], ◌∷◌, length}
use Rattle.std.specs.List.Sorted.{IsPermutation}
use Rattle.theory.specs.Literals.{Clause, positive}
use Rattle.kernel.specs.declared.watches.watch.Watched.{Watched}
use Rattle.kernel.specs.Watching.{At}

-- the two literals in front, or the only one twice; those of an empty clause mean nothing
abbrev pub front : Clause → Watched
front [] = record { first = positive 1; second = positive 1 }
front (a ∷ []) = record { first = a; second = a }
front (a ∷ b ∷ c) = record { first = a; second = b }

-- clauses as they were given, and of each the two literals that stand in front where it is arranged
pub record Stored : Type 0 where
  pub given : List Clause
  pub pairs : List Watched

-- each clause of A has the literals of that of K at its place, in some order
pub record AreArranged (K A : List Clause) : Type 0 where
  pub long : length A ≡ length K
  pub clause : (n : ℕ) (c a : Clause) → At K n c → At A n a → IsPermutation c a
