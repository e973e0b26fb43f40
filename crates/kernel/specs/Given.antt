-- Clauses as they are remembered for contracts alone: how they changed, one change after the other.
use Rattle.std.specs.Prelude.{ℕ, ◌+◌, Bool, List, [], ◌∷◌, ◌++◌, take, Option, Some, None, if◌then◌else◌}
use Rattle.std.specs.declared.snapshot.Snapshot.{Snapshot}
use Rattle.theory.specs.Literals.{Clause}
use Rattle.theory.specs.Forgetting.{forgotten}
use Rattle.kernel.specs.declared.clauses.changed.Change.{Change}
use Rattle.kernel.specs.declared.clauses.changed.Change.TheVariants.{Pushed, Cut, Forgotten}
use Rattle.kernel.specs.Forgetting.{names}

-- the clauses from the place n on, with `1 -1` in place of those that are gone
abbrev pub without_named : (ℕ → Bool) → ℕ → List Clause → List Clause
without_named gone n [] = []
without_named gone n (c ∷ K) = (if gone n then forgotten else c) ∷ without_named gone (n + 1) K

-- the clauses behind a change
abbrev pub after : Change → List Clause → List Clause
after (Pushed c) K = K ++ c.value ∷ []
after (Cut n) K = take n K
after (Forgotten named) K = without_named (names named.value) 0 K

-- how many changes there were, and the clauses behind them
pub record Told : Type 0 where
  pub changes : ℕ
  pub clauses : List Clause

-- what was told before, and a change
abbrev pub told : Option (Snapshot Told) → Change → Told
told None change = record { changes = 0; clauses = [] }
told (Some s) change = record { changes = s.value.changes + 1; clauses = after change s.value.clauses }
