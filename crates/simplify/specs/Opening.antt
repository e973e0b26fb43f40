-- Where a simplification begins.
use Rattle.std.specs.Prelude.{ℕ, ◌+◌, true, List, [], ◌∷◌, map, is_some, if◌then◌else◌}
use Rattle.theory.specs.Truth.{Formula}
use Rattle.theory.specs.Trails.{variables}
use Rattle.simplify.specs.Entries.{Entries, entry_of, weight_in}
use Rattle.simplify.specs.Tried.{State, line_of_gone}

-- the numbers, counted from n on, of those that aren't there
abbrev pub absent_in : ℕ → Entries → List ℕ
absent_in n [] = []
absent_in n (e ∷ K) = if is_some e then absent_in (n + 1) K else n ∷ absent_in (n + 1) K

-- the clauses with both signs of a variable are dropped, and all variables wait
abbrev pub first_state : Formula → State
first_state F = record {
  vars = F.vars;
  entries = map entry_of F.clauses;
  waiting = record { weights = map (weight_in (map entry_of F.clauses)) (variables F.vars); waits = map (λ v. true) (variables F.vars) };
  lines = line_of_gone (absent_in 1 (map entry_of F.clauses));
  eliminated = [];
  work = 0;
}
