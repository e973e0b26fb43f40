use Rattle.std.proofs.Common.{◌≡◌, ◌++◌, take}
use Rattle.simplify.specs.Stored.{with_clauses}
use Rattle.simplify.proofs.elimination.add_resolvents.Given as goal

-- those up to the place came
abbrev pub invariant-loop-place : goal.invariant-loop-place
invariant-loop-place l = record {
  vars : l.database.vars ≡ l.fn.database.vars;
  entries : l.database.entries ≡ with_clauses l.fn.database.entries (take l.place l.resolvents);
  lines : l.lines ≡ l.fn.lines ++ take l.place l.resolvents;
}
