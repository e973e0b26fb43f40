use Rattle.std.proofs.Common.{◌≡◌, ◌≤◌, ◌+◌, ◌++◌, map, length, drop}
use Rattle.tidying.specs.Tidied.{once, open_clauses}
use Rattle.tidying.specs.Texts.{clauses_text}
use Rattle.tidying.proofs.text.lines_of.Given as goal

-- the clauses that are left complete the text and the count
abbrev pub invariant-loop-place : goal.invariant-loop-place
invariant-loop-place l = record {
  text : l.lines.text.items ++ clauses_text (map once (open_clauses (drop l.place l.formula.clauses))) ≡ clauses_text (map once (open_clauses l.formula.clauses));
  count : l.lines.count + length (map once (open_clauses (drop l.place l.formula.clauses))) ≡ length (map once (open_clauses l.formula.clauses));
  few : l.lines.count ≤ l.place;
  vars : l.distinct.held.vars ≡ l.formula.vars;
}
