use Rattle.std.proofs.Common.{◌≡◌, ◌++◌, length, drop, map}
use Rattle.cnf.specs.Pieces.{pieces, AreEnds}
use Rattle.simplify.specs.Entries.{there}
use Rattle.simplify.proofs.eliminated.put_clauses.Given as goal

-- what is left gives the rest
abbrev pub invariant-loop-number : goal.invariant-loop-number
invariant-loop-number l = record {
  ends : AreEnds 0 l.ends.items (length l.literals.items);
  clauses : pieces 0 l.literals.items l.ends.items ++ map (there l.database.entries) (drop l.number-index l.numbers) ≡ pieces 0 l.fn.literals.items l.fn.ends.items ++ map (there l.database.entries) l.numbers;
}
