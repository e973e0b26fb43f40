use Rattle.std.proofs.Common.{◌≡◌, List, take}
use Rattle.theory.specs.Literals.{Literal}
use Rattle.spread.specs.OpenCubes.{said_in, said_behind, IsBelowTop}
use Rattle.spread.proofs.open_cubes.Words.add.Given as goal

-- what the facts so far say
abbrev pub invariant-loop-fact : goal.invariant-loop-fact
invariant-loop-fact l = record {
  tops : l.self.tops ≡ l.initial.self.tops;
  said : (Q : List Literal) → IsBelowTop l.initial.self.tops Q → said_in l.self Q ≡ said_behind Q (said_in l.initial.self Q) (take l.fact-index l.facts);
}
