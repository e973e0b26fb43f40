use Rattle.std.proofs.Common.{◌≡◌, length, take}
use Rattle.theory.specs.Truth.{IsOver}
use Rattle.session.specs.Naming.{IsMore, all_outward}
use Rattle.session.proofs.names.Names.put_numbers.Given as goal

-- the literals so far
abbrev pub invariant-loop-lit : goal.invariant-loop-lit
invariant-loop-lit l = record {
  outward : all_outward l.self l.numbered.items ≡ take l.lit-index l.lits;
  over : IsOver (length l.self.variables) l.numbered.items;
  named : IsOver (length l.self.numbers) (take l.lit-index l.lits);
  more : IsMore l.initial.self l.self;
}
