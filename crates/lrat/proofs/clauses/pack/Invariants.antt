use Rattle.std.proofs.Common.{◌≡◌, ◌-◌, ◌++◌, drop}
use Rattle.lrat.specs.Flat.{slots_in, packed, AreWithin}
use Rattle.lrat.proofs.clauses.pack.Given as goal

-- what is packed, with what is left packed behind it
abbrev pub invariant-loop-place : goal.invariant-loop-place
invariant-loop-place l = record {
  within : AreWithin l.packed_lits.items l.packed_heads.items;
  slots : slots_in l.packed_lits.items l.packed_heads.items ++ packed (l.first - l.place) (drop l.place (slots_in l.lits l.heads)) ≡ packed l.first (slots_in l.lits l.heads);
}
