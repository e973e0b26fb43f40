use Rattle.std.proofs.Common.{◌≡◌, ◌+◌, ◌-◌, ◌*◌, ◌≤◌, ◌++◌, map, length, take, drop}
use Rattle.theory.specs.Texts.{literal_text}
use Rattle.lrat_text.specs.Words.{spaced}
use Rattle.lrat_text.proofs.placed.place_literals.Given as goal

-- the literals that are left complete the text, and there is room for them
abbrev pub invariant-loop-lit : goal.invariant-loop-lit
invariant-loop-lit l = record {
  left : take l.end l.bytes ++ spaced (map literal_text (drop l.lit-index l.lits)) ≡ take l.fn.at l.fn.bytes ++ spaced (map literal_text l.lits);
  room : l.end + 12 * (length l.lits - l.lit-index) ≤ length l.bytes;
  within : l.end ≤ l.fn.at + 12 * l.lit-index;
}
