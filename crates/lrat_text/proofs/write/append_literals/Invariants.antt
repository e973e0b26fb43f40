use Rattle.std.proofs.Common.{◌≡◌, ◌++◌, map, drop}
use Rattle.theory.specs.Texts.{literal_text}
use Rattle.lrat_text.specs.Words.{spaced, IsBegunBy}
use Rattle.lrat_text.proofs.write.append_literals.Given as goal

-- the literals that are left complete the text
abbrev pub invariant-loop-lit : goal.invariant-loop-lit
invariant-loop-lit l = record {
  left : l.out.items ++ spaced (map literal_text (drop l.lit-index l.lits)) ≡ l.fn.out.items ++ spaced (map literal_text l.lits);
  extends : IsBegunBy l.fn.out.items l.out.items;
}
