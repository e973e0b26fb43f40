use Rattle.std.proofs.Common.{◌≡◌, ◌++◌, map, drop, decimal}
use Rattle.lrat_text.specs.Words.{spaced, IsBegunBy}
use Rattle.lrat_text.proofs.write.append_each_number.Given as goal

-- the numbers that are left complete the text
abbrev pub invariant-loop-number : goal.invariant-loop-number
invariant-loop-number l = record {
  left : l.out.items ++ spaced (map decimal (drop l.number-index l.numbers)) ≡ l.fn.out.items ++ spaced (map decimal l.numbers);
  extends : IsBegunBy l.fn.out.items l.out.items;
}
