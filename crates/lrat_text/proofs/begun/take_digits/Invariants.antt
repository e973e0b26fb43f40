use Rattle.std.proofs.Common.{◌≤◌, ◌-◌, length}
use Rattle.lrat_text.specs.declared.begun.Begun.TheVariants.{Positive, Negative}
use Rattle.lrat_text.specs.Pieces.{IsBegunWord, TakesWord}
use Rattle.lrat_text.proofs.begun.take_digits.Given as goal

abbrev pub invariant-loop-at : goal.invariant-loop-at
invariant-loop-at l = record {
  least : 1 ≤ l.size;
  most : l.size ≤ 9223372036854775808;
  positive : TakesWord l.bytes (Positive l.fn.size) l.start (Positive l.size) l.at;
  negative : TakesWord l.bytes (Negative l.fn.size) l.start (Negative l.size) l.at;
  positive_word : IsBegunWord (Positive l.fn.size) → IsBegunWord (Positive l.size);
  negative_word : IsBegunWord (Negative l.fn.size) → IsBegunWord (Negative l.size);
  forward : l.start ≤ l.at;
  within : l.at ≤ length l.bytes;
}

abbrev pub decreases-loop-at : goal.decreases-loop-at
decreases-loop-at l = length l.bytes - l.at
