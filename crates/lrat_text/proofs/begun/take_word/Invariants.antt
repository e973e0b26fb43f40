use Rattle.std.proofs.Common.{◌≤◌, ◌-◌, length}
use Rattle.lrat_text.specs.Pieces.{IsBegunWord, TakesWord}
use Rattle.lrat_text.proofs.begun.take_word.Given as goal

abbrev pub invariant-loop-at : goal.invariant-loop-at
invariant-loop-at l = record {
  begun : IsBegunWord l.begun;
  taken : TakesWord l.bytes l.fn.begun l.start l.begun l.at;
  forward : l.start ≤ l.at;
  within : l.at ≤ length l.bytes;
}

abbrev pub decreases-loop-at : goal.decreases-loop-at
decreases-loop-at l = length l.bytes - l.at
