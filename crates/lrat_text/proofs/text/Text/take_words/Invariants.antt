use Rattle.std.proofs.Common.{◌≡◌, ◌≤◌, ◌-◌, length}
use Rattle.lrat_text.specs.Pieces.{IsText, TakesBytes}
use Rattle.lrat_text.proofs.text.Text.take_words.Given as goal

abbrev pub invariant-loop-at : goal.invariant-loop-at
invariant-loop-at l = record {
  text : IsText l.self;
  number : l.self.number ≡ l.fn.self.number;
  taken : TakesBytes l.bytes l.fn.self l.start l.self l.at;
  forward : l.start ≤ l.at;
  within : l.at ≤ length l.bytes;
}

abbrev pub decreases-loop-at : goal.decreases-loop-at
decreases-loop-at l = length l.bytes - l.at
