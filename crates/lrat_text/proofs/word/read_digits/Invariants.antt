use Rattle.std.proofs.Common.{◌≡◌, true, ◌&&◌, ◌+◌, ◌-◌, ◌≤◌, length, drop}
use Rattle.std.specs.Str.{all_ascii_digits}
use Rattle.std.specs.Str.Parse.{digits_value, digits_value_after}
use Rattle.lrat_text.specs.LineWords.{first_word, after_word, capped}
use Rattle.lrat_text.proofs.word.read_digits.Given as goal

-- the bytes that are left give the answer
abbrev pub invariant-loop-end : goal.invariant-loop-end
invariant-loop-end l =
    let left = first_word (drop l.end l.bytes) in
    let whole = first_word (drop l.start l.bytes) in
    record {
      within : l.end ≤ length l.bytes;
      place : l.end + length left ≡ l.start + length whole;
      rest : after_word (drop l.end l.bytes) ≡ after_word (drop l.start l.bytes);
      all : l.all && all_ascii_digits left ≡ all_ascii_digits whole;
      small : l.size ≤ 9223372036854775808;
      size : l.all ≡ true → capped (digits_value_after 10 l.size left) ≡ capped (digits_value 10 whole);
    }

abbrev pub decreases-loop-end : goal.decreases-loop-end
decreases-loop-end l = length l.bytes - l.end
