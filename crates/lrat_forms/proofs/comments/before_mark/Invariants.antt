use Rattle.std.proofs.Common.{◌≡◌, true, take}
use Rattle.lrat_forms.specs.PlainLines.{line_after, is_plain}
use Rattle.lrat_forms.proofs.comments.before_mark.Given as goal

-- no comment begins in the bytes so far, and where the next one stands is known
abbrev pub invariant-loop-at : goal.invariant-loop-at
invariant-loop-at l = record {
  plain : is_plain l.fn.line (take l.at l.bytes) ≡ true;
  line : l.at_byte ≡ line_after l.fn.line (take l.at l.bytes);
}
