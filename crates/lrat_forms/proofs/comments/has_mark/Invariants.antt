use Rattle.std.proofs.Common.{◌≡◌, take}
use Rattle.std.specs.List.{list_any}
use Rattle.lrat_forms.specs.Comments.{is_mark}
use Rattle.lrat_forms.proofs.comments.has_mark.Given as goal

-- whether one of the bytes so far is a mark
abbrev pub invariant-loop-byte : goal.invariant-loop-byte
invariant-loop-byte l = l.has ≡ list_any is_mark (take l.byte-index l.bytes)
