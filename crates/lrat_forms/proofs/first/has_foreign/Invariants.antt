use Rattle.std.proofs.Common.{◌≡◌, drop}
use Rattle.std.specs.List.{list_any}
use Rattle.lrat_forms.specs.Forms.{is_foreign}
use Rattle.lrat_forms.proofs.first.has_foreign.Given as goal

-- none of the bytes so far is foreign
abbrev pub invariant-loop-byte : goal.invariant-loop-byte
invariant-loop-byte l = list_any is_foreign (drop l.byte-index l.bytes) ≡ list_any is_foreign l.bytes
