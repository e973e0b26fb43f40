use Rattle.std.proofs.Common.{◌≡◌, ◌-◌, ◌≤◌, vec_len}
use Rattle.std.specs.Io.KnownBytes.{Consumes}
use Rattle.cnf.proofs.input.read_bytes.Given as goal

-- the text is what the reader gave
abbrev pub invariant-loop-text : goal.invariant-loop-text
invariant-loop-text g l =
    (vec_len l.chunk ≡ 65536) × (vec_len l.text ≤ l.most) × Consumes (g.R.Read.remaining l.fn.input) (g.R.Read.remaining l.input) l.text.items

abbrev pub decreases-loop-text : goal.decreases-loop-text
decreases-loop-text g l = l.most - vec_len l.text
