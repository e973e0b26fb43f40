use Rattle.std.proofs.Common.{◌≡◌, ◌+◌, ◌≤◌, take}
use Rattle.theory.specs.Tokens.{Place}
use Rattle.cnf.specs.Tokens.{place_behind}
use Rattle.cnf.proofs.scan.count_lf.Given as goal

-- the lines of the bytes reached
abbrev pub invariant-loop-byte : goal.invariant-loop-byte
invariant-loop-byte l = ((p : Place) → (place_behind p (take l.byte-index l.block)).line ≡ p.line + l.count) × (l.count ≤ l.byte-index)
