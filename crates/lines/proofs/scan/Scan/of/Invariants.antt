use Rattle.std.proofs.Common.{take}
use Rattle.lines.specs.Rows.{row}
use Rattle.lines.specs.Scanning.{IsScanOf, IsSmall}
use Rattle.lines.proofs.scan.Scan.of.Given as goal

-- the scan of the bytes so far
abbrev pub invariant-loop-byte : goal.invariant-loop-byte
invariant-loop-byte l = record {
  scan : IsScanOf l.scan (row (take l.byte-index l.bytes));
  small : IsSmall l.byte-index l.scan;
}
