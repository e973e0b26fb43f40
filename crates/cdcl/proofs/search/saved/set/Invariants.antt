use Rattle.std.proofs.Common.{◌≡◌, length, drop}
use Rattle.cdcl.specs.Numbers.{AreSetBut}
use Rattle.cdcl.proofs.search.saved.set.Given as goal

-- only values at the places to come may be false
abbrev pub invariant-loop-place : goal.invariant-loop-place
invariant-loop-place l = record {
  long : length l.values ≡ length l.fn.values;
  left : AreSetBut l.places l.fn.values → AreSetBut (drop l.place-index l.places) l.values;
}
