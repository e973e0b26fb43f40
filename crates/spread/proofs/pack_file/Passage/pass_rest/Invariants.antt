use Rattle.std.proofs.Common.{List, ℕ}
use Rattle.spread.specs.Passages.{IsWithin}
use Rattle.spread.proofs.pack_file.Passage.pass_rest.Given as goal

-- it stays within the bytes
abbrev pub invariant-loop-self : goal.invariant-loop-self
invariant-loop-self g l = (bytes : List ℕ) → IsWithin g.R.Read.remaining l.fn.self bytes → IsWithin g.R.Read.remaining l.self bytes

abbrev pub decreases-loop-self : goal.decreases-loop-self
decreases-loop-self g l = l.self.left
