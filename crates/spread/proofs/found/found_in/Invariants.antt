use Rattle.std.proofs.Common.{◌≡◌, List, ℕ}
use Rattle.spread.specs.Passages.{IsBetween}
use Rattle.spread.proofs.FoundLemmas.{IsSoFar}
use Rattle.spread.proofs.found.found_in.Given as goal

abbrev pub invariant-loop-body : goal.invariant-loop-body
invariant-loop-body g l = record {
  reader : l.reader ≡ l.fn.reader;
  so_far : (before behind : List ℕ) → IsBetween g.R.Read.remaining l.fn.passage before behind → IsSoFar g.R.Read.remaining l.fn.reader before behind l.passage l.found;
}

-- each body takes some of the bytes that are left
abbrev pub decreases-loop-body : goal.decreases-loop-body
decreases-loop-body g l = l.passage.left
