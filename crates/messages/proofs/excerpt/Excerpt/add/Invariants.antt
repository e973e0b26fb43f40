use Rattle.std.proofs.Common.{◌≡◌, ℕ, List, ◌++◌, drop}
use Rattle.messages.specs.Excerpts.{kept_with}
use Rattle.messages.proofs.excerpt.Excerpt.add.Given as goal

abbrev pub invariant-loop-byte : goal.invariant-loop-byte
invariant-loop-byte l = (more : List ℕ) →
    kept_with l.self (drop l.byte-index l.piece ++ more) ≡ kept_with l.initial.self (l.piece ++ more)
