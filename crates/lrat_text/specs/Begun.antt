-- What a word that is begun, and a line while it is read in pieces, are seen as.
use Rattle.std.specs.Prelude.{◌≡◌, ◌+◌, ◌≤◌, Option, Some, None}
use Rattle.theory.specs.ProofReading.{max_number}
use Rattle.lrat_text.specs.declared.begun.Begun as declared
use Rattle.lrat_text.specs.declared.begun.Begun.TheVariants as bytes
use Rattle.lrat_text.specs.declared.fault.LineFault.{LineFault}
use Rattle.lrat_text.specs.declared.line.Line.{Line}
use Rattle.lrat_text.specs.LineStates.{state_of, kind_of}
use Rattle.lrat_text.specs.Streams.{Begun, nothing, zero_so_far, minus_so_far, mark_so_far, other_so_far, positive_so_far, negative_so_far, Ended, goes_to, at_fault}

abbrev pub begun_of : declared.Begun → Begun
begun_of bytes.Nothing = nothing
begun_of bytes.Zero = zero_so_far
begun_of bytes.Minus = minus_so_far
begun_of bytes.Mark = mark_so_far
begun_of bytes.Other = other_so_far
begun_of (bytes.Positive n) = positive_so_far n
begun_of (bytes.Negative n) = negative_so_far n

-- a number begun counts something, and is within the cap
abbrev pub IsCounted : declared.Begun → Type 0
IsCounted (bytes.Positive n) = (1 ≤ n) × (n ≤ max_number + 1)
IsCounted (bytes.Negative n) = (1 ≤ n) × (n ≤ max_number + 1)
IsCounted w = Unit {0}

-- the line goes to the state, or has the fault and stays as it was
abbrev pub Ends : Ended → Option LineFault → Line → Line → Type 0
Ends e None old new = e ≡ goes_to (state_of new)
Ends (goes_to s) (Some f) old new = ⊥
Ends (at_fault k) (Some f) old new = (kind_of f ≡ k) × (new ≡ old)
