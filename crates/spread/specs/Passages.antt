-- Going through a pack: what was read of it, whose sum is taken, and what is left.
use Rattle.std.specs.Prelude.{◌≡◌, ◌≢◌, ◌<◌, ◌≤◌, ◌+◌, ◌^◌, ℕ, List, [], ◌++◌, length, Bool, true, false, Option, Some, None}
use Rattle.std.specs.Int.{w64, to_le_bytes}
use Rattle.sha2.specs.Hashers.{Holds256}
use Rattle.packs.specs.Packs.{framed}
use Rattle.spread.specs.declared.pack_file.Passage.{Passage}
use Rattle.spread.specs.declared.pack_file.Span.{Span}

-- these bytes were read, and the reader has those behind them, as many as it is believed to have
pub record IsBetween {R : Type 0} (remaining : R → Option (List ℕ)) (p : Passage R) (before behind : List ℕ) : Type 0 where
  pub rest : remaining p.reader ≡ Some behind
  pub left : p.left ≡ length behind
  pub at : p.at ≡ length before
  pub fits : length before + length behind < 2 ^ 64
  pub summed : Holds256 p.hasher before

-- it is somewhere in these bytes
pub record IsWithin {R : Type 0} (remaining : R → Option (List ℕ)) (p : Passage R) (bytes : List ℕ) : Type 0 where
  pub before : List ℕ
  pub behind : List ℕ
  pub joined : bytes ≡ before ++ behind
  pub between : IsBetween remaining p before behind

-- the next bytes are in the buffer, or there aren't as many
abbrev pub IsFilled : {R : Type 0} → (R → Option (List ℕ)) → Passage R → (before behind buffer : List ℕ) → Bool → Type 0
IsFilled remaining p before behind buffer true = (rest : List ℕ) × (behind ≡ buffer ++ rest) × IsBetween remaining p (before ++ buffer) rest
IsFilled remaining p before behind buffer false = (length behind < length buffer) × IsBetween remaining p before behind

-- the next bytes are these, or they aren't
abbrev pub IsMet : {R : Type 0} → (R → Option (List ℕ)) → Passage R → (before behind wanted : List ℕ) → Bool → Type 0
IsMet remaining p before behind wanted true = (rest : List ℕ) × (behind ≡ wanted ++ rest) × IsBetween remaining p (before ++ wanted) rest
IsMet remaining p before behind wanted false = (rest : List ℕ) → behind ≢ wanted ++ rest

-- no body stands in front
abbrev pub HasNoBody : List ℕ → Type 0
HasNoBody bytes = (body rest : List ℕ) → bytes ≢ framed body ++ rest

-- so long is the next body, or there is none
abbrev pub IsLength : {R : Type 0} → (R → Option (List ℕ)) → Passage R → (before behind : List ℕ) → Option ℕ → Type 0
IsLength remaining p before behind (Some n) = (rest : List ℕ) × (behind ≡ to_le_bytes w64 n ++ rest) × (n ≤ length rest) × IsBetween remaining p (before ++ to_le_bytes w64 n) rest
IsLength remaining p before behind None = IsWithin remaining p (before ++ behind) × HasNoBody behind

-- nothing is left, or something that is no body
abbrev pub IsStopped : Bool → List ℕ → Type 0
IsStopped true bytes = (bytes ≢ []) × HasNoBody bytes
IsStopped false bytes = bytes ≡ []

-- the next body was read, which stands there, or there is none
abbrev pub IsNext : {R : Type 0} → (R → Option (List ℕ)) → Passage R → (before behind body : List ℕ) → Option Span → Type 0
IsNext remaining p before behind body (Some span) = (rest : List ℕ) × (behind ≡ framed body ++ rest) × (span ≡ record { start = length before + 8; length = length body })
    × IsBetween remaining p (before ++ framed body) rest
IsNext remaining p before behind body None = IsWithin remaining p (before ++ behind) × IsStopped p.is_broken_off behind
