-- A proof that is checked as a reader gives it.
use Rattle.std.specs.Prelude.{◌≡◌, ◌⊎◌, ℕ, ◌+◌, ◌≤◌, List, length, take, Option, IfSome, Result, MatchResult}
use Rattle.std.specs.Io.KnownBytes.{Consumes, IsAtEnd}
use Rattle.theory.specs.Reading.{Limits}
use Rattle.theory.specs.Truth as truth
use Rattle.theory.specs.ProofReading.{ProofReading, ProofReadsWithin, max_proof_bytes}
use Rattle.theory.specs.Checking.{accepted}
use Rattle.lrat.specs.Running.{IsSaid}
use Rattle.lrat.specs.declared.refusal.Refusal.{Refusal}
use Rattle.lrat_text.specs.Streams.{Stream, feed, answer_to, checked}
use Rattle.runs.specs.declared.fault.RunFault.{RunFault}
use Rattle.runs.specs.declared.fault.RunFault.TheVariants.{NoMemory, ProofReadFailed}

-- so many bytes of the reader were fed to the check
pub record FeedsOn (known_old known_new : Option (List ℕ)) (V : ℕ) (old new : Stream) (count : ℕ) : Type 0 where
  pub bytes : List ℕ
  pub taken : Consumes known_old known_new bytes
  pub fed : new ≡ feed V old bytes
  pub many : length bytes ≡ count

-- one read of at most `room` bytes, which gives none only at the end
pub record FeedsChunk (known_old known_new : Option (List ℕ)) (V : ℕ) (old new : Stream) (room count : ℕ) : Type 0 where
  pub feeds : FeedsOn known_old known_new V old new count
  pub fit : count ≤ room
  pub at_end : count ≡ 0 → IsAtEnd known_new

-- the bytes of the reader, up to one above the greatest length, were fed
pub record FeedsAll (L : Limits) (known : Option (List ℕ)) (V : ℕ) (old new : Stream) : Type 0 where
  pub bytes : List ℕ
  pub are : IfSome known (λ xs. bytes ≡ take (max_proof_bytes L + 1) xs)
  pub fed : new ≡ feed V old bytes

-- the verdict on the reader's bytes, up to one above the greatest length: it says of each reading of
-- them what the checker answers to that
pub record Judges (L : Limits) {X : Type 0} (F : truth.Formula) (known : Option (List ℕ)) (verdict : Result X Refusal) : Type 0 where
  pub bytes : List ℕ
  pub are : IfSome known (λ xs. bytes ≡ take (max_proof_bytes L + 1) xs)
  pub says : (r : ProofReading) → ProofReadsWithin L bytes r → MatchResult verdict (λ _. answer_to F r ≡ checked accepted) (IsSaid (answer_to F r))

-- what stops the reading of a proof
abbrev pub IsStop : RunFault → Type 0
IsStop e = (e ≡ ProofReadFailed) ⊎ (e ≡ NoMemory)
