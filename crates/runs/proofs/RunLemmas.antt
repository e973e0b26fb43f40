-- What a run says, by what its parts answered.
use Rattle.std.proofs.Common.{◌≡◌, ℕ, true, List, Option, Result, Ok, Err, MatchResult, take, inl, inr, ◌⊎◌}
use Rattle.std.specs.Result.{is_err}
use Rattle.std.specs.Io.KnownBytes.{Appends}
use Rattle.theory.specs.Reading.{Limits}
use Rattle.theory.specs.Truth as truth
use Rattle.strategies.specs.Strategies.{Strategy}
use Rattle.cnf.specs.declared.fault.ReadFault.{ReadFault}
use Rattle.cnf.specs.declared.fault.ReadFault.TheVariants as reading
use Rattle.cnf.specs.Faults.{IsReadOf}
use Rattle.runs.specs.declared.verdict.Verdict.{Verdict}
use Rattle.runs.specs.Faults.{fault_of_read}
use Rattle.runs.specs.declared.fault.RunFault.{RunFault}
use Rattle.runs.specs.declared.fault.RunFault.TheVariants.{ProofWriteFailed}
use Rattle.runs.specs.Run.{AreTexts, IsRunOf, IsUnreadable, StopsInProof, RunSays}
use Rattle.runs.proofs.WrittenLemmas.{Keeps-same}

-- where a write failed, and where it didn't
pub failed : {X E : Type 0} (r : Result X E) (P Q : Type 0) → MatchResult r (λ _. P) (λ _. Q) → is_err r ≡ true → Q
failed (Ok x) P Q h e = absurd (cc)
failed (Err x) P Q h e = h

-- a formula that was read, and the texts for it
pub IsRunOf-made : (L : Limits) (known : Option (List ℕ)) (strategy : Strategy) (F : truth.Formula) (verdict : Verdict) (proof answer : List ℕ) → ◌≡◌ {A = Result truth.Formula ReadFault} (Ok F) (Err reading.ReadFailed) ⊎ IsReadOf L known (Ok F)
    → AreTexts L F strategy verdict proof answer → IsRunOf L known strategy verdict proof answer
IsRunOf-made L known strategy F verdict proof answer (inl e) texts = absurd (cc)
IsRunOf-made L known strategy F verdict proof answer (inr r) texts = record { bytes = r.bytes; are = r.are; value = F; reads = r.is_read; texts = texts }

-- a formula that wasn't read
unreadable : (L : Limits) (known p a : Option (List ℕ)) (fault : ReadFault) → ◌≡◌ {A = Result truth.Formula ReadFault} (Err fault) (Err reading.ReadFailed) ⊎ IsReadOf L known (Err fault) → (fault ≡ reading.NoMemory → ⊥)
    → IsUnreadable L known p p a a fault
unreadable L known p a fault (inl e) other = record { refused = inl (cc); not_memory = other; proof_kept = Keeps-same p; answer_kept = Keeps-same a }
unreadable L known p a fault (inr r) other = record { refused = inr r; not_memory = other; proof_kept = Keeps-same p; answer_kept = Keeps-same a }

pub RunSays-unread : (L : Limits) (known p a : Option (List ℕ)) (strategy : Strategy) (fault : ReadFault) → ◌≡◌ {A = Result truth.Formula ReadFault} (Err fault) (Err reading.ReadFailed) ⊎ IsReadOf L known (Err fault)
    → RunSays L known strategy p p a a (Err (fault_of_read fault))
RunSays-unread L known p a strategy reading.NoMemory h = (Keeps-same p, Keeps-same a)
RunSays-unread L known p a strategy reading.ReadFailed h = unreadable L known p a reading.ReadFailed h (λ e. cc)
RunSays-unread L known p a strategy (reading.NoHeader x) h = unreadable L known p a (reading.NoHeader x) h (λ e. cc)
RunSays-unread L known p a strategy (reading.BadHeader x) h = unreadable L known p a (reading.BadHeader x) h (λ e. cc)
RunSays-unread L known p a strategy (reading.SecondHeader x) h = unreadable L known p a (reading.SecondHeader x) h (λ e. cc)
RunSays-unread L known p a strategy (reading.BadNumber x) h = unreadable L known p a (reading.BadNumber x) h (λ e. cc)
RunSays-unread L known p a strategy (reading.VariableOutOfRange x) h = unreadable L known p a (reading.VariableOutOfRange x) h (λ e. cc)
RunSays-unread L known p a strategy (reading.TooManyClauses x) h = unreadable L known p a (reading.TooManyClauses x) h (λ e. cc)
RunSays-unread L known p a strategy (reading.TooFewClauses x) h = unreadable L known p a (reading.TooFewClauses x) h (λ e. cc)
RunSays-unread L known p a strategy (reading.ClauseNotEnded x) h = unreadable L known p a (reading.ClauseNotEnded x) h (λ e. cc)
RunSays-unread L known p a strategy (reading.OverLimit x) h = unreadable L known p a (reading.OverLimit x) h (λ e. cc)

-- a run whose proof could not be written
pub RunSays-stopped : (L : Limits) (known : Option (List ℕ)) (strategy : Strategy) (p q a : Option (List ℕ)) (r : Result Verdict RunFault) (e : RunFault) (verdict : Verdict) (proof answer : List ℕ) → r ≡ Err e → IsRunOf L known strategy verdict proof answer
    → (e ≡ ProofWriteFailed) × (count : ℕ) × Appends p q (take count proof) → RunSays L known strategy p q a a r
RunSays-stopped L known strategy p q a r e verdict proof answer f run h =
    rw (f, h.0) (let stops : StopsInProof L known strategy p q a a = record { verdict = verdict; proof = proof; answer = answer; run = run; count = h.1; proof_written = h.2; answer_kept = Keeps-same a } in stops)
