-- What a run of `tidy` says where it writes nothing, or its text.
use Rattle.std.proofs.Common.{◌≡◌, ℕ, List, ◌++◌, take, Option, Result, Ok, Err, MatchResult, ◌⊎◌, refl}
use Rattle.std.specs.Io.KnownBytes.{Appends}
use Rattle.theory.specs.Reading.{Limits}
use Rattle.theory.specs.Truth as truth
use Rattle.cnf.specs.declared.fault.ReadFault.{ReadFault}
use Rattle.cnf.specs.declared.fault.ReadFault.TheVariants as reading
use Rattle.cnf.specs.Faults.{IsReadOf}
use Rattle.runs.specs.declared.fault.RunFault.{RunFault}
use Rattle.runs.specs.Faults.{fault_of_read}
use Rattle.runs.specs.Tidy.{TidySays}
use Rattle.runs.proofs.CheckRuns.{unchecked}
use Rattle.runs.proofs.ProofLemmas.{begins, written-on, stopped-in}
use Rattle.runs.proofs.WrittenLemmas.{Keeps-same, Appends-then}

pub TidySays-unread : (X : Type 0) (L : Limits) (known a : Option (List ℕ)) (fault : ReadFault) → ◌≡◌ {A = Result truth.Formula ReadFault} (Err fault) (Err reading.ReadFailed) ⊎ IsReadOf L known (Err fault)
    → TidySays {X = X} L known a a (Err (fault_of_read fault))
TidySays-unread X L known a reading.NoMemory h = Keeps-same a
TidySays-unread X L known a reading.ReadFailed h = unchecked L known a reading.ReadFailed h (λ e. cc)
TidySays-unread X L known a (reading.NoHeader x) h = unchecked L known a (reading.NoHeader x) h (λ e. cc)
TidySays-unread X L known a (reading.BadHeader x) h = unchecked L known a (reading.BadHeader x) h (λ e. cc)
TidySays-unread X L known a (reading.SecondHeader x) h = unchecked L known a (reading.SecondHeader x) h (λ e. cc)
TidySays-unread X L known a (reading.BadNumber x) h = unchecked L known a (reading.BadNumber x) h (λ e. cc)
TidySays-unread X L known a (reading.VariableOutOfRange x) h = unchecked L known a (reading.VariableOutOfRange x) h (λ e. cc)
TidySays-unread X L known a (reading.TooManyClauses x) h = unchecked L known a (reading.TooManyClauses x) h (λ e. cc)
TidySays-unread X L known a (reading.TooFewClauses x) h = unchecked L known a (reading.TooFewClauses x) h (λ e. cc)
TidySays-unread X L known a (reading.ClauseNotEnded x) h = unchecked L known a (reading.ClauseNotEnded x) h (λ e. cc)
TidySays-unread X L known a (reading.OverLimit x) h = unchecked L known a (reading.OverLimit x) h (λ e. cc)

-- a text in two parts, of which the first is written
second-stopped : (a b d : Option (List ℕ)) (first second : List ℕ) (count : ℕ) → Appends a b first → Appends b d (take count second) → (n : ℕ) × Appends a d (take n (first ++ second))
second-stopped a b d first second count h w = stopped-in a b d second (first ++ second) count (written-on a a b first second (first ++ second) (first ++ second) (begins a (first ++ second)) refl h) w

pub second-written : {X : Type 0} (a b d : Option (List ℕ)) (first second : List ℕ) (fault : RunFault) (r : Result X RunFault) → Appends a b first
    → MatchResult r (λ _. Appends b d second) (λ e. (e ≡ fault) × (count : ℕ) × Appends b d (take count second))
    → MatchResult r (λ _. Appends a d (first ++ second)) (λ e. (e ≡ fault) × (count : ℕ) × Appends a d (take count (first ++ second)))
second-written a b d first second fault (Ok x) h w = Appends-then a b d first second h w
second-written a b d first second fault (Err e) h w =
    let end = second-stopped a b d first second w.1 h w.2 in
    (w.0, end.0, end.1)
