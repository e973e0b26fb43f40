-- The lines before and those of the tree are written one after the other.
use Rattle.std.proofs.Common.{◌≡◌, ℕ, List, [], ◌++◌, take, Option, Result, Err, MatchResult, sym, subst}
use Rattle.std.specs.Io.KnownBytes.{Appends}
use Rattle.theory.specs.Steps.{Step}
use Rattle.theory.specs.Texts.{proof_text}
use Rattle.runs.specs.declared.fault.RunFault.{RunFault}
use Rattle.runs.specs.declared.fault.RunFault.TheVariants.{ProofWriteFailed}
use Rattle.runs.proofs.LineTexts.{proof_text-append}
use Rattle.runs.proofs.ProofLemmas.{begins, written-on, stopped, stopped-in}
use Rattle.runs.proofs.WrittenLemmas.{Appends-then}

-- a write of a text, or of a beginning of it
abbrev Ends : {X : Type 0} → Option (List ℕ) → Option (List ℕ) → List ℕ → Result X RunFault → Type 0
Ends a b text r = MatchResult r (λ _. Appends a b text) (λ e. (e ≡ ProofWriteFailed) × (count : ℕ) × Appends a b (take count text))

bare : (a b : Option (List ℕ)) (buffer text : List ℕ) → buffer ≡ [] → Appends a b (buffer ++ text) → Appends a b text
bare a b buffer text none = subst (λ (bs : List ℕ). Appends a b (bs ++ text)) none

pub both-written : (a b d : Option (List ℕ)) (buffer : List ℕ) (before lines : List Step) → buffer ≡ [] → Appends a b (buffer ++ proof_text before) → Appends b d (proof_text lines) → Appends a d (proof_text (before ++ lines))
both-written a b d buffer before lines none first second =
    subst (Appends a d) (sym (proof_text-append before lines)) (Appends-then a b d (proof_text before) (proof_text lines) (bare a b buffer (proof_text before) none first) second)

-- a beginning of the lines before is written
pub first-stopped : {X : Type 0} (a b : Option (List ℕ)) (buffer : List ℕ) (before lines : List Step) (r : Result X RunFault) (e : RunFault) → r ≡ Err e → buffer ≡ [] → (e ≡ ProofWriteFailed) × (count : ℕ) × Appends a b (take count (buffer ++ proof_text before)) → Ends a b (proof_text (before ++ lines)) r
first-stopped a b buffer before lines r e f none h =
    let whole = proof_text (before ++ lines) in
    let s = stopped a a b (proof_text before) (proof_text lines) whole whole h.1 (begins a whole) (proof_text-append before lines) (subst (λ (bs : List ℕ). Appends a b (take h.1 (bs ++ proof_text before))) none h.2) in
    rw f (h.0, s.0, s.1)

-- they are, and a beginning of the others
pub second-stopped : {X : Type 0} (a b d : Option (List ℕ)) (buffer : List ℕ) (before lines : List Step) (r : Result X RunFault) (e : RunFault) → r ≡ Err e → buffer ≡ [] → Appends a b (buffer ++ proof_text before)
    → (e ≡ ProofWriteFailed) × (count : ℕ) × Appends b d (take count (proof_text lines)) → Ends a d (proof_text (before ++ lines)) r
second-stopped a b d buffer before lines r e f none first h =
    let whole = proof_text (before ++ lines) in
    let way = written-on a a b (proof_text before) (proof_text lines) whole whole (begins a whole) (proof_text-append before lines) (bare a b buffer (proof_text before) none first) in
    let s = stopped-in a b d (proof_text lines) whole h.1 way h.2 in
    rw f (h.0, s.0, s.1)
