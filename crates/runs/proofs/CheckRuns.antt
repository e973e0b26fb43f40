-- What a run of the checker says where the formula isn't read.
use Rattle.std.proofs.Common.{◌≡◌, ℕ, zero, suc, ◌≤◌, ◌-◌, Bool, false, List, [], ◌∷◌, ◌+◌, ◌++◌, length, take, replicate, slice_index_or, IsTrue, arith, refl, Option, Result, Ok, Err, inl, inr, ◌⊎◌, IfSome, ap, sym, subst, ◌∙◌}
use Rattle.std.proofs.Math.Nat.{le-max_left}
use Rattle.std.proofs.lemmas.List.{length-append, length-replicate}
use Rattle.theory.specs.Reading.{Limits, max_vars}
use Rattle.theory.specs.Truth as truth
use Rattle.cnf.specs.declared.fault.ReadFault.{ReadFault}
use Rattle.cnf.specs.declared.fault.ReadFault.TheVariants as reading
use Rattle.cnf.specs.Faults.{IsReadOf}
use Rattle.runs.specs.declared.fault.RunFault.{RunFault}
use Rattle.runs.specs.Faults.{fault_of_read}
use Rattle.runs.specs.Streamed.{IsStop}
use Rattle.theory.specs.ProofReading.{max_proof_bytes}
use Rattle.runs.specs.declared.checked_line.Checked.{Checked}
use Rattle.runs.specs.declared.check.Told.{Told}
use Rattle.lrat.specs.declared.variables.Variables.{Variables}
use Rattle.lrat.specs.declared.variables.Variables.TheVariants.{OfFormula, Extended}
use Rattle.lrat.specs.Extended.{variables_allowed, with_variables, checked_formula}
use Rattle.runs.specs.Check.{IsUnchecked, IsLine, IsCheckOf, IsProofUnread, CheckSays, checked_by}
use Rattle.runs.proofs.WrittenLemmas.{Keeps-same}

pub unchecked : (L : Limits) (known a : Option (List ℕ)) (fault : ReadFault) → ◌≡◌ {A = Result truth.Formula ReadFault} (Err fault) (Err reading.ReadFailed) ⊎ IsReadOf L known (Err fault) → (fault ≡ reading.NoMemory → ⊥)
    → IsUnchecked L known a a fault
unchecked L known a fault (inl e) other = record { refused = inl (cc); not_memory = other; kept = Keeps-same a }
unchecked L known a fault (inr r) other = record { refused = inr r; not_memory = other; kept = Keeps-same a }

pub CheckSays-unread : (L : Limits) (variables : Variables) (known proof a : Option (List ℕ)) (fault : ReadFault) → ◌≡◌ {A = Result truth.Formula ReadFault} (Err fault) (Err reading.ReadFailed) ⊎ IsReadOf L known (Err fault)
    → CheckSays L variables known proof a a (Err (fault_of_read fault))
CheckSays-unread L variables known proof a reading.NoMemory h = Keeps-same a
CheckSays-unread L variables known proof a reading.ReadFailed h = unchecked L known a reading.ReadFailed h (λ e. cc)
CheckSays-unread L variables known proof a (reading.NoHeader x) h = unchecked L known a (reading.NoHeader x) h (λ e. cc)
CheckSays-unread L variables known proof a (reading.BadHeader x) h = unchecked L known a (reading.BadHeader x) h (λ e. cc)
CheckSays-unread L variables known proof a (reading.SecondHeader x) h = unchecked L known a (reading.SecondHeader x) h (λ e. cc)
CheckSays-unread L variables known proof a (reading.BadNumber x) h = unchecked L known a (reading.BadNumber x) h (λ e. cc)
CheckSays-unread L variables known proof a (reading.VariableOutOfRange x) h = unchecked L known a (reading.VariableOutOfRange x) h (λ e. cc)
CheckSays-unread L variables known proof a (reading.TooManyClauses x) h = unchecked L known a (reading.TooManyClauses x) h (λ e. cc)
CheckSays-unread L variables known proof a (reading.TooFewClauses x) h = unchecked L known a (reading.TooFewClauses x) h (λ e. cc)
CheckSays-unread L variables known proof a (reading.ClauseNotEnded x) h = unchecked L known a (reading.ClauseNotEnded x) h (λ e. cc)
CheckSays-unread L variables known proof a (reading.OverLimit x) h = unchecked L known a (reading.OverLimit x) h (λ e. cc)

-- a formula and a proof that were read, and the line for them
pub IsCheckOf-made : (L : Limits) (variables : Variables) (known proofs : Option (List ℕ)) (F : truth.Formula) (proof : List ℕ) (checked : Checked) (line : List ℕ) → ◌≡◌ {A = Result truth.Formula ReadFault} (Ok F) (Err reading.ReadFailed) ⊎ IsReadOf L known (Ok F)
    → IfSome proofs (λ xs. proof ≡ take (max_proof_bytes L + 1) xs) → IsLine L (checked_formula L variables F) proof checked line → IsCheckOf L variables known proofs checked line
IsCheckOf-made L variables known proofs F proof checked line (inl e) is says = absurd (cc)
IsCheckOf-made L variables known proofs F proof checked line (inr r) is says = record { bytes = r.bytes; are = r.are; value = F; reads = r.is_read; proof = proof; proof_is = is; says = says }

-- a formula that was read, and a proof that wasn't
pub IsProofUnread-made : (L : Limits) (known a : Option (List ℕ)) (F : truth.Formula) → ◌≡◌ {A = Result truth.Formula ReadFault} (Ok F) (Err reading.ReadFailed) ⊎ IsReadOf L known (Ok F) → IsProofUnread L known a a
IsProofUnread-made L known a F (inl e) = absurd (cc)
IsProofUnread-made L known a F (inr r) = record { bytes = r.bytes; are = r.are; value = F; reads = r.is_read; kept = Keeps-same a }

-- so what is said of a run that stopped while it fed the proof
pub CheckSays-stopped : (L : Limits) (variables : Variables) (known proof a : Option (List ℕ)) (F : truth.Formula) (e : RunFault) (r : Result Told RunFault)
    → ◌≡◌ {A = Result truth.Formula ReadFault} (Ok F) (Err reading.ReadFailed) ⊎ IsReadOf L known (Ok F) → IsStop e → r ≡ Err e → CheckSays L variables known proof a a (checked_by r)
CheckSays-stopped L variables known proof a F e r read (inl p) same = subst (λ s. CheckSays L variables known proof a a (checked_by s)) (sym (same ∙ ap (λ f. Err f) p)) (IsProofUnread-made L known a F read)
CheckSays-stopped L variables known proof a F e r read (inr m) same = subst (λ s. CheckSays L variables known proof a a (checked_by s)) (sym (same ∙ ap (λ f. Err f) m)) (Keeps-same a)

-- the formula's variables are among those that a proof's clauses may have
pub allowed-fits : (L : Limits) (variables : Variables) (F : truth.Formula) → F.vars ≤ variables_allowed L variables F
allowed-fits L OfFormula F = omega arith
allowed-fits L Extended F = le-max_left F.vars (max_vars L)

-- clauses over more variables are satisfiable where they were: the further ones are made false
falses-at : (n k : ℕ) → slice_index_or (replicate n false) k false ≡ false
falses-at zero k = refl
falses-at (suc n) zero = refl
falses-at (suc n) (suc k) = falses-at n k

same-at : (M : List Bool) (n k : ℕ) → slice_index_or (M ++ replicate n false) k false ≡ slice_index_or M k false
same-at [] n k = falses-at n k
same-at (b ∷ M) n zero = refl
same-at (b ∷ M) n (suc k) = same-at M n k

pub more-satisfiable : (V : ℕ) (F : truth.Formula) → F.vars ≤ V → truth.Satisfiable F → truth.Satisfiable (with_variables V F)
more-satisfiable V F fits s =
    let M = s.0 ++ replicate (V - F.vars) false in
    let same : truth.value M ≡ truth.value s.0 = λ i v. same-at s.0 (V - F.vars) (v - 1) i in
    let long : length M ≡ length s.0 + length (replicate (V - F.vars) false) = length-append s.0 (replicate (V - F.vars) false) in
    let more : length (replicate (V - F.vars) false) ≡ V - F.vars = length-replicate (V - F.vars) false in
    let all = s.1.values in
    (M, record { values = omega (arith, long, more, all, fits); clauses = subst (λ m. IsTrue (truth.are_true m F.clauses)) (sym same) s.1.clauses })

pub allowed-satisfiable : (L : Limits) (variables : Variables) (F : truth.Formula) → truth.Satisfiable F → truth.Satisfiable (checked_formula L variables F)
allowed-satisfiable L variables F s = more-satisfiable (variables_allowed L variables F) F (allowed-fits L variables F) s
