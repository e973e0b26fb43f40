-- A text that is refused at a place is no formula's.
use Rattle.std.proofs.Common.{◌≡◌, ℕ, List, true, is_some, Result, Ok, Err, IfOk}
use Rattle.theory.specs.Truth.{Formula}
use Rattle.theory.specs.Reading as theory
use Rattle.theory.specs.Reading.{Limits, Reading, ReadsWithin, formula, refusal}
use Rattle.theory.proofs.reading.OneReading.{Reads-one}
use Rattle.cnf.specs.declared.fault.Place.{Place}
use Rattle.cnf.specs.declared.fault.ReadFault.{ReadFault}
use Rattle.cnf.specs.declared.fault.ReadFault.TheVariants.{NoHeader, BadHeader, SecondHeader, BadNumber, VariableOutOfRange, TooManyClauses, TooFewClauses, ClauseNotEnded, OverLimit, ReadFailed, NoMemory}
use Rattle.cnf.specs.Faults.{IsRefusal, place_in, place_of_fault}

both : (L : Limits) (bytes : List ℕ) (F : Formula) (f : theory.ReadFault) (p : Place) → ReadsWithin L bytes (refusal f (place_in p)) → ReadsWithin L bytes (formula F) → ⊥
both L bytes F f p refused reads =
    let same : refusal f (place_in p) ≡ formula F = Reads-one L bytes (refusal f (place_in p)) (formula F) refused reads in
    absurd (cc)

pub refused-alone : (L : Limits) (bytes : List ℕ) (F : Formula) (e : ReadFault) → is_some (place_of_fault e) ≡ true → IsRefusal (ReadsWithin L bytes) e → ReadsWithin L bytes (formula F) → ⊥
refused-alone L bytes F (NoHeader p) n refused reads = both L bytes F theory.no_header p refused reads
refused-alone L bytes F (BadHeader p) n refused reads = both L bytes F theory.bad_header p refused reads
refused-alone L bytes F (SecondHeader p) n refused reads = both L bytes F theory.second_header p refused reads
refused-alone L bytes F (BadNumber p) n refused reads = both L bytes F theory.bad_number p refused reads
refused-alone L bytes F (VariableOutOfRange p) n refused reads = both L bytes F theory.variable_out_of_range p refused reads
refused-alone L bytes F (TooManyClauses p) n refused reads = both L bytes F theory.too_many_clauses p refused reads
refused-alone L bytes F (TooFewClauses p) n refused reads = both L bytes F theory.too_few_clauses p refused reads
refused-alone L bytes F (ClauseNotEnded p) n refused reads = both L bytes F theory.clause_not_ended p refused reads
refused-alone L bytes F (OverLimit p) n refused reads = both L bytes F theory.over_limit p refused reads
refused-alone L bytes F ReadFailed n refused reads = absurd (cc)
refused-alone L bytes F NoMemory n refused reads = absurd (cc)

-- of what no formula has nothing more is to be shown
pub of-none : {X E : Type 0} (r : Result X E) (R : Formula → Type 0) (Q : X → Type 0) → ((F : Formula) → R F → ⊥) → IfOk r (λ x. (F : Formula) → R F → Q x)
of-none (Ok x) R Q none = λ F h. absurd (none F h)
of-none (Err e) R Q none = tt
