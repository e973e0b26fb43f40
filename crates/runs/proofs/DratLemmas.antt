-- What the line on a proof in DRAT says of the formula, and what a run says whose formula wasn't read.
use Rattle.std.proofs.Common.{◌≡◌, ℕ, List, ◌∷◌, [], ◌++◌, codes, Option, None, Result, Ok, Err, IfOk, inl, inr, ◌⊎◌, refl}
use Rattle.theory.specs.Texts.{lf}
use Rattle.theory.specs.Reading.{Limits}
use Rattle.theory.specs.Truth as truth
use Rattle.theory.specs.ProofReading.{ProofReading, steps, line_fault, too_long}
use Rattle.theory.specs.Checking.{checks, accepted, refused, no_empty_clause}
use Rattle.theory.specs.Checking as theory
use Rattle.theory.specs.Numbers.{check_text}
use Rattle.theory.proofs.checker.Soundness.{accepted-unsatisfiable}
use Rattle.cnf.specs.declared.fault.ReadFault.{ReadFault}
use Rattle.cnf.specs.declared.fault.ReadFault.TheVariants as reading
use Rattle.cnf.specs.Faults.{IsReadOf}
use Rattle.lrat.specs.declared.variables.Variables.{Variables}
use Rattle.lrat.specs.declared.variables.Variables.TheVariants.{OfFormula}
use Rattle.lrat.specs.Extended.{checked_formula}
use Rattle.runs.specs.Faults.{fault_of_read}
use Rattle.runs.specs.declared.checked_line.Checked.{Checked}
use Rattle.runs.specs.declared.checked_line.Checked.TheVariants.{Accepted, Refused}
use Rattle.runs.specs.declared.checked_line.CheckedLine.{CheckedLine}
use Rattle.runs.specs.Check.{IsLine, verdict_of, checked_of}
use Rattle.runs.specs.Drat.{IsDratLine, IsDratCheckOf, DratSays}
use Rattle.runs.proofs.CheckRuns.{CheckSays-unread, allowed-satisfiable}

checks-accept : (c : theory.Checked) → Accepted ≡ checked_of c → c ≡ accepted
checks-accept accepted e = refl
checks-accept (refused fault n) e = absurd (cc)
checks-accept no_empty_clause e = absurd (cc)

accepts-reading : (F : truth.Formula) (line : List ℕ) (r : ProofReading) → Accepted ≡ verdict_of F r → line ≡ check_text F r → IsDratLine F Accepted line
accepts-reading F line (steps ss) e is =
    let a : checks F ss ≡ accepted = checks-accept (checks F ss) e in
    record { sound = λ _. accepted-unsatisfiable F ss a; accepts = λ _. rw is (rw a refl) }
accepts-reading F line (line_fault fault n) e is = absurd (cc)
accepts-reading F line too_long e is = absurd (cc)

pub refused-line : (F : truth.Formula) (line : List ℕ) → IsDratLine F Refused line
refused-line F line = record { sound = λ e. absurd (cc); accepts = λ e. absurd (cc) }

line-says : (L : Limits) (F : truth.Formula) (bytes : List ℕ) (checked : Checked) (line : List ℕ) → IsLine L F bytes checked line → IsDratLine F checked line
line-says L F bytes Accepted line is = accepts-reading F line is.read_as is.verdict is.line_is
line-says L F bytes Refused line is = refused-line F line

pub line-drat : (L : Limits) {E : Type 0} (F : truth.Formula) (bytes : List ℕ) (result : Result CheckedLine E) → IfOk result (λ l. IsLine L F bytes l.checked l.text.items) → IfOk result (λ l. IsDratLine F l.checked l.text.items)
line-drat L F bytes (Ok l) is = line-says L F bytes l.checked l.text.items is
line-drat L F bytes (Err e) is = tt

-- a formula that was read, and the line on it over the variables that the proof's clauses may have
pub IsDratCheckOf-made : (L : Limits) (variables : Variables) (known : Option (List ℕ)) (F : truth.Formula) (checked : Checked) (line : List ℕ) → ◌≡◌ {A = Result truth.Formula ReadFault} (Ok F) (Err reading.ReadFailed) ⊎ IsReadOf L known (Ok F)
    → IsDratLine (checked_formula L variables F) checked line → IsDratCheckOf L known checked line
IsDratCheckOf-made L variables known F checked line (inl e) says = absurd (cc)
IsDratCheckOf-made L variables known F checked line (inr r) says = record { bytes = r.bytes; are = r.are; value = F; reads = r.is_read; says = record { sound = λ e s. says.sound e (allowed-satisfiable L variables F s); accepts = says.accepts } }

pub DratSays-unread : (L : Limits) (known a : Option (List ℕ)) (fault : ReadFault) → ◌≡◌ {A = Result truth.Formula ReadFault} (Err fault) (Err reading.ReadFailed) ⊎ IsReadOf L known (Err fault)
    → DratSays L known a a (Err (fault_of_read fault))
DratSays-unread L known a reading.NoMemory h = CheckSays-unread L OfFormula known None a reading.NoMemory h
DratSays-unread L known a reading.ReadFailed h = CheckSays-unread L OfFormula known None a reading.ReadFailed h
DratSays-unread L known a (reading.NoHeader x) h = CheckSays-unread L OfFormula known None a (reading.NoHeader x) h
DratSays-unread L known a (reading.BadHeader x) h = CheckSays-unread L OfFormula known None a (reading.BadHeader x) h
DratSays-unread L known a (reading.SecondHeader x) h = CheckSays-unread L OfFormula known None a (reading.SecondHeader x) h
DratSays-unread L known a (reading.BadNumber x) h = CheckSays-unread L OfFormula known None a (reading.BadNumber x) h
DratSays-unread L known a (reading.VariableOutOfRange x) h = CheckSays-unread L OfFormula known None a (reading.VariableOutOfRange x) h
DratSays-unread L known a (reading.TooManyClauses x) h = CheckSays-unread L OfFormula known None a (reading.TooManyClauses x) h
DratSays-unread L known a (reading.TooFewClauses x) h = CheckSays-unread L OfFormula known None a (reading.TooFewClauses x) h
DratSays-unread L known a (reading.ClauseNotEnded x) h = CheckSays-unread L OfFormula known None a (reading.ClauseNotEnded x) h
DratSays-unread L known a (reading.OverLimit x) h = CheckSays-unread L OfFormula known None a (reading.OverLimit x) h
