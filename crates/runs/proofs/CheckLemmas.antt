-- The line that a proof's text gives.
use Rattle.std.proofs.Common.{◌≡◌, ℕ, List, [], ◌∷◌, ◌++◌, Option, Some, None, true, is_some, codes, decimal, append_assoc, refl, sym, ap, subst, ◌∙◌, IfSome, IfOk, Result, Ok, Err}
use Rattle.theory.specs.Reading.{Limits}
use Rattle.theory.specs.Truth as truth
use Rattle.theory.specs.Texts.{lf}
use Rattle.theory.specs.Steps as steps
use Rattle.theory.specs.ProofReading.{ProofReadsWithin, line_fault, too_long}
use Rattle.theory.specs.ProofReading as reading
use Rattle.theory.specs.Checking.{checks, accepted, refused, no_empty_clause}
use Rattle.theory.specs.Checking as theory
use Rattle.theory.specs.Numbers.{check_fault_number}
use Rattle.lrat_text.specs.declared.fault.TextFault.{TextFault}
use Rattle.lrat_text.specs.declared.fault.TextFault.TheVariants as text_fault
use Rattle.lrat.specs.declared.check_fault.CheckFault.{CheckFault}
use Rattle.lrat.specs.declared.check_fault.CheckFault.TheVariants as step_fault
use Rattle.lrat_text.specs.Faults.{HasFault, fault_number}
use Rattle.lrat.specs.CheckFaults as faults
use Rattle.lrat.specs.CheckFaults.{IsRefused}
use Rattle.runs.specs.declared.checked_line.Checked.TheVariants.{Accepted, Refused}
use Rattle.runs.specs.declared.checked_line.CheckedLine.{CheckedLine}
use Rattle.runs.specs.declared.checked_line.Place.{Place}
use Rattle.runs.specs.declared.checked_line.Place.TheVariants.{Step, Line}
use Rattle.runs.specs.Check.{IsLine, place_in_text, place_in_steps, refused_text}

-- a line in parts
parts : (a b c d e : List ℕ) → (a ++ (b ++ (c ++ d))) ++ e ≡ (((a ++ b) ++ c) ++ d) ++ e
parts a b c d e = ap (λ t. t ++ e) (sym (append_assoc a b (c ++ d)) ∙ sym (append_assoc (a ++ b) c d))

-- the line of a place that is known
at_place : (L : Limits) (F : truth.Formula) (bytes : List ℕ) (number : ℕ) (p place : Place) → Some p ≡ Some place → IsLine L F bytes Refused (refused_text number p) → IsLine L F bytes Refused (refused_text number place)
at_place L F bytes number p place e h = let same : p ≡ place = cc in subst (λ q. IsLine L F bytes Refused (refused_text number q)) same h

pub text-line : (L : Limits) (F : truth.Formula) (bytes : List ℕ) (e : TextFault) (place : Place) → HasFault L bytes e → place_in_text e ≡ Some place → IsLine L F bytes Refused (refused_text (fault_number e) place)
text-line L F bytes (text_fault.BadNumber n) place h is = at_place L F bytes 41 (Line n) place is (record { read_as = line_fault reading.bad_number n; reads = h; verdict = refl; line_is = parts (codes "refused ") (decimal 41) (codes " line ") (decimal n) (lf ∷ []) })
text-line L F bytes (text_fault.LineNotEnded n) place h is = at_place L F bytes 42 (Line n) place is (record { read_as = line_fault reading.line_not_ended n; reads = h; verdict = refl; line_is = parts (codes "refused ") (decimal 42) (codes " line ") (decimal n) (lf ∷ []) })
text-line L F bytes (text_fault.BadShape n) place h is = at_place L F bytes 43 (Line n) place is (record { read_as = line_fault reading.bad_shape n; reads = h; verdict = refl; line_is = parts (codes "refused ") (decimal 43) (codes " line ") (decimal n) (lf ∷ []) })
text-line L F bytes text_fault.TooLong place h is = absurd (cc)
text-line L F bytes text_fault.NoMemory place h is = absurd (cc)

-- steps that are read, and what checking them comes to
pub accepted-line : (L : Limits) (F : truth.Formula) (bytes : List ℕ) (ss : List steps.Step) → ProofReadsWithin L bytes (reading.steps ss) → checks F ss ≡ accepted → IsLine L F bytes Accepted (codes "accepted" ++ lf ∷ [])
accepted-line L F bytes ss reads e = record { read_as = reading.steps ss; reads = reads; verdict = rw e refl; line_is = rw e refl }

refused-line : (L : Limits) (F : truth.Formula) (bytes : List ℕ) (ss : List steps.Step) (fault : theory.Fault) (n : ℕ) → ProofReadsWithin L bytes (reading.steps ss) → checks F ss ≡ refused fault n
    → IsLine L F bytes Refused (refused_text (check_fault_number fault) (Step n))
refused-line L F bytes ss fault n reads e = record { read_as = reading.steps ss; reads = reads; verdict = rw e refl; line_is = rw e (parts (codes "refused ") (decimal (check_fault_number fault)) (codes " step ") (decimal n) (lf ∷ [])) }

pub steps-line : (L : Limits) (F : truth.Formula) (bytes : List ℕ) (ss : List steps.Step) (e : CheckFault) (place : Place) → ProofReadsWithin L bytes (reading.steps ss) → IsRefused F ss e → place_in_steps e ≡ Some place
    → IsLine L F bytes Refused (refused_text (faults.check_fault_number e) place)
steps-line L F bytes ss (step_fault.IdNotRising n) place reads h is = at_place L F bytes 21 (Step n) place is (refused-line L F bytes ss theory.id_not_rising n reads h)
steps-line L F bytes ss (step_fault.BothSigns n) place reads h is = at_place L F bytes 22 (Step n) place is (refused-line L F bytes ss theory.both_signs n reads h)
steps-line L F bytes ss (step_fault.NoSuchClause n) place reads h is = at_place L F bytes 23 (Step n) place is (refused-line L F bytes ss theory.no_such_clause n reads h)
steps-line L F bytes ss (step_fault.HintNotUnit n) place reads h is = at_place L F bytes 24 (Step n) place is (refused-line L F bytes ss theory.hint_not_unit n reads h)
steps-line L F bytes ss (step_fault.HintAfterConflict n) place reads h is = at_place L F bytes 25 (Step n) place is (refused-line L F bytes ss theory.hint_after_conflict n reads h)
steps-line L F bytes ss (step_fault.NoConflict n) place reads h is = at_place L F bytes 26 (Step n) place is (refused-line L F bytes ss theory.no_conflict n reads h)
steps-line L F bytes ss (step_fault.MissingCandidate n) place reads h is = at_place L F bytes 27 (Step n) place is (refused-line L F bytes ss theory.missing_candidate n reads h)
steps-line L F bytes ss (step_fault.BadCandidate n) place reads h is = at_place L F bytes 28 (Step n) place is (refused-line L F bytes ss theory.bad_candidate n reads h)
steps-line L F bytes ss (step_fault.NoSuchDeletion n) place reads h is = at_place L F bytes 29 (Step n) place is (refused-line L F bytes ss theory.no_such_deletion n reads h)
steps-line L F bytes ss (step_fault.LiteralOutOfRange n) place reads h is = at_place L F bytes 31 (Step n) place is (refused-line L F bytes ss theory.literal_out_of_range n reads h)
steps-line L F bytes ss step_fault.NoEmptyClause place reads h is = absurd (cc)
steps-line L F bytes ss step_fault.NoMemory place reads h is = absurd (cc)

-- the line of a refusal that has a place
pub placed : (L : Limits) (F : truth.Formula) (bytes : List ℕ) (number : ℕ) (place : Option Place) (line : List ℕ) → IfSome place (λ p. line ≡ refused_text number p) → is_some place ≡ true
    → ((p : Place) → place ≡ Some p → IsLine L F bytes Refused (refused_text number p)) → IsLine L F bytes Refused line
placed L F bytes number None line is some says = absurd (cc)
placed L F bytes number (Some p) line is some says = rw is (says p refl)

pub refused-says : (L : Limits) {E : Type 0} (F : truth.Formula) (bytes : List ℕ) (number : ℕ) (place : Option Place) (result : Result CheckedLine E)
    → IfOk result (λ l. (l.checked ≡ Refused) × IfSome place (λ p. l.text.items ≡ refused_text number p) × (is_some place ≡ true))
    → ((p : Place) → place ≡ Some p → IsLine L F bytes Refused (refused_text number p)) → IfOk result (λ l. IsLine L F bytes l.checked l.text.items)
refused-says L F bytes number place (Ok l) h says = rw h.0 (placed L F bytes number place l.text.items h.1 h.2 says)
refused-says L F bytes number place (Err e) h says = tt

pub whole-says : (L : Limits) {E : Type 0} (F : truth.Formula) (bytes line : List ℕ) (result : Result CheckedLine E) → IfOk result (λ l. (l.checked ≡ Refused) × (l.text.items ≡ line))
    → IsLine L F bytes Refused line → IfOk result (λ l. IsLine L F bytes l.checked l.text.items)
whole-says L F bytes line (Ok l) h says = rw (h.0, h.1) says
whole-says L F bytes line (Err e) h says = tt

pub too_long-line : (L : Limits) (F : truth.Formula) (bytes : List ℕ) → ProofReadsWithin L bytes too_long → IsLine L F bytes Refused (codes "refused 45" ++ lf ∷ [])
too_long-line L F bytes reads = record { read_as = too_long; reads = reads; verdict = refl; line_is = refl }

pub no_empty-line : (L : Limits) (F : truth.Formula) (bytes : List ℕ) (ss : List steps.Step) → ProofReadsWithin L bytes (reading.steps ss) → checks F ss ≡ no_empty_clause → IsLine L F bytes Refused (codes "refused 30" ++ lf ∷ [])
no_empty-line L F bytes ss reads e = record { read_as = reading.steps ss; reads = reads; verdict = rw e refl; line_is = rw e refl }
