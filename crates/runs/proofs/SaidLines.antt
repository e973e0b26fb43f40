-- What a refusal says of a proof, and the line of it.
use Rattle.std.proofs.Common.{◌≡◌, ℕ, List, ◌∷◌, [], ◌++◌, Some, codes, subst, sym, ◌∙◌}
use Rattle.theory.specs.Reading.{Limits}
use Rattle.theory.specs.Truth as truth
use Rattle.theory.specs.Texts.{lf}
use Rattle.theory.specs.Steps as steps
use Rattle.theory.specs.ProofReading.{ProofReading, ProofReadsWithin, line_fault, too_long}
use Rattle.theory.specs.ProofReading as reading
use Rattle.theory.specs.Checking.{Checked, checks, accepted}
use Rattle.lrat_text.specs.declared.fault.TextFault.{TextFault}
use Rattle.lrat_text.specs.declared.fault.TextFault.TheVariants as text_fault
use Rattle.lrat_text.specs.Faults.{HasFault, fault_number}
use Rattle.lrat_text.specs.Streams.{answer_to, checked, line_refused, text_too_long}
use Rattle.lrat.specs.declared.check_fault.CheckFault.{CheckFault}
use Rattle.lrat.specs.declared.check_fault.CheckFault.TheVariants as step_fault
use Rattle.lrat.specs.declared.refusal.Refusal.TheVariants.{Text, Steps}
use Rattle.lrat.specs.CheckFaults as faults
use Rattle.lrat.specs.CheckFaults.{IsRefused}
use Rattle.lrat.specs.Running.{IsSaid, IsCheckSaid}
use Rattle.runs.specs.declared.checked_line.Checked.TheVariants.{Accepted, Refused}
use Rattle.runs.specs.declared.checked_line.Place.{Place}
use Rattle.runs.specs.Check.{IsLine, place_in_text, place_in_steps, refused_text}
use Rattle.runs.proofs.CheckLemmas.{text-line, accepted-line, steps-line, too_long-line, no_empty-line}

pub said-accepted : (L : Limits) (F : truth.Formula) (bytes : List ℕ) (r : ProofReading) → ProofReadsWithin L bytes r → answer_to F r ≡ checked accepted → IsLine L F bytes Accepted (codes "accepted" ++ lf ∷ [])
said-accepted L F bytes (reading.steps ss) reads e = accepted-line L F bytes ss reads (cc)
said-accepted L F bytes (line_fault f n) reads e = absurd (cc)
said-accepted L F bytes too_long reads e = absurd (cc)

-- a refusal of the text
pub said-too_long : (L : Limits) (F : truth.Formula) (bytes : List ℕ) (r : ProofReading) → ProofReadsWithin L bytes r → answer_to F r ≡ text_too_long → IsLine L F bytes Refused (codes "refused 45" ++ lf ∷ [])
said-too_long L F bytes (reading.steps ss) reads e = absurd (cc)
said-too_long L F bytes (line_fault f n) reads e = absurd (cc)
said-too_long L F bytes too_long reads e = too_long-line L F bytes reads

at_line : (F : truth.Formula) (r : ProofReading) (f : reading.TextFault) (n : ℕ) → answer_to F r ≡ line_refused f n → r ≡ line_fault f n
at_line F (reading.steps ss) f n e = absurd (cc)
at_line F (line_fault g m) f n e = cc
at_line F too_long f n e = absurd (cc)

has_fault : (L : Limits) (F : truth.Formula) (bytes : List ℕ) (r : ProofReading) (e : TextFault) → ProofReadsWithin L bytes r → IsSaid (answer_to F r) (Text e) → (place : Place) → place_in_text e ≡ Some place → HasFault L bytes e
has_fault L F bytes r (text_fault.BadNumber n) reads says place is = subst (ProofReadsWithin L bytes) (at_line F r reading.bad_number n says) reads
has_fault L F bytes r (text_fault.LineNotEnded n) reads says place is = subst (ProofReadsWithin L bytes) (at_line F r reading.line_not_ended n says) reads
has_fault L F bytes r (text_fault.BadShape n) reads says place is = subst (ProofReadsWithin L bytes) (at_line F r reading.bad_shape n says) reads
has_fault L F bytes r text_fault.TooLong reads says place is = absurd (cc)
has_fault L F bytes r text_fault.NoMemory reads says place is = absurd says

pub said-text : (L : Limits) (F : truth.Formula) (bytes : List ℕ) (r : ProofReading) (e : TextFault) (place : Place) → ProofReadsWithin L bytes r → IsSaid (answer_to F r) (Text e) → place_in_text e ≡ Some place
    → IsLine L F bytes Refused (refused_text (fault_number e) place)
said-text L F bytes r e place reads says is = text-line L F bytes e place (has_fault L F bytes r e reads says place is) is

-- a refusal of the steps
check-refused : (F : truth.Formula) (ss : List steps.Step) (e : CheckFault) → IsCheckSaid (checks F ss) e → IsRefused F ss e
check-refused F ss (step_fault.IdNotRising n) h = h
check-refused F ss (step_fault.BothSigns n) h = h
check-refused F ss (step_fault.NoSuchClause n) h = h
check-refused F ss (step_fault.HintNotUnit n) h = h
check-refused F ss (step_fault.HintAfterConflict n) h = h
check-refused F ss (step_fault.NoConflict n) h = h
check-refused F ss (step_fault.MissingCandidate n) h = h
check-refused F ss (step_fault.BadCandidate n) h = h
check-refused F ss (step_fault.NoSuchDeletion n) h = h
check-refused F ss step_fault.NoEmptyClause h = h
check-refused F ss (step_fault.LiteralOutOfRange n) h = h
check-refused F ss step_fault.NoMemory h = absurd h

pub said-steps : (L : Limits) (F : truth.Formula) (bytes : List ℕ) (r : ProofReading) (e : CheckFault) (place : Place) → ProofReadsWithin L bytes r → IsSaid (answer_to F r) (Steps e) → place_in_steps e ≡ Some place
    → IsLine L F bytes Refused (refused_text (faults.check_fault_number e) place)
said-steps L F bytes (reading.steps ss) e place reads says is =
    let same : checks F ss ≡ says.0 = cc (says.1) in
    steps-line L F bytes ss e place reads (check-refused F ss e (subst (λ (c : Checked). IsCheckSaid c e) (sym same) says.2)) is
said-steps L F bytes (line_fault f n) e place reads says is = absurd (cc (says.1))
said-steps L F bytes too_long e place reads says is = absurd (cc (says.1))

pub said-no_empty : (L : Limits) (F : truth.Formula) (bytes : List ℕ) (r : ProofReading) → ProofReadsWithin L bytes r → IsSaid (answer_to F r) (Steps step_fault.NoEmptyClause) → IsLine L F bytes Refused (codes "refused 30" ++ lf ∷ [])
said-no_empty L F bytes (reading.steps ss) reads says =
    let same : checks F ss ≡ says.0 = cc (says.1) in
    no_empty-line L F bytes ss reads (same ∙ says.2)
said-no_empty L F bytes (line_fault f n) reads says = absurd (cc (says.1))
said-no_empty L F bytes too_long reads says = absurd (cc (says.1))
