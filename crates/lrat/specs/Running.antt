-- A check of a proof whose text comes in pieces, as the machine sees it.
use Rattle.std.specs.Prelude.{◌≡◌, ◌≤◌, ◌+◌, ℕ, Option, Some, None}
use Rattle.theory.specs.ProofReading as reading
use Rattle.theory.specs.Checking.{Checked, refused, no_empty_clause}
use Rattle.theory.specs.Checking as theory
use Rattle.lrat.specs.declared.check_fault.CheckFault.{CheckFault}
use Rattle.lrat.specs.declared.check_fault.CheckFault.TheVariants as steps
use Rattle.lrat.specs.declared.checker.Checker.{Checker}
use Rattle.lrat_text.specs.declared.fault.TextFault.TheVariants as texts
use Rattle.lrat.specs.declared.refusal.Refusal.{Refusal}
use Rattle.lrat.specs.declared.refusal.Refusal.TheVariants.{Text, Steps}
use Rattle.lrat.specs.declared.stream.ProofStream.{ProofStream}
use Rattle.lrat.specs.declared.stream.Stop.{Stop}
use Rattle.lrat.specs.CheckFaults.{fault_of, named_in}
use Rattle.lrat_text.specs.Pieces.{IsText, stream_at}
use Rattle.lrat_text.specs.Streams.{Progress, goes_on, stopped, Stream, Answer, checked, line_refused, text_too_long}
use Rattle.lrat.specs.Tested.{checker_of, IsReady}

abbrev pub progress_of : Option Stop → Checker → Progress
progress_of None c = goes_on (checker_of c)
progress_of (Some s) c = stopped (fault_of s.fault) s.step

abbrev pub stream_of : ProofStream → Stream
stream_of s = stream_at s.seen (progress_of s.stopped s.checker) s.text

-- the number of the clause that the first step at fault names wrongly
abbrev pub named_at : Option Stop → Option ℕ
named_at None = None
named_at (Some s) = named_in s.fault

-- how many variables clauses may have
abbrev pub vars_of : ProofStream → ℕ
vars_of s = s.checker.vars

-- the checker is ready for a step, as long as none was at fault
abbrev pub IsReadyUnless : Option Stop → Checker → Type 0
IsReadyUnless None c = IsReady c.vars c
IsReadyUnless (Some s) c = Unit {0}

pub record IsRunning (s : ProofStream) : Type 0 where
  pub text : IsText s.text
  pub ready : IsReadyUnless s.stopped s.checker
  pub few : s.text.number ≤ s.seen + 1

-- the answer, as a refusal says it
abbrev pub IsCheckSaid : Checked → CheckFault → Type 0
IsCheckSaid a (steps.IdNotRising n) = a ≡ refused theory.id_not_rising n
IsCheckSaid a (steps.BothSigns n) = a ≡ refused theory.both_signs n
IsCheckSaid a (steps.NoSuchClause n) = a ≡ refused theory.no_such_clause n
IsCheckSaid a (steps.HintNotUnit n) = a ≡ refused theory.hint_not_unit n
IsCheckSaid a (steps.HintAfterConflict n) = a ≡ refused theory.hint_after_conflict n
IsCheckSaid a (steps.NoConflict n) = a ≡ refused theory.no_conflict n
IsCheckSaid a (steps.MissingCandidate n) = a ≡ refused theory.missing_candidate n
IsCheckSaid a (steps.BadCandidate n) = a ≡ refused theory.bad_candidate n
IsCheckSaid a (steps.NoSuchDeletion n) = a ≡ refused theory.no_such_deletion n
IsCheckSaid a steps.NoEmptyClause = a ≡ no_empty_clause
IsCheckSaid a (steps.LiteralOutOfRange n) = a ≡ refused theory.literal_out_of_range n
IsCheckSaid a steps.NoMemory = ⊥

abbrev pub IsSaid : Answer → Refusal → Type 0
IsSaid a (Text (texts.BadNumber n)) = a ≡ line_refused reading.bad_number n
IsSaid a (Text (texts.LineNotEnded n)) = a ≡ line_refused reading.line_not_ended n
IsSaid a (Text (texts.BadShape n)) = a ≡ line_refused reading.bad_shape n
IsSaid a (Text texts.NoMemory) = ⊥
IsSaid a (Text texts.TooLong) = a ≡ text_too_long
IsSaid a (Steps f) = (c : Checked) × (a ≡ checked c) × IsCheckSaid c f
