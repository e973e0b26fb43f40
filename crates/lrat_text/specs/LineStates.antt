-- What a line is seen as while it is read, and its faults.
use Rattle.std.specs.Prelude.{◌≡◌, Bool, true, false, Option, Some, None}
use Rattle.theory.specs.Steps.{Group, Addition, Deletion, add, delete}
use Rattle.theory.specs.ProofReading.{ProofReading, line_fault, too_long}
use Rattle.theory.specs.ProofReading as theory
use Rattle.lrat_text.specs.declared.line.Line.{Line}
use Rattle.lrat_text.specs.declared.line.Part.{Part}
use Rattle.lrat_text.specs.declared.line.Part.TheVariants.{Id, Literals, Hints, GroupHints, Ids, AdditionEnd, DeletionEnd}
use Rattle.lrat_text.specs.declared.fault.LineFault.{LineFault}
use Rattle.lrat_text.specs.declared.fault.LineFault.TheVariants as faults
use Rattle.lrat_text.specs.declared.fault.TextFault.{TextFault}
use Rattle.lrat_text.specs.declared.fault.TextFault.TheVariants.{BadNumber, LineNotEnded, BadShape, NoMemory, TooLong}
use Rattle.lrat_text.specs.LineMachine.{LineState, at_id, at_clause, at_hints, at_group, at_ids, ended, LineReading, line_read, line_at_fault}
use Rattle.lrat_text.specs.Steps.{step_of}
use Rattle.lrat_text.specs.declared.step.Step.{Step}

abbrev pub addition_of : Line → Addition
addition_of l = record { id = l.id; clause = l.clause.items; hints = l.hints.items; groups = l.groups.items }

abbrev pub group_of : Line → Group
group_of l = record { candidate = l.candidate; hints = l.group_hints.items }

abbrev pub deletion_of : Line → Deletion
deletion_of l = record { id = l.id; ids = l.hints.items }

-- the state of a line at whose part this comes next
abbrev pub state_at : Part → Line → LineState
state_at Id l = at_id
state_at Literals l = at_clause l.id l.clause.items
state_at Hints l = at_hints l.id l.clause.items l.hints.items
state_at GroupHints l = at_group (addition_of l) (group_of l)
state_at Ids l = at_ids (deletion_of l)
state_at AdditionEnd l = ended (add (addition_of l))
state_at DeletionEnd l = ended (delete (deletion_of l))

abbrev pub state_of : Line → LineState
state_of l = state_at l.part l

-- whether a word was taken, and the line after it
abbrev pub IsTaken : Option LineState → Bool → Line → Line → Type 0
IsTaken answer true old new = answer ≡ Some (state_of new)
IsTaken answer false old new = (answer ≡ None) × (new ≡ old)

-- the fault, as the definitions have it
abbrev pub kind_of : LineFault → theory.TextFault
kind_of faults.BadNumber = theory.bad_number
kind_of faults.BadShape = theory.bad_shape

-- the fault is what the text is read as; memory may run out at any text
abbrev pub IsFault : TextFault → ProofReading → Type 0
IsFault (BadNumber n) r = r ≡ line_fault theory.bad_number n
IsFault (LineNotEnded n) r = r ≡ line_fault theory.line_not_ended n
IsFault (BadShape n) r = r ≡ line_fault theory.bad_shape n
IsFault NoMemory r = Unit {0}
IsFault TooLong r = r ≡ too_long

-- the line's reading, where it may end with this step or may not end
abbrev pub reading_of : Option Step → LineReading
reading_of (Some s) = line_read (step_of s)
reading_of None = line_at_fault theory.bad_shape
