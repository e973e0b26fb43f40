-- The faults of a text: their numbers and lines, and when each comes.
use Rattle.std.specs.Prelude.{ℕ, List, Option, Some, None}
use Rattle.theory.specs.Reading.{Limits}
use Rattle.theory.specs.ProofReading.{ProofReading, line_fault, too_long, ProofReadsWithin}
use Rattle.theory.specs.ProofReading as theory
use Rattle.theory.specs.Numbers.{text_fault_number}
use Rattle.lrat_text.specs.declared.fault.TextFault.{TextFault}
use Rattle.lrat_text.specs.declared.fault.TextFault.TheVariants.{BadNumber, LineNotEnded, BadShape, NoMemory, TooLong}

abbrev pub fault_number : TextFault → ℕ
fault_number (BadNumber n) = text_fault_number theory.bad_number
fault_number (LineNotEnded n) = text_fault_number theory.line_not_ended
fault_number (BadShape n) = text_fault_number theory.bad_shape
fault_number NoMemory = 44
fault_number TooLong = 45

abbrev pub fault_line : TextFault → Option ℕ
fault_line (BadNumber n) = Some n
fault_line (LineNotEnded n) = Some n
fault_line (BadShape n) = Some n
fault_line NoMemory = None
fault_line TooLong = None

-- the fault of a line of this number
abbrev pub text_fault_at : theory.TextFault → ℕ → TextFault
text_fault_at theory.bad_number n = BadNumber n
text_fault_at theory.line_not_ended n = LineNotEnded n
text_fault_at theory.bad_shape n = BadShape n

-- the text has the fault; memory may run out at any text
abbrev pub HasFault : Limits → List ℕ → TextFault → Type 0
HasFault L bytes (BadNumber n) = ProofReadsWithin L bytes (line_fault theory.bad_number n)
HasFault L bytes (LineNotEnded n) = ProofReadsWithin L bytes (line_fault theory.line_not_ended n)
HasFault L bytes (BadShape n) = ProofReadsWithin L bytes (line_fault theory.bad_shape n)
HasFault L bytes NoMemory = Unit {0}
HasFault L bytes TooLong = ProofReadsWithin L bytes too_long
