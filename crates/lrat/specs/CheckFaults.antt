-- The faults of checking: their numbers and steps, and when each comes.
use Rattle.std.specs.Prelude.{◌≡◌, ℕ, List, Option, Some, None}
use Rattle.theory.specs.Truth.{Formula}
use Rattle.theory.specs.Steps.{Step}
use Rattle.theory.specs.Checking.{checks, refused, no_empty_clause}
use Rattle.theory.specs.Checking as theory
use Rattle.theory.specs.Numbers as numbers
use Rattle.lrat.specs.declared.check_fault.CheckFault.{CheckFault}
use Rattle.lrat.specs.declared.check_fault.CheckFault.TheVariants.{IdNotRising, BothSigns, NoSuchClause, HintNotUnit, HintAfterConflict, NoConflict, MissingCandidate, BadCandidate, NoSuchDeletion, NoEmptyClause, LiteralOutOfRange, NoMemory}
use Rattle.lrat.specs.declared.check_fault.Fault.{Fault}
use Rattle.lrat.specs.declared.check_fault.Fault.TheVariants as inner

abbrev pub check_fault_number : CheckFault → ℕ
check_fault_number (IdNotRising n) = numbers.check_fault_number theory.id_not_rising
check_fault_number (BothSigns n) = numbers.check_fault_number theory.both_signs
check_fault_number (NoSuchClause n) = numbers.check_fault_number theory.no_such_clause
check_fault_number (HintNotUnit n) = numbers.check_fault_number theory.hint_not_unit
check_fault_number (HintAfterConflict n) = numbers.check_fault_number theory.hint_after_conflict
check_fault_number (NoConflict n) = numbers.check_fault_number theory.no_conflict
check_fault_number (MissingCandidate n) = numbers.check_fault_number theory.missing_candidate
check_fault_number (BadCandidate n) = numbers.check_fault_number theory.bad_candidate
check_fault_number (NoSuchDeletion n) = numbers.check_fault_number theory.no_such_deletion
check_fault_number NoEmptyClause = 30
check_fault_number (LiteralOutOfRange n) = numbers.check_fault_number theory.literal_out_of_range
check_fault_number NoMemory = 32

abbrev pub check_fault_step : CheckFault → Option ℕ
check_fault_step (IdNotRising n) = Some n
check_fault_step (BothSigns n) = Some n
check_fault_step (NoSuchClause n) = Some n
check_fault_step (HintNotUnit n) = Some n
check_fault_step (HintAfterConflict n) = Some n
check_fault_step (NoConflict n) = Some n
check_fault_step (MissingCandidate n) = Some n
check_fault_step (BadCandidate n) = Some n
check_fault_step (NoSuchDeletion n) = Some n
check_fault_step NoEmptyClause = None
check_fault_step (LiteralOutOfRange n) = Some n
check_fault_step NoMemory = None

-- the fault of the step with the number n
abbrev pub fault_at : Fault → ℕ → CheckFault
fault_at inner.IdNotRising n = IdNotRising n
fault_at inner.BothSigns n = BothSigns n
fault_at (inner.NoSuchClause id) n = NoSuchClause n
fault_at (inner.HintNotUnit id) n = HintNotUnit n
fault_at inner.HintAfterConflict n = HintAfterConflict n
fault_at inner.NoConflict n = NoConflict n
fault_at inner.MissingCandidate n = MissingCandidate n
fault_at inner.BadCandidate n = BadCandidate n
fault_at inner.NoSuchDeletion n = NoSuchDeletion n
fault_at inner.LiteralOutOfRange n = LiteralOutOfRange n

-- the number of the clause that a fault is of, where it is one's
abbrev pub named_in : Fault → Option ℕ
named_in (inner.NoSuchClause id) = Some id
named_in (inner.HintNotUnit id) = Some id
named_in f = None

-- the fault, as the definitions have it
abbrev pub fault_of : Fault → theory.Fault
fault_of inner.IdNotRising = theory.id_not_rising
fault_of inner.BothSigns = theory.both_signs
fault_of (inner.NoSuchClause id) = theory.no_such_clause
fault_of (inner.HintNotUnit id) = theory.hint_not_unit
fault_of inner.HintAfterConflict = theory.hint_after_conflict
fault_of inner.NoConflict = theory.no_conflict
fault_of inner.MissingCandidate = theory.missing_candidate
fault_of inner.BadCandidate = theory.bad_candidate
fault_of inner.NoSuchDeletion = theory.no_such_deletion
fault_of inner.LiteralOutOfRange = theory.literal_out_of_range

abbrev pub faults_of : Option Fault → Option theory.Fault
faults_of None = None
faults_of (Some f) = Some (fault_of f)

-- checking the steps comes to the fault; memory may run out at any steps
abbrev pub IsRefused : Formula → List Step → CheckFault → Type 0
IsRefused F steps (IdNotRising n) = checks F steps ≡ refused theory.id_not_rising n
IsRefused F steps (BothSigns n) = checks F steps ≡ refused theory.both_signs n
IsRefused F steps (NoSuchClause n) = checks F steps ≡ refused theory.no_such_clause n
IsRefused F steps (HintNotUnit n) = checks F steps ≡ refused theory.hint_not_unit n
IsRefused F steps (HintAfterConflict n) = checks F steps ≡ refused theory.hint_after_conflict n
IsRefused F steps (NoConflict n) = checks F steps ≡ refused theory.no_conflict n
IsRefused F steps (MissingCandidate n) = checks F steps ≡ refused theory.missing_candidate n
IsRefused F steps (BadCandidate n) = checks F steps ≡ refused theory.bad_candidate n
IsRefused F steps (NoSuchDeletion n) = checks F steps ≡ refused theory.no_such_deletion n
IsRefused F steps NoEmptyClause = checks F steps ≡ no_empty_clause
IsRefused F steps (LiteralOutOfRange n) = checks F steps ≡ refused theory.literal_out_of_range n
IsRefused F steps NoMemory = Unit {0}
