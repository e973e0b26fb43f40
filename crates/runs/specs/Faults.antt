-- The numbers of a run's faults.
use Rattle.std.specs.Prelude.{ℕ}
use Rattle.cnf.specs.declared.fault.ReadFault.{ReadFault}
use Rattle.cnf.specs.declared.fault.ReadFault.TheVariants as reading
use Rattle.runs.specs.declared.fault.RunFault.{RunFault}
use Rattle.runs.specs.declared.fault.RunFault.TheVariants.{Read, NoMemory, ProofWriteFailed, AnswerWriteFailed, ProofReadFailed}

abbrev pub number_of_fault : RunFault → ℕ
number_of_fault (Read fault) = 51
number_of_fault NoMemory = 52
number_of_fault ProofWriteFailed = 53
number_of_fault AnswerWriteFailed = 54
number_of_fault ProofReadFailed = 55

-- want of memory while reading is the run's own
abbrev pub fault_of_read : ReadFault → RunFault
fault_of_read reading.NoMemory = NoMemory
fault_of_read fault = Read fault
