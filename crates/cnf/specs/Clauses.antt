-- What the clauses read so far are to the machine.
use Rattle.theory.proofs.reading.ReadingMachine.{ReaderState, at_body}
use Rattle.cnf.specs.declared.clauses.Clauses.{Clauses}

abbrev pub state_of : Clauses → ReaderState
state_of c = at_body c.vars c.wanted c.whole c.begun.items
