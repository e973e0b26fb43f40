-- The answer of propagation, as the definitions have it.
use Rattle.theory.specs.Propagation as propagation
use Rattle.kernel.specs.declared.closed.Closed.{Closed}
use Rattle.kernel.specs.declared.closed.Closed.TheVariants.{Quiet, Conflict}

abbrev pub closed_of : Closed → propagation.Closed
closed_of Quiet = propagation.quiet
closed_of (Conflict n) = propagation.conflict n
