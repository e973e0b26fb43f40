use Rattle.theory.specs.Ledger.{IsFit}
use Rattle.pool_tests.proofs.crowd.cube_of_bits.Given as goal

abbrev pub invariant-bits : goal.invariant-bits
invariant-bits l = IsFit 18 l.cube
