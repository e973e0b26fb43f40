use Rattle.join.proofs.FedLemmas.{few-first}
use Rattle.runs.proofs.proof_stream.ProofStream.begin.Goals as goal

-- there are as many units as variables at most
pub start-requires-clause-units : goal.start-requires-clause-units
start-requires-clause-units c = few-first c.args.formula.now c.args.search c.in_ok-units.units.items c.vars-vars.ensures.within c.in_ok-units.ensures.units
