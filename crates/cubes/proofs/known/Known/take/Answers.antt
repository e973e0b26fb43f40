use Rattle.cubes.proofs.KnownLemmas.{known-others}
use Rattle.cubes.proofs.known.Known.take.Goals as goal

pub returns-clause-others : goal.returns-clause-others
returns-clause-others g c Q q other = known-others c.args.cube.now Q c.args.self.now (record { outcomes = c.remove.new.self }) c.lits.ensures.variables q other (rw c.lits.ensures.lits at c.remove.ensures.updates.3)
