use Rattle.std.proofs.Common.{subst}
use Rattle.simplify.specs.Entries.{Clauses, AreSets}
use Rattle.simplify.proofs.database.Database.vars.Goals as goal

pub returns-clause-sets : goal.returns-clause-sets
returns-clause-sets c = subst (λ (d : Clauses). AreSets d.vars d.entries) c.self.view_is c.self.invariant.sets
