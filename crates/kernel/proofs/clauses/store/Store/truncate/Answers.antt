use Rattle.std.proofs.Common.{sym}
use Rattle.std.proofs.lemmas.List.{take-map}
use Rattle.kernel.specs.Arranging.{front}
use Rattle.kernel.proofs.clauses.store.Store.truncate.Goals as goal

pub returns-clause-pairs : goal.returns-clause-pairs
returns-clause-pairs c = rw (c.truncate-2.ensures, ← c.self.view_is) (sym (take-map front c.args.count c.self.inside.arranged))
