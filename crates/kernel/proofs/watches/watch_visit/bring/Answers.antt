use Rattle.kernel.proofs.Arranged.{exchanged}
use Rattle.kernel.proofs.watches.watch_visit.bring.Goals as goal

pub returns-clause-permutes : goal.returns-clause-permutes
returns-clause-permutes c = exchanged c.args.lits.now c.args.gone c.args.other c.index-lits-place.result c.args.place c.requires.inside.0 c.requires.inside.1 c.requires.front c.requires.other c.index-lits-place.is
