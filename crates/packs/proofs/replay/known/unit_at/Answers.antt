use Rattle.packs.proofs.KnownLemmas.{unit-range}
use Rattle.packs.proofs.replay.known.unit_at.Goals as goal

pub returns : goal.returns
returns c = unit-range c.args.units.now c.args.place c.requires
