use Rattle.spread.proofs.PartLemmas.{turn-on}
use Rattle.spread.proofs.parts.next_part.Goals as goal

pub returns-then-part-parts : goal.returns-then-part-parts
returns-then-part-parts c number some same = turn-on c.args.parts number c.args.part same c.if-part-parts.true
