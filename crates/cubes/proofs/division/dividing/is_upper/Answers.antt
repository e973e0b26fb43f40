use Rattle.std.proofs.Common.{◌∙◌, le-ltb}
use Rattle.cubes.proofs.DividingLemmas.{never-upper}
use Rattle.cubes.proofs.division.dividing.is_upper.Goals as goal

pub returns-else-literals-lt17 : goal.returns-else-literals-lt17
returns-else-literals-lt17 c = le-ltb c.args.literals 17 c.if-literals-lt17.false ∙ never-upper c.args.literals c.args.divide c.requires c.if-literals-lt17.false
