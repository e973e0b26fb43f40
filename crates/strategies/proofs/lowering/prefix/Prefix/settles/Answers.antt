use Rattle.std.proofs.Common.{◌∙◌, ap, is_some}
use Rattle.strategies.proofs.SettledPrefixes.{value-there}
use Rattle.strategies.proofs.lowering.prefix.Prefix.settles.Goals as goal

pub returns : goal.returns
returns c = c.is_some.ensures ∙ ap is_some c.value.ensures ∙ value-there c.args.self.now.kernel.trail c.args.var
