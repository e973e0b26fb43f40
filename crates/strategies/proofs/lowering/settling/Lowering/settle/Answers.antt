use Rattle.std.proofs.Common.{◌≡◌, ◌∙◌, ◌+◌, sym, subst}
use Rattle.theory.specs.Literals.{Literal}
use Rattle.theory.specs.Truth.{Assignment}
use Rattle.strategies.specs.Lowering.{IsLiteralOf, IsPrefix, IsSettling}
use Rattle.strategies.proofs.SettledPrefixes.{IsPrefix-there, IsFirstBelow-there}
use Rattle.strategies.proofs.lowering.settling.Lowering.settle.Given.{Over}
use Rattle.strategies.proofs.lowering.settling.Lowering.settle.Goals as goal

pub returns-then-settles : goal.returns-then-settles
returns-then-settles g c = record {
  first = IsFirstBelow-there c.args.formula.now c.args.var c.args.self.now.model.items c.args.self.now.prefix c.requires.lowering.first c.requires.lowering.prefix (sym c.settles.ensures ∙ c.if-settles.true);
  prefix = IsPrefix-there c.args.formula.now c.args.var c.args.self.now.model.items c.args.self.now.prefix c.requires.lowering.prefix (sym c.settles.ensures ∙ c.if-settles.true);
  units = c.requires.lowering.units;
  session = c.requires.lowering.session;
}
