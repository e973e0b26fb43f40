use Rattle.theory.proofs.searching.PureVariables.{IsCube-pure_literals, IsOver-pure_literals}
use Rattle.strategies.proofs.SettledPrefixes.{IsPrefix-open, open-quiet}
use Rattle.strategies.proofs.lowering.prefix.Prefix.open.Goals as goal

pub open-requires-clause-units : goal.open-requires-clause-units
open-requires-clause-units c = rw c.requires.units (IsCube-pure_literals c.args.formula.now, IsOver-pure_literals c.args.formula.now)

pub unreachable-requires : goal.unreachable-requires
unreachable-requires c =
    let opened = rw (c.requires.units, c.root-cube.ensures) at c.in_ok-kernel.ensures.opened in
    open-quiet c.args.formula.now c.args.model.now _ c.in_ok-kernel.kernel c.close.new.self.trail c.in_ok-close.field-0 c.in-Conflict.field-0 c.requires.model opened c.in-Conflict.is c.in_ok-close.ensures.ok

pub returns : goal.returns
returns c =
    let opened = rw (c.requires.units, c.root-cube.ensures) at c.in_ok-kernel.ensures.opened in
    IsPrefix-open c.args.formula.now c.args.model.now _ c.root-cube.result c.in_ok-kernel.kernel c.close.new.self c.in_ok-close.field-0 c.root-cube.ensures opened c.close.ensures.kept.0
    c.close.ensures.kept.1 c.close.ensures.kept.3 c.in_ok-close.ensures.has_memory c.in-Quiet.is c.in_ok-close.ensures.ok
