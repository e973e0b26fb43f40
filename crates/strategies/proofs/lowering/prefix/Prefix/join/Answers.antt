use Rattle.strategies.proofs.SettledPrefixes.{has_var-below, IsPrefix-join, join-quiet}
use Rattle.strategies.proofs.lowering.prefix.Prefix.join.Goals as goal

pub push-requires : goal.push-requires
push-requires c = has_var-below c.args.lit.var c.args.self.now.cube c.requires.prefix.below

pub unreachable-requires : goal.unreachable-requires
unreachable-requires c =
    join-quiet c.args.formula.now c.args.model.now c.args.self.now c.args.lit c.decide.new.self c.requires.prefix c.decide.ensures c.close.new.self.trail c.in_ok-close.field-0 c.in-Conflict.field-0
    c.requires.model c.requires.is_true c.in-Conflict.is c.in_ok-close.ensures.ok

pub returns-clause-prefix : goal.returns-clause-prefix
returns-clause-prefix c =
    IsPrefix-join c.args.formula.now c.args.model.now c.args.self.now c.args.lit c.decide.new.self c.requires.prefix c.decide.ensures c.push.new.self c.close.new.self c.in_ok-close.field-0
    c.requires.variable c.requires.is_true c.in_ok-push.ensures.ok c.close.ensures.kept.0 c.close.ensures.kept.1 c.close.ensures.kept.3 c.in_ok-close.ensures.has_memory c.in-Quiet.is c.in_ok-close.ensures.ok
