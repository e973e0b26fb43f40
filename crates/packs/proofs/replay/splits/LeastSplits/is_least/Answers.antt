use Rattle.std.proofs.Common.{◌∙◌}
use Rattle.theory.specs.Pure.{searched}
use Rattle.packs.proofs.SplitLemmas.{in-cube, least-told, none-told, clash-told}
use Rattle.packs.proofs.replay.splits.LeastSplits.is_least.Goals as goal

pub returns-in-Conflict-clause-least : goal.returns-in-Conflict-clause-least
returns-in-Conflict-clause-least c =
    let clashes = rw c.in-Conflict.is at c.in_ok-close.ensures.ok in
    clash-told (searched c.args.formula.now) c.args.cube.now c.close.new.self.trail c.in-Conflict.field-0 c.args.var
    (in-cube (searched c.args.formula.now) c.args.self.now.kernel c.restart.new.self c.args.cube.now _ c.close.new.self.trail c.in_ok-restart.ensures.ok c.requires.ready.in_order (c.requires.ready.clauses c.in_ok-restart.ensures.was) clashes)

pub returns-in-Some-clause-least : goal.returns-in-Some-clause-least
returns-in-Some-clause-least c =
    let calm = rw c.in-Quiet.is at c.in_ok-close.ensures.ok in
    let vars = c.close.ensures.kept.0 ∙ (c.restart.ensures.kept.0 ∙ c.requires.ready.vars) in
    least-told (searched c.args.formula.now) c.args.cube.now c.close.new.self.trail c.in-Some.least c.args.var
    (in-cube (searched c.args.formula.now) c.args.self.now.kernel c.restart.new.self c.args.cube.now _ c.close.new.self.trail c.in_ok-restart.ensures.ok c.requires.ready.in_order (c.requires.ready.clauses c.in_ok-restart.ensures.was) calm)
    (rw vars at c.in-Some.ensures)

pub returns-in-None-clause-least : goal.returns-in-None-clause-least
returns-in-None-clause-least c =
    let calm = rw c.in-Quiet.is at c.in_ok-close.ensures.ok in
    let vars = c.close.ensures.kept.0 ∙ (c.restart.ensures.kept.0 ∙ c.requires.ready.vars) in
    none-told (searched c.args.formula.now) c.args.cube.now c.close.new.self.trail c.args.var
    (in-cube (searched c.args.formula.now) c.args.self.now.kernel c.restart.new.self c.args.cube.now _ c.close.new.self.trail c.in_ok-restart.ensures.ok c.requires.ready.in_order (c.requires.ready.clauses c.in_ok-restart.ensures.was) calm)
    (rw vars at c.in-None.ensures)
