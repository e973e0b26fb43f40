use Rattle.std.proofs.Common.{◌∙◌, sym}
use Rattle.cdcl.proofs.PlaceLemmas.{placed-there}
use Rattle.cdcl.proofs.UnitSteps.{settles-wide, settles-narrow, some-wide, none-wide}
use Rattle.cdcl.proofs.search.focused.FocusedSearch.settle_entry.Goals as goal

pub learn_unit-requires-clause-reason : goal.learn_unit-requires-clause-reason
learn_unit-requires-clause-reason c =
    let there = placed-there c.args.self.now.kernel.trail c.args.place c.requires.inside in
    (there.0, there.1, c.in_ok-take_up.ensures.reason c.if-branch.true there.0 there.1)

pub returns-in_ok-learn_unit : goal.returns-in_ok-learn_unit
returns-in_ok-learn_unit c e at =
    let s = c.args.self.now in
    let wide = some-wide s.kernel.clauses e.reason (sym (c.in_ok-take_up.ensures.wide e at) ∙ c.if-branch.true) in
    settles-wide s c.learn_unit.new.self c.take_up.new.self c.args.place wide.0 e at wide.1 (c.in_ok-take_up.ensures.hints e wide.0 at wide.1) (c.in_ok-learn_unit.ensures e at)

pub returns-else-branch : goal.returns-else-branch
returns-else-branch c e at =
    settles-narrow c.args.self.now c.take_up.new.self c.args.place e at (none-wide c.args.self.now.kernel.clauses e.reason (sym (c.in_ok-take_up.ensures.wide e at) ∙ c.if-branch.false))
