use Rattle.std.proofs.lemmas.List.Elements.{Contains-append_right}
use Rattle.kernel.proofs.units.unit_overflow.UnitOverflow.has_before.Goals as goal

pub returns-clause-before : goal.returns-clause-before
returns-clause-before c h =
    let there = c.has_before-2.ensures.before h in
    rw (← c.self.view_is) (there.0, Contains-append_right c.self.inside.stack c.self.inside.heap there.0 there.1, there.2)
