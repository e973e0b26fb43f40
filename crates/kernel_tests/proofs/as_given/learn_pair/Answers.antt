use Rattle.std.proofs.Common.{ap, sym, ◌∙◌}
use Rattle.theory.specs.Trails.{Entry}
use Rattle.kernel_tests.proofs.Learning.{IsOver-two, IsLearnable-turned}
use Rattle.kernel_tests.proofs.as_given.learn_pair.Goals as goal

pub learn-requires : goal.learn-requires
learn-requires c short =
    let last = c.in-Some.ensures in
    let free = c.is_free.ensures c.if-not-is_free.false in (
      IsOver-two _ c.in-Some-Some.free c.in-Some-Some.lit free.0 last.0,
      IsLearnable-turned _ c.in-Some-Some.free c.in-Some-Some.lit c.in-Some.entry last.1 last.2 (ap (λ (e : Entry). e.level) (sym c.entry.view_is) ∙ (c.if-entry-level.false ∙ c.level.ensures)) free.1,
    )
