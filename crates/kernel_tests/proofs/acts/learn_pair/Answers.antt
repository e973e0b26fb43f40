use Rattle.std.proofs.Common.{ap, sym, ◌∙◌}
use Rattle.theory.specs.Trails.{Entry}
use Rattle.kernel_tests.proofs.Learning.{IsOver-two, IsLearnable-two}
use Rattle.kernel_tests.proofs.acts.learn_pair.Goals as goal

pub learn-requires : goal.learn-requires
learn-requires c short =
    let last = c.in-Some.ensures in
    let free = c.is_free.ensures c.if-not-is_free.false in (
      IsOver-two _ c.in-Some-Some.lit c.in-Some-Some.free last.0 free.0,
      IsLearnable-two _ c.in-Some-Some.lit c.in-Some-Some.free c.in-Some.entry last.1 last.2 (ap (λ (e : Entry). e.level) (sym c.entry.view_is) ∙ (c.if-entry-level.false ∙ c.level.ensures)) free.1,
    )
