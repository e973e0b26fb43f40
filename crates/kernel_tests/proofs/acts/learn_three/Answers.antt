use Rattle.std.proofs.Common.{◌≡◌, ap, sym, ◌∙◌, nat_eq, eqb-true, arith}
use Rattle.theory.specs.Trails.{Entry}
use Rattle.theory.proofs.literals.LiteralSets.{false_unless}
use Rattle.kernel_tests.proofs.Learning.{IsOver-three, IsLearnable-three}
use Rattle.kernel_tests.proofs.acts.learn_three.Goals as goal

pub learn-requires : goal.learn-requires
learn-requires c short =
    let other = c.in-Some.ensures in
    let last = c.in-Some-falsifier.ensures in
    let free = c.is_free.ensures c.if-not-is_free.false in
    let apart = c.if-var.false in
    let one = c.var.ensures.var in
    let two = c.var-2.ensures.var in
    let unequal : c.in-Some-Some-Some.other.var ≡ c.in-Some-Some-Some.lit.var → ⊥ = λ e. omega arith in
    let differ = false_unless (nat_eq c.in-Some-Some-Some.other.var c.in-Some-Some-Some.lit.var) (λ t. unequal (eqb-true c.in-Some-Some-Some.other.var c.in-Some-Some-Some.lit.var t)) in (
      IsOver-three _ c.in-Some-Some-Some.other c.in-Some-Some-Some.lit c.in-Some-Some-Some.free other.0 last.0 free.0,
      IsLearnable-three _ c.in-Some-Some-Some.other c.in-Some-Some-Some.lit c.in-Some-Some-Some.free c.in-Some.field-0 c.in-Some-falsifier.entry other.1 other.2 last.1 last.2 (ap (λ (e : Entry). e.level) (sym c.entry.view_is) ∙ (c.if-entry-level.false ∙ c.level.ensures)) differ free.1,
    )
