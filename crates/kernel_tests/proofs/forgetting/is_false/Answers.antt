use Rattle.std.proofs.Common.{◌≡◌, ◌∙◌, Bool, true, false, not, ap, sym, refl}
use mathlib.Core.Bool.{beq}
use Rattle.trail.specs.Tables.{value_in}
use Rattle.kernel_tests.proofs.OpenStates.{not_false-free, not_false-true}
use Rattle.kernel_tests.proofs.forgetting.is_false.Goals as goal

-- two values that don't differ
one : (a b : Bool) → not (beq a b) ≡ false → a ≡ b
one true true h = refl
one true false h = absurd (cc)
one false true h = absurd (cc)
one false false h = refl

pub returns-in-None : goal.returns-in-None
returns-in-None c is = not_false-free c.args.kernel.now.trail c.args.lit (sym (c.in-None.ensures ∙ ap (value_in c.args.kernel.now.trail) c.var.ensures.var))

pub returns-in-Some : goal.returns-in-Some
returns-in-Some c is =
    not_false-true c.args.kernel.now.clauses c.args.kernel.now.trail c.args.lit c.in-Some.value c.trail-trail.ensures.lawful
    (sym (c.in-Some.ensures ∙ ap (value_in c.args.kernel.now.trail) c.var.ensures.var)) (one c.in-Some.value c.positive.result is ∙ c.positive.ensures)
