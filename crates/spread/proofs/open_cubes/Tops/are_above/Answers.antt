use Rattle.std.proofs.Common.{◌+◌, refl, sym, ap, ◌∙◌}
use Rattle.spread.proofs.WordLemmas.{none-yet, none-more, none-above, one-above}
use Rattle.spread.proofs.open_cubes.Tops.are_above.Goals as goal

pub loop-count-init : goal.loop-count-init
loop-count-init c = none-yet c.args.self.now c.args.lits.now

pub loop-count-preserved : goal.loop-count-preserved
loop-count-preserved c = none-more c.args.self.now c.args.lits.now c.loop-count.count c.loop-count.invariant (sym c.contains.ensures ∙ c.if-contains.false)

pub returns-then-contains : goal.returns-then-contains
returns-then-contains c = (
  λ h. one-above c.args.self.now c.args.lits.now c.loop-count.count (c.min-end.result + 1) (sym c.contains.ensures ∙ c.if-contains.true) c.loop-count.auto.count c.loop-count-test.true (ap (λ n. n + 1) c.min-end.ensures),
  λ below. refl,
)

pub returns : goal.returns
returns c = (
  λ h. absurd (cc),
  λ below. absurd (none-above c.args.self.now c.args.lits.now c.loop-count.count (c.min-end.result + 1) c.loop-count.invariant c.loop-count-test.false (ap (λ n. n + 1) c.min-end.ensures) below),
)
