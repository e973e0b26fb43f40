use Rattle.std.proofs.Common.{◌+◌, ◌≤◌, refl, ap, ◌∙◌, arith}
use Rattle.cnf.specs.Tokens.{place_at}
use Rattle.cnf.proofs.PlaceLemmas.{line-part}
use Rattle.cnf.proofs.SliceLemmas.{length-slice}
use Rattle.cnf.proofs.scan.line_of.Goals as goal

pub loop-at-init : goal.loop-at-init
unfolding place_at
loop-at-init c = (omega arith, refl, omega arith)

pub loop-at-preserved : goal.loop-at-preserved
loop-at-preserved c =
    let above : c.loop-at.at ≤ c.min-next.result = omega (arith, c.min-next.ensures) in
    let size = length-slice c.args.bytes.now c.loop-at.at c.min-next.result above (omega (arith, c.min-next.ensures)) in
    let few = c.count_lf.ensures.few in (
      omega (arith, c.min-next.ensures),
      ap (λ k. c.loop-at.line + k) c.from-line.ensures
          ∙ line-part c.args.bytes.now c.loop-at.at c.min-next.result c.loop-at.line c.count_lf.result above c.loop-at.invariant.1 c.count_lf.ensures.lines,
      omega (arith, size, few, c.from-line.ensures, c.loop-at.invariant.2),
    )
