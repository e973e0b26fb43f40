use Rattle.std.proofs.Common.{ap, ◌∙◌, ◌+◌, ◌*◌, true, refl}
use Rattle.trail.specs.Tables.{value_of, value_in}
use Rattle.trail.proofs.Tables.{AreTables-truth}
use Rattle.trail.proofs.Values.{positive-value}
use Rattle.trail.proofs.trail.Trail.value.Goals as goal

pub returns-clause-value : goal.returns-clause-value
returns-clause-value c =
    let t = AreTables-truth _ _ c.self.inside.truths.items _ record { var = c.args.var; positive = true } (2 * c.args.var + 1) c.index.result.now c.self.invariant.3 (rw (← c.self.view_is) at c.requires) refl c.index.ensures in
    rw (c.value.ensures, ← c.self.view_is) (ap value_of t ∙ positive-value (value_in c.self.inside.entries.items c.args.var))
