use Rattle.std.proofs.Common.{◌≡◌, ◌≤◌, length, ◌∙◌, arith}
use Rattle.trail.specs.Tables.{place_in}
use Rattle.trail.proofs.Tables.{AreTables-place, place_in-found, place_in-le, place_in-zero}
use Rattle.trail.proofs.trail.Trail.place.Goals as goal

pub returns-then-count-eq0-clause-free : goal.returns-then-count-eq0-clause-free
returns-then-count-eq0-clause-free c =
    let place : place_in c.self.inside.entries.items c.args.var ≡ c.index.result.now = AreTables-place _ _ _ _ c.args.var c.index.result.now c.self.invariant.3 (rw (← c.self.view_is) at c.requires) c.index.ensures in
    rw (← c.self.view_is) (place_in-zero c.self.inside.entries.items c.args.var (place ∙ c.if-count-eq0.true))

pub returns-else-count-eq0-clause-found : goal.returns-else-count-eq0-clause-found
returns-else-count-eq0-clause-found c =
    let place : place_in c.self.inside.entries.items c.args.var ≡ c.index.result.now = AreTables-place _ _ _ _ c.args.var c.index.result.now c.self.invariant.3 (rw (← c.self.view_is) at c.requires) c.index.ensures in
    rw (← c.self.view_is) (place_in-found c.self.inside.entries.items c.args.var c.index.result.now place (omega arith))

pub returns-else-count-eq0-clause-inside : goal.returns-else-count-eq0-clause-inside
returns-else-count-eq0-clause-inside c =
    let place : place_in c.self.inside.entries.items c.args.var ≡ c.index.result.now = AreTables-place _ _ _ _ c.args.var c.index.result.now c.self.invariant.3 (rw (← c.self.view_is) at c.requires) c.index.ensures in
    let most : place_in c.self.inside.entries.items c.args.var ≤ length c.self.inside.entries.items = place_in-le _ _ in
    rw (← c.self.view_is) (omega arith)
