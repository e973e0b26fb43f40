use Rattle.trail.proofs.Cubes.{IsCube-push, AreOfVariables-push}
use Rattle.trail.proofs.cube.Cube.with.Goals as goal

pub invariant_of-result : goal.invariant_of-result
invariant_of-result c =
    rw (c.in_ok-push.ensures.items, c.in_ok-extend_from_slice.ensures.items, c.in_ok-lits.ensures.items, c.deref.ensures.value)
    (IsCube-push _ c.args.lit c.self.invariant.0 (rw (← c.self.view_is) at c.requires), AreOfVariables-push _ c.args.lit c.self.invariant.1 (rw c.var-var.ensures.var at c.var-var.ensures.some))
