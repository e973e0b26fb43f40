use Rattle.trail.proofs.Cubes.{IsCube-push, AreOfVariables-push}
use Rattle.trail.proofs.cube.Cube.push.Goals as goal

pub invariant_of-self-2 : goal.invariant_of-self-2
invariant_of-self-2 c = rw c.in_ok-push.ensures.items (IsCube-push _ c.args.lit c.self.invariant.0 (rw (← c.self.view_is) at c.requires), AreOfVariables-push _ c.args.lit c.self.invariant.1 (rw c.var-var.ensures.var at c.var-var.ensures.some))
