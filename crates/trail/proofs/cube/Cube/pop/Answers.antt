use Rattle.std.proofs.Common.{arith}
use Rattle.std.proofs.lemmas.List.{nil_from_length}
use Rattle.trail.proofs.Cubes.{IsCube-popped, AreOfVariables-popped, popped-is_new}
use Rattle.trail.proofs.cube.Cube.pop.Goals as goal

pub invariant_of-self : goal.invariant_of-self
invariant_of-self c = (IsCube-popped _ _ c.pop.result c.self.invariant.0 c.pop.ensures.items, AreOfVariables-popped _ _ c.pop.result c.self.invariant.1 c.pop.ensures.items)

pub returns : goal.returns
returns c =
    rw (← c.self.view_is)
    (popped-is_new c.self.inside.lits.items c.pop.new.self.items c.pop.result c.self.invariant.0 c.pop.ensures.items
    (λ e. let none = rw e at c.pop.ensures.cases in let ok = c.self.inside.lits.ok in nil_from_length _ (omega arith)))
