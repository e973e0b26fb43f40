use Rattle.std.proofs.Common.{◌≡◌, ◌++◌, take, map}
use Rattle.theory.specs.Literals.{Literal}
use Rattle.simplify.proofs.touched.put_variables.Given as goal

-- those of the literals so far
abbrev pub invariant-loop-lit : goal.invariant-loop-lit
invariant-loop-lit l = l.out.items ≡ l.fn.out.items ++ map (λ (k : Literal). k.var) (take l.lit-index l.clause)
