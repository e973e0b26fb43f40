use Rattle.std.proofs.Common.{◌<◌, ap, sym, option_map, arith}
use Rattle.theory.specs.Trails.{Entry}
use Rattle.trail.proofs.NextFree.{entry_of-beyond}
use Rattle.kernel.proofs.search_kernel.SearchKernel.value.Goals as goal

pub returns-else-var-vars : goal.returns-else-var-vars
returns-else-var-vars c =
    let vars = c.vars.ensures.vars in
    let past : c.self.inside.trail.vars < c.args.var = omega arith in
    rw (← c.self.view_is) (ap (option_map (λ (e : Entry). e.lit.positive)) (sym (entry_of-beyond _ _ c.args.var c.vars.ensures.ordered past)))
