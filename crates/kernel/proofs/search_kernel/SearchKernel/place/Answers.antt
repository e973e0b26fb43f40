use Rattle.std.proofs.Common.{◌<◌, arith}
use Rattle.trail.proofs.NextFree.{entry_of-beyond}
use Rattle.kernel.proofs.search_kernel.SearchKernel.place.Goals as goal

pub returns-else-var-vars-clause-free : goal.returns-else-var-vars-clause-free
returns-else-var-vars-clause-free c =
    let vars = c.vars.ensures.vars in
    let past : c.self.inside.trail.vars < c.args.var = omega arith in
    rw (← c.self.view_is) (entry_of-beyond _ _ c.args.var c.vars.ensures.ordered past)
