use Rattle.std.proofs.Common.{◌∙◌, ap, sym, arith}
use Rattle.trail.specs.Tables.{value_in}
use Rattle.trail.proofs.Values.{value-none}
use Rattle.kernel_tests.proofs.acts.is_free.Goals as goal

pub returns-in-None : goal.returns-in-None
returns-in-None c free =
    let vars = c.vars.ensures in
    let var = c.var.ensures.var in
    let some = c.var.ensures.some in
    let within = c.if-var-vars.false in
    ((omega arith, omega arith), value-none c.args.kernel.now.trail c.args.lit.var (sym (c.in-None.ensures ∙ ap (value_in c.args.kernel.now.trail) c.var-2.ensures.var)))
