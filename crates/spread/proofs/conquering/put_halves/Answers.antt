use Rattle.std.proofs.Common.{arith}
use Rattle.spread.proofs.conquering.put_halves.Goals as goal

pub split-requires-clause-var : goal.split-requires-clause-var
split-requires-clause-var c =
    let fit = c.requires c.in-Split.var c.in-Split.is in
    let within = c.vars-vars.ensures.within in
    let here = fit.0 in
    (omega (arith, here), omega (arith, here, within))
