use Rattle.std.proofs.Common.{◌∙◌, sym, arith}
use Rattle.simplify.proofs.PairLines.{short-no, short-yes}
use Rattle.simplify.proofs.resolvents.Resolvents.are_short.Goals as goal

pub returns-then-clause-most : goal.returns-then-clause-most
returns-then-clause-most c =
    sym (short-no c.args.most c.args.self.now c.loop-place.place c.clause.result.now (omega arith) c.clause.ensures (omega arith)) ∙ c.loop-place.invariant

pub loop-place-preserved : goal.loop-place-preserved
loop-place-preserved c =
    short-yes c.args.most c.args.self.now c.loop-place.place c.clause.result.now (omega arith) c.clause.ensures (omega arith) ∙ c.loop-place.invariant
