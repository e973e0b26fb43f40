use Rattle.std.proofs.Common.{◌≡◌, ◌+◌, ◌-◌, arith}
use Rattle.strategies.proofs.FirstBelow.{IsFirstBelow-last}
use Rattle.strategies.proofs.StoppedLowerings.{stopped}
use Rattle.strategies.proofs.lowering.settling.lower.Goals as goal

pub returns : goal.returns
returns g c =
    let vars = c.vars-behind.ensures.vars in
    let behind = c.loop-var-test.false in
    let within = c.loop-var.auto.var-end in
    let end : c.loop-var.var ≡ c.args.formula.now.vars + 1 = omega arith in
    rw c.into_model-2.ensures (IsFirstBelow-last c.args.formula.now c.loop-var.var c.loop-var.lowering.model.items c.vars-behind.ensures.within.formula end c.loop-var.invariant.first)

pub returns-then-not-branch : goal.returns-then-not-branch
returns-then-not-branch g c =
    let vars = c.vars-behind.ensures.vars in
    let inside = c.loop-var-test.true in
    let one = c.loop-var.auto.var in
    let k = c.loop-var.var - 1 in
    let is : c.loop-var.var ≡ k + 1 = omega arith in
    rw c.into_model.ensures (stopped c.args.formula.now c.loop-var.var k c.settle.new.self.model.items c.vars-behind.ensures.within.formula is (omega arith) (rw c.if-not-branch.true at c.in_ok-settle.ensures).first)
