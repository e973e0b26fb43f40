use Rattle.std.proofs.Common.{ap, arith, inl, inr}
use Rattle.lrat.specs.Held.{Held}
use Rattle.lrat.proofs.AdditionLemmas.{room-made, room-there}
use Rattle.lrat.proofs.checker.Checker.make_room.Goals.{else-vars-via-then-vars+else-vars-self-2, else-vars-via-else-vars}
use Rattle.lrat.proofs.checker.Checker.make_room.Goals as goal

pub returns-in_ok-widen-clause-room : goal.returns-in_ok-widen-clause-room
returns-in_ok-widen-clause-room c =
    let is = ap (λ (h : Held). h.vars) c.in_ok-widen.ensures.ok in
    let fits = c.if-vars-self-2.true in
    room-made c.args.self.now.vars c.greatest_variable-vars.result c.widen.new.self.vars c.args.clause.now c.greatest_variable-vars.ensures is fits

pub returns-else-vars-clause-room : goal.returns-else-vars-clause-room
returns-else-vars-clause-room c =
    let held = c.vars-2.ensures in
    room-there c.args.self.now.held.vars c.args.self.now.vars c.greatest_variable-vars.result c.args.clause.now c.greatest_variable-vars.ensures c.requires.held_vars (elim c.else-vars.branch [
      | else-vars-via-then-vars+else-vars-self-2 w ↦ (let over = w.if-vars-self-2.false in inr (omega (arith, over)))
      | else-vars-via-else-vars w ↦ (let none = w.if-vars.false in inl (omega (arith, none, held)))
    ])
