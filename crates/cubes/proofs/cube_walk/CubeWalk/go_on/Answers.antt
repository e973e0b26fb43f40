use Rattle.std.proofs.Common.{◌++◌, Some, None, sym, ap, ◌∙◌}
use Rattle.cubes.specs.Traversal.{path, behind}
use Rattle.cubes.proofs.Walks.{above-popped, right-turned, nothing-turned}
use Rattle.cubes.proofs.cube_walk.CubeWalk.go_on.Goals as goal

pub above-preserved : goal.above-preserved
above-preserved c =
    let turn = rw c.in-Both.is at c.in_ok-leave.ensures in
    record {
      next = sym (ap (behind tt) turn.0) ∙ c.above.invariant.next;
      below = λ H h. above-popped H c.above.self.cube c.pop.new.self (record { var = c.in-Both.var; left = Some c.in-Both.left }) c.leave.new.self c.pop.result (c.above.invariant.below H h ∙ ap (λ ss. H ++ path ss) turn.0) c.pop.ensures;
    }

pub returns-in_ok-push-in-Right : goal.returns-in_ok-push-in-Right
returns-in_ok-push-in-Right c =
    let turn = rw c.in-Right.is at c.in_ok-leave.ensures in (
      sym c.above.invariant.next ∙ ap (behind tt) turn.1 ∙ ap Some (sym turn.2),
      λ H h. right-turned H c.above.self.cube c.pop-in-Right.new.self c.push.new.self c.in-Right.field-0 tt turn.0 c.in-Some.lit c.negated.result (c.above.invariant.below H h ∙ ap (λ ss. H ++ path ss) turn.1)
          c.in-Some.ensures.0 c.in_ok-push-in-Right.ensures.ok c.negated.ensures ∙ ap (λ ss. H ++ path ss) (sym turn.2),
    )

pub returns-in_default : goal.returns-in_default
returns-in_default c =
    let turn = rw c.in-Right.is at c.in_ok-leave.ensures in (
      sym c.above.invariant.next ∙ ap (behind tt) turn.1 ∙ ap Some (sym turn.2),
      λ H h. nothing-turned H c.above.self.cube c.pop-in-Right.new.self (record { var = c.in-Right.field-0; left = None }) (record { var = c.in-Right.field-0; left = Some tt }) turn.0 (c.above.invariant.below H h ∙ ap (λ ss. H ++ path ss) turn.1)
          (rw c.in_default.is at c.pop-in-Right.ensures) ∙ ap (λ ss. H ++ path ss) (sym turn.2),
    )
