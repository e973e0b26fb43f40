use Rattle.std.proofs.Common.{◌≡◌, ◌∙◌, length, drop, subst, sym, ap, refl}
use Rattle.std.specs.List.Sorted.{IsPermutation}
use Rattle.kernel.specs.declared.units.numbered.Numbered.{Numbered}
use Rattle.kernel.specs.Placing.{at_start}
use Rattle.kernel.proofs.NumberStacks.{put-in, refilled}
use Rattle.kernel.proofs.units.number_stack.NumberStack.put.Goals as goal

pub returns-clause-put : goal.returns-clause-put
returns-clause-put c _ =
    let u : Numbered = record { clause = c.args.clause; lit = c.args.lit } in
    let long : length c.settle.new.items ≡ length c.push.new.self.items = c.settle.auto.items ∙ ap length c.deref_mut.ensures.value in
    rw (← c.self.view_is, refilled c.push.new.self.len c.settle.new.items (drop (length c.settle.new.items) c.push.new.self.items) (c.push.new.self.ok.0 ∙ sym long))
    (put-in (at_start u) c.self.inside.items.items c.settle.new.items u refl
    (subst (λ xs. IsPermutation xs c.settle.new.items) (c.deref_mut.ensures.value ∙ c.in_ok-push.ensures.items) c.settle.ensures.permutes))
