use Rattle.std.proofs.Common.{◌∙◌, ◌++◌, ap, option_to_list}
use Rattle.kernel.proofs.NumberStacks.{popped-falling, popped-least, taken-out, goes-first}
use Rattle.kernel.proofs.units.number_stack.NumberStack.pop.Goals as goal
use Rattle.kernel.proofs.units.number_stack.NumberStack.pop.Goals.{in-None, in-Some}

pub invariant_of-self : goal.invariant_of-self
invariant_of-self c = popped-falling c.self.inside.items.items c.pop.new.self.items c.pop.result c.self.invariant c.pop.ensures.items

pub returns-clause-taken : goal.returns-clause-taken
returns-clause-taken c = elim c.match-pop.branch [
  | in-None w ↦ rw w.result-is tt
  | in-Some w ↦
      rw (w.result-is, w.waiting.ensures, ← c.self.view_is)
      (taken-out c.self.inside.items.items c.pop.new.self.items w.in-Some.least (c.pop.ensures.items ∙ ap (λ o. c.pop.new.self.items ++ option_to_list o) w.in-Some.is))
]

pub returns-clause-first : goal.returns-clause-first
returns-clause-first c = elim c.match-pop.branch [
  | in-None w ↦ rw w.result-is tt
  | in-Some w ↦
      rw (w.result-is, w.waiting.ensures, ← c.self.view_is)
      (goes-first c.self.inside.items.items w.in-Some.least
      (popped-least c.self.inside.items.items c.pop.new.self.items w.in-Some.least c.self.invariant (c.pop.ensures.items ∙ ap (λ o. c.pop.new.self.items ++ option_to_list o) w.in-Some.is)))
]
