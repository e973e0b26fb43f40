use Rattle.std.proofs.Common.{ap, sym, ◌∙◌}
use Rattle.simplify.specs.Tried.{State, is_worth_in}
use Rattle.simplify.proofs.TriedStates.{tried-left, tried-eliminated, ready-long}
use Rattle.simplify.proofs.trial.Trial.try_variable.Goals as goal
use Rattle.simplify.proofs.trial.Trial.try_variable.Goals.{then-is_worth+in_ok-list_gone+in_ok-eliminate, else-is_worth}

pub eliminate-requires-clause-long : goal.eliminate-requires-clause-long
eliminate-requires-clause-long c = rw c.in_ok-find.ensures.work (ready-long c.args.self.now c.requires.ready)

pub returns : goal.returns
returns c = elim c.if-is_worth.branch [
  | then-is_worth+in_ok-list_gone+in_ok-eliminate w ↦ tried-eliminated c.args.variable c.args.self.now c.find.new.self w.eliminate.new.self c.leave.new.self c.requires.ready c.requires.variable c.in_ok-find.ensures.work
      (ap (λ (a : State). is_worth_in c.args.variable a.entries) (sym c.self.view_is) ∙ (sym c.is_worth.ensures ∙ w.if-is_worth.true)) w.in_ok-eliminate.ensures (rw (sym w.self-is) c.leave.ensures)
  | else-is_worth w ↦ tried-left c.args.variable c.args.self.now c.find.new.self c.leave.new.self c.requires.ready c.requires.variable c.in_ok-find.ensures.work
      (ap (λ (a : State). is_worth_in c.args.variable a.entries) (sym c.self.view_is) ∙ (sym c.is_worth.ensures ∙ w.if-is_worth.false)) (rw (sym w.self-is) c.leave.ensures)
]
