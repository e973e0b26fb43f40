use Rattle.commands.specs.Questions.{IsSessionStatus}
use Rattle.commands.proofs.questions.asking.Asking.take_all.Given as goal

-- the status is that of the last answer so far
abbrev pub invariant-loop : goal.invariant-loop
invariant-loop g l = IsSessionStatus l.self.status (g.W.Write.contents l.initial.answer) (g.W.Write.contents l.answer)
