use Rattle.std.proofs.Common.{ℕ, List, Option}
use Rattle.commands.specs.Questions.{IsSessionStatus}
use Rattle.commands.proofs.questions.asking.Asking.take.Given as goal

-- the status is that of the last answer so far
abbrev pub invariant-loop-byte : goal.invariant-loop-byte
invariant-loop-byte g l = (a : Option (List ℕ)) → IsSessionStatus l.initial.self.status a (g.W.Write.contents l.initial.answer) → IsSessionStatus l.self.status a (g.W.Write.contents l.answer)
