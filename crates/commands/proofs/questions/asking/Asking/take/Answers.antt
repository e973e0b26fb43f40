use Rattle.commands.proofs.SessionLemmas.{followed-status}
use Rattle.commands.proofs.questions.asking.Asking.take.Goals.{in-Some+in_ok-follow, in_default}
use Rattle.commands.proofs.questions.asking.Asking.take.Goals as goal

pub loop-byte-preserved : goal.loop-byte-preserved
loop-byte-preserved g c = λ a s. elim c.match-branch-2.branch [
  | in-Some+in_ok-follow w ↦ rw (w.self-is, w.answer-is)
      (followed-status _ _ _ _ _ _ a (g.W.Write.contents c.loop-byte.answer) (g.W.Write.contents w.follow.new.answer) w.in_ok-follow.ensures (c.loop-byte.invariant a s))
  | in_default w ↦ rw (w.self-is, w.answer-is) (c.loop-byte.invariant a s)
]
