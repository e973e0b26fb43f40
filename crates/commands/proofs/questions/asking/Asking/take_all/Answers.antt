use Rattle.commands.specs.Questions.{IsSessionStatus}
use Rattle.commands.proofs.SessionLemmas.{always-ok, followed-status}
use Rattle.commands.proofs.questions.asking.Asking.take_all.Goals.{in-Some+in_ok-follow, in_default}
use Rattle.commands.proofs.questions.asking.Asking.take_all.Goals as goal

pub returns : goal.returns
returns g c =
    let a = g.W.Write.contents c.args.answer.now in
    let last : IsSessionStatus c.match-branch-4.self.status a (g.W.Write.contents c.match-branch-4.answer) = elim c.match-branch-4.branch [
      | in-Some+in_ok-follow w ↦ rw (w.self-is, w.answer-is)
          (followed-status _ _ _ _ _ _ a (g.W.Write.contents c.loop.answer) (g.W.Write.contents w.follow.new.answer) w.in_ok-follow.ensures c.loop.invariant)
      | in_default w ↦ rw (w.self-is, w.answer-is) c.loop.invariant
    ] in
    always-ok c.map_err-3.result _ last
