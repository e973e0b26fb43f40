use Rattle.commands.proofs.watched.run_watched.Goals as goal

pub returns-in-Some : goal.returns-in-Some
returns-in-Some g c = rw c.in-Some.is (_, c.run_with.ensures.says)
