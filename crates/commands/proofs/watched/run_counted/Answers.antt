use Rattle.commands.proofs.watched.run_counted.Goals as goal

pub returns : goal.returns
returns g c = rw c.begin-limit.ensures at c.run_watched-result.ensures
