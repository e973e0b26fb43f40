use Rattle.lines.proofs.number.+push_high.Given as goal

abbrev pub decreases-push_high : goal.decreases-push_high
decreases-push_high l = l.number
