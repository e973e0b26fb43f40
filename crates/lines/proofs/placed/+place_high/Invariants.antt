use Rattle.lines.proofs.placed.+place_high.Given as goal

abbrev pub decreases-place_high : goal.decreases-place_high
decreases-place_high l = l.number
