use Rattle.theory.proofs.searching.ShorterLines.{learn_short-part}
use Rattle.theory.proofs.short_lines_are_parts.Goals as goal

pub returns : goal.returns
returns c = learn_short-part
