-- The modes, as the definitions have them.
use Rattle.theory.specs.Modes as modes
use Rattle.heuristics.specs.declared.mode.Mode.{Mode}
use Rattle.heuristics.specs.declared.mode.Mode.TheVariants.{Restarting, Stable}

abbrev pub mode_of : Mode → modes.Mode
mode_of Restarting = modes.restarting
mode_of Stable = modes.stable
