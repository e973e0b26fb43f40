use Rattle.std.proofs.Common.{◌-◌, length}
use Rattle.lrat_forms.proofs.translation.Translation.translate.Given as goal

-- so many bytes are still to be translated
abbrev pub decreases-loop-self : goal.decreases-loop-self
decreases-loop-self l = length l.self.read.items - l.self.taken
