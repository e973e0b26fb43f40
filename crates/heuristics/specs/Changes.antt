-- How saved values change at the end of a round.
use Rattle.std.specs.Prelude.{true, false, not, map}
use Rattle.theory.specs.Truth.{Assignment}
use Rattle.heuristics.specs.declared.round.Change.{Change}
use Rattle.heuristics.specs.declared.round.Change.TheVariants.{AllTrue, AllOther, AllFalse}

abbrev pub changed : Change → Assignment → Assignment
changed AllTrue saved = map (λ v. true) saved
changed AllOther saved = map not saved
changed AllFalse saved = map (λ v. false) saved
