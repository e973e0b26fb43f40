use Rattle.spread.specs.OpenCubes.{AreWordsOf}
use Rattle.spread.proofs.left_open.words_in.Given as goal

-- what the packs so far say
abbrev pub invariant-loop-name : goal.invariant-loop-name
invariant-loop-name g l = AreWordsOf l.cubes l.words
