use Rattle.std.proofs.Common.{sym, subst}
use Rattle.spread.specs.OpenCubes.{AreWordsOf}
use Rattle.spread.proofs.WordLemmas.{no-words, words-more}
use Rattle.spread.proofs.left_open.words_in.Goals.{in-Some+in_ok-pack+in_ok-add, in_default}
use Rattle.spread.proofs.left_open.words_in.Goals as goal

pub loop-name-init : goal.loop-name-init
loop-name-init g c = no-words c.args.cubes.now c.in_ok-words.words c.in_ok-words.ensures.tops c.in_ok-words.ensures.none

pub loop-name-preserved : goal.loop-name-preserved
loop-name-preserved g c =
    let old = c.loop-name.words in
    elim c.match-branch-3.branch [
      | in-Some+in_ok-pack+in_ok-add w ↦
          subst (λ words. AreWordsOf c.args.cubes.now words) (sym w.words-is)
          (words-more c.args.cubes.now old w.add.new.self w.deref-in-Some.result.now c.loop-name.invariant w.in_ok-add.ensures.tops w.in_ok-add.ensures.said)
      | in_default w ↦ subst (λ words. AreWordsOf c.args.cubes.now words) (sym w.words-is) c.loop-name.invariant
    ]
