use Rattle.std.proofs.Common.{List, subst}
use Rattle.theory.specs.Literals.{Literal}
use Rattle.spread.specs.OpenCubes.{AreWordsOf}
use Rattle.spread.proofs.WordLemmas.{left-by-facts}
use Rattle.spread.proofs.left_open.open_by.Goals as goal

pub returns : goal.returns
returns g c =
    let words = c.in_ok-words.words in
    let left = c.in_ok-left.left in
    left-by-facts c.args.formula.now words c.args.way.items left.cubes.items left.has_model (subst (λ (cubes : List (List Literal)). AreWordsOf cubes words) c.deref.ensures.value c.in_ok-words.ensures) c.in_ok-left.ensures
