use Rattle.std.proofs.Common.{◌≡◌, ◌<◌, false, length, sym, subst, arith}
use Rattle.theory.specs.Literals.{Literal, has_var}
use Rattle.session.proofs.GatheredLemmas.{negation-new}
use Rattle.session.proofs.loading.negations_but_last.Goals as goal

pub push-requires : goal.push-requires
push-requires c =
    let lits = c.args.lits.now in
    let less : c.loop-place.place < length lits = let test = c.loop-place-test.true in omega (arith, test) in
    subst (λ (x : Literal). has_var c.loop-place.cube x.var ≡ false) (sym c.negated.ensures)
    (negation-new lits c.loop-place.place c.index-lits-place.result c.loop-place.cube c.requires.distinct less c.index-lits-place.is c.loop-place.invariant)
