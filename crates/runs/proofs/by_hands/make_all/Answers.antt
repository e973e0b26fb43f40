use Rattle.std.proofs.Common.{get_or, subst, arith}
use Rattle.runs.specs.Parts.{text_of, IsMade}
use Rattle.runs.proofs.PartLemmas.{each-made}
use Rattle.runs.proofs.by_hands.make_all.Goals as goal

pub returns : goal.returns
returns g c =
    let ps = c.args.parts.now in
    let qs = c.for_each_mut.new.s in
    each-made ps qs (omega arith) (λ i d within.
    let at = (c.for_each_mut.ensures i d within).1 in
    subst (λ q. IsMade (text_of (get_or ps i d)) q) at.left (subst (λ p. IsMade (text_of p) at.after_call.now) at.argument_is at.call))
