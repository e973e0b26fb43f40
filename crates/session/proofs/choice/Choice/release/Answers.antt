use Rattle.std.proofs.Common.{◌≡◌, ◌∙◌, ◌-◌, ◌<◌, length, get_or, ap, arith}
use Rattle.theory.specs.Trails.{Trail, Entry}
use Rattle.cdcl.proofs.WaitingLemmas.{entry-variable}
use Rattle.session.proofs.choice.Choice.release.Goals as goal

pub free-requires-clause-variable : goal.free-requires-clause-variable
free-requires-clause-variable c =
    let T = c.args.kernel.now.trail in
    let V = c.args.kernel.now.vars in
    let e = c.index-trail-count.result in
    let n = c.loop-count.count - 1 in
    let within = c.loop-count.invariant.within in
    let some = c.loop-count-test.true in
    let inside : n < length T = omega arith in
    let is : e ≡ get_or T n e = c.index-trail-count.is ∙ ap (λ (U : Trail). get_or U n e) c.trail-trail.ensures.trail in
    rw (c.vars.ensures, ap (λ (x : Entry). x.lit.var) c.entry.view_is) (entry-variable V T n e c.trail-trail.ensures.over inside is)
