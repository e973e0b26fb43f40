use Rattle.std.proofs.Common.{◌≡◌, ◌∙◌, ◌<◌, false, Some, length, take, get_or, slice_get, ap, sym, subst, arith}
use Rattle.theory.specs.Literals.{has_var}
use Rattle.theory.specs.Trails.{Entry, Trail, literals}
use Rattle.cdcl.proofs.PlaceLemmas.{placed-there, placed-is, place-new}
use Rattle.session.proofs.search.known.Goals as goal

pub push-requires : goal.push-requires
push-requires c =
    let T = c.args.kernel.now.trail in
    let i = c.loop-entry.entry-index in
    let e = c.entry-item.result in
    let lent = c.trail-entry-items.ensures.trail in
    let inside : i < length T = let less = c.loop-entry-test.true in let same = ap length lent in omega (arith, less, same) in
    let is : e ≡ get_or T i e = c.entry-item.is ∙ ap (λ (U : Trail). get_or U i e) lent in
    let there = placed-there T i inside in
    let placed : slice_get T i ≡ Some e = there.1 ∙ ap Some (placed-is T i there.0 e there.1 ∙ sym is) in
    subst (λ P. has_var P c.entry.inside.lit.var ≡ false) (sym c.loop-entry.invariant)
    (subst (λ v. has_var (literals (take i T)) v ≡ false) (sym (ap (λ (x : Entry). x.lit.var) c.entry.view_is)) (place-new c.args.kernel.now.clauses T i e c.trail-entry-items.ensures.lawful placed))
