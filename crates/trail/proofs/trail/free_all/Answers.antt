use Rattle.std.proofs.Common.{◌≡◌, ◌∙◌, ℕ, get_or, ap, arith}
use Rattle.theory.specs.Literals.{Literal}
use Rattle.theory.specs.Trails.{Entry}
use Rattle.trail.proofs.LeastVariables.{IsLeastVar-more}
use Rattle.trail.proofs.Tables.{AreFreed-more, AreUnassigned-more, code-within, has_var-at}
use Rattle.trail.proofs.trail.free_all.Goals as goal

pub put_truths-requires-clause-inside : goal.put_truths-requires-clause-inside
put_truths-requires-clause-inside c =
    let at : c.entry.inside.lit.var ≡ (get_or c.args.dropped.now c.loop-entry.entry-index c.entry-item.result).lit.var = ap (λ (e : Entry). e.lit.var) (c.entry.view_is ∙ c.entry-item.is) in
    let most = (c.requires _ (has_var-at c.args.dropped.now c.loop-entry.entry-index c.entry-item.result c.loop-entry-test.true)).0 in
    let long = c.loop-entry.auto.truths in
    code-within _ _ (omega (arith, at, most, long))

pub put_truths-requires-clause-beside : goal.put_truths-requires-clause-beside
put_truths-requires-clause-beside c =
    let at : c.entry.inside.lit.var ≡ (get_or c.args.dropped.now c.loop-entry.entry-index c.entry-item.result).lit.var = ap (λ (e : Entry). e.lit.var) (c.entry.view_is ∙ c.entry-item.is) in
    let most = (c.requires _ (has_var-at c.args.dropped.now c.loop-entry.entry-index c.entry-item.result c.loop-entry-test.true)).0 in
    let long = c.loop-entry.auto.truths in
    code-within _ _ (omega (arith, at, most, long))

pub bounds-places-var : goal.bounds-places-var
bounds-places-var c =
    let at : c.entry.inside.lit.var ≡ (get_or c.args.dropped.now c.loop-entry.entry-index c.entry-item.result).lit.var = ap (λ (e : Entry). e.lit.var) (c.entry.view_is ∙ c.entry-item.is) in
    let within = (c.requires _ (has_var-at c.args.dropped.now c.loop-entry.entry-index c.entry-item.result c.loop-entry-test.true)).1 in
    let long = c.loop-entry.auto.places in
    let var = c.var-var.ensures.var in
    omega (arith, at, within, long, var)

pub loop-entry-preserved : goal.loop-entry-preserved
loop-entry-preserved c =
    let D = c.args.dropped.now in
    let i : ℕ = c.loop-entry.entry-index in
    let d : Entry = c.entry-item.result in
    let lit : c.entry.inside.lit ≡ (get_or D i d).lit = ap (λ (e : Entry). e.lit) (c.entry.view_is ∙ c.entry-item.is) in
    let var : c.var-var.result ≡ (get_or D i d).lit.var = c.var-var.ensures.var ∙ ap (λ (l : Literal). l.var) lit in
    let within = c.requires _ (has_var-at D i d c.loop-entry-test.true) in
    let low = within.0 in
    let high = within.1 in
    let truths_long = c.loop-entry.auto.truths in
    let places_long = c.loop-entry.auto.places in
    record {
      truths = rw (c.put_truths.ensures, lit)
          (AreUnassigned-more c.args.truths.now D i d c.loop-entry.truths c.loop-entry-test.true (omega (arith, low, truths_long)) c.loop-entry.invariant.truths);
      places = rw var (AreFreed-more 0 c.args.places.now D i d c.loop-entry.places c.loop-entry-test.true (omega (arith, high, places_long)) c.loop-entry.invariant.places);
      least = rw (c.min-least.ensures, var) (IsLeastVar-more c.args.bound D i d c.loop-entry.least c.loop-entry-test.true c.loop-entry.invariant.least);
    }
