use Rattle.std.proofs.Common.{◌≡◌, ◌-◌, ◌∙◌, length, get_or, ap, sym, refl, arith}
use Rattle.theory.specs.Literals.{negated}
use Rattle.theory.proofs.literals.LiteralLemmas.{same-refl}
use Rattle.kernel.proofs.LastFalse.{last_false-fell}
use Rattle.kernel.proofs.propagator.found_at.Goals as goal

pub returns-then-place-count : goal.returns-then-place-count
returns-then-place-count c e at d m =
    let T = c.args.trail.now.entries in
    let n : length c.entries-count.result.now ≡ length T = ap length c.entries-count.ensures.entries in
    let is_last = c.if-place-count.true in
    let place : c.args.place ≡ length T - 1 = omega (arith, n, is_last) in
    let read : e ≡ get_or T (length T - 1) e = at ∙ ap (λ p. get_or T p e) place in
    rw c.in-ByPlace.is (n ∙ sym (last_false-fell T e e d (negated e.lit) (negated e.lit) (omega (arith, c.requires.inside)) read refl (same-refl (negated e.lit)) m))
