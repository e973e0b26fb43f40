use Rattle.std.proofs.Common.{◌≡◌, ◌+◌, [], length, subst, arith}
use Rattle.join.specs.Joining.{bare, climb}
use Rattle.join.proofs.PassedLemmas.{passed-leaf}
use Rattle.join.proofs.joiner.Joiner.pass.Goals as goal

pub returns-in_ok-self-in-Leaf-clause-joined : goal.returns-in_ok-self-in-Leaf-clause-joined
returns-in_ok-self-in-Leaf-clause-joined c =
    let old = c.args.self.now in
    let lines = c.in-Leaf.row in
    let n = c.in_ok-self-in-Leaf.field-0 in
    let e = c.in_ok-self-in-Leaf.ensures in
    let whole : c.saturating_add-behind.result ≡ old.next + length lines = omega (arith, e.fits) in
    rw c.in-Leaf.is
    (passed-leaf old lines c.climb.new.place n c.requires.standing (subst (λ b. bare (climb old.place b []) ≡ record { halves = c.climb.new.place; next = n; steps = [] }) whole e.climbed) e.splits (omega (arith, e.fits)) e.fits.1).0
