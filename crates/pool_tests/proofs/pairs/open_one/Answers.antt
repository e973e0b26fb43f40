use Rattle.std.proofs.Common.{◌≡◌, [], ◌∷◌, ap, ◌∙◌}
use Rattle.std.specs.Prelude.{slice_get}
use Rattle.pool.specs.Hands.{HandView}
use Rattle.pool_tests.proofs.FewHands.{one_of, first_is}
use Rattle.pool_tests.proofs.pairs.open_one.Goals as goal

pub returns-clause-only : goal.returns-clause-only
returns-clause-only c =
    let e = c.in_ok-pool.ensures in
    let a = c.remove-hand.result in
    let all : c.in_ok-pool.hands.items ≡ a ∷ [] = one_of c.in_ok-pool.hands.items a (e.hands.as_many ∙ e.count) c.remove-hand.ensures.value in
    first_is c.in_ok-pool.pool c.args.vars c.in_ok-pool.hands.items a e.count e.hands all

pub returns-clause-vars : goal.returns-clause-vars
returns-clause-vars c =
    let e = c.in_ok-pool.ensures in
    let a = c.remove-hand.result in
    let all : c.in_ok-pool.hands.items ≡ a ∷ [] = one_of c.in_ok-pool.hands.items a (e.hands.as_many ∙ e.count) c.remove-hand.ensures.value in
    ap (λ (h : HandView). h.vars) (e.hands.each 0 a (ap (λ l. slice_get l 0) all))
