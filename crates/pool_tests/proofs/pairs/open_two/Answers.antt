use Rattle.std.proofs.Common.{◌≡◌, List, [], ◌∷◌, subst, ap, ◌∙◌}
use Rattle.std.specs.Prelude.{slice_get, slice_index_or}
use Rattle.pool.specs.Hands.{HandView}
use Rattle.pool_tests.proofs.FewHands.{two_of, pair_is}
use Rattle.pool_tests.proofs.pairs.open_two.Goals as goal

pub returns-clause-pair : goal.returns-clause-pair
returns-clause-pair c =
    let e = c.in_ok-pool.ensures in
    let a = c.remove-one.result in
    let b = c.remove-two.result in
    let all : c.in_ok-pool.hands.items ≡ a ∷ b ∷ [] = two_of c.in_ok-pool.hands.items a b (e.hands.as_many ∙ e.count) c.remove-two.ensures.value (subst (λ (l : List HandView). a ≡ slice_index_or l 0 a) c.remove-two.ensures.items c.remove-one.ensures.value) in
    pair_is c.in_ok-pool.pool c.args.vars c.in_ok-pool.hands.items a b e.count e.hands all

pub returns-clause-vars : goal.returns-clause-vars
returns-clause-vars c =
    let e = c.in_ok-pool.ensures in
    let a = c.remove-one.result in
    let b = c.remove-two.result in
    let all : c.in_ok-pool.hands.items ≡ a ∷ b ∷ [] = two_of c.in_ok-pool.hands.items a b (e.hands.as_many ∙ e.count) c.remove-two.ensures.value (subst (λ (l : List HandView). a ≡ slice_index_or l 0 a) c.remove-two.ensures.items c.remove-one.ensures.value) in
    (ap (λ (h : HandView). h.vars) (e.hands.each 0 a (ap (λ l. slice_get l 0) all)), ap (λ (h : HandView). h.vars) (e.hands.each 1 b (ap (λ l. slice_get l 1) all)))
