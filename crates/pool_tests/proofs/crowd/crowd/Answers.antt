use Rattle.std.proofs.Common.{◌≡◌, List, [], ◌∷◌, remove, subst, sym, ap, ◌∙◌}
use Rattle.std.specs.Prelude.{slice_get, slice_index_or}
use Rattle.pool.specs.Hands.{HandView}
use Rattle.pool.specs.Pools.{AreAllOf}
use Rattle.pool.specs.Pools.{AreSameHands}
use Rattle.pool_tests.proofs.Homecoming.{all_home}
use Rattle.pool_tests.proofs.FewHands.{four_of, same_four}
use Rattle.pool_tests.proofs.crowd.crowd.Goals as goal

pub at_once-requires : goal.at_once-requires
at_once-requires g c =
    let start = c.args.hands.items in
    let a = c.remove-first.result in
    let b = c.remove-second.result in
    let d = c.remove-third.result in
    let e = c.remove-last.result in
    let all : start ≡ a ∷ b ∷ d ∷ e ∷ [] = four_of start a b d e c.requires.count c.remove-last.ensures.value
    (subst (λ (l : List HandView). d ≡ slice_index_or l 2 d) c.remove-last.ensures.items c.remove-third.ensures.value)
    (subst (λ (l : List HandView). b ≡ slice_index_or l 1 b) (c.remove-third.ensures.items ∙ ap (λ (l : List HandView). remove l 2) c.remove-last.ensures.items) c.remove-second.ensures.value)
    (subst (λ (l : List HandView). a ≡ slice_index_or l 0 a) (c.remove-second.ensures.items ∙ ap (λ (l : List HandView). remove l 1) (c.remove-third.ensures.items ∙ ap (λ (l : List HandView). remove l 2) c.remove-last.ensures.items)) c.remove-first.ensures.value) in
    let each = c.requires.hands.each in (
      ap (λ (h : HandView). h.vars) (each 0 a (ap (λ l. slice_get l 0) all)),
      ap (λ (h : HandView). h.vars) (each 1 b (ap (λ l. slice_get l 1) all)),
      ap (λ (h : HandView). h.vars) (each 2 d (ap (λ l. slice_get l 2) all)),
      ap (λ (h : HandView). h.vars) (each 3 e (ap (λ l. slice_get l 3) all)),
    )

pub returns : goal.returns
returns g c =
    let start = c.args.hands.items in
    let a = c.remove-first.result in
    let b = c.remove-second.result in
    let d = c.remove-third.result in
    let e = c.remove-last.result in
    let all : start ≡ a ∷ b ∷ d ∷ e ∷ [] = four_of start a b d e c.requires.count c.remove-last.ensures.value
    (subst (λ (l : List HandView). d ≡ slice_index_or l 2 d) c.remove-last.ensures.items c.remove-third.ensures.value)
    (subst (λ (l : List HandView). b ≡ slice_index_or l 1 b) (c.remove-third.ensures.items ∙ ap (λ (l : List HandView). remove l 2) c.remove-last.ensures.items) c.remove-second.ensures.value)
    (subst (λ (l : List HandView). a ≡ slice_index_or l 0 a) (c.remove-second.ensures.items ∙ ap (λ (l : List HandView). remove l 1) (c.remove-third.ensures.items ∙ ap (λ (l : List HandView). remove l 2) c.remove-last.ensures.items)) c.remove-first.ensures.value) in
    let r = c.in_ok-first in
    let same : AreSameHands (a ∷ b ∷ d ∷ e ∷ []) (r.first.hand ∷ r.second.hand ∷ r.third.hand ∷ r.last.hand ∷ []) =
    same_four a b d e r.first.hand r.second.hand r.third.hand r.last.hand r.ensures.0 r.ensures.1 r.ensures.2 r.ensures.3 in
    subst (AreAllOf c.args.pool.now) (sym c.in_ok-home.ensures)
    (all_home c.args.pool.now 18 start (r.first.hand ∷ r.second.hand ∷ r.third.hand ∷ r.last.hand ∷ []) c.requires.hands
    (subst (λ (l : List HandView). AreSameHands l (r.first.hand ∷ r.second.hand ∷ r.third.hand ∷ r.last.hand ∷ [])) (sym all) same))
