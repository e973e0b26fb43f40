use Rattle.std.proofs.Common.{◌≡◌, ◌+◌, ◌++◌, ◌∷◌, [], length, take, drop, Some, List, suc, sym, ap, subst, ◌∙◌, arith, rules, add-one, length-append}
use Rattle.std.specs.Prelude.{slice_get}
use Rattle.std.proofs.lemmas.Option.{slice_get_within, get_or_from_slice_get}
use Rattle.pool.specs.Hands.{HandView}
use Rattle.pool.specs.Closing.{HasNumberFrom, AreAtNumbers, IsAmong}
use Rattle.pool.proofs.Sorting.{still_there, was_among, one_more}
use Rattle.pool.proofs.closing.by_number.Goals as goal

pub place_of-place-requires : goal.place_of-place-requires
place_of-place-requires c =
    let n = c.sorted.number in
    subst (λ (l : List HandView). HasNumberFrom l 0 n) (sym c.deref.ensures.value) (c.sorted.invariant.2 n (omega arith) (search rules))

pub remove-requires : goal.remove-requires
remove-requires c =
    let e = c.place_of-place.ensures in
    let w = slice_get_within c.deref.result.now c.place_of-place.result e.0 e.1 in
    let l = c.deref.ensures.len in
    omega arith

pub sorted-preserved : goal.sorted-preserved
sorted-preserved c =
    let i = c.sorted.invariant in
    let n = c.sorted.number in
    let p = c.place_of-place.result in
    let e = c.place_of-place.ensures in
    let list = c.sorted.hands.items in
    let x = c.remove.result in
    let there : slice_get list p ≡ Some e.0 = subst (λ (l : List HandView). slice_get l p ≡ Some e.0) c.deref.ensures.value e.1 in
    let same : x ≡ e.0 = c.remove.ensures.value ∙ get_or_from_slice_get list p e.0 x there in
    let at : slice_get list p ≡ Some x = there ∙ ap Some (sym same) in
    let is : x.number ≡ n = ap (λ (h : HandView). h.number) same ∙ e.2 in
    let rest : c.remove.new.self.items ≡ take p list ++ drop (suc p) list = c.remove.ensures.by_index.2 ∙ ap (λ k. take p list ++ drop k list) (add-one p) in
    let pushed : c.push.new.self.items ≡ c.sorted.sorted.items ++ x ∷ [] = search rules in (
      ap length pushed ∙ length-append c.sorted.sorted.items (x ∷ []) ∙ ap (λ k. k + 1) i.0,
      subst (AreAtNumbers c.args.hands.items) (sym pushed) (one_more c.args.hands.items c.sorted.sorted.items x (is ∙ sym i.0) (i.3 x (p, at)) i.1),
      (λ k le lt. subst (λ (l : List HandView). HasNumberFrom l 0 k) (sym rest) (still_there list p n k x at is (λ q. omega arith) (i.2 k (omega arith) lt))),
      (λ h a. i.3 h (was_among list p h (subst (λ (l : List HandView). IsAmong l h) rest a))),
    )
