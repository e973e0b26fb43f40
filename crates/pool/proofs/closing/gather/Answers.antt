use Rattle.std.proofs.Common.{◌≡◌, ℕ, ◌+◌, ◌<◌, ◌++◌, ◌∷◌, [], length, get_or, drop, take, Some, subst, ap, sym, refl, ◌∙◌, arith, add-one, List}
use Rattle.std.specs.Prelude.{slice_get}
use Rattle.std.proofs.lemmas.List.{take_more, take_all}
use Rattle.std.proofs.lemmas.Option.{get_or_from_slice_get}
use Rattle.std.specs.Global.{Vec}
use Rattle.pool.specs.Ends.{DequeEnd}
use Rattle.pool.specs.Closing.{Gathered}
use Rattle.pool.proofs.ListPlaces.{first_left, rest_left}
use Rattle.pool.proofs.Sharing.{same_len}
use Rattle.pool.proofs.Gathering.{gathered_none, gathered_more, ids_merged}
use Rattle.pool.proofs.closing.gather.Goals as goal

pub gather-init : goal.gather-init
gather-init c = (refl, gathered_none c.args.owners.now.items, refl)

pub merge-requires : goal.merge-requires
merge-requires c =
    let i = c.gather.invariant in
    let k = c.gather.counter in
    let r = c.remove.result in
    let at : slice_get c.args.rows.items k ≡ Some r = first_left c.args.rows.items k r (omega arith) (subst (λ (l : List (Vec DequeEnd)). r ≡ get_or l 0 r) i.0 c.remove.ensures.value) in
    c.requires k r at ∙ sym i.2

pub gather-preserved : goal.gather-preserved
gather-preserved c =
    let i = c.gather.invariant in
    let k = c.gather.counter in
    let r = c.remove.result in
    let start = c.args.rows.items in
    let lt : k < length start = omega arith in
    let at : slice_get start k ≡ Some r = first_left start k r lt (subst (λ (l : List (Vec DequeEnd)). r ≡ get_or l 0 r) i.0 c.remove.ensures.value) in
    let more : take (k + 1) start ≡ take k start ++ r ∷ [] = take_more start k r lt ∙ ap (λ (x : Vec DequeEnd). take k start ++ x ∷ []) (get_or_from_slice_get start k r r at) in
    let same = same_len r.items c.args.owners.now.items (c.requires k r at) in
    let len : length r.items ≡ length c.gather.owners.items = same ∙ sym i.1.0 in (
      c.remove.ensures.items ∙ ap (drop 1) i.0 ∙ rest_left start k ∙ ap (λ (n : ℕ). drop n start) (sym (add-one k)),
      subst (λ (l : List (Vec DequeEnd)). Gathered c.args.owners.now.items l c.merge.new.owners.items) (sym more) (gathered_more c.args.owners.now.items c.gather.owners.items c.merge.new.owners.items (take k start) r same i.1 c.merge.ensures),
      ids_merged c.gather.owners.items r.items c.merge.new.owners.items len c.merge.ensures ∙ i.2,
    )

pub returns : goal.returns
returns c = let i = c.gather.invariant in subst (λ (l : List (Vec DequeEnd)). Gathered c.args.owners.now.items l c.gather.owners.items) (take_all c.gather.counter c.args.rows.items (omega arith)) i.1
