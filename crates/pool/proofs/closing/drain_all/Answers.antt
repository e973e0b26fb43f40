use Rattle.std.proofs.Common.{◌≡◌, ℕ, get_or, drop, Some, subst, ap, sym, ◌∙◌, arith, add-one, List}
use Rattle.std.specs.Prelude.{slice_get}
use Rattle.pool.specs.Ends.{DequeEnd}
use Rattle.pool.proofs.ListPlaces.{first_left, rest_left}
use Rattle.pool.proofs.Gathering.{drained_more}
use Rattle.pool.proofs.closing.drain_all.Goals as goal

pub drain-requires : goal.drain-requires
drain-requires c =
    let i = c.drains.invariant in
    let k = c.drains.counter in
    let owner = c.remove-owner.result in
    c.requires k owner (first_left c.args.owners.items k owner (omega arith) (subst (λ (l : List DequeEnd). owner ≡ get_or l 0 owner) i.0 c.remove-owner.ensures.value))

pub drains-preserved : goal.drains-preserved
drains-preserved c =
    let i = c.drains.invariant in
    let k = c.drains.counter in
    let owner = c.remove-owner.result in
    let at : slice_get c.args.owners.items k ≡ Some owner = first_left c.args.owners.items k owner (omega arith) (subst (λ (l : List DequeEnd). owner ≡ get_or l 0 owner) i.0 c.remove-owner.ensures.value) in
    let d = c.in_ok-drain.ensures in (
      c.remove-owner.ensures.items ∙ ap (drop 1) i.0 ∙ rest_left c.args.owners.items k ∙ ap (λ (n : ℕ). drop n c.args.owners.items) (sym (add-one k)),
      drained_more c.args.owners.items k c.drains.left.items c.drain.new.left.items d.0 owner at d.1 d.2 i.1,
    )
