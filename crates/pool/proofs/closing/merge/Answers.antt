use Rattle.std.proofs.Common.{◌≡◌, ℕ, ◌<◌, length, get_or, drop, Some, subst, ap, sym, refl, ◌∙◌, arith, add-one, List}
use Rattle.std.specs.Prelude.{slice_get}
use Rattle.std.proofs.lemmas.Option.{slice_get_read}
use Rattle.pool.specs.Ends.{DequeEnd}
use Rattle.pool.specs.Closing.{Merging}
use Rattle.pool.proofs.ListPlaces.{first_left, rest_left}
use Rattle.pool.proofs.Sharing.{here_of, same_len}
use Rattle.pool.proofs.Gathering.{merging_more, merging_ends}
use Rattle.pool.proofs.closing.merge.Goals as goal

pub join-requires : goal.join-requires
join-requires c =
    let i = c.merge.invariant in
    let d = c.merge.d in
    let lens = same_len c.args.thieves.items c.args.owners.now.items c.requires in
    let lt : d < length c.args.thieves.items = omega arith in
    let thief = c.remove-thief.result in
    let there : slice_get c.args.thieves.items d ≡ Some thief = first_left c.args.thieves.items d thief lt (subst (λ (l : List DequeEnd). thief ≡ get_or l 0 thief) i.0 c.remove-thief.ensures.value) in
    let same = i.1.0 in
    let at : slice_get c.merge.owners.items d ≡ Some c.index_mut.result.now = slice_get_read c.merge.owners.items (length c.merge.owners.items) d c.index_mut.result.now refl (omega arith) c.index_mut.ensures.value in
    here_of c.args.thieves.items c.args.owners.now.items d c.index_mut.result.now (sym (i.1.2 d (omega arith)) ∙ at) c.requires thief there

pub merge-preserved : goal.merge-preserved
merge-preserved c =
    let i = c.merge.invariant in
    let d = c.merge.d in
    let lens = same_len c.args.thieves.items c.args.owners.now.items c.requires in
    let lt : d < length c.args.thieves.items = omega arith in
    let thief = c.remove-thief.result in
    let there : slice_get c.args.thieves.items d ≡ Some thief = first_left c.args.thieves.items d thief lt (subst (λ (l : List DequeEnd). thief ≡ get_or l 0 thief) i.0 c.remove-thief.ensures.value) in
    let same = i.1.0 in
    let at : slice_get c.merge.owners.items d ≡ Some c.index_mut.result.now = slice_get_read c.merge.owners.items (length c.merge.owners.items) d c.index_mut.result.now refl (omega arith) c.index_mut.ensures.value in (
      c.remove-thief.ensures.items ∙ ap (drop 1) i.0 ∙ rest_left c.args.thieves.items d ∙ ap (λ (k : ℕ). drop k c.args.thieves.items) (sym (add-one d)),
      merging_more c.args.owners.now.items c.args.thieves.items c.merge.owners.items d c.index_mut.result.now thief c.join.new.self at there c.join.ensures i.1,
    )

pub returns : goal.returns
returns c = let i = c.merge.invariant in merging_ends c.args.owners.now.items c.args.thieves.items c.merge.owners.items (subst (λ (k : ℕ). Merging c.args.owners.now.items c.args.thieves.items k c.merge.owners.items) (let q : c.merge.d ≡ length c.args.owners.now.items = omega arith in q) i.1)
