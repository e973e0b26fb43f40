use Rattle.std.proofs.Common.{◌≡◌, ◌<◌, ◌∷◌, [], ◌++◌, length, subst, ap, sym, ◌∙◌, arith, rules}
use Rattle.std.proofs.lemmas.List.{length-set, take_all, length-map}
use Rattle.pool.specs.Ends.{DequeEnd}
use Rattle.pool.specs.Opening.{notes_of_thief, ids, IsRow}
use Rattle.pool.proofs.Sharing.{halfway_more, halfway_ends, row_more, ids_kept, ids_more}
use Rattle.pool.proofs.opening.row.Goals as goal

pub row-preserved : goal.row-preserved
row-preserved c =
    let i = c.row.invariant in
    let owner = c.in_ok-thief.ensures.owner in
    let thief = c.in_ok-thief.ensures.thief in
    let lt : c.row.d < length c.args.owners.now.items = omega arith in
    let pushed : c.push.new.self.items ≡ c.row.thieves.items ++ c.in_ok-thief.thief ∷ [] = search rules in (
      halfway_more c.args.vars c.args.h c.row.d c.row.owners.items c.thief.new.owner (ap (λ (e : DequeEnd). e.notes) owner) i.0,
      ids_kept c.row.owners.items c.row.d c.index_mut.result.now c.thief.new.owner c.index_mut.ensures.value (ap (λ (e : DequeEnd). e.id) owner) ∙ i.1,
      subst (IsRow c.args.vars c.args.h) (sym pushed) (row_more c.args.vars c.args.h c.row.thieves.items c.in_ok-thief.thief (ap (λ (e : DequeEnd). e.notes) thief ∙ ap (notes_of_thief c.args.vars c.args.h) (sym i.4)) i.2),
      ap ids pushed ∙ ids_more c.row.thieves.items c.in_ok-thief.thief c.index_mut.result.now c.row.owners.items c.args.owners.now.items c.row.d i.3 i.1 i.5 lt c.index_mut.ensures.value (ap (λ (e : DequeEnd). e.id) thief),
      search rules,
      length-set c.row.owners.items c.row.d c.thief.new.owner ∙ i.5,
      search rules,
    )

pub returns-clause-owners : goal.returns-clause-owners
returns-clause-owners c = let i = c.row.invariant in (halfway_ends c.args.vars c.args.h c.row.d c.row.owners.items (omega arith) i.0, i.1)

pub returns-clause-thieves : goal.returns-clause-thieves
returns-clause-thieves c = let i = c.row.invariant in (i.2, i.3 ∙ take_all c.row.d (ids c.args.owners.now.items) (let e = length-map c.args.owners.now.items (λ (e : DequeEnd). e.id) in omega arith))
