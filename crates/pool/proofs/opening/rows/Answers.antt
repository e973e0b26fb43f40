use Rattle.std.proofs.Common.{◌≡◌, ◌∷◌, [], ◌++◌, subst, sym, ◌∙◌, rules}
use Rattle.pool.specs.Opening.{IsRow, AreRows, ids}
use Rattle.pool.proofs.Sharing.{rows_more}
use Rattle.pool.proofs.opening.rows.Goals as goal

pub rows-preserved : goal.rows-preserved
rows-preserved c =
    let i = c.rows.invariant in
    let e = c.in_ok-row.ensures in
    let pushed : c.push.new.self.items ≡ c.rows.rows.items ++ c.in_ok-row.row ∷ [] = search rules in (
      e.owners.0,
      e.owners.1 ∙ i.1,
      subst (AreRows c.args.vars (ids c.args.owners.now.items)) (sym pushed)
          (rows_more c.args.vars (ids c.args.owners.now.items) c.rows.rows.items c.in_ok-row.row (subst (λ (h : _). IsRow c.args.vars h c.in_ok-row.row.items) (sym i.3) e.thieves.0) (e.thieves.1 ∙ i.1) i.2),
      search rules,
    )
