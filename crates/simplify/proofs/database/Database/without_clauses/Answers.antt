use Rattle.std.proofs.Common.{[], map, ap, ◌∙◌}
use Rattle.simplify.proofs.FirstTables.{tables-none}
use Rattle.simplify.specs.Tables.{none_counted}
use Rattle.simplify.proofs.database.Database.without_clauses.Goals as goal

pub invariant_of-result : goal.invariant_of-result
invariant_of-result c =
    let V = c.args.formula.now.vars in
    tables-none c.without_clauses.result V c.in_ok-there.there.items c.in_ok-lists.lists.items c.in_ok-counts.counts c.in_ok-occurrences.occurrences.items
    (c.without_clauses.ensures ∙ ap (λ n. record { vars = n; clauses = [] }) c.vars-vars.ensures.vars)
    c.in_ok-there.ensures.items
    (c.in_ok-lists.ensures ∙ ap (map (λ n. [])) c.deref.ensures.value)
    c.in_ok-occurrences.ensures
    (c.in_ok-counts.ensures ∙ ap none_counted c.vars-vars.ensures.vars)
