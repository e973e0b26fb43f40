use Rattle.std.proofs.Common.{◌∷◌, [], ◌++◌, ap, ◌∙◌}
use Rattle.simplify.specs.Entries.{Clauses, entry_of}
use Rattle.simplify.proofs.EntryLemmas.{entries_of-more}
use Rattle.simplify.proofs.database.Database.open.Goals as goal

pub loop-place-preserved : goal.loop-place-preserved
loop-place-preserved c =
    c.in_ok-put.ensures
    ∙ (ap (λ (d : Clauses). record { vars = d.vars; entries = d.entries ++ entry_of c.clause.result.now ∷ [] }) c.loop-place.invariant
    ∙ (λ i. record { vars = c.args.formula.now.vars; entries = entries_of-more c.args.formula.now.clauses c.loop-place.place c.clause.result.now c.clause.ensures.clause i }))
