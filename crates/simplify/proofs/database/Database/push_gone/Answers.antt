use Rattle.std.proofs.Common.{refl, false, None, ◌∷◌, [], ◌++◌, ◌+◌, length, ap, ◌∙◌}
use Rattle.simplify.specs.Entries.{Clauses}
use Rattle.simplify.specs.Tables.{entries_of}
use Rattle.simplify.proofs.EntryLemmas.{entries-push}
use Rattle.simplify.proofs.ListedClauses.{listed-none}
use Rattle.simplify.proofs.TableLemmas.{tables-absent, tables-same}
use Rattle.simplify.proofs.database.Database.push_gone.Goals as goal

pub invariant_of-self : goal.invariant_of-self
invariant_of-self c =
    let d = c.self.inside in
    tables-same d.sets c.put_absent.new.sets d.there.items c.put_absent.new.there.items d.lists.items d.counts c.self.invariant c.in_err-put_absent.ensures.same_sets c.in_err-put_absent.ensures.same_there

pub invariant_of-self-2 : goal.invariant_of-self-2
invariant_of-self-2 c =
    let d = c.self.inside in
    tables-same _ c.put_absent.new.sets _ c.put_absent.new.there.items d.lists.items d.counts
    (tables-absent d.sets d.there.items d.lists.items d.counts c.self.invariant [] [] (length d.there.items + 1) d.lists.items refl (listed-none d.lists.items (length d.there.items + 1)))
    c.in_ok-put_absent.ensures.sets c.in_ok-put_absent.ensures.there

pub returns : goal.returns
returns c =
    let d = c.self.inside in
    (λ i. record { vars = (c.in_ok-put_absent.ensures.sets i).vars; entries = entries_of (c.in_ok-put_absent.ensures.there i) (c.in_ok-put_absent.ensures.sets i).clauses })
    ∙ ((λ i. record { vars = d.sets.vars; entries = entries-push d.there.items d.sets.clauses false [] c.self.invariant.each i })
    ∙ ap (λ (e : Clauses). record { vars = e.vars; entries = e.entries ++ None ∷ [] }) c.self.view_is)
