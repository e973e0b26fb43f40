use Rattle.std.proofs.Common.{ap, sym, ◌∙◌, length, arith}
use Rattle.simplify.specs.Entries.{Clauses}
use Rattle.simplify.proofs.EntryLemmas.{length-entries}
use Rattle.simplify.proofs.database.Database.last.Goals as goal

pub returns-clause-last : goal.returns-clause-last
returns-clause-last c = c.clause_count.ensures.count ∙ (sym c.self.invariant.each ∙ (sym (length-entries _ _ c.self.invariant.each) ∙ ap (λ (d : Clauses). length d.entries) c.self.view_is))

pub returns-clause-few : goal.returns-clause-few
returns-clause-few c =
    let long = sym c.self.invariant.each ∙ (sym (length-entries _ _ c.self.invariant.each) ∙ ap (λ (d : Clauses). length d.entries) c.self.view_is) in
    let count = c.clause_count.ensures.count in
    let few = c.clause_count.ensures.few in
    omega arith
