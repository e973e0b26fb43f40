use Rattle.std.proofs.Common.{ap, ◌∙◌, nat_lt}
use Rattle.simplify.specs.Entries.{Clauses, has_empty_in}
use Rattle.simplify.proofs.TableLemmas.{tables-empty}
use Rattle.simplify.proofs.database.Database.has_empty.Goals as goal

pub returns : goal.returns
returns c =
    ap (nat_lt 0) c.empty.ensures
    ∙ (tables-empty c.self.inside.sets c.self.inside.there.items c.self.inside.lists.items c.self.inside.counts c.self.invariant
    ∙ ap (λ (d : Clauses). has_empty_in d.entries) c.self.view_is)
