use Rattle.std.proofs.Common.{ap, sym, ◌∙◌, subst, length}
use Rattle.theory.specs.Literals.{IsVariable}
use Rattle.simplify.specs.Entries.{Clauses, holding}
use Rattle.simplify.proofs.TableLemmas.{tables-count}
use Rattle.simplify.proofs.database.Database.count.Goals as goal

pub returns : goal.returns
returns c =
    c.holders.ensures
    ∙ (tables-count c.self.inside.sets c.self.inside.there.items c.self.inside.lists.items c.self.inside.counts c.self.invariant c.args.lit (subst (λ (d : Clauses). IsVariable d.vars c.args.lit.var) (sym c.self.view_is) c.requires)
    ∙ ap (λ (d : Clauses). length (holding c.args.lit d.entries)) c.self.view_is)
