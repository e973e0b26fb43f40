use Rattle.std.proofs.Common.{ap, sym, ◌∙◌, subst, nat_lt}
use Rattle.theory.specs.Literals.{IsVariable}
use Rattle.simplify.specs.Entries.{Clauses, has_unit_in}
use Rattle.simplify.proofs.TableLemmas.{tables-unit}
use Rattle.simplify.proofs.database.Database.has_unit.Goals as goal

pub returns : goal.returns
returns c =
    ap (nat_lt 0) c.units.ensures
    ∙ (tables-unit c.self.inside.sets c.self.inside.there.items c.self.inside.lists.items c.self.inside.counts c.self.invariant c.args.variable (subst (λ (d : Clauses). IsVariable d.vars c.args.variable) (sym c.self.view_is) c.requires)
    ∙ ap (λ (d : Clauses). has_unit_in c.args.variable d.entries) c.self.view_is)
