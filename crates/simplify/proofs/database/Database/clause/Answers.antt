use Rattle.std.proofs.Common.{◌≡◌, ap, sym, ◌∙◌, subst, length, arith, Some}
use Rattle.simplify.specs.Entries.{Clauses, entry_at, IsSet, IsThere}
use Rattle.simplify.specs.Tables.{entries_of}
use Rattle.simplify.proofs.EntryLemmas.{length-entries, entry-is}
use Rattle.simplify.proofs.database.Database.clause.Goals as goal

pub clause-requires : goal.clause-requires
clause-requires c =
    let l = sym (ap (λ (d : Clauses). length d.entries) c.self.view_is) ∙ length-entries _ _ c.self.invariant.each in
    let r = c.requires.0 in
    let s = c.requires.1 in
    let each = c.self.invariant.each in
    omega arith

there : (c : goal.After-clause) → entry_at (entries_of c.self.inside.there.items c.self.inside.sets.clauses) c.args.number ≡ Some c.clause.result.now
there c =
    entry-is c.self.inside.there.items c.self.inside.sets.clauses c.args.number c.clause.result.now c.self.invariant.each
    (subst (λ (d : Clauses). IsThere d.entries c.args.number) (sym c.self.view_is) c.requires) c.clause.ensures.clause

pub returns-clause-clause : goal.returns-clause-clause
returns-clause-clause c = subst (λ (d : Clauses). entry_at d.entries c.args.number ≡ Some c.clause.result.now) c.self.view_is (there c)

pub returns-clause-set : goal.returns-clause-set
returns-clause-set c = subst (λ (d : Clauses). IsSet d.vars c.clause.result.now) c.self.view_is (c.self.invariant.sets c.args.number c.clause.result.now (there c))
