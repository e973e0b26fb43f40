use Rattle.std.proofs.Common.{ap, sym, ◌∙◌}
use Rattle.theory.specs.Literals.{positive}
use Rattle.simplify.specs.Entries.{holding}
use Rattle.simplify.specs.Tried.{State, vars_of, gone_in}
use Rattle.simplify.proofs.SideNumbers.{holders-there}
use Rattle.simplify.proofs.TriedStates.{touched-within}
use Rattle.simplify.proofs.trial.Trial.eliminate.Goals as goal

pub push-requires-clause-there : goal.push-requires-clause-there
push-requires-clause-there c = rw (c.with_variable.ensures ∙ (c.requires.found.positive ∙ ap (λ (a : State). holding (positive c.args.variable) a.entries) (sym c.self.view_is))) (holders-there (positive c.args.variable) c.self.inside.database.entries)

pub renew-requires-clause-within : goal.renew-requires-clause-within
renew-requires-clause-within c = rw (c.touched.ensures ∙ (c.requires.listed.touched ∙ ap (λ (a : State). vars_of a.entries (gone_in c.args.variable a.entries)) (sym c.self.view_is)), c.in_ok-replace.ensures.vars)
    (touched-within c.self.inside.database.vars c.args.variable c.self.inside.database.entries c.vars-vars.ensures.sets)
