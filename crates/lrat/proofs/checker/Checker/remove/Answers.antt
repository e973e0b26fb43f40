use Rattle.std.proofs.Common.{◌∙◌}
use Rattle.lrat.specs.Slots.{there}
use Rattle.lrat.specs.Tested.{checker_of}
use Rattle.lrat.proofs.CheckLemmas.{deleted-all, delete-leaves}
use Rattle.lrat.proofs.OccurrenceLemmas.{IsIndexed-stay}
use Rattle.lrat.proofs.checker.Checker.remove.Goals as goal

pub returns-then-delete-clause-tested : goal.returns-then-delete-clause-tested
returns-then-delete-clause-tested c =
    let all = deleted-all _ _ _ (rw c.ids.ensures.ids at c.delete.ensures.deleted) c.if-delete.true in (
      delete-leaves c.args.self.now.vars (checker_of c.args.self.now) c.args.deletion.now (there c.delete.new.clauses) all,
      record {
        vars = c.requires.vars;
        clauses_vars = c.delete.ensures.vars ∙ c.requires.clauses_vars;
        held_vars = c.requires.held_vars;
        indexed = IsIndexed-stay _ _ c.args.self.now.occurrences c.delete.ensures.stay c.requires.indexed;
        none_held = c.requires.none_held;
        up_to = c.delete.ensures.up_to c.args.self.now.last c.requires.up_to;
      },
    )
