use Rattle.std.proofs.Common.{◌∙◌}
use Rattle.lrat.proofs.OccurrenceLemmas.{IsIndexed-stay, StayThere-none}
use Rattle.lrat.proofs.checker.Checker.tidy.Goals as goal

pub returns-in_ok-pack-clause-ready : goal.returns-in_ok-pack-clause-ready
returns-in_ok-pack-clause-ready c = record {
  vars = c.requires.vars;
  clauses_vars = c.pack.ensures.vars ∙ c.requires.clauses_vars;
  held_vars = c.requires.held_vars;
  none_held = c.requires.none_held;
  indexed = IsIndexed-stay _ _ c.new.result (StayThere-none _) c.new.ensures;
  up_to = c.pack.ensures.up_to c.args.self.now.last c.requires.up_to;
}
