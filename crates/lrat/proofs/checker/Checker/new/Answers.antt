use Rattle.std.proofs.Common.{rules, arith}
use Rattle.lrat.proofs.OccurrenceLemmas.{IsIndexed-stay, StayThere-none}
use Rattle.lrat.proofs.checker.Checker.new.Goals as goal

pub returns-clause-ready : goal.returns-clause-ready
returns-clause-ready c = record {
  vars = search rules;
  clauses_vars = search rules;
  held_vars = search rules;
  none_held = search rules;
  indexed = IsIndexed-stay _ _ c.new-2.result (StayThere-none _) c.new-2.ensures;
  up_to = λ i s g. let most = c.in_ok-new.ensures.up_to i s g in omega (arith, c.clause_count.ensures.count);
}
