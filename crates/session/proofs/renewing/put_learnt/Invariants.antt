use Rattle.std.proofs.Common.{◌≡◌}
use Rattle.session.specs.Loading.{IsPutBehind}
use Rattle.session.proofs.renewing.put_learnt.Given as goal

abbrev pub invariant-loop-index : goal.invariant-loop-index
invariant-loop-index l = record {
  put : IsPutBehind l.kernel.clauses l.initial.clauses.clauses l.clauses.clauses;
  vars : l.clauses.vars ≡ l.initial.clauses.vars;
}
