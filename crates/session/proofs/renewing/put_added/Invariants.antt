use Rattle.std.proofs.Common.{◌≡◌}
use Rattle.theory.specs.Trails.{literals}
use Rattle.session.specs.Loading.{IsPut}
use Rattle.session.proofs.renewing.put_added.Given as goal

abbrev pub invariant-loop-place : goal.invariant-loop-place
invariant-loop-place l = record {
  put : IsPut l.formula.clauses l.clauses.clauses l.place (literals l.kernel.trail);
  vars : l.clauses.vars ≡ l.initial.clauses.vars;
}
