use Rattle.std.proofs.Common.{◌≡◌}
use Rattle.session.specs.Loading.{IsAttached, IsSameKernel}
use Rattle.session.proofs.loading.put_from.Given as goal

abbrev pub invariant-loop-place : goal.invariant-loop-place
invariant-loop-place l = record {
  attached : IsAttached l.formula.clauses l.fn.from l.place l.initial.kernel.clauses l.kernel.clauses;
  kept : IsSameKernel l.initial.kernel l.kernel;
  room : l.held.vars ≡ l.kernel.vars;
}
