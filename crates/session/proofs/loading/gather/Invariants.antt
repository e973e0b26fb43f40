use Rattle.std.proofs.Common.{◌≡◌, take}
use Rattle.session.specs.Loading.{IsGathered}
use Rattle.session.proofs.loading.gather.Given as goal

abbrev pub invariant-loop-lit : goal.invariant-loop-lit
invariant-loop-lit l = record {
  gathered : IsGathered (take l.lit-index l.clause) l.lits.items l.held.entries;
  vars : l.held.vars ≡ l.fn.held.vars;
}
