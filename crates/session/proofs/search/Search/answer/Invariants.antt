use Rattle.std.proofs.Common.{◌≤◌, ◌-◌, ◌^◌, take, length}
use Rattle.session.specs.Loading.{IsLoaded}
use Rattle.session.proofs.search.Search.answer.Given as goal

abbrev pub invariant-rounds : goal.invariant-rounds
invariant-rounds g l = record {
  loaded : IsLoaded l.formula.clauses (take l.loaded l.formula.clauses) l.self;
  within : l.initial.loaded ≤ length l.formula.clauses → l.loaded ≤ length l.formula.clauses;
}

abbrev pub decreases-rounds : goal.decreases-rounds
decreases-rounds g l = 2 ^ 64 - l.steps
