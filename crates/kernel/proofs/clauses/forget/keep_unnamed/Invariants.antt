use Rattle.std.proofs.Common.{not}
use Rattle.std.proofs.lemmas.List.Filters.{FiltersInPlace}
use Rattle.kernel.specs.declared.watches.watch.Watch.{Watch}
use Rattle.kernel.specs.Forgetting.{names}
use Rattle.kernel.proofs.clauses.forget.keep_unnamed.Given as goal

-- the entries before the place that stay stand in front
abbrev pub invariant-loop-place : goal.invariant-loop-place
invariant-loop-place l = FiltersInPlace (λ (e : Watch). not (names l.named e.clause)) l.initial.list l.list l.end l.place
