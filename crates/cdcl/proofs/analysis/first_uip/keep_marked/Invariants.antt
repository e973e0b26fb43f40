use Rattle.std.proofs.Common.{false, slice_index_or}
use Rattle.std.proofs.lemmas.List.Filters.{FiltersInPlace}
use Rattle.cdcl.proofs.analysis.first_uip.keep_marked.Given as goal

-- the marked ones so far stand at the front
abbrev pub invariant-loop-at : goal.invariant-loop-at
invariant-loop-at l = FiltersInPlace (λ v. slice_index_or l.marked v false) l.initial.seen.items l.seen.items l.kept l.at
