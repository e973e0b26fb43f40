use Rattle.std.proofs.lemmas.List.Filters.{dedup_is}
use Rattle.std.proofs.lemmas.Map.Keys.{IsStrictlyIncreasing-dedup}
use Rattle.theory.specs.Trails.{literals}
use Rattle.theory.specs.Propagation.{clause_at}
use Rattle.cdcl.proofs.ArrangedClauses.{others-arranged}
use Rattle.cdcl.proofs.UnitPlaces.{places-arranged}
use Rattle.cdcl.proofs.analysis.unit_hints.UnitHints.take_places.Goals as goal

pub put_places-requires : goal.put_places-requires
put_places-requires c =
    others-arranged (literals c.args.kernel.now.trail) (clause_at c.args.kernel.now.clauses c.args.number) c.arranged.result.now c.args.lit c.arranged.ensures c.requires.others

pub returns-clause-rising : goal.returns-clause-rising
returns-clause-rising c = rw (dedup_is _ _ _ c.dedup.ensures.filtered) (IsStrictlyIncreasing-dedup _ c.sort_unstable.ensures.sorted)

pub returns-clause-places : goal.returns-clause-places
returns-clause-places c p =
    places-arranged (clause_at c.args.kernel.now.clauses c.args.number) c.arranged.result.now c.args.lit c.args.kernel.now.trail _ _ c.dedup.new.self.items p c.arranged.ensures
    (rw c.clear.ensures.items at c.in_ok-put_places.ensures) c.sort_unstable.ensures.permutation (dedup_is _ _ _ c.dedup.ensures.filtered)
