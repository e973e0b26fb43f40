use Rattle.std.proofs.Common.{rules}
use Rattle.std.proofs.lemmas.List.Filters.{dedup_is}
use Rattle.std.proofs.lemmas.List.Sorted.{IsNonDecreasingBy-from_sort_by_key}
use Rattle.cnf.specs.Lits.{code}
use Rattle.simplify.proofs.DistinctLiterals.{size-sorted}
use Rattle.simplify.proofs.literal_set.sort_by_code.Goals as goal

pub returns : goal.returns
returns c =
    size-sorted c.args.lits.now.items c.sort_by_key.new.self.items c.dedup.new.self.items c.sort_by_key.ensures.permutation
    (IsNonDecreasingBy-from_sort_by_key code _ c.in_ok-sort_by_key.ensures.sorted (λ a r q k. search rules))
    (dedup_is _ _ _ c.dedup.ensures.filtered)
