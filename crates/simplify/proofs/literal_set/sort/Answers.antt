use Rattle.std.proofs.Common.{rules}
use Rattle.std.proofs.lemmas.List.Filters.{dedup_is}
use Rattle.std.proofs.lemmas.List.Sorted.{IsNonDecreasingBy-from_sort_by_key, answers_always}
use Rattle.theory.specs.Literals.{Literal}
use Rattle.simplify.proofs.SortedLiterals.{sorted-set, stable-of}
use Rattle.simplify.proofs.literal_set.sort.Goals as goal

pub returns : goal.returns
returns c =
    sorted-set c.args.lits.now.items c.sort_by_key.new.self.items c.dedup.new.self.items
    (IsNonDecreasingBy-from_sort_by_key (λ (l : Literal). l.var) _ c.in_ok-sort_by_key.ensures.sorted (λ a r q k. search rules))
    (stable-of c.args.lits.now.items c.sort_by_key.new.self.items (c.in_ok-sort_by_key.ensures.stable (λ (l : Literal). l.var) (answers_always _ _ _ (λ f a r g k. search rules))))
    (dedup_is _ _ _ c.dedup.ensures.filtered)
