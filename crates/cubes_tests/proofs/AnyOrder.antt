-- The hands of a pool are all its hands in whatever order they stand.
use Rattle.std.proofs.Common.{List, IsPermutation, ◌∙◌}
use Rattle.std.proofs.lemmas.List.Sorted.{IsPermutation-sym, length_permutation, Contains-permutation}
use Rattle.theory.proofs.literals.Membership.{Contains-slice_get, slice_get-Contains}
use Rattle.pool.specs.Hands.{HandView}
use Rattle.pool.specs.Pools.{PoolView, AreAllOf}

pub all-in_any_order : (pool : PoolView) (hands others : List HandView) → IsPermutation hands others → AreAllOf pool hands → AreAllOf pool others
all-in_any_order pool hands others p all = record {
  deques = all.deques;
  of_pool = λ place h e.
      let at = slice_get-Contains hands h (Contains-permutation others hands h (IsPermutation-sym hands others p) (Contains-slice_get others place h e)) in
      all.of_pool at.0 h at.1;
  as_many = length_permutation hands others p ∙ all.as_many;
  each_number = λ number less.
      let there = all.each_number number less in
      let at = slice_get-Contains others there.1 (Contains-permutation hands others there.1 p (Contains-slice_get hands there.0 there.1 there.2)) in
      (at.0, there.1, at.1, there.3);
}
