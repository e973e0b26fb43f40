-- The hands of a pool in the order of their numbers.
use Rattle.std.proofs.Common.{◌≡◌, ◌≢◌, ℕ, suc, List, [], ◌∷◌, ◌++◌, length, take, drop, Some, sym, ap, ◌∙◌, subst, ⊎_elim, arith}
use Rattle.std.specs.Prelude.{slice_get}
use Rattle.pool.specs.Hands.{HandView}
use Rattle.std.proofs.lemmas.List.{length-map}
use Rattle.theory.specs.Ledger.{Ledger}
use Rattle.pool.specs.Pools.{PoolView, roots_of, AreAllOf, AreLedgersOf}
use Rattle.pool.specs.Closing.{HasNumberFrom, AreAtNumbers, IsAmong, AreNumbered}
use Rattle.pool.proofs.ListPlaces.{slice_get_snoc, slice_get_removed, slice_get_was, same_places, slice_get_unmap}
use Rattle.pool.proofs.Closings.{ledgers_in}

-- the hand of the number n is taken out from the place p: the others are still there
pub still_there : (hands : List HandView) (p n k : ℕ) (x : HandView) → slice_get hands p ≡ Some x → x.number ≡ n → k ≢ n → HasNumberFrom hands 0 k → HasNumberFrom (take p hands ++ drop (suc p) hands) 0 k
still_there hands p n k x at is other there =
    let moved = slice_get_removed hands p there.0 there.1 there.3 (λ q. other (apart q)) in
    (moved.0, there.1, omega arith, moved.1, there.4)
  where
    apart : there.0 ≡ p → k ≡ n
    apart q = let same : there.1 ≡ x = some_is there.1 x (sym there.3 ∙ ap (slice_get hands) q ∙ at) in sym there.4 ∙ ap (λ (h : HandView). h.number) same ∙ is
      where
        some_is : (s t : HandView) → Some s ≡ Some t → s ≡ t
        some_is s t e = cc

pub was_among : (hands : List HandView) (p : ℕ) (h : HandView) → IsAmong (take p hands ++ drop (suc p) hands) h → IsAmong hands h
was_among hands p h a = slice_get_was hands p a.0 h a.1

-- it goes to the place of its number
pub one_more : (hands sorted : List HandView) (h : HandView) → h.number ≡ length sorted → IsAmong hands h → AreAtNumbers hands sorted → AreAtNumbers hands (sorted ++ h ∷ [])
one_more hands sorted h is among all number u e = ⊎_elim (all number u)
    (λ (p : (number ≡ length sorted) × (h ≡ u)). (ap (λ (v : HandView). v.number) (sym p.1) ∙ is ∙ sym p.0, subst (IsAmong hands) p.1 among))
    (slice_get_snoc sorted h u number e)

-- the hands of a pool, in the order of their numbers
pub numbered : (pool : PoolView) (hands sorted : List HandView) → AreAllOf pool hands → AreAtNumbers hands sorted → length sorted ≡ length hands → AreNumbered pool.table sorted
numbered pool hands sorted all at len number h there =
    let a = at number h there in
    let is = all.of_pool a.1.0 h a.1.1 in
    (a.0, is.0 ∙ sym all.as_many ∙ sym len, is.1)

pub one_list : (pool : PoolView) (hands sorted : List HandView) (all : AreAllOf pool hands) → AreAtNumbers hands sorted → (number : ℕ) (h : HandView) → slice_get sorted number ≡ Some h → h.deques ≡ all.deques
one_list pool hands sorted all at number h there = let a = at number h there in (all.of_pool a.1.0 h a.1.1).2

pub all_rooted : (pool : PoolView) (hands sorted : List HandView) → AreAllOf pool hands → AreAtNumbers hands sorted → (number : ℕ) (h : HandView) → slice_get sorted number ≡ Some h → h.roots ≡ roots_of pool.root h.number
all_rooted pool hands sorted all at number h there = let a = at number h there in (all.of_pool a.1.0 h a.1.1).3

-- the ledgers by number are those of the hands in that order
pub ledgers_same : (hands sorted : List HandView) (ledgers : List Ledger) → AreLedgersOf hands ledgers → AreAtNumbers hands sorted → length sorted ≡ length hands → ledgers ≡ ledgers_in sorted
ledgers_same hands sorted ledgers are at len = same_places ledgers (ledgers_in sorted) (are.as_many ∙ sym len ∙ sym (length-map sorted (λ (h : HandView). h.ledger)))
    (λ i l there.
    let v = slice_get_unmap (λ (h : HandView). h.ledger) sorted i l there in
    let a = at i v.0 v.1 in
    ap (slice_get ledgers) (sym a.0) ∙ are.each a.1.0 v.0 a.1.1 ∙ ap Some v.2)
