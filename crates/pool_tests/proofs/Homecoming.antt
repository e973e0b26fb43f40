-- The hands of a pool that come home are still all of it.
use Rattle.std.proofs.Common.{◌≡◌, ℕ, ◌<◌, List, length, map, Some, refl, sym, ap, ◌∙◌, subst, arith}
use Rattle.std.specs.Prelude.{slice_get}
use Rattle.std.proofs.lemmas.List.{length-map}
use Rattle.std.proofs.lemmas.Option.{slice_get_within}
use Rattle.pool.specs.Ends.{DequeId}
use Rattle.pool.specs.Hands.{HandView, SameHand}
use Rattle.pool.specs.Pools.{PoolView, roots_of, new_hand, IsHandOf, AreNew, AreAllOf, AreSameHands, AreLedgersOf}
use Rattle.pool.proofs.ListPlaces.{slice_get_some, slice_get_map}

-- a hand that is still the same is one of the pool
still_of : (pool : PoolView) (vars : ℕ) (deques : List DequeId) (number : ℕ) (a b : HandView) → a ≡ new_hand pool vars deques number → SameHand a b → (b.number ≡ number) × IsHandOf pool deques b
still_of pool vars deques number a b is same =
    let number_is : b.number ≡ number = same.0 ∙ ap (λ (h : HandView). h.number) is in (
      number_is,
      (same.1 ∙ ap (λ (h : HandView). h.hands) is, same.4 ∙ ap (λ (h : HandView). h.table) is, same.3 ∙ ap (λ (h : HandView). h.deques) is, same.5 ∙ ap (λ (h : HandView). h.roots) is ∙ ap (roots_of pool.root) (sym number_is)),
    )

-- the hands that a pool was opened with, whatever they did since, are all of it
pub all_home : (pool : PoolView) (vars : ℕ) (old new : List HandView) → AreNew pool vars old → AreSameHands old new → AreAllOf pool new
all_home pool vars old new opened same = record {
  deques = opened.deques;
  of_pool = λ place b there. (here place b there).1;
  as_many = same.0 ∙ opened.as_many;
  each_number = λ number lt. let b = slice_get_some new number (subst (λ (n : ℕ). number < n) (sym (same.0 ∙ opened.as_many)) lt) in (number, b.0, b.1, (here number b.0 b.1).0);
}
  where
    here : (place : ℕ) (b : HandView) → slice_get new place ≡ Some b → (b.number ≡ place) × IsHandOf pool opened.deques b
    here place b there =
        let a = slice_get_some old place (subst (λ (n : ℕ). place < n) same.0 (slice_get_within new place b there)) in
        still_of pool vars opened.deques place a.0 b (opened.each place a.0 a.1) (same.1 place a.0 b a.1 there)

pub all_new : (pool : PoolView) (vars : ℕ) (hands : List HandView) → AreNew pool vars hands → AreAllOf pool hands
all_new pool vars hands opened = all_home pool vars hands hands opened (refl, λ place a b p q. same a b (some_is a b (sym p ∙ q)))
  where
    some_is : (s t : HandView) → Some s ≡ Some t → s ≡ t
    some_is s t e = cc

    same : (a b : HandView) → a ≡ b → SameHand a b
    same a b e = (ap (λ (h : HandView). h.number) (sym e), ap (λ (h : HandView). h.hands) (sym e), ap (λ (h : HandView). h.vars) (sym e), ap (λ (h : HandView). h.deques) (sym e), ap (λ (h : HandView). h.table) (sym e), ap (λ (h : HandView). h.roots) (sym e))

-- the ledgers of hands that stand in the order of their numbers
pub ledgers_in_order : (hands : List HandView) → ((number : ℕ) (h : HandView) → slice_get hands number ≡ Some h → h.number ≡ number) → AreLedgersOf hands (map (λ h. h.ledger) hands)
ledgers_in_order hands at = record {
  as_many = length-map hands (λ h. h.ledger);
  each = λ place h there. ap (slice_get (map (λ h. h.ledger) hands)) (at place h there) ∙ slice_get_map (λ h. h.ledger) hands place h there;
}

-- the hands that a pool was opened with stand so, whatever they did since
pub still_numbered : (pool : PoolView) (vars : ℕ) (old new : List HandView) → AreNew pool vars old → AreSameHands old new → (number : ℕ) (h : HandView) → slice_get new number ≡ Some h → h.number ≡ number
still_numbered pool vars old new opened same number h there =
    let a = slice_get_some old number (subst (λ (n : ℕ). number < n) same.0 (slice_get_within new number h there)) in
    (still_of pool vars opened.deques number a.0 h (opened.each number a.0 a.1) (same.1 number a.0 h a.1 there)).0
