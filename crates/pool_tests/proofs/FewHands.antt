-- Pools of one, two and four hands, as the tests have them.
use Rattle.std.proofs.Common.{◌≡◌, ℕ, zero, suc, ◌<◌, List, [], ◌∷◌, ◌++◌, length, get_or, take, drop, Some, refl, sym, ap, ◌∙◌, subst, arith}
use Rattle.std.specs.Prelude.{slice_get}
use Rattle.pool.specs.Hands.{HandView, SameHand}
use Rattle.pool.specs.Pools.{PoolView, roots_of, new_hand, IsHandOf, AreNew, AreAllOf, AreSameHands}
use Rattle.pool_tests.specs.FewHands.{IsOnly, IsPair}

-- one hand
pub one_of : (hands : List HandView) (a : HandView) → length hands ≡ 1 → a ≡ get_or hands 0 a → hands ≡ a ∷ []
one_of [] a len p = absurd (omega arith)
one_of (x ∷ []) a len p = λ i. sym p i ∷ []
one_of (x ∷ y ∷ hands) a len p = absurd (omega arith)

pub all_of_one : (pool : PoolView) (a : HandView) → IsOnly pool a → AreAllOf pool (a ∷ [])
all_of_one pool a h = record {
  deques = a.deques;
  of_pool = of_pool;
  as_many = sym h.0;
  each_number = each_number;
}
  where
    of_pool : (place : ℕ) (b : HandView) → slice_get (a ∷ []) place ≡ Some b → IsHandOf pool a.deques b
    of_pool zero b e = let q : a ≡ b = cc in subst (IsHandOf pool a.deques) q (h.2 ∙ sym h.0, h.3, refl, h.4 ∙ ap (roots_of pool.root) (sym h.1))
    of_pool (suc place) b e = absurd (cc)

    each_number : (number : ℕ) → number < pool.hands → (place : ℕ) × (b : HandView) × (slice_get (a ∷ []) place ≡ Some b) × (b.number ≡ number)
    each_number zero lt = (0, a, refl, h.1)
    each_number (suc number) lt = absurd (let n = h.0 in omega arith)

-- two hands, in the other order
pub two_of : (hands : List HandView) (a b : HandView) → length hands ≡ 2 → b ≡ get_or hands 1 b → a ≡ get_or (take 1 hands ++ drop 2 hands) 0 a → hands ≡ a ∷ b ∷ []
two_of [] a b len p q = absurd (omega arith)
two_of (x ∷ []) a b len p q = absurd (omega arith)
two_of (x ∷ y ∷ []) a b len p q = λ i. sym q i ∷ sym p i ∷ []
two_of (x ∷ y ∷ z ∷ hands) a b len p q = absurd (omega arith)

pub all_of_two : (pool : PoolView) (a b : HandView) → IsPair pool a b → AreAllOf pool (b ∷ a ∷ [])
all_of_two pool a b h = record {
  deques = a.deques;
  of_pool = of_pool;
  as_many = sym h.0;
  each_number = each_number;
}
  where
    of_pool : (place : ℕ) (c : HandView) → slice_get (b ∷ a ∷ []) place ≡ Some c → IsHandOf pool a.deques c
    of_pool zero c e = let q : b ≡ c = cc in subst (IsHandOf pool a.deques) q (h.4 ∙ sym h.0, h.6, h.7, h.9 ∙ ap (roots_of pool.root) (sym h.2))
    of_pool (suc zero) c e = let q : a ≡ c = cc in subst (IsHandOf pool a.deques) q (h.3 ∙ sym h.0, h.5, refl, h.8 ∙ ap (roots_of pool.root) (sym h.1))
    of_pool (suc (suc place)) c e = absurd (cc)

    each_number : (number : ℕ) → number < pool.hands → (place : ℕ) × (c : HandView) × (slice_get (b ∷ a ∷ []) place ≡ Some c) × (c.number ≡ number)
    each_number zero lt = (1, a, refl, h.1)
    each_number (suc zero) lt = (0, b, refl, h.2)
    each_number (suc (suc number)) lt = absurd (let n = h.0 in omega arith)

pub first_is : (pool : PoolView) (vars : ℕ) (hands : List HandView) (a : HandView) → pool.hands ≡ 1 → AreNew pool vars hands → hands ≡ a ∷ [] → IsOnly pool a
first_is pool vars hands a one opened all =
    let is : a ≡ new_hand pool vars opened.deques 0 = opened.each 0 a (ap (λ (l : List HandView). slice_get l 0) all) in
    (one, ap (λ (h : HandView). h.number) is, ap (λ (h : HandView). h.hands) is ∙ one, ap (λ (h : HandView). h.table) is, ap (λ (h : HandView). h.roots) is)

pub pair_is : (pool : PoolView) (vars : ℕ) (hands : List HandView) (a b : HandView) → pool.hands ≡ 2 → AreNew pool vars hands → hands ≡ a ∷ b ∷ [] → IsPair pool a b
pair_is pool vars hands a b two opened all =
    let p : a ≡ new_hand pool vars opened.deques 0 = opened.each 0 a (ap (λ (l : List HandView). slice_get l 0) all) in
    let q : b ≡ new_hand pool vars opened.deques 1 = opened.each 1 b (ap (λ (l : List HandView). slice_get l 1) all) in (
      two,
      ap (λ (h : HandView). h.number) p,
      ap (λ (h : HandView). h.number) q,
      ap (λ (h : HandView). h.hands) p ∙ two,
      ap (λ (h : HandView). h.hands) q ∙ two,
      ap (λ (h : HandView). h.table) p,
      ap (λ (h : HandView). h.table) q,
      ap (λ (h : HandView). h.deques) q ∙ sym (ap (λ (h : HandView). h.deques) p),
      ap (λ (h : HandView). h.roots) p,
      ap (λ (h : HandView). h.roots) q,
    )

-- four hands
pub four_of : (hands : List HandView) (a b c d : HandView) → length hands ≡ 4 → d ≡ get_or hands 3 d → c ≡ get_or (take 3 hands ++ drop 4 hands) 2 c
    → b ≡ get_or (take 2 (take 3 hands ++ drop 4 hands) ++ drop 3 (take 3 hands ++ drop 4 hands)) 1 b
    → a ≡ get_or (take 1 (take 2 (take 3 hands ++ drop 4 hands) ++ drop 3 (take 3 hands ++ drop 4 hands)) ++ drop 2 (take 2 (take 3 hands ++ drop 4 hands) ++ drop 3 (take 3 hands ++ drop 4 hands))) 0 a
    → hands ≡ a ∷ b ∷ c ∷ d ∷ []
four_of [] a b c d len p q r s = absurd (omega arith)
four_of (w ∷ []) a b c d len p q r s = absurd (omega arith)
four_of (w ∷ x ∷ []) a b c d len p q r s = absurd (omega arith)
four_of (w ∷ x ∷ y ∷ []) a b c d len p q r s = absurd (omega arith)
four_of (w ∷ x ∷ y ∷ z ∷ []) a b c d len p q r s = λ i. sym s i ∷ sym r i ∷ sym q i ∷ sym p i ∷ []
four_of (v ∷ w ∷ x ∷ y ∷ z ∷ hands) a b c d len p q r s = absurd (omega arith)

pub same_four : (a b c d e f g h : HandView) → SameHand a e → SameHand b f → SameHand c g → SameHand d h → AreSameHands (a ∷ b ∷ c ∷ d ∷ []) (e ∷ f ∷ g ∷ h ∷ [])
same_four a b c d e f g h p q r s = (refl, same)
  where
    known : (x y u v : HandView) → Some x ≡ Some u → Some y ≡ Some v → SameHand x y → SameHand u v
    known x y u v i j k = let m : x ≡ u = cc in let n : y ≡ v = cc in subst (λ (z : HandView). SameHand z v) m (subst (SameHand x) n k)

    same : (place : ℕ) (u v : HandView) → slice_get (a ∷ b ∷ c ∷ d ∷ []) place ≡ Some u → slice_get (e ∷ f ∷ g ∷ h ∷ []) place ≡ Some v → SameHand u v
    same zero u v i j = known a e u v i j p
    same (suc zero) u v i j = known b f u v i j q
    same (suc (suc zero)) u v i j = known c g u v i j r
    same (suc (suc (suc zero))) u v i j = known d h u v i j s
    same (suc (suc (suc (suc place)))) u v i j = absurd (cc)
