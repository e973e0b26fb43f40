-- A tree of keys: a node or a leaf is written, and the root has the least key.
use Rattle.std.proofs.Common.{◌≡◌, ◌≢◌, ℕ, zero, suc, ◌+◌, ◌*◌, ◌/◌, ◌%◌, ◌<◌, ◌≤◌, min, inl, inr, List, length, slice_index, slice_set, refl, ap, sym, ◌∙◌, subst, arith}
use Rattle.std.proofs.lemmas.Bool.{cases_eq, cases_lt}
use Rattle.std.proofs.lemmas.List.{get_or-set_same, get_or-set_other, length-set}
use Rattle.simplify.specs.LeastKeys.{IsLesser, AreLesserBut, AreSameLeaves}

-- a place that is written, and one that isn't
same-place : (T : List ℕ) (i k x : ℕ) → k ≡ i → i < length T → slice_index (slice_set T i x) k ≡ x
same-place T i k x e inside = ap (slice_index (slice_set T i x)) e ∙ get_or-set_same T i x 0 inside

other-place : (T : List ℕ) (i k x : ℕ) → k ≢ i → slice_index (slice_set T i x) k ≡ slice_index T k
other-place T i k x ne = get_or-set_other T i k x 0 ne

IsLesser-here : (T : List ℕ) (p x : ℕ) → 1 ≤ p → p < length T → x ≡ min (slice_index T (2 * p)) (slice_index T (2 * p + 1)) → IsLesser (slice_set T p x) p
IsLesser-here T p x low inside e =
    same-place T p p x refl inside ∙ (e ∙ sym ((λ j. min (other-place T p (2 * p) x (λ f. omega arith) j) (other-place T p (2 * p + 1) x (λ f. omega arith) j))))

IsLesser-there : (T : List ℕ) (p x i : ℕ) → i ≢ p → 2 * i ≢ p → 2 * i + 1 ≢ p → IsLesser T i → IsLesser (slice_set T p x) i
IsLesser-there T p x i ne left right h =
    other-place T p i x ne ∙ (h ∙ sym ((λ j. min (other-place T p (2 * i) x left j) (other-place T p (2 * i + 1) x right j))))

-- the node of a path is written
pub AreLesserBut-written : (T : List ℕ) (p x : ℕ) → 1 ≤ p → p < length T → AreLesserBut T p → x ≡ min (slice_index T (2 * p)) (slice_index T (2 * p + 1)) → AreLesserBut (slice_set T p x) (p / 2)
AreLesserBut-written T p x low inside h e i some less ne =
    let same = length-set T p x in
    elim (cases_eq i p) [
      | inl here ↦ subst (IsLesser (slice_set T p x)) (sym here) (IsLesser-here T p x low inside e)
      | inr other ↦ IsLesser-there T p x i other (λ f. ne (omega arith)) (λ f. ne (omega arith)) (h i some (omega arith) other)
    ]

-- a leaf is written
pub AreLesserBut-leaf : (T : List ℕ) (p x : ℕ) → length T ≤ 2 * p → AreLesserBut T 0 → AreLesserBut (slice_set T p x) (p / 2)
AreLesserBut-leaf T p x leaf h i some less ne =
    let same = length-set T p x in
    IsLesser-there T p x i (λ f. omega arith) (λ f. ne (omega arith)) (λ f. ne (omega arith)) (h i some (omega arith) (λ f. omega arith))

-- a node that has its key already
pub AreLesserBut-stays : (T : List ℕ) (p x : ℕ) → AreLesserBut T p → x ≡ min (slice_index T (2 * p)) (slice_index T (2 * p + 1)) → slice_index T p ≡ x → AreLesserBut T 0
AreLesserBut-stays T p x h e f i some less ne = elim (cases_eq i p) [
  | inl here ↦ subst (IsLesser T) (sym here) (f ∙ e)
  | inr other ↦ h i some less other
]

-- the nodes from this one on
pub lesser-from : (T : List ℕ) (p x : ℕ) → 1 ≤ p → p < length T → x ≡ min (slice_index T (2 * p)) (slice_index T (2 * p + 1))
    → ((i : ℕ) → 1 ≤ i → p + 1 ≤ i → 2 * i + 1 < length T → IsLesser T i) → (i : ℕ) → 1 ≤ i → p ≤ i → 2 * i + 1 < length (slice_set T p x) → IsLesser (slice_set T p x) i
lesser-from T p x low inside e more i some from less =
    let same = length-set T p x in
    elim (cases_eq i p) [
      | inl here ↦ subst (IsLesser (slice_set T p x)) (sym here) (IsLesser-here T p x low inside e)
      | inr other ↦ IsLesser-there T p x i other (λ f. omega arith) (λ f. omega arith) (more i some (omega arith) (omega arith))
    ]

pub AreSameLeaves-node : (S T : List ℕ) (p x : ℕ) → 2 * p < length T → AreSameLeaves S T → AreSameLeaves S (slice_set T p x)
AreSameLeaves-node S T p x node h =
    let same = length-set T p x in
    let long = h.0 in
    (omega arith, λ k low. other-place T p k x (λ f. omega arith) ∙ h.1 k low)

-- the root has the least key
root-least-within : (fuel : ℕ) (T : List ℕ) (k : ℕ) → length T % 2 ≡ 0 → k ≤ fuel → 1 ≤ k → k < length T → AreLesserBut T 0 → slice_index T 1 ≤ slice_index T k
root-least-within zero T k even f some less h = absurd (omega arith)
root-least-within (suc fuel) T k even f some less h = elim (cases_lt 1 k) [
  | inl more ↦ (
      let above = root-least-within fuel T (k / 2) even (omega arith) (omega arith) (omega arith) h in
      let lesser = h (k / 2) (omega arith) (omega arith) (λ e. omega arith) in
      elim (cases_eq k (2 * (k / 2))) [
        | inl left ↦ (let at : slice_index T k ≡ slice_index T (2 * (k / 2)) = ap (slice_index T) left in omega arith)
        | inr right ↦ (let is : k ≡ 2 * (k / 2) + 1 = omega arith in let at : slice_index T k ≡ slice_index T (2 * (k / 2) + 1) = ap (slice_index T) is in omega arith)
      ])
  | inr least ↦ (let is : k ≡ 1 = omega arith in let at : slice_index T k ≡ slice_index T 1 = ap (slice_index T) is in omega arith)
]

pub root-least : (T : List ℕ) (k : ℕ) → length T % 2 ≡ 0 → 1 ≤ k → k < length T → AreLesserBut T 0 → slice_index T 1 ≤ slice_index T k
root-least T k even some less h = root-least-within k T k even (omega arith) some less h

-- the key of a node is that of a leaf
pub record IsLeafWith (T : List ℕ) (x : ℕ) : Type 0 where
  pub place : ℕ
  pub low : length T ≤ 2 * place
  pub high : place < length T
  pub key : slice_index T place ≡ x

node-from-leaf : (fuel : ℕ) (T : List ℕ) (k : ℕ) → length T % 2 ≡ 0 → length T ≤ k + fuel → 1 ≤ k → k < length T → AreLesserBut T 0 → IsLeafWith T (slice_index T k)
node-from-leaf zero T k even f some less h = absurd (omega arith)
node-from-leaf (suc fuel) T k even f some less h = elim (cases_lt (2 * k) (length T)) [
  | inr leaf ↦ record { place = k; low = leaf; high = less; key = refl }
  | inl node ↦ (
      let lesser = h k some (omega arith) (λ e. omega arith) in
      elim (cases_lt (slice_index T (2 * k)) (slice_index T (2 * k + 1))) [
        | inl left ↦ (let is : slice_index T (2 * k) ≡ slice_index T k = omega arith in subst (IsLeafWith T) is (node-from-leaf fuel T (2 * k) even (omega arith) (omega arith) (omega arith) h))
        | inr right ↦ (let is : slice_index T (2 * k + 1) ≡ slice_index T k = omega arith in subst (IsLeafWith T) is (node-from-leaf fuel T (2 * k + 1) even (omega arith) (omega arith) (omega arith) h))
      ])
]

pub root-from_leaf : (T : List ℕ) → length T % 2 ≡ 0 → 1 < length T → AreLesserBut T 0 → IsLeafWith T (slice_index T 1)
root-from_leaf T even some h = node-from-leaf (length T) T 1 even (omega arith) (omega arith) some h
