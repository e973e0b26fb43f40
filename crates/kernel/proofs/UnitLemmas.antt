-- Numbers that wait in a queue by rising size and in a heap.
use Rattle.std.proofs.Common.{◌≡◌, ℕ, ◌+◌, ◌≤◌, ◌<◌, false, List, [], ◌∷◌, ◌++◌, map, drop, length, get_or, All, nat_lt, Option, Some, None, IfSome, sym, subst, ap, arith, append_assoc, ◌-◌, ◌⊎◌, inl, inr}
use Rattle.std.specs.List.{AllByRecursion, Contains, slice_index}
use Rattle.std.specs.List.Sorted.{IsPermutation}
use Rattle.std.specs.Ordering.{is_lt, nat_cmp}
use Rattle.std.specs.declared.cmp.Reverse.{Reverse}
use Rattle.std.proofs.lemmas.Bool.{cases_lt, ltb-false}
use Rattle.std.proofs.lemmas.List.{get_or_append_left, get_or_push, get_or-drop, length-drop, length_push}
use Rattle.std.proofs.lemmas.List.Elements.{All-from_recursion, All-append, All-weaker}
use Rattle.std.proofs.lemmas.List.Sorted.{IsPermutation-trans, IsPermutation-sym, IsPermutation-middle, IsPermutation-append_right, IsPermutation-append_left}
use Rattle.std.proofs.lemmas.Map.Keys.{ge_from_not_lt}
use Rattle.kernel.specs.Waiting.{NeverFallsFrom}

-- what the greatest of reversed numbers is
none-below : (x : ℕ) (xs : List (Reverse ℕ)) → AllByRecursion (λ y. is_lt (nat_cmp y.0 x) ≡ false) xs → AllByRecursion (λ m. x ≤ m) (map (λ r. r.0) xs)
none-below x [] h = tt
none-below x (y ∷ xs) h = (ge_from_not_lt y.0 x h.0, none-below x xs h.1)

pub All-not_below : (x : ℕ) (xs : List (Reverse ℕ)) → AllByRecursion (λ y. is_lt (nat_cmp y.0 x) ≡ false) xs → All (λ m. x ≤ m) (map (λ r. r.0) xs)
All-not_below x xs h = All-from_recursion (λ m. x ≤ m) (map (λ r. r.0) xs) (none-below x xs h)

-- what is at the top of a heap stands in it
pub top-there : {X : Type 0} (xs : List (Reverse X)) (x : Reverse X) → 0 < length xs → x ≡ get_or xs 0 x → Contains (map (λ r. r.0) xs) x.0
top-there [] x h e = absurd (omega (arith, h))
top-there (y ∷ ys) x h e = (0, (let z : 0 < length (map (λ r. r.0) (y ∷ ys)) = omega arith in z), ap (λ r. r.0) (sym e))

-- a number at the end that is no less than those from a place on
pub rising-push : (head : ℕ) (ns : List ℕ) (n : ℕ) → head ≤ length ns → NeverFallsFrom head ns → All (λ m. m ≤ n) (drop head ns) → NeverFallsFrom head (ns ++ n ∷ [])
rising-push head ns n within rising all i j low le high = go (cases_lt j (length ns)) (cases_lt i (length ns))
  where
    long : length (ns ++ n ∷ []) ≡ length ns + 1
    long = length_push ns n

    old : (k : ℕ) → k < length ns → slice_index (ns ++ n ∷ []) k ≡ slice_index ns k
    old k h = get_or_append_left ns (n ∷ []) 0 k h

    new : (k : ℕ) → length ns ≡ k → slice_index (ns ++ n ∷ []) k ≡ n
    new k h = get_or_push ns n 0 k h

    below : (k d : ℕ) → k < length (drop head ns) → get_or ns (head + k) d ≤ n
    below k d h = subst (λ m. m ≤ n) (get_or-drop head ns k d) (all k d h)

    at_most : i < length ns → slice_index ns i ≤ n
    at_most h =
        let more : (k : ℕ) × (head + k ≡ i) = gap head i low in
        subst (λ m. slice_index ns m ≤ n) more.1 (below more.0 0 (let e = length-drop head ns in let f = more.1 in omega arith))
      where
        gap : (a b : ℕ) → a ≤ b → (k : ℕ) × (a + k ≡ b)
        gap a b h = (b - a, omega (arith, h))

    go : (j < length ns) ⊎ (length ns ≤ j) → (i < length ns) ⊎ (length ns ≤ i) → slice_index (ns ++ n ∷ []) i ≤ slice_index (ns ++ n ∷ []) j
    go (inl h) b = let k : i < length ns = omega (arith, le, h) in rw (old i k, old j h) (rising i j low le h)
    go (inr h) (inl k) = rw (old i k, new j (omega (arith, h, high, long))) (at_most k)
    go (inr h) (inr k) = rw (new i (omega (arith, k, le, high, long)), new j (omega (arith, h, high, long))) (omega arith)

-- one more in the queue, or in the heap
pub queued-units : {X : Type 0} (q h : List X) (n : X) → IsPermutation (n ∷ (q ++ h)) ((q ++ n ∷ []) ++ h)
queued-units q h n = subst (λ ns. IsPermutation (n ∷ (q ++ h)) ns) (sym (append_assoc q (n ∷ []) h)) (IsPermutation-sym (q ++ n ∷ h) (n ∷ (q ++ h)) (IsPermutation-middle q n h))

pub heaped-units : {X : Type 0} (q h u : List X) (n : X) → IsPermutation (n ∷ h) u → IsPermutation (n ∷ (q ++ h)) (q ++ u)
heaped-units q h u n p =
    IsPermutation-trans (n ∷ (q ++ h)) (q ++ n ∷ h) (q ++ u) (IsPermutation-sym (q ++ n ∷ h) (n ∷ (q ++ h)) (IsPermutation-middle q n h)) (IsPermutation-append_right q (n ∷ h) u p)

-- one taken out of the heap
unheaped-units : {X : Type 0} (q h u : List X) (n : X) → IsPermutation h (n ∷ u) → IsPermutation (q ++ h) (n ∷ (q ++ u))
unheaped-units q h u n p = IsPermutation-trans (q ++ h) (q ++ n ∷ u) (n ∷ (q ++ u)) (IsPermutation-append_right q h (n ∷ u) p) (IsPermutation-middle q n u)

-- a number that stands in the heap and is less than those of the queue
pub least-unheaped : (o : Option ℕ) (q h : List ℕ) (m first : ℕ) → Contains h m → m < first → All (λ k. first ≤ k) q → IfSome o (λ n. All (λ k. n ≤ k) h) → IfSome o (λ n. All (λ k. n ≤ k) (q ++ h))
least-unheaped None q h m first there less queue all = tt
least-unheaped (Some n) q h m first there less queue all =
    let here : n ≤ m = subst (λ k. n ≤ k) there.2 (all there.0 m there.1) in
    All-append (λ k. n ≤ k) q h (All-weaker (λ k. first ≤ k) (λ k. n ≤ k) (λ k f. omega (arith, f, less, here)) q queue) all

pub taken-unheaped : {X : Type 0} (o : Option X) (q h u : List X) → IfSome o (λ n. IsPermutation h (n ∷ u)) → IfSome o (λ n. IsPermutation (q ++ h) (n ∷ (q ++ u)))
taken-unheaped None q h u p = tt
taken-unheaped (Some n) q h u p = unheaped-units q h u n p

-- no number of the heap is less than one that its least isn't less than
pub none-less : (number least : ℕ) (ns : List ℕ) → nat_lt least number ≡ false → All (λ k. least ≤ k) ns → All (λ k. number ≤ k) ns
none-less number least ns h all = let low = ltb-false least number h in All-weaker (λ k. least ≤ k) (λ k. number ≤ k) (λ k f. omega (arith, f, low)) ns all

-- one taken out of the queue, in whatever order the others stand then
pub taken-queued : {X : Type 0} (o : Option X) (q h u : List X) → IfSome o (λ n. IsPermutation q (n ∷ u)) → IfSome o (λ n. IsPermutation (q ++ h) (n ∷ (u ++ h)))
taken-queued None q h u p = tt
taken-queued (Some n) q h u p = IsPermutation-append_left h q (n ∷ u) p
