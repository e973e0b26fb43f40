-- What a merge takes next, and what it comes to where both lists are numbers of clauses.
use Rattle.std.proofs.Common.{◌≡◌, ℕ, ◌+◌, ◌<◌, ◌≤◌, nat_lt, Bool, true, false, ◌&&◌, ◌||◌, List, [], ◌∷◌, length, drop, slice_index, refl, ap, sym, ◌∙◌, Option, Contains, All, arith, if◌then◌else◌}
use Rattle.std.proofs.lemmas.List.{at_drop_more, at_drop_all}
use Rattle.std.proofs.lemmas.Bool.{lt-ltb, le-ltb}
use Rattle.std.proofs.lemmas.List.Elements.{All-head, All-tail}
use Rattle.theory.specs.Literals.{Clause}
use Rattle.theory.proofs.literals.Membership.{Contains-here}
use Rattle.simplify.specs.Entries.{Entries, passes, numbers_in}
use Rattle.simplify.specs.MergedLists.{merged_behind, merged}
use Rattle.simplify.proofs.EntryNumbers.{numbers-at}

pub merged-none : (ms : List ℕ) → merged ms [] ≡ ms
merged-none [] = refl
merged-none (m ∷ ms) = refl

-- the first of the left one, where the right one is at its end
pub merged-left_alone : (ms ns : List ℕ) (i j : ℕ) → i < length ms → length ns ≤ j → merged (drop i ms) (drop j ns) ≡ slice_index ms i ∷ merged (drop (i + 1) ms) (drop j ns)
merged-left_alone ms ns i j below end =
    at_drop_all (λ rest. merged (drop i ms) rest) ns j end
    ∙ (merged-none (drop i ms) ∙ (at_drop_more (λ rest. rest) ms i 0 below
    ∙ (ap (λ rest. slice_index ms i ∷ rest) (sym (merged-none (drop (i + 1) ms)))
    ∙ sym (at_drop_all (λ rest. slice_index ms i ∷ merged (drop (i + 1) ms) rest) ns j end))))

heads : (ms ns : List ℕ) (i j : ℕ) → i < length ms → j < length ns
    → merged (drop i ms) (drop j ns) ≡ (if nat_lt (slice_index ms i) (slice_index ns j) then slice_index ms i ∷ merged (drop (i + 1) ms) (slice_index ns j ∷ drop (j + 1) ns)
    else slice_index ns j ∷ merged (slice_index ms i ∷ drop (i + 1) ms) (drop (j + 1) ns))
heads ms ns i j below there =
    at_drop_more (λ rest. merged rest (drop j ns)) ms i 0 below
    ∙ at_drop_more (λ rest. merged (slice_index ms i ∷ drop (i + 1) ms) rest) ns j 0 there

-- or has a greater one
pub merged-left : (ms ns : List ℕ) (i j : ℕ) → i < length ms → j < length ns → slice_index ms i < slice_index ns j
    → merged (drop i ms) (drop j ns) ≡ slice_index ms i ∷ merged (drop (i + 1) ms) (drop j ns)
merged-left ms ns i j below there less =
    heads ms ns i j below there
    ∙ (ap (λ b. if b then slice_index ms i ∷ merged (drop (i + 1) ms) (slice_index ns j ∷ drop (j + 1) ns) else slice_index ns j ∷ merged (slice_index ms i ∷ drop (i + 1) ms) (drop (j + 1) ns)) (lt-ltb (slice_index ms i) (slice_index ns j) less)
    ∙ sym (at_drop_more (λ rest. slice_index ms i ∷ merged (drop (i + 1) ms) rest) ns j 0 there))

-- the first of the right one, where the left one has none that is less
pub merged-right : (ms ns : List ℕ) (i j : ℕ) → i < length ms → j < length ns → slice_index ns j ≤ slice_index ms i
    → merged (drop i ms) (drop j ns) ≡ slice_index ns j ∷ merged (drop i ms) (drop (j + 1) ns)
merged-right ms ns i j below there least =
    heads ms ns i j below there
    ∙ (ap (λ b. if b then slice_index ms i ∷ merged (drop (i + 1) ms) (slice_index ns j ∷ drop (j + 1) ns) else slice_index ns j ∷ merged (slice_index ms i ∷ drop (i + 1) ms) (drop (j + 1) ns)) (le-ltb (slice_index ms i) (slice_index ns j) least)
    ∙ sym (at_drop_more (λ rest. slice_index ns j ∷ merged rest (drop (j + 1) ns)) ms i 0 below))

-- so are the numbers of the clauses that pass one test or another, where none passes both
first-left : (n : ℕ) (ms ns : List ℕ) → ((k : ℕ) → Contains ns k → n < k) → merged (n ∷ ms) ns ≡ n ∷ merged ms ns
first-left n ms [] h = ap (λ rest. n ∷ rest) (sym (merged-none ms))
first-left n ms (k ∷ ns) h = ap (λ b. if b then n ∷ merged ms (k ∷ ns) else k ∷ merged_behind n ms (merged ms) ns) (lt-ltb n k (h k (Contains-here k ns)))

first-right : (n : ℕ) (ms ns : List ℕ) → ((k : ℕ) → Contains ms k → n < k) → merged ms (n ∷ ns) ≡ n ∷ merged ms ns
first-right n [] ns h = refl
first-right n (k ∷ ms) ns h = ap (λ b. if b then k ∷ merged ms (n ∷ ns) else n ∷ merged (k ∷ ms) ns) (le-ltb k n (let low = h k (Contains-here k ms) in omega arith))

above : (p : Clause → Bool) (n : ℕ) (K : Entries) (k : ℕ) → Contains (numbers_in p (n + 1) K) k → n < k
above p n K k c = let low = (numbers-at p (n + 1) K k c).0 in omega arith

pub merged-numbers : (p q r : Clause → Bool) (n : ℕ) (K : Entries) → All (λ e. (passes r e ≡ (passes p e || passes q e)) × ((passes p e && passes q e) ≡ false)) K
    → merged (numbers_in p n K) (numbers_in q n K) ≡ numbers_in r n K
merged-numbers p q r n [] h = refl
merged-numbers p q r n (e ∷ K) h = go (passes p e) (passes q e) (here.0) here.1 (merged-numbers p q r (n + 1) K (All-tail Fits e K h))
  where
    Fits : Option Clause → Type 0
    Fits e = (passes r e ≡ (passes p e || passes q e)) × ((passes p e && passes q e) ≡ false)

    here : Fits e
    here = All-head Fits e K h

    go : (a b : Bool) → passes r e ≡ (a || b) → (a && b) ≡ false → merged (numbers_in p (n + 1) K) (numbers_in q (n + 1) K) ≡ numbers_in r (n + 1) K
        → merged (if a then n ∷ numbers_in p (n + 1) K else numbers_in p (n + 1) K) (if b then n ∷ numbers_in q (n + 1) K else numbers_in q (n + 1) K)
        ≡ (if passes r e then n ∷ numbers_in r (n + 1) K else numbers_in r (n + 1) K)
    go true true f g more = absurd (cc)
    go true false f g more =
        first-left n (numbers_in p (n + 1) K) (numbers_in q (n + 1) K) (above q n K)
        ∙ (ap (λ rest. n ∷ rest) more ∙ ap (λ c. if c then n ∷ numbers_in r (n + 1) K else numbers_in r (n + 1) K) (sym f))
    go false true f g more =
        first-right n (numbers_in p (n + 1) K) (numbers_in q (n + 1) K) (above p n K)
        ∙ (ap (λ rest. n ∷ rest) more ∙ ap (λ c. if c then n ∷ numbers_in r (n + 1) K else numbers_in r (n + 1) K) (sym f))
    go false false f g more = more ∙ ap (λ c. if c then n ∷ numbers_in r (n + 1) K else numbers_in r (n + 1) K) (sym f)
