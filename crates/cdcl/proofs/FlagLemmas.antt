-- Numbers kept as flags: one comes, one goes, none is there.
use Rattle.std.proofs.Common.{◌≡◌, ℕ, zero, suc, ◌+◌, ◌-◌, ◌<◌, ◌≤◌, Bool, true, false, List, [], ◌∷◌, length, slice_set, slice_index_or, replicate, All, refl, ap, sym, ◌∙◌, arith, inl, inr}
use Rattle.std.specs.List.{AllByRecursion, Contains}
use Rattle.std.specs.List.Sorted.{IsPermutation}
use Rattle.std.proofs.lemmas.Bool.{cases_lt}
use Rattle.std.proofs.lemmas.List.{get_or-set_same, get_or-set_other, length-set}
use Rattle.std.proofs.lemmas.List.Elements.{All-from_recursion, All-contains}
use Rattle.std.proofs.lemmas.List.Sorted.{IsPermutation-refl, IsPermutation-sym, IsPermutation-trans, IsPermutation-cons, IsPermutation-middle, Contains-permutation}
use Rattle.theory.proofs.literals.LiteralLemmas.{true_or_false}
use Rattle.cdcl.specs.Flags.{flagged, AreWithin}

-- the first two exchanged
exchanged : (a n : ℕ) (xs : List ℕ) → IsPermutation (a ∷ n ∷ xs) (n ∷ a ∷ xs)
exchanged a n xs = IsPermutation-middle (a ∷ []) n xs

pub flagged-set : (n i : ℕ) (bs : List Bool) → i < length bs → slice_index_or bs i false ≡ false → IsPermutation ((n + i) ∷ flagged n bs) (flagged n (slice_set bs i true))
flagged-set n i [] inside h = absurd (omega (arith, inside))
flagged-set n zero (true ∷ bs) inside h = absurd (cc)
flagged-set n zero (false ∷ bs) inside h = let same : n + 0 ≡ n = omega arith in rw same (IsPermutation-refl (n ∷ flagged (suc n) bs))
flagged-set n (suc i) (false ∷ bs) inside h =
    let same : n + suc i ≡ suc n + i = omega arith in
    rw same (flagged-set (suc n) i bs (omega arith) h)
flagged-set n (suc i) (true ∷ bs) inside h =
    let same : n + suc i ≡ suc n + i = omega arith in
    rw same (IsPermutation-trans _ _ _ (exchanged (suc n + i) n (flagged (suc n) bs)) (IsPermutation-cons n _ _ (flagged-set (suc n) i bs (omega arith) h)))

pub flagged-unset : (n i : ℕ) (bs : List Bool) → i < length bs → slice_index_or bs i false ≡ true → IsPermutation (flagged n bs) ((n + i) ∷ flagged n (slice_set bs i false))
flagged-unset n i [] inside h = absurd (omega (arith, inside))
flagged-unset n zero (false ∷ bs) inside h = absurd (cc)
flagged-unset n zero (true ∷ bs) inside h = let same : n + 0 ≡ n = omega arith in rw same (IsPermutation-refl (n ∷ flagged (suc n) bs))
flagged-unset n (suc i) (false ∷ bs) inside h =
    let same : n + suc i ≡ suc n + i = omega arith in
    rw same (flagged-unset (suc n) i bs (omega arith) h)
flagged-unset n (suc i) (true ∷ bs) inside h =
    let same : n + suc i ≡ suc n + i = omega arith in
    rw same (IsPermutation-trans _ _ _ (IsPermutation-cons n _ _ (flagged-unset (suc n) i bs (omega arith) h)) (exchanged n (suc n + i) (flagged (suc n) (slice_set bs i false))))

pub flagged-none : (n : ℕ) (bs : List Bool) → ((i : ℕ) → slice_index_or bs i false ≡ false) → flagged n bs ≡ []
flagged-none n [] h = refl
flagged-none n (true ∷ bs) h = absurd (let e = h 0 in cc)
flagged-none n (false ∷ bs) h = flagged-none (suc n) bs (λ i. h (suc i))

-- no number whose flag is set is greater than the last such one
at_most : (n most : ℕ) (bs : List Bool) → ((i : ℕ) → slice_index_or bs i false ≡ true → n + i ≤ most) → AllByRecursion (λ m. m ≤ most) (flagged n bs)
at_most n most [] h = tt
at_most n most (true ∷ bs) h = ((let e = h 0 refl in omega arith), at_most (suc n) most bs (λ i a. (let e = h (suc i) a in omega arith)))
at_most n most (false ∷ bs) h = at_most (suc n) most bs (λ i a. (let e = h (suc i) a in omega arith))

pub flagged-most : (most : ℕ) (bs : List Bool) → ((i : ℕ) → slice_index_or bs i false ≡ true → i ≤ most) → All (λ m. m ≤ most) (flagged 0 bs)
flagged-most most bs h = All-from_recursion (λ m. m ≤ most) (flagged 0 bs) (at_most 0 most bs (λ i a. (let e = h i a in omega arith)))

pub put-flag : (i : ℕ) (bs : List Bool) → i < length bs → slice_index_or bs i false ≡ false → IsPermutation (i ∷ flagged 0 bs) (flagged 0 (slice_set bs i true))
put-flag i bs inside h = let same : 0 + i ≡ i = omega arith in rw same at (flagged-set 0 i bs inside h)

pub take-flag : (i : ℕ) (bs : List Bool) → i < length bs → slice_index_or bs i false ≡ true → IsPermutation (flagged 0 bs) (i ∷ flagged 0 (slice_set bs i false))
take-flag i bs inside h = let same : 0 + i ≡ i = omega arith in rw same at (flagged-unset 0 i bs inside h)

-- where no flag is set
pub flagged-replicate : (n count : ℕ) → flagged n (replicate count false) ≡ []
flagged-replicate n count = flagged-none n (replicate count false) (λ i. unset count i)
  where
    unset : (count i : ℕ) → slice_index_or (replicate count false) i false ≡ false
    unset zero i = refl
    unset (suc count) zero = refl
    unset (suc count) (suc i) = unset count i

-- the flags between `low` and `end`, of which none from `top` on is set
pub most-of : (low end top : ℕ) (bs : List Bool) → AreWithin low end bs → ((i : ℕ) → top ≤ i → i < end → slice_index_or bs i false ≡ false)
    → (i : ℕ) → slice_index_or bs i false ≡ true → (low ≤ i) × (i < top)
most-of low end top bs h none i a =
    let w = h.within i a in
    elim (cases_lt i top) [
      | inl less ↦ (w.0, less)
      | inr least ↦ (let f = none i least w.1 in absurd (cc))
    ]

pub AreWithin-lower : (low end top : ℕ) (bs : List Bool) → top ≤ end → AreWithin low end bs → ((i : ℕ) → top ≤ i → i < end → slice_index_or bs i false ≡ false) → AreWithin low top bs
AreWithin-lower low end top bs less h none = record {
  long = let l = h.long in omega arith;
  within = most-of low end top bs h none;
}

pub none-within : (low top : ℕ) (bs : List Bool) → AreWithin low top bs → top ≤ low → flagged 0 bs ≡ []
none-within low top bs h empty = flagged-none 0 bs (λ i. unset i)
  where
    unset : (i : ℕ) → slice_index_or bs i false ≡ false
    unset i = elim (true_or_false (slice_index_or bs i false)) [ inl a ↦ (let w = h.within i a in absurd (omega (arith, w.0, w.1, empty))) | inr f ↦ f ]

pub last-there : (i : ℕ) (bs : List Bool) → slice_index_or bs i false ≡ true → i < length bs → Contains (flagged 0 bs) i
last-there i bs h inside = Contains-permutation (i ∷ flagged 0 (slice_set bs i false)) (flagged 0 bs) i (IsPermutation-sym _ _ (take-flag i bs inside h)) (0, omega arith, refl)

-- what was found from the end: no flag behind is set, and the last one is, if any is
pub record IsFound (low top : ℕ) (bs : List Bool) : Type 0 where
  pub within : AreWithin low top bs
  pub last : low < top → slice_index_or bs (top - 1) false ≡ true

-- A is the list of flags as it was lent
pub found : (low end top : ℕ) (bs A : List Bool) → AreWithin low end bs → A ≡ bs → top ≤ end → ((i : ℕ) → top ≤ i → i < end → slice_index_or A i false ≡ false)
    → (low < top → slice_index_or A (top - 1) false ≡ true) → IsFound low top bs
found low end top bs A h lent less none last = record {
  within = AreWithin-lower low end top bs less h (λ i least more. ap (λ (b : List Bool). slice_index_or b i false) (sym lent) ∙ none i least more);
  last = λ some. ap (λ (b : List Bool). slice_index_or b (top - 1) false) (sym lent) ∙ last some;
}

pub found-there : (low top : ℕ) (bs : List Bool) → IsFound low top bs → low < top → Contains (flagged 0 bs) (top - 1)
found-there low top bs h some = let long = h.within.long in last-there (top - 1) bs (h.last some) (omega arith)

pub found-most : (low top : ℕ) (bs : List Bool) → IsFound low top bs → low < top → All (λ m. m ≤ top - 1) (flagged 0 bs)
found-most low top bs h some = flagged-most (top - 1) bs (λ i a. (let w = h.within.within i a in let less = w.1 in omega arith))

-- a place of the flags behind a first one, whose flag is set
abbrev SetAt : ℕ → List Bool → ℕ → Type 0
SetAt n bs m = (k : ℕ) × (m ≡ n + k) × (k < length bs) × (slice_index_or bs k false ≡ true)

behind-first : (n : ℕ) (b : Bool) (bs : List Bool) (xs : List ℕ) → AllByRecursion (SetAt (suc n) bs) xs → AllByRecursion (SetAt n (b ∷ bs)) xs
behind-first n b bs [] h = tt
behind-first n b bs (x ∷ xs) h = (let w = h.0 in (suc w.0, (let e = w.1 in omega arith), (let l = w.2 in omega arith), w.3), behind-first n b bs xs h.1)

all-set : (n : ℕ) (bs : List Bool) → AllByRecursion (SetAt n bs) (flagged n bs)
all-set n [] = tt
all-set n (true ∷ bs) = ((0, omega arith, omega arith, refl), behind-first n true bs (flagged (suc n) bs) (all-set (suc n) bs))
all-set n (false ∷ bs) = behind-first n false bs (flagged (suc n) bs) (all-set (suc n) bs)

-- the flag of a number that is in
pub flag-there : (bs : List Bool) (m : ℕ) → Contains (flagged 0 bs) m → (m < length bs) × (slice_index_or bs m false ≡ true)
flag-there bs m h =
    let w = All-contains (SetAt 0 bs) (flagged 0 bs) m (All-from_recursion (SetAt 0 bs) (flagged 0 bs) (all-set 0 bs)) h in
    let same : m ≡ w.0 = (let e = w.1 in omega arith) in
    rw same (w.2, w.3)

-- the greatest number goes
pub AreWithin-taken : (low top greatest : ℕ) (bs : List Bool) → AreWithin low top bs → greatest < length bs → All (λ m. m ≤ greatest) (flagged 0 bs)
    → AreWithin low greatest (slice_set bs greatest false)
AreWithin-taken low top greatest bs h inside most = record {
  long = let l = length-set bs greatest false in omega arith;
  within = λ i a.
      elim (cases_lt i greatest) [
        | inl less ↦ ((h.within i (sym (get_or-set_other bs greatest i false false (omega arith)) ∙ a)).0, less)
        | inr least ↦ (
            elim (cases_lt greatest i) [
              | inl more ↦
                  let set = sym (get_or-set_other bs greatest i false false (omega arith)) ∙ a in
                  let w = h.within i set in
                  let long = h.long in
                  let there = last-there i bs set (let l = w.1 in omega arith) in
                  absurd (let e = All-contains (λ m. m ≤ greatest) (flagged 0 bs) i most there in omega arith)
              | inr most_one ↦
                  let same : i ≡ greatest = omega arith in
                  absurd (let f = get_or-set_same bs greatest false false inside in let t = rw same at a in cc)
            ])
      ];
}
