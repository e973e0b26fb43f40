-- Bytes of numbers, written one behind the other into bytes that are there.
use Rattle.std.proofs.Common.{◌≡◌, ℕ, zero, suc, ◌+◌, ◌*◌, ◌/◌, ◌%◌, ◌^◌, ◌<◌, ◌≤◌, Bool, true, List, [], ◌∷◌, ◌++◌, length, take, set, ap, sym, ◌∙◌, arith, lt-ltb}
use Rattle.std.proofs.lemmas.List.{take-take}
use Rattle.std.proofs.lemmas.Grind.{take-set_at}
use native.Mathlib.Nat.{pow-suc}
use Rattle.lines.specs.Rows.{Part, row, with_number, IsBetween}
use Rattle.lines.proofs.RowLemmas.{HasHigh, high-pushed, number-pushed, one-high-pushed, one-pushed}

-- the bytes up to a place, and one written there
placed : (bytes : List ℕ) (at end b : ℕ) → end ≡ at + 1 → at < length bytes → take end (set bytes at b) ≡ take at bytes ++ b ∷ []
placed bytes at end b e inside = take-set_at bytes at end b e inside

-- a number with more bits to come is begun behind a row's bytes
abbrev pub IsBegun : List ℕ → List ℕ → ℕ → Type 0
IsBegun old new n = IsBetween (row old) → row new ≡ record (row old) { value = n; begun = true }

abbrev set_begun : Part → ℕ → Bool → Part
set_begun p n b = record p { value = n; begun = b }

begun-high : (old new : List ℕ) (n : ℕ) → 1 ≤ n → IsBegun old new n → HasHigh old new n
begun-high old new n some h between = h between ∙ ap (set_begun (row old) n) (sym (lt-ltb 0 n some))

high-begun : (old new : List ℕ) (n : ℕ) → 1 ≤ n → HasHigh old new n → IsBegun old new n
high-begun old new n some h between = h between ∙ ap (set_begun (row old) n) (lt-ltb 0 n some)

pub one-begun : (bytes : List ℕ) (at end n : ℕ) → end ≡ at + 1 → at < length bytes → n < 128 → 1 ≤ n → IsBegun (take at bytes) (take end (set bytes at (n + 128))) n
one-begun bytes at end n e inside small some =
    high-begun (take at bytes) (take end (set bytes at (n + 128))) n some (one-high-pushed (take at bytes) (take end (set bytes at (n + 128))) n small some (placed bytes at end (n + 128) e inside))

pub more-begun : (old bytes : List ℕ) (mid end n : ℕ) → end ≡ mid + 1 → mid < length bytes → n < 2 ^ 64 → 128 ≤ n → IsBegun old (take mid bytes) (n / 128) → IsBegun old (take end (set bytes mid (n % 128 + 128))) n
more-begun old bytes mid end n e inside fits large high =
    high-begun old new n (omega (arith, large))
    (high-pushed old (take mid bytes) new n fits (omega (arith, large)) (placed bytes mid end (n % 128 + 128) e inside) (begun-high old (take mid bytes) (n / 128) (omega (arith, large)) high))
  where
    new : List ℕ
    new = take end (set bytes mid (n % 128 + 128))

pub one-placed : (bytes : List ℕ) (at end n : ℕ) → end ≡ at + 1 → at < length bytes → n < 128 → IsBetween (row (take at bytes)) → row (take end (set bytes at n)) ≡ with_number (row (take at bytes)) n
one-placed bytes at end n e inside small = one-pushed (take at bytes) (take end (set bytes at n)) n small (placed bytes at end n e inside)

pub number-placed : (old bytes : List ℕ) (mid end n : ℕ) → end ≡ mid + 1 → mid < length bytes → n < 2 ^ 64 → 128 ≤ n → IsBegun old (take mid bytes) (n / 128)
    → IsBetween (row old) → row (take end (set bytes mid (n % 128))) ≡ with_number (row old) n
number-placed old bytes mid end n e inside fits large high =
    number-pushed old (take mid bytes) (take end (set bytes mid (n % 128))) n fits (placed bytes mid end (n % 128) e inside) (begun-high old (take mid bytes) (n / 128) (omega (arith, large)) high)

-- a number of two bytes or more takes one byte more than its high bits do
pub fewer-bytes : (n k : ℕ) → n < 128 ^ k → 128 ≤ n → (j : ℕ) × (k ≡ j + 1) × (n / 128 < 128 ^ j)
fewer-bytes n zero h large = absurd (omega (arith, h, large))
fewer-bytes n (suc j) h large = (j, omega arith, omega (arith, power, h))
  where
    power : 128 ^ (suc j) ≡ 128 ^ j * 128
    power = pow-suc 128 j

-- what is the same up to a place is so up to an earlier one
pub front-within : (xs ys : List ℕ) (m n : ℕ) → m ≤ n → take n xs ≡ take n ys → take m xs ≡ take m ys
front-within xs ys m n h e = sym (take-take m n xs h) ∙ ap (take m) e ∙ take-take m n ys h
