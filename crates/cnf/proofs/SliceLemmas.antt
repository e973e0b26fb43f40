-- Parts of a list: their lengths, elements, first and last ones.
use Rattle.std.proofs.Common.{◌≡◌, ℕ, suc, ◌+◌, ◌-◌, ◌<◌, ◌≤◌, min, List, [], ◌∷◌, ◌++◌, length, get_or, take, drop, sym, ap, ◌∙◌, arith, length-drop, get_or-take}
use Rattle.std.specs.List.{slice_range}
use Rattle.std.proofs.lemmas.List.{take_more, drop_more, take-append-drop, drop-drop, get_or-drop, length-take}

pub slice_append : (bytes : List ℕ) (i j : ℕ) → i ≤ j → slice_range bytes i j ++ drop j bytes ≡ drop i bytes
slice_append bytes i j h =
    ap (λ (r : List ℕ). slice_range bytes i j ++ r) (ap (λ k. drop k bytes) (let e : j ≡ i + (j - i) = omega arith in e) ∙ sym (drop-drop (j - i) i bytes))
    ∙ take-append-drop (j - i) (drop i bytes)

pub length-slice : (bytes : List ℕ) (i j : ℕ) → i ≤ j → j ≤ length bytes → length (slice_range bytes i j) ≡ j - i
length-slice bytes i j h within = length-take (j - i) (drop i bytes) ∙ (let e : min (j - i) (length (drop i bytes)) ≡ j - i = omega (arith, length-drop i bytes) in e)

pub get_or-slice : (bytes : List ℕ) (i j k : ℕ) → i + k < j → get_or (slice_range bytes i j) k 0 ≡ get_or bytes (i + k) 0
get_or-slice bytes i j k h = get_or-take (j - i) (drop i bytes) k 0 (omega arith) ∙ get_or-drop i bytes k 0

pub slice-more : (bytes : List ℕ) (i j : ℕ) → i ≤ j → j < length bytes → slice_range bytes i (j + 1) ≡ slice_range bytes i j ++ get_or bytes j 0 ∷ []
slice-more bytes i j h within =
    ap (λ n. take n (drop i bytes)) (let e : j + 1 - i ≡ j - i + 1 = omega arith in e)
    ∙ take_more (drop i bytes) (j - i) 0 (omega (arith, length-drop i bytes))
    ∙ ap (λ b. slice_range bytes i j ++ b ∷ []) (get_or-drop i bytes (j - i) 0 ∙ ap (λ k. get_or bytes k 0) (let e : i + (j - i) ≡ j = omega arith in e))

pub slice-first : (bytes : List ℕ) (i j : ℕ) → i < j → j ≤ length bytes → slice_range bytes i j ≡ get_or bytes i 0 ∷ slice_range bytes (i + 1) j
slice-first bytes i j h within =
    ap (take (j - i)) (drop_more bytes i 0 (omega arith))
    ∙ ap (λ n. take n (get_or bytes i 0 ∷ drop (i + 1) bytes)) (let e : j - i ≡ suc (j - (i + 1)) = omega arith in e)
