-- The first so many bytes of a text that grows.
use Rattle.std.proofs.Common.{◌≡◌, ℕ, ◌+◌, ◌≤◌, List, ◌++◌, length, take, min, ◌∙◌, sym, ap, add_comm, arith}
use Rattle.std.proofs.lemmas.List.{take_min, length-take-le}
use Rattle.std.proofs.Math.Seq.{take-append-add}

pub take-append-room : (room : ℕ) (xs ys : List ℕ) →
    take (length xs + room) (xs ++ ys) ≡ xs ++ take (min room (length ys)) ys
take-append-room room xs ys =
    take-append-add xs ys room ∙ ap (λ t. xs ++ t) (sym (take_min room ys))

pub first_kept : (n room count : ℕ) (xs ys zs : List ℕ) → room + length xs ≡ n →
    count ≡ min room (length ys) → zs ≡ xs ++ take count ys → zs ≡ take n (xs ++ ys)
first_kept n room count xs ys zs full least grown =
    grown ∙ ap (λ k. xs ++ take k ys) least ∙ sym (take-append-room room xs ys)
    ∙ ap (λ k. take k (xs ++ ys)) (add_comm (length xs) room ∙ full)

-- what is put behind xs fits
pub rest_fits : (n room count : ℕ) (xs ys : List ℕ) → room + length xs ≡ n →
    count ≡ min room (length ys) → length xs + length (take count ys) ≤ n
rest_fits n room count xs ys full least = omega (arith, length-take-le count ys (omega arith))
