-- How many literals a clause has, each counted once: at most its length.
use Rattle.std.proofs.Common.{◌≡◌, ℕ, suc, ◌+◌, ◌<◌, ◌≤◌, Bool, true, false, List, [], ◌∷◌, length, drop, Some, slice_get, ap, ◌∙◌, arith, if◌then◌else◌}
use Rattle.std.specs.List.{sum_by}
use Rattle.std.proofs.lemmas.List.Sums.{sum_by-cons}
use Rattle.theory.specs.Literals.{Literal, Clause, has}
use Rattle.theory.specs.Trying.{size}
use Rattle.simplify.proofs.EliminatedRows.{place_of}

pub size-most : (c : Clause) → size c ≤ length c
size-most [] = omega arith
size-most (l ∷ c) = one (has c l) (size-most c)
  where
    one : (b : Bool) → size c ≤ length c → (if b then size c else size c + 1) ≤ suc (length c)
    one true h = omega arith
    one false h = omega arith

pub sizes-most : (K : List Clause) → sum_by size K ≤ sum_by length K
sizes-most [] = omega arith
sizes-most (c ∷ K) = let a = sum_by-cons size c K in let b = sum_by-cons (λ (d : Clause). length d) c K in let one = size-most c in let more = sizes-most K in omega arith

-- the clause at a place
pub next-size : (K : List Clause) (k : ℕ) (c : Clause) → k < length K → slice_get K k ≡ Some c → sum_by size (drop k K) ≡ size c + sum_by size (drop (k + 1) K)
next-size K k c within h = ap (sum_by size) (place_of K k c within h) ∙ sum_by-cons size c (drop (k + 1) K)
