-- The recent glues: how many there are, and their sum.
use Rattle.std.proofs.Common.{ℕ, ◌-◌, ◌*◌, ◌≤◌, ◌^◌, List, [], ◌∷◌, ◌++◌, length, sum, All, arith}
use Rattle.std.proofs.lemmas.List.{length-drop}
use Rattle.std.proofs.lemmas.List.Elements.{All-push, All-drop}
use Rattle.std.proofs.lemmas.List.Sums.{sum_by-le}
use Rattle.std.proofs.Math.Nat.{mul-le-mul_right}
use Rattle.circular_buffer.specs.Buffer.{keep_last}

pub kept-few : (n g : ℕ) (xs : List ℕ) → length (keep_last n (xs ++ g ∷ [])) ≤ n
kept-few n g xs = let all = xs ++ g ∷ [] in let left = length-drop (length all - n) all in omega (arith, left)

pub kept-most : (n g b : ℕ) (xs : List ℕ) → g ≤ b → All (λ x. x ≤ b) xs → All (λ x. x ≤ b) (keep_last n (xs ++ g ∷ []))
kept-most n g b xs low h = All-drop (λ x. x ≤ b) (length (xs ++ g ∷ []) - n) (xs ++ g ∷ []) (All-push (λ x. x ≤ b) xs g h low)

pub sum-most : (xs : List ℕ) → length xs ≤ 64 → All (λ x. x ≤ 2 ^ 27) xs → sum xs ≤ 2 ^ 33
sum-most xs few h =
    let all : sum xs ≤ length xs * 2 ^ 27 = sum_by-le (λ x. x) (2 ^ 27) xs h in
    let most : length xs * 2 ^ 27 ≤ 64 * 2 ^ 27 = mul-le-mul_right (2 ^ 27) few in
    omega arith
