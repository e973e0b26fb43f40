-- Lists whose elements are changed one after the other, and what is read of them.
use Rattle.std.proofs.Common.{◌≡◌, ℕ, zero, suc, ◌+◌, ◌<◌, ◌≤◌, List, [], ◌∷◌, ◌++◌, length, map, take, drop, get_or, slice_set, refl, ap, arith}

-- those before the place are changed
abbrev pub changed-before : {X : Type 0} → (X → X) → ℕ → List X → List X
changed-before f at xs = map f (take at xs) ++ drop at xs

pub changed-read : {X : Type 0} (f : X → X) (xs : List X) (at : ℕ) (d : X) → at < length xs → get_or (changed-before f at xs) at d ≡ get_or xs at d
changed-read f [] at d h = absurd (omega arith)
changed-read f (x ∷ xs) zero d h = refl
changed-read f (x ∷ xs) (suc at) d h = changed-read f xs at d (omega arith)

pub changed-next : {X : Type 0} (f : X → X) (xs : List X) (at : ℕ) (d : X) → at < length xs → slice_set (changed-before f at xs) at (f (get_or xs at d)) ≡ changed-before f (at + 1) xs
changed-next f [] at d h = absurd (omega arith)
changed-next f (x ∷ xs) zero d h = refl
changed-next {X} f (x ∷ xs) (suc at) d h = let up : suc at + 1 ≡ suc (at + 1) = omega arith in rw up (ap (λ (ys : List X). f x ∷ ys) (changed-next f xs at d (omega arith)))

pub changed-all : {X : Type 0} (f : X → X) (xs : List X) (at : ℕ) → length xs ≤ at → changed-before f at xs ≡ map f xs
changed-all f [] zero h = refl
changed-all f [] (suc at) h = refl
changed-all f (x ∷ xs) zero h = absurd (omega arith)
changed-all {X} f (x ∷ xs) (suc at) h = ap (λ (ys : List X). f x ∷ ys) (changed-all f xs at (omega arith))

-- what is read of the changed list
pub mapped-read : {X Y : Type 0} (f : X → Y) (xs : List X) (n : ℕ) (d : X) (e : Y) → n < length xs → get_or (map f xs) n e ≡ f (get_or xs n d)
mapped-read f [] n d e h = absurd (omega arith)
mapped-read f (x ∷ xs) zero d e h = refl
mapped-read f (x ∷ xs) (suc n) d e h = mapped-read f xs n d e (omega arith)
