-- Which cubes of a round a part solves.
use Rattle.std.specs.Prelude.{ℕ, ◌+◌, ◌%◌, cond, eqb, List, [], ◌∷◌}

-- a part, from 1 on, of so many
pub record Part : Type 0 where
  pub number : ℕ
  pub parts : ℕ

-- the part, from 1 to `parts`, that the cube with this number belongs to; the first cube has 0
abbrev pub part_at : (parts number : ℕ) → ℕ
part_at parts number = number % parts + 1

-- of things of which the first has this number, those of a part, in their order
abbrev pub of_part : {A : Type 0} (part parts number : ℕ) → List A → List A
of_part part parts number [] = []
of_part part parts number (x ∷ xs) =
    let others = of_part part parts (number + 1) xs in
    cond (eqb (part_at parts number) part) (x ∷ others) others
