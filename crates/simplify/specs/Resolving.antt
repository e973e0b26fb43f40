-- The lines by which a variable is eliminated, of clauses by number.
use Rattle.std.specs.Prelude.{ℕ, ◌+◌, not, List, [], ◌∷◌, map, filter, length}
use Rattle.std.specs.List.{flat_map, sum_by}
use Rattle.theory.specs.Literals.{positive, has_both_signs}
use Rattle.theory.specs.Learning.{Line}
use Rattle.theory.specs.Simplifying.{resolvent}
use Rattle.simplify.specs.Entries.{Entries, set, there}

-- the line of the resolvent on x of the clauses i and j
abbrev pub line_of : ℕ → Entries → ℕ → ℕ → Line
line_of x K i j = record { clause = set (resolvent (positive x) (there K i) (there K j)); hints = i ∷ j ∷ []; forgets = [] }

-- the lines of all pairs, but for those with both signs of a variable
abbrev pub lines_of_pairs : ℕ → Entries → List ℕ → List ℕ → List Line
lines_of_pairs x K is js = filter (λ line. not (has_both_signs line.clause)) (flat_map (λ i. map (line_of x K i) js) is)

-- the literals of all pairs
abbrev pub literals_of_pairs : Entries → List ℕ → List ℕ → ℕ
literals_of_pairs K is js = sum_by (λ i. sum_by (λ j. length (there K i) + length (there K j)) js) is
