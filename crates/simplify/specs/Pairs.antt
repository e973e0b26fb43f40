-- The lines of resolvents as they are kept: the clauses, and beside each the pair that it is made of.
use Rattle.std.specs.Prelude.{List, [], ◌∷◌}
use Rattle.theory.specs.Literals.{Clause}
use Rattle.theory.specs.Learning.{Line}
use Rattle.simplify.specs.declared.resolvents.Pair.{Pair}

-- the line of a clause and its pair
abbrev pub pair_line : Clause → Pair → Line
pair_line c p = record { clause = c; hints = p.positive ∷ p.negative ∷ []; forgets = [] }

abbrev pub pair_lines : List Clause → List Pair → List Line
pair_lines [] ps = []
pair_lines (c ∷ cs) [] = []
pair_lines (c ∷ cs) (p ∷ ps) = pair_line c p ∷ pair_lines cs ps
