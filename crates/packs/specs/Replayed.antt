-- Lines that were replayed, in front of those that are left.
use Rattle.std.specs.Prelude.{◌≡◌, ℕ, Bool, ◌&&◌, nat_eq, length, List, [], ◌∷◌, ◌++◌}
use Rattle.theory.specs.Literals.{Clause}
use Rattle.theory.specs.Learning.{Line}

-- a line with that clause which forgets that may be the last one
abbrev pub is_end : Clause → List ℕ → Bool
is_end c forgets = nat_eq (length c) 0 && nat_eq (length forgets) 0

-- the last line's clause is empty, and it forgets nothing
abbrev pub EndsEmpty : List Line → Type 0
EndsEmpty lines = (before : List Line) × (last : Line) × (lines ≡ before ++ last ∷ []) × (last.clause ≡ []) × (last.forgets ≡ [])
