-- Worked rows of the checker, computed by the definition.
use Rattle.std.proofs.Common.{◌≡◌, [], ◌∷◌, refl}
use Rattle.theory.specs.Literals.{positive}
use Rattle.theory.specs.Truth.{Formula}
use Rattle.theory.specs.Steps.{add, delete}
use Rattle.theory.specs.Checking.{checks, accepted, refused, no_empty_clause, id_not_rising, literal_out_of_range, both_signs, no_such_clause, hint_not_unit, hint_after_conflict, no_conflict, bad_candidate, missing_candidate, no_such_deletion}
use Rattle.theory.proofs.searching.Rows.{p1, n1, p2, p3, n3, row4, row17}

abbrev pub row13 : Formula
row13 = record row4 { vars = 4 }

-- 5 1 0 1 2 0 / 6 0 5 3 4 0 /: accepted
checker_row1 : checks row4 (add (record { id = 5; clause = p1 ∷ []; hints = 1 ∷ 2 ∷ []; groups = [] }) ∷ add (record { id = 6; clause = []; hints = 5 ∷ 3 ∷ 4 ∷ []; groups = [] }) ∷ []) ≡ accepted
checker_row1 = refl

-- 5 1 0 -3 1 -4 2 0 / 6 0 5 3 4 0 /: accepted
checker_row2 : checks row4 (add (record { id = 5; clause = p1 ∷ []; hints = []; groups = record { candidate = 3; hints = 1 ∷ [] } ∷ record { candidate = 4; hints = 2 ∷ [] } ∷ [] }) ∷ add (record { id = 6; clause = []; hints = 5 ∷ 3 ∷ 4 ∷ []; groups = [] }) ∷ []) ≡ accepted
checker_row2 = refl

-- 5 1 0 -4 2 -3 1 0 / 6 0 5 3 4 0 /: accepted
checker_row3 : checks row4 (add (record { id = 5; clause = p1 ∷ []; hints = []; groups = record { candidate = 4; hints = 2 ∷ [] } ∷ record { candidate = 3; hints = 1 ∷ [] } ∷ [] }) ∷ add (record { id = 6; clause = []; hints = 5 ∷ 3 ∷ 4 ∷ []; groups = [] }) ∷ []) ≡ accepted
checker_row3 = refl

-- 5 1 0 1 2 0 / 5 d 1 2 0 / 6 0 5 3 4 0 /: accepted
checker_row4 : checks row4 (add (record { id = 5; clause = p1 ∷ []; hints = 1 ∷ 2 ∷ []; groups = [] }) ∷ delete (record { id = 5; ids = 1 ∷ 2 ∷ [] }) ∷ add (record { id = 6; clause = []; hints = 5 ∷ 3 ∷ 4 ∷ []; groups = [] }) ∷ []) ≡ accepted
checker_row4 = refl

-- 4 1 0 1 2 0 /: 21 step 1
checker_row5 : checks row4 (add (record { id = 4; clause = p1 ∷ []; hints = 1 ∷ 2 ∷ []; groups = [] }) ∷ []) ≡ refused id_not_rising 1
checker_row5 = refl

-- 5 3 0 0 /: 31 step 1
checker_row6 : checks row4 (add (record { id = 5; clause = p3 ∷ []; hints = []; groups = [] }) ∷ []) ≡ refused literal_out_of_range 1
checker_row6 = refl

-- 5 1 -1 0 0 /: 22 step 1
checker_row7 : checks row4 (add (record { id = 5; clause = p1 ∷ n1 ∷ []; hints = []; groups = [] }) ∷ []) ≡ refused both_signs 1
checker_row7 = refl

-- 5 1 0 9 0 /: 23 step 1
checker_row8 : checks row4 (add (record { id = 5; clause = p1 ∷ []; hints = 9 ∷ []; groups = [] }) ∷ []) ≡ refused no_such_clause 1
checker_row8 = refl

-- 5 1 0 1 2 0 / 6 0 5 1 3 4 0 /: 24 step 2
checker_row9 : checks row4 (add (record { id = 5; clause = p1 ∷ []; hints = 1 ∷ 2 ∷ []; groups = [] }) ∷ add (record { id = 6; clause = []; hints = 5 ∷ 1 ∷ 3 ∷ 4 ∷ []; groups = [] }) ∷ []) ≡ refused hint_not_unit 2
checker_row9 = refl

-- 5 0 1 0 /: 24 step 1
checker_row10 : checks row4 (add (record { id = 5; clause = []; hints = 1 ∷ []; groups = [] }) ∷ []) ≡ refused hint_not_unit 1
checker_row10 = refl

-- 5 0 0 /: 26 step 1
checker_row11 : checks row4 (add (record { id = 5; clause = []; hints = []; groups = [] }) ∷ []) ≡ refused no_conflict 1
checker_row11 = refl

-- 5 1 0 -3 -4 2 0 /: 26 step 1
checker_row12 : checks row4 (add (record { id = 5; clause = p1 ∷ []; hints = []; groups = record { candidate = 3; hints = [] } ∷ record { candidate = 4; hints = 2 ∷ [] } ∷ [] }) ∷ []) ≡ refused no_conflict 1
checker_row12 = refl

-- 5 1 0 -3 1 -3 1 -4 2 0 /: 28 step 1
checker_row13 : checks row4 (add (record { id = 5; clause = p1 ∷ []; hints = []; groups = record { candidate = 3; hints = 1 ∷ [] } ∷ record { candidate = 3; hints = 1 ∷ [] } ∷ record { candidate = 4; hints = 2 ∷ [] } ∷ [] }) ∷ []) ≡ refused bad_candidate 1
checker_row13 = refl

-- 5 1 0 1 -1 0 /: 28 step 1
checker_row14 : checks row4 (add (record { id = 5; clause = p1 ∷ []; hints = 1 ∷ []; groups = record { candidate = 1; hints = [] } ∷ [] }) ∷ []) ≡ refused bad_candidate 1
checker_row14 = refl

-- 5 1 0 1 2 0 / 5 d 1 1 0 /: 29 step 2
checker_row15 : checks row4 (add (record { id = 5; clause = p1 ∷ []; hints = 1 ∷ 2 ∷ []; groups = [] }) ∷ delete (record { id = 5; ids = 1 ∷ 1 ∷ [] }) ∷ []) ≡ refused no_such_deletion 2
checker_row15 = refl

-- 5 1 0 1 2 0 / 5 d 1 0 / 6 0 5 3 1 0 /: 23 step 3
checker_row16 : checks row4 (add (record { id = 5; clause = p1 ∷ []; hints = 1 ∷ 2 ∷ []; groups = [] }) ∷ delete (record { id = 5; ids = 1 ∷ [] }) ∷ add (record { id = 6; clause = []; hints = 5 ∷ 3 ∷ 1 ∷ []; groups = [] }) ∷ []) ≡ refused no_such_clause 3
checker_row16 = refl

-- 5 1 0 1 2 0 /: 30
checker_row17 : checks row4 (add (record { id = 5; clause = p1 ∷ []; hints = 1 ∷ 2 ∷ []; groups = [] }) ∷ []) ≡ no_empty_clause
checker_row17 = refl

-- /: 30
checker_row18 : checks row4 ([]) ≡ no_empty_clause
checker_row18 = refl

-- 5 1 0 2 1 0 / 6 0 5 3 4 4 0 /: 25 step 2
checker_row19 : checks row4 (add (record { id = 5; clause = p1 ∷ []; hints = 2 ∷ 1 ∷ []; groups = [] }) ∷ add (record { id = 6; clause = []; hints = 5 ∷ 3 ∷ 4 ∷ 4 ∷ []; groups = [] }) ∷ []) ≡ refused hint_after_conflict 2
checker_row19 = refl

-- 5 1 0 1 0 /: 27 step 1
checker_row20 : checks row4 (add (record { id = 5; clause = p1 ∷ []; hints = 1 ∷ []; groups = [] }) ∷ []) ≡ refused missing_candidate 1
checker_row20 = refl

-- 5 2147483647 0 0 /: 31 step 1
checker_row21 : checks row4 (add (record { id = 5; clause = positive 2147483647 ∷ []; hints = []; groups = [] }) ∷ []) ≡ refused literal_out_of_range 1
checker_row21 = refl

-- 9223372036854775807 1 0 1 2 0 / 6 0 5 3 4 0 /: 21 step 2
checker_row22 : checks row4 (add (record { id = 9223372036854775807; clause = p1 ∷ []; hints = 1 ∷ 2 ∷ []; groups = [] }) ∷ add (record { id = 6; clause = []; hints = 5 ∷ 3 ∷ 4 ∷ []; groups = [] }) ∷ []) ≡ refused id_not_rising 2
checker_row22 = refl

-- 5 3 1 0 0 / 6 -3 -1 0 -5 0 / 7 1 0 1 2 0 / 8 0 7 3 4 0 /: accepted
checker_row23 : checks row13 (add (record { id = 5; clause = p3 ∷ p1 ∷ []; hints = []; groups = [] }) ∷ add (record { id = 6; clause = n3 ∷ n1 ∷ []; hints = []; groups = record { candidate = 5; hints = [] } ∷ [] }) ∷ add (record { id = 7; clause = p1 ∷ []; hints = 1 ∷ 2 ∷ []; groups = [] }) ∷ add (record { id = 8; clause = []; hints = 7 ∷ 3 ∷ 4 ∷ []; groups = [] }) ∷ []) ≡ accepted
checker_row23 = refl

-- 5 3 1 0 0 / 6 -3 0 0 / 7 1 0 1 2 0 / 8 0 7 3 4 0 /: 27 step 2
checker_row24 : checks row13 (add (record { id = 5; clause = p3 ∷ p1 ∷ []; hints = []; groups = [] }) ∷ add (record { id = 6; clause = n3 ∷ []; hints = []; groups = [] }) ∷ add (record { id = 7; clause = p1 ∷ []; hints = 1 ∷ 2 ∷ []; groups = [] }) ∷ add (record { id = 8; clause = []; hints = 7 ∷ 3 ∷ 4 ∷ []; groups = [] }) ∷ []) ≡ refused missing_candidate 2
checker_row24 = refl

-- 5 3 1 0 0 / 6 -3 -1 0 0 / 7 1 0 1 2 0 / 8 0 7 3 4 0 /: accepted
checker_row25 : checks row13 (add (record { id = 5; clause = p3 ∷ p1 ∷ []; hints = []; groups = [] }) ∷ add (record { id = 6; clause = n3 ∷ n1 ∷ []; hints = []; groups = [] }) ∷ add (record { id = 7; clause = p1 ∷ []; hints = 1 ∷ 2 ∷ []; groups = [] }) ∷ add (record { id = 8; clause = []; hints = 7 ∷ 3 ∷ 4 ∷ []; groups = [] }) ∷ []) ≡ accepted
checker_row25 = refl

-- 5 3 1 0 0 / 6 -3 -1 0 -5 1 0 / 7 1 0 1 2 0 / 8 0 7 3 4 0 /: 28 step 2
checker_row26 : checks row13 (add (record { id = 5; clause = p3 ∷ p1 ∷ []; hints = []; groups = [] }) ∷ add (record { id = 6; clause = n3 ∷ n1 ∷ []; hints = []; groups = record { candidate = 5; hints = 1 ∷ [] } ∷ [] }) ∷ add (record { id = 7; clause = p1 ∷ []; hints = 1 ∷ 2 ∷ []; groups = [] }) ∷ add (record { id = 8; clause = []; hints = 7 ∷ 3 ∷ 4 ∷ []; groups = [] }) ∷ []) ≡ refused bad_candidate 2
checker_row26 = refl

-- 9 2 1 0 1 2 0 / 9 d 9 0 / 10 1 0 9 3 4 0 /: 23 step 3
checker_row27 : checks row17 (add (record { id = 9; clause = p2 ∷ p1 ∷ []; hints = 1 ∷ 2 ∷ []; groups = [] }) ∷ delete (record { id = 9; ids = 9 ∷ [] }) ∷ add (record { id = 10; clause = p1 ∷ []; hints = 9 ∷ 3 ∷ 4 ∷ []; groups = [] }) ∷ []) ≡ refused no_such_clause 3
checker_row27 = refl

-- 9 2 1 0 1 2 0 / 10 1 0 9 3 4 0 / 10 d 9 0 / 11 2 -1 0 5 6 0 / 12 -1 0 11 7 8 0 / 12 d 11 0 / 13 0
-- 10 12 0 /: accepted
checker_row28 : checks row17 (add (record { id = 9; clause = p2 ∷ p1 ∷ []; hints = 1 ∷ 2 ∷ []; groups = [] }) ∷ add (record { id = 10; clause = p1 ∷ []; hints = 9 ∷ 3 ∷ 4 ∷ []; groups = [] }) ∷ delete (record { id = 10; ids = 9 ∷ [] }) ∷ add (record { id = 11; clause = p2 ∷ n1 ∷ []; hints = 5 ∷ 6 ∷ []; groups = [] }) ∷ add (record { id = 12; clause = n1 ∷ []; hints = 11 ∷ 7 ∷ 8 ∷ []; groups = [] }) ∷ delete (record { id = 12; ids = 11 ∷ [] }) ∷ add (record { id = 13; clause = []; hints = 10 ∷ 12 ∷ []; groups = [] }) ∷ []) ≡ accepted
checker_row28 = refl
