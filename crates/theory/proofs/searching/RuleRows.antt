-- Worked rows of the rules of propagation, computed by the definitions.
use Rattle.std.proofs.Common.{◌≡◌, List, [], ◌∷◌, Some, None, refl}
use Rattle.theory.specs.Literals.{Clause, positive}
use Rattle.theory.specs.Trails.{Trail}
use Rattle.theory.specs.Propagation.{last_false, by_number, by_place}
use Rattle.theory.proofs.searching.Rows.{p1, n1, p2, n2, p3}
use Rattle.theory.proofs.trails.LawfulRows.{decided}

-- 1@1, 2@2
abbrev two : Trail
two = decided p1 1 ∷ decided p2 2 ∷ []

-- 2 implies 3, 1 implies 4, and 1 and 2 imply 5
abbrev implications : List Clause
implications = (n2 ∷ p3 ∷ []) ∷ (n1 ∷ positive 4 ∷ []) ∷ (n2 ∷ n1 ∷ positive 5 ∷ []) ∷ []

of_second : last_false two (n2 ∷ p3 ∷ []) ≡ 2
of_second = refl

of_first : last_false two (n1 ∷ positive 4 ∷ []) ≡ 1
of_first = refl

of_both : last_false two (n2 ∷ n1 ∷ positive 5 ∷ []) ≡ 2
of_both = refl

of_none : last_false two (p3 ∷ []) ≡ 0
of_none = refl

least_number : by_number two implications ≡ Some (1, p3)
least_number = refl

-- what follows from the first entry comes before what follows from the second one
least_place : by_place two implications ≡ Some (2, positive 4)
least_place = refl

-- of one place the least number, and a clause of one literal before all
one_place : by_place (decided p2 1 ∷ []) ((n2 ∷ p3 ∷ []) ∷ (n2 ∷ positive 4 ∷ []) ∷ []) ≡ Some (1, p3)
one_place = refl

unit_first : by_place two ((n1 ∷ positive 4 ∷ []) ∷ (p3 ∷ []) ∷ []) ≡ Some (2, p3)
unit_first = refl

none_left : by_place two ((p1 ∷ []) ∷ (n2 ∷ p1 ∷ []) ∷ []) ≡ None
none_left = refl
