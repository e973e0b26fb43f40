-- Worked rows on pure variables and the lines before a tree's, computed by the definitions.
use Rattle.std.proofs.Common.{◌≡◌, ℕ, [], ◌∷◌, Some, None, true, refl, codes}
use Rattle.std.specs.Fmt.{digits}
use Rattle.theory.specs.Literals.{Literal, positive, negative}
use Rattle.theory.specs.Truth.{Formula, value, are_true}
use Rattle.theory.specs.Trails.{Entry}
use Rattle.theory.specs.Pure.{pure_variables, pure_literals, first_clauses, searched}
use Rattle.theory.specs.Propagation.{quiet, conflict, by_number}
use Rattle.theory.specs.Learning.{learn, back_level}
use Rattle.theory.specs.Search.{refuted}
use Rattle.theory.specs.Steps.{add}
use Rattle.theory.specs.Checking.{checks, accepted, refused, no_such_clause, missing_candidate}
use Rattle.theory.proofs.searching.Evaluation.{run, close_within}
use Rattle.theory.proofs.searching.Rows.{p1, n1, p2, n2, p3, n3, row2, row3, row4, row17, text_of, check_of, answer_of}

-- p cnf 3 4 / 1 2 0 / 1 -2 0 / -1 2 0 / -1 -2 0: variable 3 is used nowhere
abbrev unused : Formula
unused = record row4 { vars = 3 }

-- p cnf 3 5 / 1 -3 0 / 1 2 0 / 1 -2 0 / -1 2 0 / -1 -2 0
abbrev negated_only : Formula
negated_only = record { vars = 3; clauses = (p1 ∷ n3 ∷ []) ∷ row4.clauses }

-- p cnf 2 1 / 1 -2 0
abbrev satisfiable : Formula
satisfiable = record { vars = 2; clauses = (p1 ∷ n2 ∷ []) ∷ [] }

unused_pure : pure_variables unused ≡ 3 ∷ []
unused_pure = refl

negated_only_pure : pure_variables negated_only ≡ 3 ∷ []
negated_only_pure = refl

-- a clause of both signs keeps its variable from being pure
tautology_pure : pure_literals (record { vars = 4; clauses = (p2 ∷ n2 ∷ []) ∷ (n3 ∷ n1 ∷ []) ∷ [] }) ≡ n1 ∷ n3 ∷ negative 4 ∷ []
tautology_pure = refl

unused_proof : text_of unused 2 ≡ Some (codes "5 -3 0 0\n6 1 0 1 2 0\n7 0 6 3 4 0\n")
unfolding digits
unused_proof = refl

unused_split_proof : text_of unused 1 ≡ Some (codes "5 -3 0 0\n6 1 0 1 2 0\n7 -1 0 3 4 0\n8 0 6 7 0\n")
unfolding digits
unused_split_proof = refl

negated_only_proof : text_of negated_only 1 ≡ Some (codes "6 -3 0 0\n7 1 0 2 3 0\n8 -1 0 4 5 0\n9 0 7 8 0\n")
unfolding digits
negated_only_proof = refl

unused_accepted : check_of unused 2 ≡ Some accepted
unused_accepted = refl

unused_split_accepted : check_of unused 1 ≡ Some accepted
unused_split_accepted = refl

negated_only_accepted : check_of negated_only 1 ≡ Some accepted
negated_only_accepted = refl

satisfiable_answer : answer_of satisfiable 1 ≡ Some (codes "s SATISFIABLE\nv -1 -2 0\n")
unfolding digits
satisfiable_answer = refl

-- the cube of a pure variable made true is refuted by the variable's own clause
cube_of_pure : run 30 (searched unused) 2 (p3 ∷ []) ≡ Some (refuted (record { clause = []; hints = 5 ∷ []; forgets = [] } ∷ []))
cube_of_pure = refl

-- so a refuted cube may have a model of the formula, in which a pure variable is true
cube_with_model : run 30 (searched satisfiable) 1 (p2 ∷ []) ≡ Some (refuted (record { clause = []; hints = 2 ∷ []; forgets = [] } ∷ []))
cube_with_model = refl

cube_with_model_satisfied : are_true (value (true ∷ true ∷ [])) satisfiable.clauses ≡ true
cube_with_model_satisfied = refl

-- without its line the clause isn't there to be named, and a line for a variable that isn't pure is
-- refused
no_line : checks unused (add (record { id = 6; clause = n3 ∷ []; hints = 5 ∷ []; groups = [] }) ∷ []) ≡ refused no_such_clause 1
no_line = refl

not_pure : checks unused (add (record { id = 5; clause = n2 ∷ []; hints = []; groups = [] }) ∷ []) ≡ refused missing_candidate 1
not_pure = refl

-- formulas without a pure variable begin no proof with such lines
row2_pure : pure_variables row2 ≡ []
row2_pure = refl

row3_pure : pure_variables row3 ≡ []
row3_pure = refl

row4_pure : pure_variables row4 ≡ []
row4_pure = refl

row17_pure : pure_variables row17 ≡ []
row17_pure = refl

-- p cnf 4 2 / 1 3 4 0 / 1 3 -4 0 /: variable 2 is pure
abbrev jump : Formula
jump = record { vars = 4; clauses = (p1 ∷ p3 ∷ positive 4 ∷ []) ∷ (p1 ∷ p3 ∷ negative 4 ∷ []) ∷ [] }

abbrev decided : Literal → ℕ → Entry
decided l level = record { lit = l; reason = None; level = level }

abbrev forced : Literal → ℕ → ℕ → Entry
forced l n level = record { lit = l; reason = Some n; level = level }

-- over its own clauses alone, the conflict below -1@1, -2@2, -3@3 jumps over level 2
jump_alone : close_within by_number 30 jump.clauses (decided n1 1 ∷ decided n2 2 ∷ decided n3 3 ∷ [])
    ≡ Some (conflict 2, decided n1 1 ∷ decided n2 2 ∷ decided n3 3 ∷ forced (positive 4) 1 3 ∷ [])
jump_alone = refl

jump_learns : learn jump.clauses (decided n1 1 ∷ decided n2 2 ∷ decided n3 3 ∷ forced (positive 4) 1 3 ∷ []) 2 ≡ record { clause = p1 ∷ p3 ∷ []; hints = 1 ∷ 2 ∷ []; forgets = [] }
jump_learns = refl

jump_goes_back : back_level (decided n1 1 ∷ decided n2 2 ∷ decided n3 3 ∷ forced (positive 4) 1 3 ∷ []) (p1 ∷ p3 ∷ []) ≡ 1
jump_goes_back = refl

-- a search has -2 at level 0 by the pure variable's clause, and so one level less
jump_searched : close_within by_number 30 (first_clauses jump) [] ≡ Some (quiet, forced n2 3 0 ∷ [])
jump_searched = refl

jump_conflict : close_within by_number 30 (first_clauses jump) (forced n2 3 0 ∷ decided n1 1 ∷ decided n3 2 ∷ [])
    ≡ Some (conflict 2, forced n2 3 0 ∷ decided n1 1 ∷ decided n3 2 ∷ forced (positive 4) 1 2 ∷ [])
jump_conflict = refl

-- the answer is the same, with budget 2 and with budget 1
jump_answer : answer_of jump 2 ≡ Some (codes "s SATISFIABLE\nv -1 -2 3 -4 0\n")
unfolding digits
jump_answer = refl

jump_split_answer : answer_of jump 1 ≡ Some (codes "s SATISFIABLE\nv -1 -2 3 -4 0\n")
unfolding digits
jump_split_answer = refl
