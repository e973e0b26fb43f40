-- Worked rows, computed by the definitions.
use Rattle.std.proofs.Common.{◌≡◌, ℕ, zero, suc, Bool, List, [], ◌∷◌, Option, Some, refl, option_map, codes, false}
use Rattle.theory.specs.Literals.{Literal, Clause, positive, negative}
use Rattle.theory.specs.Truth.{Formula}
use Rattle.theory.specs.Learning.{Line}
use Rattle.theory.specs.Trees.{first_model}
use Rattle.theory.specs.Checking.{checks, Checked, accepted}
use Rattle.theory.specs.Pure.{searched}
use Rattle.theory.specs.Beginnings.{by_pure_units, proof}
use Rattle.theory.specs.Texts.{proof_text, answer_text}
use Rattle.std.specs.Fmt.{digits}
use Rattle.theory.proofs.searching.Evaluation.{tree}

abbrev pub p1 : Literal
p1 = positive 1

abbrev pub n1 : Literal
n1 = negative 1

abbrev pub p2 : Literal
p2 = positive 2

abbrev pub n2 : Literal
n2 = negative 2

abbrev pub p3 : Literal
p3 = positive 3

abbrev pub n3 : Literal
n3 = negative 3

abbrev pub row2 : Formula
row2 = record { vars = 0; clauses = [] ∷ [] }

abbrev pub row3 : Formula
row3 = record { vars = 1; clauses = (p1 ∷ []) ∷ (n1 ∷ []) ∷ [] }

abbrev pub row4 : Formula
row4 = record { vars = 2; clauses = (p1 ∷ p2 ∷ []) ∷ (p1 ∷ n2 ∷ []) ∷ (n1 ∷ p2 ∷ []) ∷ (n1 ∷ n2 ∷ []) ∷ [] }

abbrev pub row17 : Formula
row17 = record {
  vars = 3;
  clauses = (p1 ∷ p2 ∷ p3 ∷ []) ∷ (p1 ∷ p2 ∷ n3 ∷ []) ∷ (p1 ∷ n2 ∷ p3 ∷ []) ∷ (p1 ∷ n2 ∷ n3 ∷ [])
      ∷ (n1 ∷ p2 ∷ p3 ∷ []) ∷ (n1 ∷ p2 ∷ n3 ∷ []) ∷ (n1 ∷ n2 ∷ p3 ∷ []) ∷ (n1 ∷ n2 ∷ n3 ∷ []) ∷ [];
}

abbrev pub line : Clause → List ℕ → Line
line c hints = record { clause = c; hints = hints; forgets = [] }

abbrev pub text_of : Formula → ℕ → Option (List ℕ)
text_of F B = option_map (λ t. proof_text (proof F by_pure_units t)) (tree 5 30 (searched F) B [])

abbrev pub check_of : Formula → ℕ → Option Checked
check_of F B = option_map (λ t. checks F (proof F by_pure_units t)) (tree 5 30 (searched F) B [])

row2_proof : text_of row2 1 ≡ Some (codes "2 0 1 0\n")
unfolding digits
row2_proof = refl

row3_proof : text_of row3 1 ≡ Some (codes "3 0 1 2 0\n")
unfolding digits
row3_proof = refl

row4_proof : text_of row4 2 ≡ Some (codes "5 1 0 1 2 0\n6 0 5 3 4 0\n")
unfolding digits
row4_proof = refl

row5_proof : text_of row4 1 ≡ Some (codes "5 1 0 1 2 0\n6 -1 0 3 4 0\n7 0 5 6 0\n")
unfolding digits
row5_proof = refl

row17_proof : text_of row17 2 ≡ Some (codes "9 2 1 0 1 2 0\n10 1 0 9 3 4 0\n10 d 9 0\n11 2 -1 0 5 6 0\n12 -1 0 11 7 8 0\n12 d 11 0\n13 0 10 12 0\n")
unfolding digits
row17_proof = refl

row18_proof : text_of row17 4 ≡ Some (codes "9 1 2 0 1 2 0\n10 1 0 9 3 4 0\n11 2 0 10 5 6 0\n12 0 10 11 7 8 0\n")
unfolding digits
row18_proof = refl

-- the root is exhausted by its first conflict, and its halves have budget 2
row19_proof : text_of row17 1 ≡ text_of row17 2
unfolding digits
row19_proof = refl

abbrev pub answer_of : Formula → ℕ → Option (List ℕ)
answer_of F B = option_map (λ t. answer_text (first_model t)) (tree 5 30 F B [])

row1_answer : answer_of (record { vars = 0; clauses = [] }) 1 ≡ Some (codes "s SATISFIABLE\nv 0\n")
unfolding digits
row1_answer = refl

row2_answer : answer_of row2 1 ≡ Some (codes "s UNSATISFIABLE\n")
unfolding digits
row2_answer = refl

row7_answer : answer_of (record { vars = 2; clauses = (p1 ∷ p2 ∷ []) ∷ [] }) 1 ≡ Some (codes "s SATISFIABLE\nv -1 2 0\n")
unfolding digits
row7_answer = refl

abbrev pub all_false : ℕ → List Bool
all_false zero = []
all_false (suc n) = false ∷ all_false n

row8_answer : answer_text (Some (all_false 22)) ≡ codes "s SATISFIABLE\nv -1 -2 -3 -4 -5 -6 -7 -8 -9 -10 -11 -12 -13 -14 -15 -16 -17 -18 -19 -20 -21\nv -22 0\n"
unfolding digits
row8_answer = refl

row8_full_line : answer_text (Some (all_false 21)) ≡ codes "s SATISFIABLE\nv -1 -2 -3 -4 -5 -6 -7 -8 -9 -10 -11 -12 -13 -14 -15 -16 -17 -18 -19 -20 -21 0\n"
unfolding digits
row8_full_line = refl

row12_answer : answer_of (record { vars = 2; clauses = (p1 ∷ n1 ∷ []) ∷ (p2 ∷ p2 ∷ []) ∷ [] }) 1 ≡ Some (codes "s SATISFIABLE\nv -1 2 0\n")
unfolding digits
row12_answer = refl

row17_accepted : check_of row17 2 ≡ Some accepted
row17_accepted = refl

row18_accepted : check_of row17 4 ≡ Some accepted
row18_accepted = refl

row19_accepted : check_of row17 1 ≡ Some accepted
row19_accepted = refl

-- the conflict jumps over the level of variable 2, which a clause of both its signs keeps from
-- being pure
jump_answer : answer_of (record { vars = 4; clauses = (p1 ∷ p3 ∷ positive 4 ∷ []) ∷ (p1 ∷ p3 ∷ negative 4 ∷ []) ∷ (p2 ∷ n2 ∷ []) ∷ [] }) 2 ≡ Some (codes "s SATISFIABLE\nv -1 -2 3 -4 0\n")
unfolding digits
jump_answer = refl
