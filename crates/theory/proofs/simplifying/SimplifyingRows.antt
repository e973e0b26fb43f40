-- Worked rows of simplifications, computed by the definitions.
use Rattle.std.proofs.Common.{◌≡◌, true, false, List, [], ◌∷◌, refl, codes, Some, arith}
use Rattle.std.specs.Fmt.{digits}
use Rattle.std.proofs.lemmas.List.Elements.{All-nil, All-cons}
use Rattle.theory.specs.Literals.{Literal, IsVariable}
use Rattle.theory.specs.Truth.{Formula, IsOver}
use Rattle.theory.specs.Forgetting.{forgotten}
use Rattle.theory.specs.Trees.{refutation}
use Rattle.theory.specs.Checking.{checks, accepted}
use Rattle.theory.specs.Texts.{proof_text}
use Rattle.theory.specs.Simplifying.{Change, adds, drops, eliminates, AreSimplifying, simplified, kept_clauses, extended_model}
use Rattle.theory.specs.Trying.{IsSimplification, tries, rests}
use Rattle.theory.specs.Beginnings.{by_changes, begun, proof}
use Rattle.theory.proofs.searching.Rows.{p1, n1, p2, n2, p3, n3, row4, line}
use Rattle.theory.proofs.searching.Evaluation.{tree}

-- the changes of row4 to the empty clause: 1 is eliminated, and then 2
abbrev row4_changes : List Change
row4_changes = adds (line (p2 ∷ []) (1 ∷ 3 ∷ [])) ∷ adds (line (n2 ∷ []) (2 ∷ 4 ∷ [])) ∷ eliminates 1 (1 ∷ 2 ∷ 3 ∷ 4 ∷ []) ∷ adds (line [] (5 ∷ 6 ∷ [])) ∷ eliminates 2 (5 ∷ 6 ∷ []) ∷ []

of_two : (l : Literal) → l.var ≡ 2 → IsOver 2 (l ∷ [])
of_two l e = All-cons (λ k. IsVariable 2 k.var) l [] (omega (arith, e), omega (arith, e)) (All-nil (λ k. IsVariable 2 k.var))

row4_fit : AreSimplifying row4 row4_changes
row4_fit = (
  record { passes = refl; one_sign = refl; over = of_two p2 refl },
  (
    record { passes = refl; one_sign = refl; over = of_two n2 refl },
    (
      record { there = refl; have_it = refl; lack_it = refl; resolved = refl },
      (
        record { passes = refl; one_sign = refl; over = All-nil (λ l. IsVariable 2 l.var) },
        (record { there = refl; have_it = refl; lack_it = refl; resolved = refl }, tt),
      ),
    ),
  ),
)

-- the search's own line names the empty clause
row4_proof : proof_text (proof row4 (by_changes row4_changes) (refutation (line [] (7 ∷ []) ∷ [])))
    ≡ codes "5 2 0 1 3 0\n6 -2 0 2 4 0\n6 d 1 2 3 4 0\n7 0 5 6 0\n7 d 5 6 0\n8 0 7 0\n"
unfolding digits
row4_proof = refl

row4_tree : tree 5 30 (begun row4 (by_changes row4_changes)) 1 [] ≡ Some (refutation (line [] (7 ∷ []) ∷ []))
row4_tree = refl

row4_accepted : checks row4 (proof row4 (by_changes row4_changes) (refutation (line [] (7 ∷ []) ∷ []))) ≡ accepted
row4_accepted = refl

-- a formula of which nothing is left: 2 is true since 3 is false, and 1 is false since 2 is true
abbrev chain : Formula
chain = record { vars = 3; clauses = (p1 ∷ p2 ∷ []) ∷ (n1 ∷ p3 ∷ []) ∷ (n2 ∷ n3 ∷ []) ∷ [] }

abbrev chain_changes : List Change
chain_changes = adds (line (p2 ∷ p3 ∷ []) (1 ∷ 2 ∷ [])) ∷ eliminates 1 (1 ∷ 2 ∷ []) ∷ eliminates 2 (3 ∷ 4 ∷ []) ∷ []

chain_left : kept_clauses (simplified chain chain_changes) ≡ forgotten ∷ forgotten ∷ forgotten ∷ forgotten ∷ []
chain_left = refl

chain_model : extended_model 3 (simplified chain chain_changes).eliminated (false ∷ false ∷ false ∷ []) ≡ false ∷ true ∷ false ∷ []
chain_model = refl

-- a unit clause: the others with its variable need no resolvents of their own
abbrev unit_first : Formula
unit_first = record { vars = 3; clauses = (p1 ∷ []) ∷ (p1 ∷ p2 ∷ []) ∷ (n1 ∷ p3 ∷ []) ∷ [] }

unit_changes : AreSimplifying unit_first (adds (line (p3 ∷ []) (1 ∷ 3 ∷ [])) ∷ eliminates 1 (1 ∷ 2 ∷ 3 ∷ []) ∷ [])
unit_changes = (
  record { passes = refl; one_sign = refl; over = All-cons (λ k. IsVariable 3 k.var) p3 [] (omega arith, omega arith) (All-nil (λ k. IsVariable 3 k.var)) },
  (record { there = refl; have_it = refl; lack_it = refl; resolved = refl }, tt),
)

-- clauses that are implied: one with both signs of a variable, one with all literals of another
drops_implied : AreSimplifying (record { vars = 2; clauses = (p1 ∷ n1 ∷ []) ∷ (p1 ∷ p2 ∷ []) ∷ (p1 ∷ []) ∷ [] }) (drops (1 ∷ 2 ∷ []) ∷ [])
drops_implied = ((refl, refl), tt)

-- by the definition 1 is tried first, of equal weights, and then 2, which has unit clauses
row4_simplification : IsSimplification row4 (drops [] ∷ row4_changes)
row4_simplification = (row4_changes, refl, tries 1 refl (tries 2 refl (rests refl)))
