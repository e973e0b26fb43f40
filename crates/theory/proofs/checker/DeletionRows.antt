-- Worked rows of deletions, computed by the definitions; one of them by the law on deletions put
-- in.
use Rattle.std.proofs.Common.{◌≡◌, ℕ, true, false, List, [], ◌∷◌, refl, sym, subst, codes, is_some, inl, inr, nat_eq, eqb-true}
use Rattle.std.specs.List.{list_any}
use Rattle.std.specs.Fmt.{digits}
use Rattle.theory.specs.Trees.{Tree, refutation, split}
use Rattle.theory.specs.Steps.{Step, add, delete}
use Rattle.theory.specs.Checking.{checks, accepted, refused, no_such_clause, numbered_from, clause_of}
use Rattle.theory.specs.Deletions.{is_among, names, clauses_after, AreDeletable}
use Rattle.theory.specs.Beginnings.{by_pure_units, proof}
use Rattle.theory.specs.Texts.{proof_text}
use Rattle.theory.proofs.literals.LiteralLemmas.{or-cases}
use Rattle.theory.proofs.checker.DeletionsPutIn.{checks-deletion}
use Rattle.theory.proofs.searching.Rows.{p1, n1, p3, n3, row4, row17, line}
use Rattle.theory.proofs.checker.CheckerRows.{row13}

abbrev empty_leaf : ℕ → ℕ → Tree
empty_leaf m n = refutation (line [] (m ∷ n ∷ []) ∷ [])

-- a tree whose halves are split again: each deletion is behind the line of a half, and there is
-- none behind the empty clause
abbrev four_leaves : Tree
four_leaves = split 1 (split 2 (empty_leaf 1 2) (empty_leaf 3 4)) (split 2 (empty_leaf 5 6) (empty_leaf 7 8))

four_leaves_proof : proof_text (proof row17 by_pure_units four_leaves)
    ≡ codes "9 1 2 0 1 2 0\n10 1 -2 0 3 4 0\n11 1 0 9 10 0\n11 d 9 10 0\n12 -1 2 0 5 6 0\n13 -1 -2 0 7 8 0\n14 -1 0 12 13 0\n14 d 12 13 0\n15 0 11 14 0\n"
unfolding digits
four_leaves_proof = refl

four_leaves_accepted : checks row17 (proof row17 by_pure_units four_leaves) ≡ accepted
four_leaves_accepted = refl

-- 5 3 1 0 0 / 6 -3 -1 0 0 / 7 1 0 1 2 0 / 8 0 7 3 4 0 /, whose step 6 leaves out a candidate that
-- is closed
abbrev closed_candidate : Step
closed_candidate = add (record { id = 5; clause = p3 ∷ p1 ∷ []; hints = []; groups = [] })

abbrev behind_it : List Step
behind_it = add (record { id = 6; clause = n3 ∷ n1 ∷ []; hints = []; groups = [] }) ∷ add (record { id = 7; clause = p1 ∷ []; hints = 1 ∷ 2 ∷ []; groups = [] })
    ∷ add (record { id = 8; clause = []; hints = 7 ∷ 3 ∷ 4 ∷ []; groups = [] }) ∷ []

-- no step behind it names it
deletable : AreDeletable row13 (closed_candidate ∷ []) behind_it (5 ∷ [])
deletable = record {
  distinct = refl;
  there = λ n a. subst (λ k. is_some (clause_of (clauses_after (numbered_from 1 row13.clauses) (closed_candidate ∷ [])) k) ≡ true) (sym (only n a)) refl;
  unnamed = λ n a. subst (λ k. list_any (names k) behind_it ≡ false) (sym (only n a)) refl;
}
  where
    only : (n : ℕ) → is_among n (5 ∷ []) ≡ true → n ≡ 5
    only n a = elim (or-cases (nat_eq n 5) false a) [ inl e ↦ eqb-true n 5 e | inr none ↦ absurd (cc) ]

closed_candidate_deleted : checks row13 (closed_candidate ∷ delete (record { id = 5; ids = 5 ∷ [] }) ∷ behind_it) ≡ accepted
closed_candidate_deleted = checks-deletion row13 (closed_candidate ∷ []) behind_it (record { id = 5; ids = 5 ∷ [] }) refl deletable

-- 5 1 0 -3 1 -4 2 0 / 6 0 5 3 4 0 / with a candidate deleted before the step whose group names it
named_candidate_deleted : checks row4 (delete (record { id = 4; ids = 3 ∷ [] })
    ∷ add (record { id = 5; clause = p1 ∷ []; hints = []; groups = record { candidate = 3; hints = 1 ∷ [] } ∷ record { candidate = 4; hints = 2 ∷ [] } ∷ [] }) ∷ [])
    ≡ refused no_such_clause 2
named_candidate_deleted = refl
