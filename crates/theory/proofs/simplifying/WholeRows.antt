-- Whole proofs and models of formulas that are simplified and then searched with a small budget,
-- computed by the definitions. What they must be comes from a program of its own.
use Rattle.std.proofs.Common.{◌≡◌, ℕ, zero, suc, ◌*◌, Bool, true, false, List, [], ◌∷◌, ◌++◌, sum_by, refl, Option, Some, None, option_map, codes}
use Rattle.std.specs.Fmt.{digits}
use Rattle.theory.specs.Truth.{Formula, Assignment}
use Rattle.theory.specs.Plans.{default_constants}
use Rattle.theory.specs.Trees.{Tree, first_model}
use Rattle.theory.specs.Checking.{checks, Checked, accepted}
use Rattle.theory.specs.Rup.{is_rup}
use Rattle.theory.specs.Texts.{proof_text}
use Rattle.theory.specs.Simplifying.{Change, unsimplified}
use Rattle.theory.specs.Eliminating.{tidying}
use Rattle.theory.specs.Trying.{Trial, size, effort, next_tried, changes_of, tried, first_trial}
use Rattle.theory.specs.Beginnings.{by_changes, begun, model_back, proof}
use Rattle.theory.proofs.searching.Rows.{n1, p1, n2, p2, n3, p3}
use Rattle.theory.proofs.searching.FocusedRows.{n4, p4, n5, p5, n6, p6, n7, p7, n8, p8, n9, p9, n10, p10}
use Rattle.theory.proofs.searching.Evaluation.{run_focused, tree_by}

abbrev changes_within : ℕ → ℕ → ℕ → Trial → Option (List Change)
changes_within zero V most t = None
changes_within (suc n) V most t = elim (next_tried V most t) [ None ↦ Some [] | Some x ↦ option_map (λ cs. changes_of x t.state ++ cs) (changes_within n V most (tried V x t)) ]

abbrev changes_for : Formula → Option (List Change)
changes_for F = option_map (λ ds. tidying (unsimplified F) ++ ds) (changes_within 100 F.vars (effort * sum_by size F.clauses) (first_trial F))

abbrev tree_behind : Formula → ℕ → List Change → Option Tree
tree_behind F B cs = tree_by 8 (run_focused default_constants 300 (begun F (by_changes cs)) B) []

-- the proof's text; whether it is accepted, each line by its hints alone; and a model
abbrev text_of : Formula → ℕ → List Change → Option (List ℕ)
text_of F B cs = option_map (λ t. proof_text (proof F (by_changes cs) t)) (tree_behind F B cs)

abbrev check_of : Formula → ℕ → List Change → Option (Checked × Bool)
check_of F B cs = option_map (λ t. (checks F (proof F (by_changes cs) t), is_rup F (proof F (by_changes cs) t))) (tree_behind F B cs)

abbrev model_of : Formula → ℕ → List Change → Option (Option Assignment)
model_of F B cs = option_map (λ t. option_map (model_back F (by_changes cs)) (first_model t)) (tree_behind F B cs)

abbrev behind : {X : Type 0} → Formula → (List Change → Option X) → Option X
behind F g = elim (changes_for F) [ Some cs ↦ g cs | None ↦ None ]

abbrev f1 : Formula
f1 = record { vars = 8; clauses = (p1 ∷ n4 ∷ n6 ∷ []) ∷ (n8 ∷ n4 ∷ []) ∷ (p4 ∷ p6 ∷ p3 ∷ []) ∷ (n2 ∷ p5 ∷ p1 ∷ p8 ∷ []) ∷ (p3 ∷ n7 ∷ p5 ∷ []) ∷ (p5 ∷ n3 ∷ []) ∷ (n1 ∷ n8 ∷ n2 ∷ []) ∷ (p5 ∷ p4 ∷ n8 ∷ []) ∷ (p1 ∷ p4 ∷ p7 ∷ p8 ∷ []) ∷ (p5 ∷ p1 ∷ n8 ∷ []) ∷ (p7 ∷ n1 ∷ []) ∷ (n8 ∷ p5 ∷ []) ∷ (n4 ∷ p3 ∷ n6 ∷ p8 ∷ []) ∷ (p4 ∷ n5 ∷ p8 ∷ []) ∷ (p8 ∷ p3 ∷ p6 ∷ []) ∷ (p4 ∷ p1 ∷ n5 ∷ []) ∷ (p6 ∷ p3 ∷ n7 ∷ []) ∷ (n5 ∷ n6 ∷ []) ∷ (n6 ∷ n8 ∷ p2 ∷ []) ∷ (n3 ∷ p8 ∷ n1 ∷ []) ∷ (p2 ∷ p1 ∷ n6 ∷ []) ∷ (p4 ∷ n6 ∷ []) ∷ (n4 ∷ p7 ∷ p1 ∷ []) ∷ (n5 ∷ n3 ∷ n7 ∷ p2 ∷ []) ∷ (n3 ∷ n8 ∷ n1 ∷ n2 ∷ []) ∷ (n7 ∷ p6 ∷ p3 ∷ []) ∷ (n8 ∷ p6 ∷ p3 ∷ []) ∷ (p8 ∷ p6 ∷ p7 ∷ []) ∷ (p4 ∷ n2 ∷ p3 ∷ []) ∷ (n5 ∷ n7 ∷ p6 ∷ []) ∷ (n3 ∷ n4 ∷ p6 ∷ []) ∷ (n7 ∷ n8 ∷ p5 ∷ []) ∷ [] }

text1 : behind f1 (text_of f1 1) ≡ Some (codes "33 -1 -6 -8 0 19 7 0\n34 -1 -3 -6 -8 0 19 25 0\n35 3 4 -6 -8 0 19 29 0\n36 1 5 -6 8 0 21 4 0\n37 1 3 4 -6 0 21 29 0\n38 -1 -3 -5 -7 -8 0 24 7 0\n39 -1 -3 -5 -7 -8 0 24 25 0\n39 d 4 7 19 21 24 25 29 0\n40 -1 8 7 0 11 0\n41 6 8 7 0 28 0\n42 4 8 7 0 40 9 0\n43 8 7 0 40 41 42 1 0\n43 d 40 41 42 0\n44 5 8 -7 0 5 6 0\n45 4 8 -7 0 44 14 0\n46 -6 8 -7 0 44 18 0\n47 8 -7 0 44 46 30 0\n47 d 44 45 46 0\n48 8 0 43 47 0\n48 d 43 47 0\n49 -4 -8 0 2 0\n50 5 -8 0 12 0\n51 -6 -8 0 49 22 0\n52 1 -8 0 49 50 16 0\n53 3 -8 0 49 51 3 0\n54 -7 -8 0 50 51 30 0\n55 -8 0 52 54 11 0\n55 d 49 50 51 52 53 54 0\n56 0 48 55 0\n")
unfolding digits
text1 = refl

check1 : behind f1 (check_of f1 1) ≡ Some (accepted, true)
check1 = refl

abbrev f2 : Formula
f2 = record { vars = 8; clauses = (p6 ∷ p2 ∷ []) ∷ (p2 ∷ n2 ∷ p3 ∷ []) ∷ (p1 ∷ n7 ∷ []) ∷ (n7 ∷ p2 ∷ n3 ∷ []) ∷ (n3 ∷ n1 ∷ n4 ∷ []) ∷ (n2 ∷ p3 ∷ p4 ∷ []) ∷ (n1 ∷ n3 ∷ n8 ∷ []) ∷ (n6 ∷ p3 ∷ n5 ∷ []) ∷ (n5 ∷ n2 ∷ p1 ∷ []) ∷ (n4 ∷ p2 ∷ n6 ∷ []) ∷ (n8 ∷ n7 ∷ []) ∷ (n6 ∷ n4 ∷ n7 ∷ []) ∷ (n4 ∷ p1 ∷ n6 ∷ []) ∷ (p4 ∷ p7 ∷ n2 ∷ p5 ∷ []) ∷ (n8 ∷ p7 ∷ []) ∷ (p5 ∷ n6 ∷ p8 ∷ []) ∷ (n7 ∷ p3 ∷ p8 ∷ n2 ∷ []) ∷ (n2 ∷ n7 ∷ n8 ∷ []) ∷ (n4 ∷ n1 ∷ n2 ∷ []) ∷ (n3 ∷ n7 ∷ []) ∷ (n7 ∷ p4 ∷ []) ∷ (n4 ∷ p5 ∷ []) ∷ (p6 ∷ n7 ∷ n2 ∷ []) ∷ [] }

model2 : behind f2 (model_of f2 1) ≡ Some (Some (false ∷ false ∷ true ∷ false ∷ true ∷ true ∷ false ∷ false ∷ []))
model2 = refl

abbrev f3 : Formula
f3 = record { vars = 10; clauses = (p3 ∷ p1 ∷ p6 ∷ []) ∷ (n3 ∷ p6 ∷ []) ∷ (p7 ∷ p6 ∷ p8 ∷ []) ∷ (p3 ∷ p8 ∷ n10 ∷ []) ∷ (n7 ∷ p9 ∷ n3 ∷ []) ∷ (p10 ∷ n4 ∷ n3 ∷ []) ∷ (p3 ∷ n10 ∷ []) ∷ (p6 ∷ p5 ∷ p10 ∷ []) ∷ (n7 ∷ p9 ∷ []) ∷ (p8 ∷ p9 ∷ []) ∷ (n7 ∷ n8 ∷ p2 ∷ p5 ∷ []) ∷ (n8 ∷ n4 ∷ []) ∷ (p6 ∷ p3 ∷ p10 ∷ []) ∷ (p1 ∷ p6 ∷ p7 ∷ []) ∷ (p8 ∷ n10 ∷ []) ∷ (n6 ∷ n4 ∷ p5 ∷ []) ∷ (n10 ∷ p2 ∷ n4 ∷ []) ∷ (n5 ∷ p4 ∷ n8 ∷ n1 ∷ []) ∷ (n8 ∷ n2 ∷ []) ∷ (n8 ∷ n6 ∷ n10 ∷ n3 ∷ []) ∷ (p3 ∷ p8 ∷ p5 ∷ n10 ∷ []) ∷ (p2 ∷ p6 ∷ p7 ∷ n3 ∷ []) ∷ (n2 ∷ n10 ∷ []) ∷ (n4 ∷ n9 ∷ []) ∷ (n4 ∷ p2 ∷ n5 ∷ []) ∷ (n7 ∷ p5 ∷ p1 ∷ []) ∷ (n6 ∷ n8 ∷ p10 ∷ []) ∷ (n9 ∷ p5 ∷ []) ∷ [] }

model3 : behind f3 (model_of f3 2) ≡ Some (Some (false ∷ true ∷ true ∷ false ∷ true ∷ true ∷ true ∷ false ∷ true ∷ false ∷ []))
model3 = refl

abbrev f4 : Formula
f4 = record { vars = 7; clauses = (p2 ∷ p4 ∷ p1 ∷ []) ∷ (n4 ∷ p1 ∷ p5 ∷ []) ∷ (n5 ∷ n4 ∷ []) ∷ (n1 ∷ p6 ∷ n2 ∷ []) ∷ (n3 ∷ n2 ∷ []) ∷ (p6 ∷ p3 ∷ []) ∷ (p1 ∷ p7 ∷ p3 ∷ p4 ∷ []) ∷ (n1 ∷ p7 ∷ []) ∷ (n5 ∷ p2 ∷ []) ∷ (n7 ∷ p3 ∷ []) ∷ (p1 ∷ p2 ∷ p4 ∷ p3 ∷ []) ∷ (n7 ∷ p4 ∷ []) ∷ (n7 ∷ n3 ∷ []) ∷ (p6 ∷ n1 ∷ []) ∷ (n7 ∷ n5 ∷ n2 ∷ []) ∷ (p6 ∷ p3 ∷ p4 ∷ n7 ∷ []) ∷ (p3 ∷ p5 ∷ n1 ∷ n4 ∷ []) ∷ (n3 ∷ n1 ∷ n6 ∷ []) ∷ (p7 ∷ n1 ∷ p6 ∷ []) ∷ (p6 ∷ n5 ∷ p1 ∷ []) ∷ (p5 ∷ p7 ∷ n3 ∷ []) ∷ (p1 ∷ p4 ∷ p7 ∷ n5 ∷ []) ∷ (p5 ∷ p1 ∷ n6 ∷ n3 ∷ []) ∷ (p3 ∷ n7 ∷ n6 ∷ n1 ∷ []) ∷ (n7 ∷ p5 ∷ n3 ∷ []) ∷ (n5 ∷ n7 ∷ []) ∷ (n7 ∷ n3 ∷ p5 ∷ n1 ∷ []) ∷ (p7 ∷ p2 ∷ n3 ∷ []) ∷ [] }

text4 : behind f4 (text_of f4 1) ≡ Some (codes "29 -1 -2 -3 0 4 18 0\n30 -1 -2 3 -7 0 4 24 0\n31 -1 3 -7 0 6 24 0\n32 -1 -3 0 14 18 0\n33 -1 3 -7 0 14 24 0\n34 -1 3 4 -7 0 16 24 0\n35 -1 -3 7 0 19 18 0\n35 d 4 6 14 16 18 19 20 23 24 0\n36 -1 7 0 8 0\n37 -5 7 0 36 3 22 0\n38 -4 7 0 36 37 2 0\n39 -3 7 0 37 21 0\n40 7 0 36 38 39 7 0\n40 d 36 37 38 39 0\n41 3 -7 0 10 0\n42 -7 0 41 13 0\n42 d 41 0\n43 0 40 42 0\n")
unfolding digits
text4 = refl

check4 : behind f4 (check_of f4 1) ≡ Some (accepted, true)
check4 = refl

abbrev f5 : Formula
f5 = record { vars = 9; clauses = (n1 ∷ p8 ∷ n7 ∷ []) ∷ (p3 ∷ p8 ∷ []) ∷ (p6 ∷ n4 ∷ []) ∷ (p3 ∷ p4 ∷ n5 ∷ []) ∷ (n1 ∷ n9 ∷ n6 ∷ []) ∷ (n7 ∷ p5 ∷ []) ∷ (n6 ∷ n3 ∷ n5 ∷ n8 ∷ []) ∷ (p4 ∷ p1 ∷ []) ∷ (p7 ∷ n6 ∷ n5 ∷ []) ∷ (p2 ∷ n1 ∷ []) ∷ (n5 ∷ n6 ∷ n2 ∷ []) ∷ (n6 ∷ n2 ∷ p3 ∷ []) ∷ (p3 ∷ p2 ∷ n8 ∷ []) ∷ (n8 ∷ p4 ∷ p9 ∷ []) ∷ (p5 ∷ p2 ∷ p1 ∷ n3 ∷ []) ∷ (p8 ∷ p4 ∷ n1 ∷ n6 ∷ []) ∷ (p1 ∷ p2 ∷ n9 ∷ []) ∷ (p1 ∷ n3 ∷ []) ∷ (n1 ∷ p3 ∷ n6 ∷ p9 ∷ []) ∷ (p4 ∷ n1 ∷ []) ∷ (n3 ∷ n6 ∷ n7 ∷ []) ∷ (p4 ∷ p5 ∷ n8 ∷ []) ∷ (n4 ∷ p2 ∷ []) ∷ (p4 ∷ n3 ∷ n8 ∷ []) ∷ (n6 ∷ n4 ∷ []) ∷ (p7 ∷ p3 ∷ n6 ∷ []) ∷ (n4 ∷ n8 ∷ []) ∷ (p4 ∷ p3 ∷ []) ∷ (p1 ∷ n9 ∷ []) ∷ (n8 ∷ p1 ∷ []) ∷ (n5 ∷ p9 ∷ n6 ∷ []) ∷ (p6 ∷ n2 ∷ n9 ∷ []) ∷ (n9 ∷ n3 ∷ n2 ∷ n1 ∷ []) ∷ (n9 ∷ p5 ∷ p8 ∷ p2 ∷ []) ∷ (n3 ∷ n7 ∷ n8 ∷ []) ∷ (n2 ∷ p1 ∷ p9 ∷ []) ∷ [] }

text5 : behind f5 (text_of f5 2) ≡ Some (codes "37 -1 -5 -6 8 0 9 1 0\n38 -3 -5 -6 0 9 21 0\n39 -3 -5 -6 -8 0 9 35 0\n40 -1 3 -6 8 0 26 1 0\n41 3 5 -6 0 26 6 0\n41 d 1 6 9 21 26 35 0\n42 -4 6 0 3 0\n43 1 6 0 42 8 0\n44 6 0 42 43 20 0\n44 d 42 43 0\n45 -4 -6 0 25 0\n46 1 -6 0 45 8 0\n47 -6 0 45 46 20 0\n47 d 45 46 0\n48 0 44 47 0\n")
unfolding digits
text5 = refl

check5 : behind f5 (check_of f5 2) ≡ Some (accepted, true)
check5 = refl

abbrev f6 : Formula
f6 = record { vars = 8; clauses = (p8 ∷ p4 ∷ []) ∷ (n1 ∷ n4 ∷ []) ∷ (n1 ∷ n6 ∷ []) ∷ (p8 ∷ n2 ∷ n6 ∷ []) ∷ (p8 ∷ n5 ∷ p7 ∷ []) ∷ (n6 ∷ n5 ∷ p7 ∷ []) ∷ (p7 ∷ n6 ∷ []) ∷ (p8 ∷ p7 ∷ p6 ∷ []) ∷ (n7 ∷ n3 ∷ n8 ∷ []) ∷ (n5 ∷ n2 ∷ p7 ∷ []) ∷ (p8 ∷ n5 ∷ n7 ∷ []) ∷ (p4 ∷ n1 ∷ n3 ∷ []) ∷ (p1 ∷ p3 ∷ p4 ∷ p5 ∷ []) ∷ (p3 ∷ n8 ∷ p4 ∷ []) ∷ (p2 ∷ p3 ∷ []) ∷ (p1 ∷ n6 ∷ []) ∷ (p2 ∷ p3 ∷ p5 ∷ []) ∷ (p6 ∷ p8 ∷ n1 ∷ p2 ∷ []) ∷ (p8 ∷ p5 ∷ n6 ∷ []) ∷ (p6 ∷ p1 ∷ n4 ∷ []) ∷ (p7 ∷ p4 ∷ []) ∷ (p1 ∷ n3 ∷ []) ∷ (n5 ∷ n7 ∷ []) ∷ (p5 ∷ n1 ∷ n7 ∷ n6 ∷ []) ∷ (n6 ∷ n5 ∷ p4 ∷ []) ∷ (n4 ∷ p7 ∷ p5 ∷ []) ∷ (n5 ∷ p4 ∷ []) ∷ (p4 ∷ n3 ∷ p7 ∷ p2 ∷ []) ∷ [] }

text6 : behind f6 (text_of f6 1) ≡ Some (codes "29 3 -6 8 0 15 4 0\n30 3 -5 7 0 15 10 0\n31 3 5 -6 8 0 17 4 0\n32 -1 -5 6 7 8 0 18 10 0\n33 -3 4 -6 7 8 0 28 4 0\n34 -3 4 -5 7 0 28 10 0\n34 d 4 10 15 17 18 28 0\n35 -3 4 -7 0 1 9 0\n36 3 4 0 1 14 0\n37 3 4 -5 7 0 5 14 0\n38 3 4 6 7 0 8 14 0\n39 -3 -5 -7 0 11 9 0\n40 3 4 -5 -7 0 11 14 0\n41 -3 5 -6 -7 0 19 9 0\n42 3 4 5 -6 0 19 14 0\n43 3 4 -6 0 29 14 0\n44 3 4 5 -6 0 31 14 0\n45 -1 3 4 -5 6 7 0 32 14 0\n45 d 1 5 8 9 11 14 19 29 31 32 33 0\n46 -6 7 0 7 0\n47 4 7 0 21 0\n48 -1 7 0 47 2 0\n49 7 0 46 47 48 20 0\n49 d 46 47 48 0\n50 -5 -7 1 0 23 0\n51 -6 -7 1 0 16 0\n52 -3 -7 1 0 22 0\n53 -4 -7 1 0 51 20 0\n54 -7 1 0 50 52 53 13 0\n54 d 50 51 52 53 0\n55 -5 -7 -1 0 23 0\n56 -4 -7 -1 0 2 0\n57 -6 -7 -1 0 3 0\n58 -3 -7 -1 0 56 12 0\n59 -7 -1 0 56 58 36 0\n59 d 55 56 57 58 0\n60 -7 0 54 59 0\n60 d 54 59 0\n61 0 49 60 0\n")
unfolding digits
text6 = refl

check6 : behind f6 (check_of f6 1) ≡ Some (accepted, true)
check6 = refl
