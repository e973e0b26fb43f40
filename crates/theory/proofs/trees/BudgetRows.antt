-- Worked rows of budgets that grow with a cube's literals, computed by the definitions.
use Rattle.std.proofs.Common.{◌≡◌, true, false, [], ◌∷◌, ◌++◌, map, Some, refl, option_map}
use Rattle.theory.specs.Literals.{positive, negative}
use Rattle.theory.specs.Truth.{Formula}
use Rattle.theory.specs.Trails.{variables}
use Rattle.theory.specs.Search.{model, refuted, exhausted, budget_of}
use Rattle.theory.specs.Trees.{split_on, refuted_leaf, nodes_of}
use Rattle.theory.proofs.searching.Evaluation.{run, tree}
use Rattle.theory.proofs.searching.Rows.{p1, n1, p2, n2, p3, n3, row17, line, all_false}

-- the eight clauses over three variables at budget 1: one split, and two leaves that have budget 2
budget_1_nodes : option_map nodes_of (tree 5 30 row17 1 [])
    ≡ Some (split_on 1 ∷ refuted_leaf (line (p2 ∷ []) (1 ∷ 2 ∷ []) ∷ line [] (9 ∷ 3 ∷ 4 ∷ []) ∷ [])
    ∷ refuted_leaf (line (p2 ∷ []) (5 ∷ 6 ∷ []) ∷ line [] (9 ∷ 7 ∷ 8 ∷ []) ∷ []) ∷ [])
budget_1_nodes = refl

-- cubes that aren't of its tree
budget_1_quarter : run 30 row17 1 (n1 ∷ n2 ∷ []) ≡ Some (refuted (line [] (1 ∷ 2 ∷ []) ∷ []))
budget_1_quarter = refl

budget_1_foreign : run 30 row17 1 (p3 ∷ []) ≡ Some (refuted (line (p1 ∷ []) (2 ∷ 4 ∷ []) ∷ line [] (9 ∷ 6 ∷ 8 ∷ []) ∷ []))
budget_1_foreign = refl

-- p cnf 3 4 / 1 2 3 0 / 1 2 -3 0 / -1 2 3 0 / -1 2 -3 0 /
abbrev two_true : Formula
two_true = record { vars = 3; clauses = (p1 ∷ p2 ∷ p3 ∷ []) ∷ (p1 ∷ p2 ∷ n3 ∷ []) ∷ (n1 ∷ p2 ∷ p3 ∷ []) ∷ (n1 ∷ p2 ∷ n3 ∷ []) ∷ [] }

two_true_root : run 30 two_true 1 [] ≡ Some (exhausted 1)
two_true_root = refl

two_true_half : run 30 two_true 1 (n1 ∷ []) ≡ Some (model (false ∷ true ∷ false ∷ []))
two_true_half = refl

-- the budget of a cube
budget_at_root : budget_of 1000 [] ≡ 1000
budget_at_root = refl

budget_at_depth_2 : budget_of 1000 (n1 ∷ n2 ∷ []) ≡ 3000
budget_at_depth_2 = refl

budget_at_most : budget_of 100000 (map positive (variables 10)) ≡ 1000000
budget_at_most = refl

-- two clauses of the literals 1 to 39, one with 40 and one with -40: the root is exhausted by its
-- first conflict, and its false half learns from that one and finds the model
abbrev deep : Formula
deep = record { vars = 40; clauses = (map positive (variables 40)) ∷ (map positive (variables 39) ++ negative 40 ∷ []) ∷ [] }

deep_root : run 60 deep 1 [] ≡ Some (exhausted 1)
deep_root = refl

deep_half : run 60 deep 1 (n1 ∷ []) ≡ Some (model (all_false 38 ++ true ∷ false ∷ []))
deep_half = refl
