-- Rows of the focused search, each of which another outcome would have without one part of its
-- definition. What they must be comes from a program of its own.
use Rattle.std.proofs.Common.{◌≡◌, true, false, [], ◌∷◌, Some, refl}
use Rattle.theory.specs.Truth.{Formula}
use Rattle.theory.specs.Search.{model, refuted}
use Rattle.theory.proofs.searching.Evaluation.{run_focused}
use Rattle.theory.proofs.searching.Rows.{p1, n1, p2, n2, p3, n3, line}
use Rattle.theory.proofs.searching.FocusedRows.{p4, n4, p5, n5, p6, n6, p7, n7, p8, n8, p9, n9, p10, n10, p11, n11, p12, n12, p13, n13, p14, n14, p15, n15, small}

-- a literal of the first line follows from its others, and isn't in it
abbrev removed_formula : Formula
removed_formula = record { vars = 5; clauses = (n5 ∷ p3 ∷ []) ∷ (p2 ∷ n3 ∷ p1 ∷ []) ∷ (n4 ∷ n1 ∷ []) ∷ (p1 ∷ p5 ∷ []) ∷ (p4 ∷ n1 ∷ []) ∷ (p1 ∷ n2 ∷ n5 ∷ []) ∷ [] }

removed : run_focused small 20 removed_formula 1000 [] ≡ Some (refuted (line (p1 ∷ n5 ∷ []) (1 ∷ 2 ∷ 6 ∷ []) ∷ line (n1 ∷ []) (3 ∷ 5 ∷ []) ∷ line (p5 ∷ []) (8 ∷ 4 ∷ []) ∷ line [] (8 ∷ 9 ∷ 7 ∷ []) ∷ []))
removed = refl

-- a literal is removable by another one that is, and the line lacks both
abbrev by_removable_formula : Formula
by_removable_formula = record { vars = 6; clauses = (n1 ∷ n3 ∷ []) ∷ (p1 ∷ p6 ∷ []) ∷ (n6 ∷ n5 ∷ []) ∷ (n2 ∷ n6 ∷ p1 ∷ []) ∷ (p3 ∷ n1 ∷ []) ∷ (p4 ∷ p2 ∷ p1 ∷ []) ∷ (n4 ∷ p5 ∷ []) ∷ [] }

by_removable : run_focused small 20 by_removable_formula 1000 [] ≡ Some (refuted (line (p1 ∷ n6 ∷ []) (3 ∷ 7 ∷ 4 ∷ 6 ∷ []) ∷ line (n1 ∷ []) (1 ∷ 5 ∷ []) ∷ line (p6 ∷ []) (9 ∷ 2 ∷ []) ∷ line [] (9 ∷ 10 ∷ 8 ∷ []) ∷ []))
by_removable = refl

-- a literal is removable by one of level 0
abbrev by_level_0_formula : Formula
by_level_0_formula = record { vars = 7; clauses = (p1 ∷ p5 ∷ []) ∷ (n5 ∷ p1 ∷ []) ∷ (p3 ∷ p6 ∷ []) ∷ (n6 ∷ n2 ∷ p3 ∷ []) ∷ (p4 ∷ p2 ∷ p3 ∷ []) ∷ (p7 ∷ n6 ∷ n4 ∷ []) ∷ (n7 ∷ []) ∷ (n3 ∷ n1 ∷ []) ∷ [] }

by_level_0 : run_focused small 20 by_level_0_formula 1000 [] ≡ Some (refuted (line (p3 ∷ n6 ∷ []) (7 ∷ 6 ∷ 4 ∷ 5 ∷ []) ∷ line (p1 ∷ []) (1 ∷ 2 ∷ []) ∷ line (n3 ∷ []) (10 ∷ 8 ∷ []) ∷ line (p6 ∷ []) (11 ∷ 3 ∷ []) ∷ line [] (11 ∷ 12 ∷ 9 ∷ []) ∷ []))
by_level_0 = refl

-- a variable is seen in the reason of a literal of the line alone, and decided first
abbrev seen_by_reason_formula : Formula
seen_by_reason_formula = record { vars = 4; clauses = (p2 ∷ n3 ∷ []) ∷ (p4 ∷ p3 ∷ []) ∷ (p1 ∷ n4 ∷ []) ∷ (n1 ∷ n2 ∷ n3 ∷ []) ∷ [] }

seen_by_reason : run_focused small 20 seen_by_reason_formula 1000 [] ≡ Some (model (true ∷ true ∷ false ∷ true ∷ []))
seen_by_reason = refl

-- it restarts
abbrev restart_formula : Formula
restart_formula = record { vars = 12; clauses = (p2 ∷ p10 ∷ p11 ∷ []) ∷ (p9 ∷ n11 ∷ p10 ∷ []) ∷ (n2 ∷ p1 ∷ []) ∷ (p9 ∷ n3 ∷ p5 ∷ []) ∷ (n6 ∷ p3 ∷ []) ∷ (n8 ∷ p3 ∷ p12 ∷ []) ∷ (p6 ∷ n5 ∷ n9 ∷ []) ∷ (n2 ∷ n4 ∷ []) ∷ (n3 ∷ n12 ∷ n2 ∷ []) ∷ (n4 ∷ p5 ∷ []) ∷ (p6 ∷ n9 ∷ p4 ∷ []) ∷ (p11 ∷ p9 ∷ p2 ∷ []) ∷ (p7 ∷ n11 ∷ p1 ∷ []) ∷ (p10 ∷ p5 ∷ []) ∷ (n9 ∷ p1 ∷ n3 ∷ []) ∷ (n10 ∷ p8 ∷ p3 ∷ []) ∷ (n6 ∷ n1 ∷ []) ∷ (n12 ∷ n7 ∷ n10 ∷ []) ∷ (p9 ∷ n7 ∷ []) ∷ (n1 ∷ p3 ∷ p4 ∷ []) ∷ (n1 ∷ n5 ∷ n10 ∷ []) ∷ [] }

restart : run_focused small 40 restart_formula 1000 [] ≡ Some (model (true ∷ true ∷ true ∷ false ∷ true ∷ false ∷ false ∷ true ∷ false ∷ false ∷ false ∷ false ∷ []))
restart = refl

-- it doesn't restart in the conflict behind a restart
abbrev apart_formula : Formula
apart_formula = record { vars = 11; clauses = (p3 ∷ n4 ∷ n11 ∷ []) ∷ (n3 ∷ p10 ∷ n9 ∷ n8 ∷ []) ∷ (p4 ∷ p5 ∷ []) ∷ (n5 ∷ p3 ∷ p1 ∷ []) ∷ (n6 ∷ p4 ∷ []) ∷ (n6 ∷ n10 ∷ []) ∷ (p10 ∷ p4 ∷ n7 ∷ []) ∷ (p2 ∷ n6 ∷ []) ∷ (n10 ∷ p2 ∷ p7 ∷ n9 ∷ []) ∷ (n5 ∷ n11 ∷ p4 ∷ []) ∷ (p6 ∷ p8 ∷ n9 ∷ n2 ∷ []) ∷ (n4 ∷ n7 ∷ []) ∷ (n2 ∷ n3 ∷ n4 ∷ []) ∷ (p3 ∷ p9 ∷ p5 ∷ []) ∷ (p2 ∷ n9 ∷ p11 ∷ []) ∷ (p9 ∷ p10 ∷ n6 ∷ p3 ∷ []) ∷ (n1 ∷ p10 ∷ p11 ∷ []) ∷ (p3 ∷ n9 ∷ p10 ∷ []) ∷ (p1 ∷ n8 ∷ p9 ∷ []) ∷ (p9 ∷ n11 ∷ n3 ∷ p6 ∷ []) ∷ (p8 ∷ n10 ∷ p9 ∷ []) ∷ (n1 ∷ n7 ∷ []) ∷ (p6 ∷ n2 ∷ p7 ∷ p10 ∷ []) ∷ (p2 ∷ p7 ∷ p8 ∷ []) ∷ (n7 ∷ n8 ∷ n11 ∷ p1 ∷ []) ∷ (n11 ∷ n4 ∷ p10 ∷ p6 ∷ []) ∷ (n10 ∷ n4 ∷ n2 ∷ p5 ∷ []) ∷ (n10 ∷ n1 ∷ n2 ∷ n8 ∷ []) ∷ [] }

apart : run_focused small 60 apart_formula 1000 [] ≡ Some (model (true ∷ false ∷ false ∷ false ∷ true ∷ false ∷ false ∷ true ∷ false ∷ true ∷ false ∷ []))
apart = refl

-- it goes over to stable mode
abbrev stable_formula : Formula
stable_formula = record { vars = 11; clauses = (p3 ∷ n2 ∷ p6 ∷ []) ∷ (n11 ∷ n3 ∷ []) ∷ (p5 ∷ p1 ∷ n11 ∷ []) ∷ (p5 ∷ p2 ∷ []) ∷ (p11 ∷ n3 ∷ []) ∷ (p1 ∷ n4 ∷ n6 ∷ []) ∷ (n1 ∷ n9 ∷ []) ∷ (p9 ∷ p10 ∷ n7 ∷ []) ∷ (n6 ∷ n8 ∷ []) ∷ (n5 ∷ n10 ∷ p6 ∷ []) ∷ (p8 ∷ p4 ∷ []) ∷ (p9 ∷ p7 ∷ []) ∷ (n1 ∷ n6 ∷ []) ∷ [] }

stable : run_focused small 40 stable_formula 1000 [] ≡ Some (model (false ∷ false ∷ false ∷ true ∷ true ∷ false ∷ false ∷ false ∷ true ∷ false ∷ false ∷ []))
stable = refl

-- and back
abbrev restarting_formula : Formula
restarting_formula = record { vars = 12; clauses = (p2 ∷ p10 ∷ p11 ∷ []) ∷ (p9 ∷ n11 ∷ p10 ∷ []) ∷ (n2 ∷ p1 ∷ []) ∷ (p9 ∷ n3 ∷ p5 ∷ []) ∷ (n6 ∷ p3 ∷ []) ∷ (n8 ∷ p3 ∷ p12 ∷ []) ∷ (p6 ∷ n5 ∷ n9 ∷ []) ∷ (n2 ∷ n4 ∷ []) ∷ (n3 ∷ n12 ∷ n2 ∷ []) ∷ (n4 ∷ p5 ∷ []) ∷ (p6 ∷ n9 ∷ p4 ∷ []) ∷ (p11 ∷ p9 ∷ p2 ∷ []) ∷ (p7 ∷ n11 ∷ p1 ∷ []) ∷ (p10 ∷ p5 ∷ []) ∷ (n9 ∷ p1 ∷ n3 ∷ []) ∷ (n10 ∷ p8 ∷ p3 ∷ []) ∷ (n6 ∷ n1 ∷ []) ∷ (n12 ∷ n7 ∷ n10 ∷ []) ∷ (p9 ∷ n7 ∷ []) ∷ (n1 ∷ p3 ∷ p4 ∷ []) ∷ (n1 ∷ n5 ∷ n10 ∷ []) ∷ [] }

restarting : run_focused small 40 restarting_formula 1000 [] ≡ Some (model (true ∷ true ∷ true ∷ false ∷ true ∷ false ∷ false ∷ true ∷ false ∷ false ∷ false ∷ false ∷ []))
restarting = refl

-- the values become true at the end of the first round
abbrev to_true_formula : Formula
to_true_formula = record { vars = 3; clauses = (n2 ∷ p3 ∷ []) ∷ (n1 ∷ n3 ∷ []) ∷ (p1 ∷ n3 ∷ []) ∷ [] }

to_true : run_focused small 20 to_true_formula 1000 [] ≡ Some (model (true ∷ false ∷ false ∷ []))
to_true = refl

-- and the other ones at the end of the second
abbrev to_others_formula : Formula
to_others_formula = record { vars = 5; clauses = (n5 ∷ p2 ∷ []) ∷ (n2 ∷ n5 ∷ []) ∷ (p1 ∷ p3 ∷ []) ∷ (n1 ∷ p3 ∷ n2 ∷ []) ∷ (n3 ∷ p4 ∷ []) ∷ (n4 ∷ p5 ∷ n3 ∷ []) ∷ [] }

to_others : run_focused small 20 to_others_formula 1000 [] ≡ Some (model (true ∷ false ∷ false ∷ false ∷ false ∷ []))
to_others = refl

-- and false at the end of the third
abbrev to_false_formula : Formula
to_false_formula = record { vars = 9; clauses = (p3 ∷ p6 ∷ []) ∷ (p7 ∷ n6 ∷ n8 ∷ []) ∷ (p4 ∷ p9 ∷ n1 ∷ []) ∷ (n9 ∷ n3 ∷ p7 ∷ []) ∷ (p2 ∷ p1 ∷ []) ∷ (n1 ∷ n3 ∷ []) ∷ (n4 ∷ p5 ∷ []) ∷ (n4 ∷ n2 ∷ p8 ∷ []) ∷ (p1 ∷ p4 ∷ []) ∷ (p9 ∷ p6 ∷ n3 ∷ []) ∷ (n8 ∷ n7 ∷ []) ∷ (p2 ∷ n5 ∷ []) ∷ [] }

to_false : run_focused small 40 to_false_formula 1000 [] ≡ Some (model (true ∷ false ∷ false ∷ false ∷ false ∷ true ∷ false ∷ false ∷ true ∷ []))
to_false = refl

-- a clause is forgotten
abbrev forgets_formula : Formula
forgets_formula = record { vars = 11; clauses = (p11 ∷ p9 ∷ []) ∷ (p6 ∷ p3 ∷ []) ∷ (n1 ∷ n4 ∷ []) ∷ (p4 ∷ n8 ∷ p2 ∷ []) ∷ (n9 ∷ n8 ∷ p6 ∷ []) ∷ (p11 ∷ p8 ∷ []) ∷ (p4 ∷ n1 ∷ n9 ∷ []) ∷ (p6 ∷ p2 ∷ []) ∷ (n11 ∷ p5 ∷ n10 ∷ []) ∷ (p11 ∷ n8 ∷ []) ∷ (n5 ∷ p1 ∷ n6 ∷ []) ∷ (p7 ∷ n4 ∷ []) ∷ (p10 ∷ n9 ∷ p2 ∷ []) ∷ (n11 ∷ n2 ∷ p1 ∷ []) ∷ (n7 ∷ n4 ∷ p5 ∷ []) ∷ (p8 ∷ p9 ∷ []) ∷ (n3 ∷ n1 ∷ []) ∷ [] }

forgets : run_focused small 40 forgets_formula 1000 [] ≡ Some (model (true ∷ true ∷ false ∷ false ∷ false ∷ true ∷ true ∷ true ∷ false ∷ false ∷ true ∷ []))
forgets = refl

-- a clause isn't forgotten, since it was used
abbrev used_formula : Formula
used_formula = record { vars = 12; clauses = (n8 ∷ n11 ∷ n12 ∷ []) ∷ (n10 ∷ p7 ∷ []) ∷ (n10 ∷ n3 ∷ []) ∷ (p11 ∷ p4 ∷ []) ∷ (n8 ∷ p11 ∷ n7 ∷ []) ∷ (n6 ∷ p8 ∷ n3 ∷ []) ∷ (p6 ∷ p5 ∷ []) ∷ (n12 ∷ p1 ∷ n10 ∷ []) ∷ (n6 ∷ p8 ∷ n10 ∷ []) ∷ (p2 ∷ n1 ∷ []) ∷ (p10 ∷ p6 ∷ p12 ∷ []) ∷ (n4 ∷ n5 ∷ n2 ∷ []) ∷ (n7 ∷ n1 ∷ p6 ∷ []) ∷ (p9 ∷ p6 ∷ n3 ∷ []) ∷ (n12 ∷ n9 ∷ []) ∷ (n7 ∷ p3 ∷ n6 ∷ []) ∷ (n2 ∷ n6 ∷ []) ∷ (p5 ∷ p7 ∷ []) ∷ (p1 ∷ n5 ∷ p3 ∷ []) ∷ (p12 ∷ p2 ∷ n8 ∷ n4 ∷ []) ∷ [] }

used : run_focused small 40 used_formula 1000 [] ≡ Some (model (false ∷ false ∷ true ∷ false ∷ true ∷ true ∷ true ∷ true ∷ true ∷ false ∷ true ∷ false ∷ []))
used = refl

-- a clause is forgotten that had been used, but not in the last round
abbrev used_before_formula : Formula
used_before_formula = record { vars = 11; clauses = (p11 ∷ p9 ∷ []) ∷ (p6 ∷ p3 ∷ []) ∷ (n1 ∷ n4 ∷ []) ∷ (p4 ∷ n8 ∷ p2 ∷ []) ∷ (n9 ∷ n8 ∷ p6 ∷ []) ∷ (p11 ∷ p8 ∷ []) ∷ (p4 ∷ n1 ∷ n9 ∷ []) ∷ (p6 ∷ p2 ∷ []) ∷ (n11 ∷ p5 ∷ n10 ∷ []) ∷ (p11 ∷ n8 ∷ []) ∷ (n5 ∷ p1 ∷ n6 ∷ []) ∷ (p7 ∷ n4 ∷ []) ∷ (p10 ∷ n9 ∷ p2 ∷ []) ∷ (n11 ∷ n2 ∷ p1 ∷ []) ∷ (n7 ∷ n4 ∷ p5 ∷ []) ∷ (p8 ∷ p9 ∷ []) ∷ (n3 ∷ n1 ∷ []) ∷ [] }

used_before : run_focused small 40 used_before_formula 1000 [] ≡ Some (model (true ∷ true ∷ false ∷ false ∷ false ∷ true ∷ true ∷ true ∷ false ∷ false ∷ true ∷ []))
used_before = refl

-- the first quarter isn't forgotten
abbrev quarter_formula : Formula
quarter_formula = record { vars = 15; clauses = (p9 ∷ p8 ∷ n7 ∷ []) ∷ (p14 ∷ n3 ∷ p6 ∷ []) ∷ (p2 ∷ n10 ∷ []) ∷ (n15 ∷ p2 ∷ n3 ∷ []) ∷ (p13 ∷ n9 ∷ n3 ∷ []) ∷ (n4 ∷ p14 ∷ p9 ∷ []) ∷ (p11 ∷ p4 ∷ []) ∷ (n6 ∷ n13 ∷ p7 ∷ []) ∷ (n1 ∷ p8 ∷ []) ∷ (p5 ∷ n12 ∷ p1 ∷ []) ∷ (n8 ∷ n2 ∷ []) ∷ (p5 ∷ n7 ∷ n8 ∷ []) ∷ (n12 ∷ n10 ∷ []) ∷ (p10 ∷ p13 ∷ []) ∷ (p15 ∷ n11 ∷ p2 ∷ []) ∷ (n6 ∷ n7 ∷ n15 ∷ []) ∷ (n9 ∷ p7 ∷ p3 ∷ []) ∷ (n5 ∷ n7 ∷ p15 ∷ []) ∷ (n2 ∷ p7 ∷ p4 ∷ []) ∷ (p6 ∷ p15 ∷ p11 ∷ []) ∷ (n7 ∷ n12 ∷ n11 ∷ []) ∷ (n5 ∷ n4 ∷ n14 ∷ []) ∷ (p3 ∷ p9 ∷ []) ∷ (p8 ∷ p12 ∷ p5 ∷ []) ∷ (p6 ∷ n11 ∷ n9 ∷ []) ∷ [] }

quarter : run_focused small 60 quarter_formula 1000 [] ≡ Some (model (false ∷ false ∷ false ∷ true ∷ true ∷ false ∷ true ∷ false ∷ true ∷ false ∷ false ∷ true ∷ true ∷ false ∷ true ∷ []))
quarter = refl

-- the reason of a unit of level 0 is a clause of its own, so what it followed from may be forgotten
abbrev unit_formula : Formula
unit_formula = record { vars = 13; clauses = (n5 ∷ n9 ∷ []) ∷ (n3 ∷ p11 ∷ n13 ∷ []) ∷ (n8 ∷ p9 ∷ []) ∷ (n2 ∷ p10 ∷ p8 ∷ []) ∷ (p7 ∷ n12 ∷ n11 ∷ []) ∷ (p7 ∷ n4 ∷ []) ∷ (n7 ∷ p11 ∷ []) ∷ (p4 ∷ n11 ∷ p10 ∷ []) ∷ (p6 ∷ p8 ∷ []) ∷ (n12 ∷ p7 ∷ n2 ∷ []) ∷ (p3 ∷ p2 ∷ []) ∷ (p12 ∷ p11 ∷ p5 ∷ []) ∷ (p11 ∷ n1 ∷ []) ∷ (p1 ∷ n10 ∷ []) ∷ (n3 ∷ p1 ∷ []) ∷ (n1 ∷ n8 ∷ n7 ∷ []) ∷ (p5 ∷ n4 ∷ []) ∷ (n6 ∷ p2 ∷ []) ∷ (p13 ∷ n7 ∷ n10 ∷ []) ∷ (n13 ∷ n12 ∷ p8 ∷ []) ∷ (p12 ∷ p4 ∷ n1 ∷ []) ∷ [] }

unit : run_focused small 40 unit_formula 1000 [] ≡ Some (model (true ∷ true ∷ false ∷ true ∷ true ∷ true ∷ true ∷ false ∷ false ∷ true ∷ true ∷ false ∷ true ∷ []))
unit = refl

-- the scores are divided in stable mode
abbrev divides_stable_formula : Formula
divides_stable_formula = record { vars = 8; clauses = (p1 ∷ n6 ∷ []) ∷ (p5 ∷ n4 ∷ []) ∷ (n7 ∷ p8 ∷ n3 ∷ []) ∷ (p3 ∷ p4 ∷ p2 ∷ []) ∷ (p4 ∷ n3 ∷ []) ∷ (n1 ∷ p7 ∷ n4 ∷ []) ∷ (n5 ∷ p3 ∷ []) ∷ (p6 ∷ p7 ∷ n1 ∷ []) ∷ (p1 ∷ p6 ∷ p2 ∷ []) ∷ (n8 ∷ n6 ∷ n7 ∷ n1 ∷ []) ∷ (p6 ∷ n3 ∷ []) ∷ (n2 ∷ n8 ∷ p6 ∷ []) ∷ (n7 ∷ n2 ∷ []) ∷ [] }

divides_stable : run_focused small 40 divides_stable_formula 1000 [] ≡ Some (model (false ∷ true ∷ false ∷ false ∷ false ∷ false ∷ false ∷ false ∷ []))
divides_stable = refl

-- and in restarting mode
abbrev divides_restarting_formula : Formula
divides_restarting_formula = record { vars = 10; clauses = (p6 ∷ n9 ∷ []) ∷ (p2 ∷ n3 ∷ n4 ∷ []) ∷ (n5 ∷ n1 ∷ []) ∷ (p8 ∷ n10 ∷ n7 ∷ []) ∷ (n6 ∷ n4 ∷ n8 ∷ []) ∷ (p7 ∷ p5 ∷ []) ∷ (p6 ∷ n4 ∷ n10 ∷ p2 ∷ []) ∷ (p5 ∷ n6 ∷ []) ∷ (n5 ∷ p10 ∷ p3 ∷ []) ∷ (p10 ∷ p1 ∷ p6 ∷ []) ∷ (n7 ∷ n1 ∷ []) ∷ (n10 ∷ n2 ∷ p3 ∷ p1 ∷ []) ∷ (n3 ∷ p8 ∷ n6 ∷ n2 ∷ []) ∷ (n7 ∷ p5 ∷ []) ∷ (p7 ∷ p6 ∷ n3 ∷ []) ∷ (n3 ∷ p4 ∷ n10 ∷ []) ∷ (p4 ∷ n8 ∷ n3 ∷ []) ∷ (n9 ∷ p3 ∷ p8 ∷ []) ∷ (p10 ∷ p2 ∷ n8 ∷ []) ∷ (p10 ∷ n2 ∷ p6 ∷ []) ∷ (n5 ∷ n4 ∷ n10 ∷ n8 ∷ []) ∷ (n5 ∷ n8 ∷ p3 ∷ n10 ∷ []) ∷ (p9 ∷ p2 ∷ p4 ∷ []) ∷ [] }

divides_restarting : run_focused small 40 divides_restarting_formula 1000 [] ≡ Some (model (false ∷ false ∷ false ∷ true ∷ true ∷ true ∷ false ∷ false ∷ false ∷ true ∷ []))
divides_restarting = refl

-- the step grows slower in stable mode
abbrev slower_formula : Formula
slower_formula = record { vars = 12; clauses = (p8 ∷ p7 ∷ []) ∷ (n3 ∷ n9 ∷ p2 ∷ []) ∷ (n4 ∷ n10 ∷ []) ∷ (n12 ∷ n1 ∷ []) ∷ (n3 ∷ n6 ∷ []) ∷ (n7 ∷ p10 ∷ []) ∷ (p4 ∷ p9 ∷ []) ∷ (p5 ∷ n4 ∷ []) ∷ (p1 ∷ n6 ∷ []) ∷ (n5 ∷ p7 ∷ []) ∷ (n5 ∷ n8 ∷ n11 ∷ []) ∷ (n8 ∷ p5 ∷ p3 ∷ []) ∷ (p8 ∷ p12 ∷ n7 ∷ []) ∷ (p6 ∷ n12 ∷ []) ∷ (n9 ∷ p11 ∷ n2 ∷ []) ∷ [] }

slower : run_focused small 20 slower_formula 1000 [] ≡ Some (model (false ∷ false ∷ false ∷ false ∷ true ∷ false ∷ true ∷ true ∷ true ∷ true ∷ false ∷ false ∷ []))
slower = refl
