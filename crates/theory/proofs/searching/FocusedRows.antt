-- Worked rows of the focused search, computed by the definitions. What they must be comes from a
-- program of its own.
use Rattle.std.proofs.Common.{◌≡◌, true, false, [], ◌∷◌, Some, refl}
use Rattle.theory.specs.Literals.{Literal, positive, negative}
use Rattle.theory.specs.Truth.{Formula}
use Rattle.theory.specs.Plans.{Constants, default_constants}
use Rattle.theory.specs.Search.{model, refuted, exhausted}
use Rattle.theory.specs.Forgetting.{forgetting}
use Rattle.theory.proofs.searching.Evaluation.{run_focused}
use Rattle.theory.proofs.searching.Rows.{p1, n1, p2, n2, p3, n3, row17, line}

abbrev square : Formula
square = record { vars = 2; clauses = (p1 ∷ p2 ∷ []) ∷ (p1 ∷ n2 ∷ []) ∷ (n1 ∷ p2 ∷ []) ∷ (n1 ∷ n2 ∷ []) ∷ [] }

square_1 : run_focused default_constants 20 square 1 [] ≡ Some (exhausted 2)
square_1 = refl

square_2 : run_focused default_constants 20 square 2 [] ≡ Some (refuted (line (n2 ∷ []) (2 ∷ 4 ∷ []) ∷ line (p1 ∷ []) (5 ∷ 1 ∷ []) ∷ line [] (5 ∷ 6 ∷ 3 ∷ []) ∷ []))
square_2 = refl

-- of equal scores the greatest variable goes first
by_score : run_focused default_constants 40 row17 100 [] ≡ Some (refuted (line (n2 ∷ n3 ∷ []) (4 ∷ 8 ∷ []) ∷ line (n3 ∷ []) (9 ∷ 2 ∷ 6 ∷ []) ∷ line (p2 ∷ []) (10 ∷ 1 ∷ 5 ∷ []) ∷ line (p1 ∷ []) (10 ∷ 11 ∷ 3 ∷ []) ∷ line [] (10 ∷ 11 ∷ 12 ∷ 7 ∷ []) ∷ []))
by_score = refl

first_conflict : run_focused default_constants 40 row17 1 [] ≡ Some (exhausted 3)
first_conflict = refl

third_conflict : run_focused default_constants 40 row17 3 [] ≡ Some (exhausted 2)
third_conflict = refl

in_half : run_focused default_constants 40 row17 1 (n3 ∷ []) ≡ Some (refuted (line (n2 ∷ []) (3 ∷ 7 ∷ []) ∷ line (p1 ∷ []) (9 ∷ 1 ∷ []) ∷ line [] (9 ∷ 10 ∷ 5 ∷ []) ∷ []))
in_half = refl

-- constants so small that few conflicts come to all that the search does
abbrev pub small : Constants
small = record { first_step = 16; restarting_growth = 2; stable_growth = 3; greatest_step = 64; divisor = 4; window = 2; above = 2; apart = 2; mode_length = 2; round_length = 1; kept_glue = 1 }

-- and such by which rounds and modes are longer, and more clauses are kept
abbrev pub lasting : Constants
lasting = record small { window = 3; above = 3; mode_length = 4; round_length = 2; kept_glue = 2 }

abbrev pub p4 : Literal
p4 = positive 4

abbrev pub n4 : Literal
n4 = negative 4

abbrev pub p5 : Literal
p5 = positive 5

abbrev pub n5 : Literal
n5 = negative 5

abbrev pub p6 : Literal
p6 = positive 6

abbrev pub n6 : Literal
n6 = negative 6

abbrev pub p7 : Literal
p7 = positive 7

abbrev pub n7 : Literal
n7 = negative 7

abbrev pub p8 : Literal
p8 = positive 8

abbrev pub n8 : Literal
n8 = negative 8

abbrev pub p9 : Literal
p9 = positive 9

abbrev pub n9 : Literal
n9 = negative 9

abbrev pub p10 : Literal
p10 = positive 10

abbrev pub n10 : Literal
n10 = negative 10

abbrev pub p11 : Literal
p11 = positive 11

abbrev pub n11 : Literal
n11 = negative 11

abbrev pub p12 : Literal
p12 = positive 12

abbrev pub n12 : Literal
n12 = negative 12

abbrev pub p13 : Literal
p13 = positive 13

abbrev pub n13 : Literal
n13 = negative 13

abbrev pub p14 : Literal
p14 = positive 14

abbrev pub n14 : Literal
n14 = negative 14

abbrev pub p15 : Literal
p15 = positive 15

abbrev pub n15 : Literal
n15 = negative 15

abbrev pub p16 : Literal
p16 = positive 16

abbrev pub n16 : Literal
n16 = negative 16

abbrev pub p17 : Literal
p17 = positive 17

abbrev pub n17 : Literal
n17 = negative 17

abbrev pub p18 : Literal
p18 = positive 18

abbrev pub n18 : Literal
n18 = negative 18

abbrev pub p19 : Literal
p19 = positive 19

abbrev pub n19 : Literal
n19 = negative 19

abbrev pub p20 : Literal
p20 = positive 20

abbrev pub n20 : Literal
n20 = negative 20

-- four pigeons in three holes
abbrev four_in_three : Formula
four_in_three = record { vars = 12; clauses = (p1 ∷ p2 ∷ p3 ∷ []) ∷ (p4 ∷ p5 ∷ p6 ∷ []) ∷ (p7 ∷ p8 ∷ p9 ∷ []) ∷ (p10 ∷ p11 ∷ p12 ∷ []) ∷ (n1 ∷ n4 ∷ []) ∷ (n1 ∷ n7 ∷ []) ∷ (n1 ∷ n10 ∷ []) ∷ (n4 ∷ n7 ∷ []) ∷ (n4 ∷ n10 ∷ []) ∷ (n7 ∷ n10 ∷ []) ∷ (n2 ∷ n5 ∷ []) ∷ (n2 ∷ n8 ∷ []) ∷ (n2 ∷ n11 ∷ []) ∷ (n5 ∷ n8 ∷ []) ∷ (n5 ∷ n11 ∷ []) ∷ (n8 ∷ n11 ∷ []) ∷ (n3 ∷ n6 ∷ []) ∷ (n3 ∷ n9 ∷ []) ∷ (n3 ∷ n12 ∷ []) ∷ (n6 ∷ n9 ∷ []) ∷ (n6 ∷ n12 ∷ []) ∷ (n9 ∷ n12 ∷ []) ∷ [] }

pigeons : run_focused small 120 four_in_three 1000 [] ≡ Some (refuted (line (p3 ∷ p6 ∷ n11 ∷ []) (13 ∷ 15 ∷ 1 ∷ 2 ∷ 5 ∷ []) ∷ line (p3 ∷ n5 ∷ p9 ∷ []) (11 ∷ 14 ∷ 1 ∷ 3 ∷ 6 ∷ []) ∷ line (n12 ∷ []) (19 ∷ 21 ∷ 22 ∷ 24 ∷ 2 ∷ 5 ∷ 8 ∷ 1 ∷ 3 ∷ 12 ∷ []) ∷ line (n5 ∷ []) (25 ∷ 11 ∷ 14 ∷ 15 ∷ 4 ∷ 7 ∷ 10 ∷ 1 ∷ 3 ∷ 18 ∷ []) ∷ line (n3 ∷ []) (25 ∷ 26 ∷ 17 ∷ 18 ∷ 2 ∷ 8 ∷ 9 ∷ 3 ∷ 4 ∷ 16 ∷ []) ∷ forgetting (23 ∷ 24 ∷ []) (line (n8 ∷ []) (25 ∷ 27 ∷ 12 ∷ 16 ∷ 1 ∷ 4 ∷ 7 ∷ [])) ∷ line (n10 ∷ []) (26 ∷ 28 ∷ 9 ∷ 10 ∷ 2 ∷ 3 ∷ 20 ∷ []) ∷ line (p11 ∷ []) (25 ∷ 29 ∷ 4 ∷ []) ∷ line (n2 ∷ []) (30 ∷ 13 ∷ []) ∷ line (p1 ∷ []) (27 ∷ 31 ∷ 1 ∷ []) ∷ line (n4 ∷ []) (32 ∷ 5 ∷ []) ∷ line (n7 ∷ []) (32 ∷ 6 ∷ []) ∷ line (p6 ∷ []) (26 ∷ 33 ∷ 2 ∷ []) ∷ line (p9 ∷ []) (28 ∷ 34 ∷ 3 ∷ []) ∷ line [] (35 ∷ 36 ∷ 20 ∷ []) ∷ []))
pigeons = refl

-- its model isn't the first one
abbrev thirty : Formula
thirty = record { vars = 7; clauses = (p1 ∷ n4 ∷ n5 ∷ []) ∷ (p1 ∷ p2 ∷ p7 ∷ []) ∷ (n3 ∷ p5 ∷ p7 ∷ []) ∷ (p1 ∷ n3 ∷ p6 ∷ []) ∷ (p1 ∷ p3 ∷ p4 ∷ []) ∷ (p2 ∷ p3 ∷ n5 ∷ []) ∷ (p2 ∷ n4 ∷ n6 ∷ []) ∷ (n1 ∷ n3 ∷ n6 ∷ []) ∷ (n2 ∷ p3 ∷ n5 ∷ []) ∷ (n4 ∷ p5 ∷ p6 ∷ []) ∷ (p1 ∷ n2 ∷ p3 ∷ []) ∷ (n1 ∷ p4 ∷ n5 ∷ []) ∷ (n3 ∷ n5 ∷ n6 ∷ []) ∷ (p2 ∷ p5 ∷ p7 ∷ []) ∷ (n1 ∷ p5 ∷ p7 ∷ []) ∷ (p3 ∷ n5 ∷ p6 ∷ []) ∷ (n1 ∷ p2 ∷ n5 ∷ []) ∷ (n1 ∷ p2 ∷ n6 ∷ []) ∷ (n3 ∷ n4 ∷ p5 ∷ []) ∷ (n4 ∷ n5 ∷ n6 ∷ []) ∷ (p2 ∷ p4 ∷ n5 ∷ []) ∷ (p2 ∷ p4 ∷ n6 ∷ []) ∷ (n3 ∷ p4 ∷ n6 ∷ []) ∷ (p1 ∷ n5 ∷ p7 ∷ []) ∷ (p1 ∷ p2 ∷ p4 ∷ []) ∷ (p2 ∷ n5 ∷ p6 ∷ []) ∷ (p2 ∷ n3 ∷ n7 ∷ []) ∷ (n1 ∷ n2 ∷ n3 ∷ []) ∷ (n1 ∷ n4 ∷ p6 ∷ []) ∷ (n1 ∷ p2 ∷ p6 ∷ []) ∷ [] }

model_of_thirty : run_focused small 120 thirty 1000 [] ≡ Some (model (true ∷ true ∷ false ∷ false ∷ false ∷ true ∷ true ∷ []))
model_of_thirty = refl
