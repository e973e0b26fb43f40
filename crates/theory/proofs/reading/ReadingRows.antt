-- Worked rows of the reader, computed by the machine.
use Rattle.std.proofs.Common.{◌≡◌, [], ◌∷◌, refl, codes}
use Rattle.theory.specs.Literals.{positive, negative}
use Rattle.theory.specs.Reading.{large, formula, refusal, no_header, bad_header, second_header, bad_number, variable_out_of_range, too_many_clauses, too_few_clauses, clause_not_ended, over_limit}
use Rattle.theory.proofs.reading.ReadingMachine.{read, read_within}

reading_row1 : read (codes "p cnf 2 1\n1 2 0\n") ≡ formula (record { vars = 2; clauses = (positive 1 ∷ positive 2 ∷ []) ∷ [] })
reading_row1 = refl

reading_row2 : read (codes "c x\np cnf 2 1\n1\nc mid\n2 0\n") ≡ formula (record { vars = 2; clauses = (positive 1 ∷ positive 2 ∷ []) ∷ [] })
reading_row2 = refl

reading_row3 : read (codes "p cnf 2 1\r\n 1 2 0\n") ≡ formula (record { vars = 2; clauses = (positive 1 ∷ positive 2 ∷ []) ∷ [] })
reading_row3 = refl

reading_row4 : read (codes "p cnf 0 0\n") ≡ formula (record { vars = 0; clauses = [] })
reading_row4 = refl

reading_row5 : read (codes "p cnf 0 1\n0\n") ≡ formula (record { vars = 0; clauses = ([]) ∷ [] })
reading_row5 = refl

reading_row6 : read (codes "p cnf 2 2\n1 -1 0\n2 2 0\n") ≡ formula (record { vars = 2; clauses = (positive 1 ∷ negative 1 ∷ []) ∷ (positive 2 ∷ positive 2 ∷ []) ∷ [] })
reading_row6 = refl

reading_row7 : read (codes "p cnf 1 1\n1 0\nc") ≡ formula (record { vars = 1; clauses = (positive 1 ∷ []) ∷ [] })
reading_row7 = refl

reading_row8 : read (codes "p cnf 2 1\n1 3 0\n") ≡ refusal variable_out_of_range (record { line = 2; column = 3 })
reading_row8 = refl

reading_row9 : read (codes "p cnf 1 1\n1") ≡ refusal clause_not_ended (record { line = 2; column = 2 })
reading_row9 = refl

reading_row10 : read (codes "p cnf 1 2\n1 0\n") ≡ refusal too_few_clauses (record { line = 3; column = 1 })
reading_row10 = refl

reading_row11 : read (codes "p cnf 1 1\n01 0\n") ≡ refusal bad_number (record { line = 2; column = 1 })
reading_row11 = refl

reading_row12 : read (codes "p cnf 1 1\n1 0 1 0\n") ≡ refusal too_many_clauses (record { line = 2; column = 5 })
reading_row12 = refl

reading_row13 : read (codes "1 0\n") ≡ refusal no_header (record { line = 1; column = 1 })
reading_row13 = refl

reading_row14 : read ([]) ≡ refusal no_header (record { line = 1; column = 1 })
reading_row14 = refl

reading_row15 : read (codes "p cnf 2\n") ≡ refusal bad_header (record { line = 1; column = 8 })
reading_row15 = refl

reading_row16 : read (codes "p cnf 2") ≡ refusal bad_header (record { line = 1; column = 8 })
reading_row16 = refl

reading_row17 : read (codes "p cnf 262144 0\n") ≡ refusal over_limit (record { line = 1; column = 7 })
reading_row17 = refl

reading_row18 : read (codes "p cnf 1 1\np cnf 1 1\n") ≡ refusal second_header (record { line = 2; column = 1 })
reading_row18 = refl

reading_row19 : read (codes "p cnf 1 1\n-0 0\n") ≡ refusal bad_number (record { line = 2; column = 1 })
reading_row19 = refl

reading_row20 : read (codes "p cnf 2 1 x\n") ≡ refusal bad_header (record { line = 1; column = 11 })
reading_row20 = refl

reading_row21 : read (codes " c a\n") ≡ refusal no_header (record { line = 1; column = 2 })
reading_row21 = refl

reading_row22 : read (codes "p cnf 1 0\n1 0\n") ≡ refusal too_many_clauses (record { line = 2; column = 1 })
reading_row22 = refl

reading_row23 : read (codes "p cnf 1 0\nx\n") ≡ refusal bad_number (record { line = 2; column = 1 })
reading_row23 = refl

reading_row24 : read (codes "p cnf 1 1000001\n") ≡ refusal over_limit (record { line = 1; column = 9 })
reading_row24 = refl

reading_row25 : read (codes "pcnf 1 1\n") ≡ refusal no_header (record { line = 1; column = 1 })
reading_row25 = refl

reading_row26 : read (codes "p") ≡ refusal bad_header (record { line = 1; column = 2 })
reading_row26 = refl

reading_row27 : read (codes "p cn") ≡ refusal bad_header (record { line = 1; column = 3 })
reading_row27 = refl

reading_row28 : read (codes "p cnf 2 4") ≡ refusal too_few_clauses (record { line = 1; column = 10 })
reading_row28 = refl

reading_row29 : read (codes "p cnf 2 4\n") ≡ refusal too_few_clauses (record { line = 2; column = 1 })
reading_row29 = refl

reading_row30 : read (codes "p cnf 2 4\n1") ≡ refusal clause_not_ended (record { line = 2; column = 2 })
reading_row30 = refl

reading_row31 : read (codes "p cnf 2 4\n1 2 0\n1 -") ≡ refusal bad_number (record { line = 3; column = 3 })
reading_row31 = refl

reading_row32 : read (codes "p cnf 2 4\n1 2 0\n1 -2 0\n-1 2 0\n-1 -2") ≡ refusal clause_not_ended (record { line = 5; column = 6 })
reading_row32 = refl

reading_row33 : read (codes "p cnf 65535 1000000\n") ≡ refusal too_few_clauses (record { line = 2; column = 1 })
reading_row33 = refl

reading_row34 : read (codes "p cnf 65536 0\n") ≡ formula (record { vars = 65536; clauses = [] })
reading_row34 = refl

reading_row35 : read (codes "p cnf 262143 0\n") ≡ formula (record { vars = 262143; clauses = [] })
reading_row35 = refl

-- rows of the large limits

large_row1 : read_within large (codes "p cnf 262144 0\n") ≡ formula (record { vars = 262144; clauses = [] })
large_row1 = refl

large_row2 : read_within large (codes "p cnf 100000000 1000000000\n") ≡ refusal too_few_clauses (record { line = 2; column = 1 })
large_row2 = refl

large_row3 : read_within large (codes "p cnf 100000001 0\n") ≡ refusal over_limit (record { line = 1; column = 7 })
large_row3 = refl

large_row4 : read_within large (codes "p cnf 0 1000000001\n") ≡ refusal over_limit (record { line = 1; column = 9 })
large_row4 = refl

large_row5 : read_within large (codes "p cnf 1 1\n100000001 0\n") ≡ refusal variable_out_of_range (record { line = 2; column = 1 })
large_row5 = refl
