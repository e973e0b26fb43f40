-- Worked rows of proof texts, of the checking program's lines and of places.
use Rattle.std.proofs.Common.{◌≡◌, [], ◌∷◌, refl, codes, true, false}
use Rattle.std.specs.Fmt.{digits}
use Rattle.theory.specs.Literals.{positive, negative}
use Rattle.theory.specs.Steps.{Step, add, delete}
use Rattle.theory.specs.Texts.{step_words, step_text}
use Rattle.theory.specs.Tokens.{lines_of}
use Rattle.theory.specs.ProofReading.{words_in, word_fault, bad_number, bad_shape, steps, line_fault, too_long, line_not_ended}
use Rattle.theory.specs.Numbers.{check_text}
use Rattle.theory.specs.Places.{place_of, lies_right}
use Rattle.theory.proofs.searching.Rows.{p1, n1, p2, p3, n3, row4}
use Rattle.theory.proofs.checker.CheckerRows.{row13}

abbrev with_groups : Step
with_groups = add (record { id = 5; clause = p1 ∷ []; hints = 7 ∷ []; groups = record { candidate = 3; hints = 1 ∷ [] } ∷ record { candidate = 4; hints = 2 ∷ [] } ∷ [] })

words_row1 : words_in (codes "5 1  0\t7 -3 1 -4 2 0\r") ≡ step_words with_groups
unfolding digits
words_row1 = refl

words_row2 : step_text with_groups ≡ codes "5 1 0 7 -3 1 -4 2 0\n"
unfolding digits
words_row2 = refl

words_row3 : step_text (delete (record { id = 5; ids = 1 ∷ 2 ∷ [] })) ≡ codes "5 d 1 2 0\n"
unfolding digits
words_row3 = refl

lines_row : lines_of (codes "5 1\n\n6") ≡ codes "5 1" ∷ [] ∷ codes "6" ∷ []
lines_row = refl

-- 5 01 0 0; 5 2147483648 0 0; 5 1 0 1 2 0 7; 5 1 0 -3 -0 0; -6 0 0; 5 d -1; 5 x
fault_row1 : word_fault (codes "5" ∷ []) (codes "01") ≡ bad_number
fault_row1 = refl

fault_row2 : word_fault (codes "5" ∷ []) (codes "2147483648") ≡ bad_number
fault_row2 = refl

fault_row3 : word_fault (words_in (codes "5 1 0 1 2 0")) (codes "7") ≡ bad_shape
fault_row3 = refl

fault_row4 : word_fault (words_in (codes "5 1 0 -3")) (codes "-0") ≡ bad_number
fault_row4 = refl

fault_row5 : word_fault [] (codes "-6") ≡ bad_shape
fault_row5 = refl

fault_row6 : word_fault (words_in (codes "5 d")) (codes "-1") ≡ bad_shape
fault_row6 = refl

fault_row7 : word_fault [] (codes "9223372036854775808") ≡ bad_number
fault_row7 = refl

fault_row8 : word_fault (words_in (codes "5 1 0 1 2 0")) (codes "99999999999999999999") ≡ bad_shape
fault_row8 = refl

check_row1 : check_text row13 (steps (add (record { id = 5; clause = p3 ∷ p1 ∷ []; hints = []; groups = [] }) ∷ add (record { id = 6; clause = n3 ∷ []; hints = []; groups = [] }) ∷ [])) ≡ codes "refused 27 step 2\n"
unfolding digits
check_row1 = refl

check_row2 : check_text row4 (steps []) ≡ codes "refused 30\n"
check_row2 = refl

check_row3 : check_text row4 (line_fault line_not_ended 3) ≡ codes "refused 42 line 3\n"
unfolding digits
check_row3 = refl

check_row4 : check_text row4 too_long ≡ codes "refused 45\n"
check_row4 = refl

place_row1 : place_of [] ≡ 0
place_row1 = refl

place_row2 : place_of (n1 ∷ []) ≡ 0
place_row2 = refl

place_row3 : place_of (p1 ∷ []) ≡ 2147483648
place_row3 = refl

place_row4 : place_of (negative 4 ∷ positive 7 ∷ []) ≡ 1073741824
place_row4 = refl

place_row5 : place_of (p1 ∷ p2 ∷ []) ≡ 3221225472
place_row5 = refl

right_row1 : lies_right (p1 ∷ []) (n1 ∷ p2 ∷ []) ≡ true
right_row1 = refl

right_row2 : lies_right (n1 ∷ p2 ∷ []) (n1 ∷ []) ≡ false
right_row2 = refl
