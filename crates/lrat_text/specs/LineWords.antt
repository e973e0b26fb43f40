-- The first word of what is left of a text, and what it is.
use Rattle.std.specs.Prelude.{ℕ, ◌+◌, ◌≤◌, Bool, ◌&&◌, ◌||◌, nat_eq, nat_le, Option, Some, None, min, List, [], ◌∷◌, codes, if◌then◌else◌}
use Rattle.theory.specs.Literals.{Literal, positive, negative}
use Rattle.theory.specs.Texts.{lf, digit_zero}
use Rattle.theory.specs.ProofReading.{max_literal, max_number}
use Rattle.theory.specs.Tokens.{is_blank, is_text, is_zero_text, is_positive_text, is_negative_text, size_of}
use Rattle.lrat_text.specs.declared.word.Word.{Word}
use Rattle.lrat_text.specs.declared.word.Word.TheVariants.{Zero, Positive, Negative, Mark, Other}

-- a byte that is none of a word
abbrev pub ends_word : ℕ → Bool
ends_word b = nat_eq b lf || is_blank b

-- the bytes before the first that ends a word
abbrev pub first_word : List ℕ → List ℕ
first_word [] = []
first_word (b ∷ bytes) = if ends_word b then [] else b ∷ first_word bytes

-- and those from it on
abbrev pub after_word : List ℕ → List ℕ
after_word [] = []
after_word (b ∷ bytes) = if ends_word b then b ∷ bytes else after_word bytes

-- a size, where each above the greatest is one above it
abbrev pub capped : ℕ → ℕ
capped n = min n (max_number + 1)

-- what a word is
abbrev pub word_of : List ℕ → Word
word_of text =
    if is_zero_text text then Zero
    else if is_positive_text text then Positive (capped (size_of text))
    else if is_negative_text text then Negative (capped (size_of text))
    else if is_text text (codes "d") then Mark
    else Other

-- the byte of the word d, which marks a deletion
abbrev pub deletion_mark : ℕ
deletion_mark = 100

-- what a word of this length is that begins with this byte, no minus, and is digits all or not
abbrev pub plain_word : ℕ → ℕ → Bool → ℕ → Word
plain_word first len all size =
    if all then (if nat_eq first digit_zero then (if nat_eq len 1 then Zero else Other) else Positive size)
    else if nat_eq first deletion_mark && nat_eq len 1 then Mark
    else Other

-- a number that isn't zero counts something
abbrev pub IsCounting : Word → Type 0
IsCounting (Positive n) = 1 ≤ n
IsCounting (Negative n) = 1 ≤ n
IsCounting w = Unit {0}

-- what a word gives where a number of a clause, a candidate's or a literal stands
abbrev pub number_in : Word → Option ℕ
number_in (Positive n) = if nat_le n max_number then Some n else None
number_in w = None

abbrev pub candidate_in : Word → Option ℕ
candidate_in (Negative n) = if nat_le n max_number then Some n else None
candidate_in w = None

abbrev pub literal_in : Word → Option Literal
literal_in (Positive n) = if nat_le n max_literal then Some (positive n) else None
literal_in (Negative n) = if nat_le n max_literal then Some (negative n) else None
literal_in w = None
