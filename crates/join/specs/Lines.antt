-- The value lines, word by word: only the width of the line begun decides where the next word goes.
use Rattle.std.specs.Prelude.{ℕ, ◌+◌, nat_le, List, [], ◌∷◌, ◌++◌, length, codes, if◌then◌else◌}
use Rattle.theory.specs.Texts.{lf, space}

-- what a word adds behind a line of so many bytes: itself behind a space, on a line of its own
-- where the line would have over 78 bytes
abbrev pub piece : ℕ → List ℕ → List ℕ
piece width word = if nat_le (width + 1 + length word) 78 then space ∷ word else lf ∷ codes "v" ++ space ∷ word

abbrev pub width_behind : ℕ → List ℕ → ℕ
width_behind width word = if nat_le (width + 1 + length word) 78 then width + 1 + length word else 2 + length word

-- what words add, and the last line's end
abbrev pub pieces : ℕ → List (List ℕ) → List ℕ
pieces width [] = lf ∷ []
pieces width (word ∷ words) = piece width word ++ pieces (width_behind width word) words
