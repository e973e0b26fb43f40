-- The tokens of what is left of a text, from a byte within a line on.
use Rattle.std.specs.Prelude.{ℕ, ◌+◌, Bool, not, ◌||◌, nat_eq, List, [], ◌∷◌, ◌++◌, map, length, take, drop, if◌then◌else◌}
use Rattle.theory.specs.Texts.{lf}
use Rattle.theory.specs.Tokens.{Place, Word, lines_of, words_from, is_blank}
use Rattle.theory.specs.Reading.{Placed, word, header_end, tokens_after_header, tokens_from}

-- whether a byte is neither blank nor LF
abbrev pub is_word_byte : ℕ → Bool
is_word_byte b = not (is_blank b || nat_eq b lf)

-- the place behind one more byte
abbrev pub place_after : Place → ℕ → Place
place_after p b = if nat_eq b lf then record { line = p.line + 1; column = 1 } else record { line = p.line; column = p.column + 1 }

-- the place behind these bytes
abbrev pub place_behind : Place → List ℕ → Place
place_behind p [] = p
place_behind p (b ∷ bytes) = place_behind (place_after p b) bytes

-- the place of the byte i of a text
unfoldable pub place_at : List ℕ → ℕ → Place
place_at bytes i = place_behind (record { line = 1; column = 1 }) (take i bytes)

-- what stands in front of what is left: no token, tokens of the header's line, or the header
pub data Part : Type 0 where
  before_header in_header behind_header : Part

abbrev pub placed : ℕ → Word → Placed
placed n w = record { token = word w.text; place = record { line = n; column = w.column } }

-- the tokens of the lines from the line n on
abbrev pub lines_tokens : Part → ℕ → List (List ℕ) → List Placed
lines_tokens before_header n lines = tokens_from n lines
lines_tokens in_header n lines = tokens_after_header n lines
lines_tokens behind_header n lines = tokens_after_header n lines

-- the tokens of the rest of the header's line, its end at place p, and those of the lines behind it
abbrev pub header_tokens : List Placed → Place → List (List ℕ) → List Placed
header_tokens words p lines = words ++ record { token = header_end; place = p } ∷ tokens_after_header (p.line + 1) lines

-- the tokens of the rest of a line of these words, its end at place p, and of the lines behind it
abbrev pub line_rest : Part → List Placed → Place → List (List ℕ) → List Placed
line_rest before_header [] p lines = tokens_from (p.line + 1) lines
line_rest before_header (t ∷ ts) p lines = header_tokens (t ∷ ts) p lines
line_rest in_header words p lines = header_tokens words p lines
line_rest behind_header words p lines = words ++ tokens_after_header (p.line + 1) lines

-- the tokens of the bytes from place p on, in a line that is no comment
abbrev pub rest_tokens : Part → Place → List (List ℕ) → List Placed
rest_tokens part p [] = []
rest_tokens part p (line ∷ lines) = line_rest part (map (placed p.line) (words_from p.column line)) (record { line = p.line; column = p.column + length line }) lines

-- the tokens of a text from the byte i on
unfoldable pub tokens_left : Part → List ℕ → ℕ → List Placed
tokens_left part bytes i = rest_tokens part (place_at bytes i) (lines_of (drop i bytes))
