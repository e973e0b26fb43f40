-- Bytes of a text in which no comment begins, and what is passed over and given of a text.
use Rattle.std.specs.Prelude.{◌≡◌, ◌≢◌, ◌≤◌, ℕ, Bool, true, false, ◌&&◌, not, List, [], ◌∷◌, length, take, Option}
use Rattle.std.specs.Io.KnownBytes.{Keeps, Consumes}
use Rattle.lrat_forms.specs.declared.comments.Line.{Line}
use Rattle.lrat_forms.specs.declared.comments.Line.TheVariants.{Start, Inside, Comment}
use Rattle.lrat_forms.specs.Comments.{is_mark, line_behind, uncommented_known}

-- where the byte behind some stands that are in no comment
abbrev pub line_after : Line → List ℕ → Line
line_after line [] = line
line_after line (b ∷ bs) = line_after (line_behind b) bs

-- whether a byte begins a comment, where it stands there
abbrev pub begins : Line → ℕ → Bool
begins Start b = is_mark b
begins Inside b = false
begins Comment b = false

-- whether none of these bytes begins one, the first of which stands there
abbrev pub is_plain : Line → List ℕ → Bool
is_plain line [] = true
is_plain line (b ∷ bs) = not (begins line b) && is_plain (line_behind b) bs

-- a part of a comment was passed over, and the next byte stands there
abbrev pub HasPassed : Option (List ℕ) → Option (List ℕ) → Line → Type 0
HasPassed old new line = Keeps (uncommented_known Comment old) (uncommented_known line new)

-- bytes were given that stand in no comment, and so does the next one
abbrev pub Gives : Option (List ℕ) → Option (List ℕ) → Line → ℕ → Line → List ℕ → Type 0
Gives old new line count behind buf = (count ≤ length buf) × Consumes (uncommented_known line old) (uncommented_known behind new) (take count buf) × (behind ≢ Comment)
