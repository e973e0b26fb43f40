-- The words of a text: where they stand, and what they say as numbers.
use Rattle.std.specs.Prelude.{◌≡◌, ℕ, ◌≤◌, ◌<◌, ◌||◌, Bool, true, false, List, min, slice_range, slice_index}
use Rattle.theory.specs.Tokens.{is_positive_text, is_natural_text, is_negative_text, size_of}
use Rattle.theory.specs.Reading.{Placed, word}
use Rattle.cnf.specs.Tokens.{place_at, is_word_byte}

-- the bytes from i on, below j, are a word's
pub record IsWordAt (bytes : List ℕ) (i j : ℕ) : Type 0 where
  pub some : i < j
  pub all : (k : ℕ) → i ≤ k → k < j → is_word_byte (slice_index bytes k) ≡ true

-- the token of the word from the byte i on, below j
abbrev pub word_at : List ℕ → ℕ → ℕ → Placed
word_at bytes i j = record { token = word (slice_range bytes i j); place = place_at bytes i }

-- whether digits may stand behind a minus, or without one
abbrev pub is_plain_text : Bool → List ℕ → Bool
is_plain_text true text = is_positive_text text
is_plain_text false text = is_natural_text text

-- what a text says as a number; a size above ten thousand million is read as that
pub record IsNumberOf (text : List ℕ) (natural negative : Bool) (size : ℕ) : Type 0 where
  pub natural_is : natural ≡ is_natural_text text
  pub negative_is : negative ≡ is_negative_text text
  pub size_is : (natural || negative) ≡ true → size ≡ min 10000000000 (size_of text)
