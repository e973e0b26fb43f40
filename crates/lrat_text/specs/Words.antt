-- A line as it grows, word by word.
use Rattle.std.specs.Prelude.{◌≡◌, ℕ, List, [], ◌∷◌, ◌++◌, map, codes, decimal}
use Rattle.theory.specs.Literals.{Clause}
use Rattle.theory.specs.Texts.{space, literal_text}

-- the words, each with a space behind it
abbrev pub spaced : List (List ℕ) → List ℕ
spaced [] = []
spaced (word ∷ words) = word ++ space ∷ spaced words

-- the line of an addition up to its groups
abbrev pub begun_line : ℕ → Clause → List ℕ → List ℕ
begun_line id clause hints = decimal id ++ space ∷ (spaced (map literal_text clause) ++ (codes "0 " ++ spaced (map decimal hints)))

-- the new bytes are the old ones and some more
pub record IsBegunBy (old new : List ℕ) : Type 0 where
  pub more : List ℕ
  pub are : new ≡ old ++ more
