-- Numbers and literals that stand whole among the bytes of a piece, each with a blank behind it.
use Rattle.std.specs.Prelude.{◌≡◌, ℕ, ◌+◌, ◌<◌, true, List, ◌∷◌, [], ◌++◌, length, drop, Some, slice_index}
use Rattle.theory.specs.Literals.{Clause, Literal}
use Rattle.theory.specs.ProofReading.{IsNumber, IsLiteral}
use Rattle.theory.specs.Tokens.{is_blank}
use Rattle.lrat_text.specs.declared.begun.Begun.TheVariants as begun
use Rattle.lrat_text.specs.declared.word.Word.TheVariants as words
use Rattle.lrat_text.specs.LineMachine.{LineState, at_clause, on}
use Rattle.lrat_text.specs.Pieces.{TakesWord, in_word}
use Rattle.lrat_text.specs.Streams.{nothing, Progress, feed}

-- bytes from one place up to another lead from one state to another, with no word begun
abbrev pub TakesRun : List ℕ → LineState → ℕ → LineState → ℕ → Type 0
TakesRun bytes s start t end =
    (V k n : ℕ) (p : Progress) → feed V (in_word (k + start) n p s nothing) (drop start bytes) ≡ feed V (in_word (k + end) n p t nothing) (drop end bytes)

-- the states of a growing list of numbers, at each of which one more can stand
abbrev pub TakesNumbers : (List ℕ → LineState) → Type 0
TakesNumbers f = (ns : List ℕ) (n : ℕ) → IsNumber n → on (f ns) (words.Positive n) ≡ Some (f (ns ++ n ∷ []))

-- the number's digits stand from one place up to another, where a blank is; they may stand behind a
-- minus
pub record StandsWhole (bytes : List ℕ) (start n end : ℕ) : Type 0 where
  pub number : IsNumber n
  pub positive : TakesWord bytes begun.Nothing start (begun.Positive n) end
  pub negative : TakesWord bytes begun.Minus start (begun.Negative n) end
  pub blank : is_blank (slice_index bytes end) ≡ true
  pub forward : start < end
  pub inside : end < length bytes

-- the literal's word stands from one place up to another, where a blank is
pub record IsLiteralAt (bytes : List ℕ) (start : ℕ) (l : Literal) (end : ℕ) : Type 0 where
  pub literal : IsLiteral l
  pub taken : (id : ℕ) (c : Clause) → TakesRun bytes (at_clause id c) start (at_clause id (c ++ l ∷ [])) (end + 1)
  pub forward : start < end
  pub inside : end < length bytes
