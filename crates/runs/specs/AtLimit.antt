-- The answer of a run whose limit was reached while a model was made the first one.
use Rattle.std.specs.Prelude.{◌≡◌, ℕ, ◌+◌, List, ◌++◌, Option, take, IfSome}
use Rattle.std.specs.Io.KnownBytes.{Appends}
use Rattle.theory.specs.Reading.{Limits, ReadsWithin, formula, max_bytes}
use Rattle.theory.specs.Truth.{Formula, Assignment}
use Rattle.join.specs.Values.{status_text, limit_text, values_text}
use Rattle.strategies.specs.Settled.{IsFirstUpTo}

-- the model at hand, and how many of its variables have the first model's values
pub record IsAnswerAtLimit (F : Formula) (answer : List ℕ) : Type 0 where
  pub settled : ℕ
  pub model : Assignment
  pub is_first : IsFirstUpTo F settled model
  pub text : answer ≡ status_text ++ limit_text settled F.vars ++ values_text model

-- it is written
abbrev pub WritesAtLimit : Option (List ℕ) → Option (List ℕ) → Formula → Type 0
WritesAtLimit a b F = (answer : List ℕ) × IsAnswerAtLimit F answer × Appends a b answer

-- a formula was read, and this is so of it
pub record OfRead (L : Limits) (known : Option (List ℕ)) (says : Formula → Type 0) : Type 0 where
  pub bytes : List ℕ
  pub are : IfSome known (λ xs. bytes ≡ take (max_bytes L + 1) xs)
  pub value : Formula
  pub reads : ReadsWithin L bytes (formula value)
  pub so : says value
