-- A line that is put into a buffer, what is written of a text, and the answer of a result.
use Rattle.std.specs.Prelude.{◌≡◌, ℕ, Bool, true, false, List, [], ◌∷◌, ◌++◌, Option, Some, None}
use Rattle.std.specs.Io.KnownBytes.{Appends}
use Rattle.theory.specs.Steps.{Step}
use Rattle.theory.specs.Texts.{step_text, answer_text}
use Rattle.cubes.specs.declared.tree.Tree.{Tree}
use Rattle.cubes.specs.declared.tree.Tree.TheVariants.{Model, Refuted}
use Rattle.runs.specs.declared.verdict.Verdict.{Verdict}
use Rattle.runs.specs.declared.verdict.Verdict.TheVariants.{Satisfiable, Unsatisfiable}

-- the first of the lines stands in the buffer, and the others are left
pub record PutsLine (old new : List Step) (before after : List ℕ) : Type 0 where
  pub step : Step
  pub lines : old ≡ step ∷ new
  pub text : after ≡ before ++ step_text step

-- whether there was one
abbrev pub Puts : List Step → List Step → List ℕ → List ℕ → Bool → Type 0
Puts old new before after true = PutsLine old new before after
Puts old new before after false = (old ≡ []) × (after ≡ before)

-- the verdict and the answer's text of a result
abbrev pub IsAnswer : {L : Type 0} → Tree L → Verdict → List ℕ → Type 0
IsAnswer (Model values) verdict answer = (verdict ≡ Satisfiable) × (answer ≡ answer_text (Some values.items))
IsAnswer (Refuted nodes) verdict answer = (verdict ≡ Unsatisfiable) × (answer ≡ answer_text None)

-- what is written between two states of a writer is a text but for what is left of it
pub record IsOnItsWay (a b : Option (List ℕ)) (left text : List ℕ) : Type 0 where
  pub written : List ℕ
  pub appended : Appends a b written
  pub whole : written ++ left ≡ text
