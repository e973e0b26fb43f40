-- What is answered to the questions of a session, and the status that goes with it. Source: the `s`
-- and `v` lines of the SAT Competition; that a core is a comment line, is this project's.
use Rattle.std.specs.Prelude.{◌≡◌, ◌⊎◌, ℕ, ◌<◌, Bool, true, false, List, [], ◌++◌, map, length, Option, Some, codes}
use Rattle.std.specs.Io.{StartsWith}
use Rattle.std.specs.Io.KnownBytes.{Appends, Keeps}
use Rattle.theory.specs.Literals.{Literal}
use Rattle.theory.specs.Truth.{Formula, Assignment, Satisfies, AreTrue, value}
use Rattle.theory.specs.Texts.{literal_text, answer_text}
use Rattle.lrat_text.specs.Words.{spaced}
use Rattle.session.specs.Answers.{IsCore}
use Rattle.commands.specs.declared.questions.item.Item.{Item}
use Rattle.commands.specs.declared.questions.item.Item.TheVariants.{Clause, Question, Limit}
use Rattle.commands.specs.declared.questions.word.TheConstants.{MOST_VARS}

abbrev pub satisfiable_line : List ℕ
satisfiable_line = codes "s SATISFIABLE\n"

abbrev pub unsatisfiable_line : List ℕ
unsatisfiable_line = codes "s UNSATISFIABLE\n"

abbrev pub unknown_line : List ℕ
unknown_line = codes "s UNKNOWN\n"

abbrev pub core_text : List Literal → List ℕ
core_text core = unsatisfiable_line ++ codes "c core " ++ spaced (map literal_text core) ++ codes "0\n"

-- a model is shown where that is asked for, unless it has too many variables
abbrev pub IsModelText : Bool → Assignment → List ℕ → Type 0
IsModelText shows M lines = ((shows ≡ true) × (lines ≡ answer_text (Some M)))
    ⊎ (((shows ≡ false) ⊎ (MOST_VARS < length M)) × (lines ≡ satisfiable_line))

-- the answer to a question of the formula under the assumptions A: 10 with a model of both, 20 with a
-- core, 0 with neither
abbrev pub IsAnswered : Formula → List Literal → Bool → ℕ → List ℕ → Type 0
IsAnswered F A shows status lines =
    ((status ≡ 10) × (M : Assignment) × Satisfies F M × AreTrue (value M) A × IsModelText shows M lines)
    ⊎ ((status ≡ 20) × (core : List Literal) × IsCore F.clauses A core × (lines ≡ core_text core))
    ⊎ ((status ≡ 0) × (lines ≡ unknown_line))

-- what an item of the text comes to: a question is answered, all else writes nothing and leaves the
-- status
abbrev pub IsFollowed : Item → Formula → List Literal → Bool → ℕ → ℕ → Option (List ℕ) → Option (List ℕ) → Type 0
IsFollowed Question F A shows old status a b = (lines : List ℕ) × Appends a b lines × IsAnswered F A shows status lines
IsFollowed Clause F A shows old status a b = (status ≡ old) × Keeps a b
IsFollowed (Limit seconds) F A shows old status a b = (status ≡ old) × Keeps a b

-- the status is that of the last answer, behind those before it; without one it is 0
abbrev pub IsLast : ℕ → List ℕ → List ℕ → Type 0
IsLast status before last =
    ((status ≡ 10) × StartsWith last satisfiable_line)
    ⊎ ((status ≡ 20) × StartsWith last unsatisfiable_line)
    ⊎ ((status ≡ 0) × ((last ≡ unknown_line) ⊎ (before ++ last ≡ [])))

pub record IsSessionStatus (status : ℕ) (a b : Option (List ℕ)) : Type 0 where
  pub before : List ℕ
  pub last : List ℕ
  pub written : Appends a b (before ++ last)
  pub is_last : IsLast status before last
