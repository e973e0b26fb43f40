-- The exit status of `solve`, and what each says of the formula.
use Rattle.std.specs.Prelude.{◌≡◌, ◌⊎◌, ℕ, ◌+◌, List, Option, Some, None, take, IfSome, Result, Ok, Err}
use Rattle.std.specs.Io.KnownBytes.{Appends}
use Rattle.theory.specs.Truth.{Formula, Assignment, Satisfiable}
use Rattle.theory.specs.Plans.{Search}
use Rattle.theory.specs.FirstModel.{IsFound}
use Rattle.theory.specs.Texts.{answer_text}
use Rattle.theory.specs.Reading.{Limits, ReadsWithin, formula, max_bytes}
use Rattle.runs.specs.Answer.{unknown_text}
use Rattle.runs.specs.AtLimit.{OfRead, WritesAtLimit}
use Rattle.runs.specs.declared.fault.RunFault.{RunFault}
use Rattle.runs.specs.declared.verdict.RunEnd.{RunEnd}
use Rattle.runs.specs.declared.verdict.RunEnd.TheVariants.{Decided, NotFirst, Unknown}
use Rattle.runs.specs.declared.verdict.Verdict.{Verdict}
use Rattle.runs.specs.declared.verdict.Verdict.TheVariants as verdict

abbrev pub verdict_status : Verdict → ℕ
verdict_status verdict.Satisfiable = 10
verdict_status verdict.Unsatisfiable = 20

-- the status of what a run with a limit answers
abbrev pub solve_status : Result RunEnd RunFault → ℕ
solve_status (Ok (Decided verdict)) = verdict_status verdict
solve_status (Ok NotFirst) = 10
solve_status (Ok Unknown) = 0
solve_status (Err fault) = 1

-- the verdict on the formula, with the text of the answer
abbrev pub IsVerdict : Search → Formula → Verdict → List ℕ → Type 0
IsVerdict search F verdict.Satisfiable answer = (M : Assignment) × IsFound search F M × (answer ≡ answer_text (Some M))
IsVerdict search F verdict.Unsatisfiable answer = ¬ (Satisfiable F) × (answer ≡ answer_text None)

-- the verdict is right for the formula of the bytes that a reader gave, where it tells them, with
-- the answer that was written
pub record Answers (L : Limits) (search : Search) (known answer_old answer_new : Option (List ℕ)) (verdict : Verdict) : Type 0 where
  pub bytes : List ℕ
  pub are : IfSome known (λ xs. bytes ≡ take (max_bytes L + 1) xs)
  pub value : Formula
  pub reads : ReadsWithin L bytes (formula value)
  pub answer : List ℕ
  pub right : IsVerdict search value verdict answer
  pub written : Appends answer_old answer_new answer

-- 10 and 20 are a verdict, which is right (of its proof `Ends` says all), but that where there is a
-- limit the model may be one that need not be the first, and says so; 0 is `s UNKNOWN`, where there
-- is a limit; all else is 1
abbrev pub IsSolveStatus : Limits → Type 0 → Search → Option (List ℕ) → Option (List ℕ) → Option (List ℕ) → ℕ → Type 0
IsSolveStatus L limited search known a b status =
    ((status ≡ 10) × (Answers L search known a b verdict.Satisfiable ⊎ (limited × OfRead L known (WritesAtLimit a b))))
    ⊎ ((status ≡ 20) × Answers L search known a b verdict.Unsatisfiable)
    ⊎ ((status ≡ 0) × limited × Appends a b unknown_text)
    ⊎ (status ≡ 1)
