-- What gathering a run comes to.
use Rattle.std.specs.Prelude.{◌≡◌, ◌⊎◌, ℕ, Bool, true, false, List, Option, Some, Result, Ok, Err}
use Rattle.cnf.specs.Limits.{limits_of}
use Rattle.strategies.specs.Strategies.{search_by}
use Rattle.spread.specs.RunFiles.{written_by}
use Rattle.commands.specs.Status.{verdict_status, Answers}
use Rattle.runs.specs.declared.verdict.Verdict.TheVariants.{Satisfiable, Unsatisfiable}
use Rattle.runs.specs.declared.fault.RunFault.{RunFault}
use Rattle.runs.specs.declared.stored.GatheredFrom.{GatheredFrom}
use Rattle.cubesat.specs.declared.gathered_store.Held.{Held}
use Rattle.cubesat.specs.declared.gathered.End.{End}
use Rattle.cubesat.specs.declared.gathered.End.TheVariants.{Status, Unproved}

-- by what the run answers, and by whether the store ended it at a cube of which no fact is so: a
-- verdict's status comes of a verdict alone, and a fault's is 1
abbrev pub IsEndOf : Result GatheredFrom RunFault → Bool → End → Type 0
IsEndOf (Ok gathered) ended end = end ≡ Status (verdict_status gathered.verdict)
IsEndOf (Err fault) true end = end ≡ Unproved
IsEndOf (Err fault) false end = end ≡ Status 1

-- 10 and 20 are a verdict on the formula of the bytes that were held, which is right, with the answer
-- that was written; all else is 0 or 1
abbrev pub IsGatherStatus : Held → Option (List ℕ) → Option (List ℕ) → ℕ → Type 0
IsGatherStatus held a b status =
    ((status ≡ 10) × Answers (limits_of held.run.limits) (search_by (written_by held.run)) (Some held.formula.items) a b Satisfiable)
    ⊎ ((status ≡ 20) × Answers (limits_of held.run.limits) (search_by (written_by held.run)) (Some held.formula.items) a b Unsatisfiable)
    ⊎ (status ≡ 0)
    ⊎ (status ≡ 1)

abbrev pub IsGatherEnd : Held → Option (List ℕ) → Option (List ℕ) → End → Type 0
IsGatherEnd held a b (Status status) = IsGatherStatus held a b status
IsGatherEnd held a b Unproved = Unit {0}
