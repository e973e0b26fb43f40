-- What the file of a run says.
use Rattle.std.specs.Prelude.{◌≡◌, ℕ, Bool, List, None, string_bytes}
use Rattle.theory.specs.Truth as truth
use Rattle.theory.specs.Plans.{Plan, ordered_within, focused, default_constants}
use Rattle.theory.specs.Reading.{ReadsWithin, formula}
use Rattle.cnf.specs.Limits.{limits_of}
use Rattle.strategies.specs.Strategies.{Strategy}
use Rattle.strategies.specs.Choosing.{IsChosen}
use Rattle.cdcl.specs.declared.api.plan.Search.{Search}
use Rattle.cdcl.specs.declared.api.plan.Search.TheVariants.{Ordered, Focused}
use Rattle.spread.specs.declared.run_file.RunFile.{RunFile}
use Rattle.spread.specs.Sums.{sum_of}

-- the greatest budget of a root
abbrev pub most_at_root : Search → ℕ
most_at_root Ordered = 100000
most_at_root Focused = 1000000000

-- the plan of these numbers, and whether it simplifies; the ordered search divides nothing, and
-- simplifies nothing
abbrev pub plan_by : Search → (budget divide : ℕ) → Bool → Plan
plan_by Ordered budget divide simplify = ordered_within budget
plan_by Focused budget divide simplify = record { search = focused default_constants; budget = budget; divide = divide; simplify = simplify }

-- the strategy decides the formula by its plan alone, the one that was chosen by another
abbrev pub IsSettled : truth.Formula → Strategy → Strategy → Type 0
IsSettled F s t = (plan : Plan) × IsChosen F s plan × (t ≡ record s { first = None; plan = plan })

-- by what the proof and the answer of a run are written: its plan, and the first model where it
-- says so
abbrev pub written_by : RunFile → Strategy
written_by run = record { first = None; plan = run.plan; lowers = run.lowers }

-- the formula of a run: bytes with its sum are read as it, within its limits
pub record IsFormulaOf (run : RunFile) (F : truth.Formula) : Type 0 where
  pub bytes : List ℕ
  pub sum : sum_of bytes ≡ string_bytes run.formula_sum
  pub reads : ReadsWithin (limits_of run.limits) bytes (formula F)
