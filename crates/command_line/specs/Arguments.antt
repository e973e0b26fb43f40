-- The plan and the strategy that the command line asks for.
use Rattle.std.specs.Prelude.{ℕ, Bool, true, false, Option, Some, unwrap_or, if◌then◌else◌}
use Rattle.theory.specs.Plans.{Plan, default_constants}
use Rattle.cdcl.specs.declared.api.plan.Search.{Search}
use Rattle.cdcl.specs.declared.api.plan.Search.TheVariants as search
use Rattle.cdcl.specs.Plans.{search_of}
use Rattle.strategies.specs.Strategies.{Strategy, by_plan}
use Rattle.command_line.specs.declared.effort.Choice.{Choice}
use Rattle.command_line.specs.declared.effort.Choice.TheVariants.{Automatic, Ordered, Focused}

-- how many cubes are wanted, where this number is asked for, or none is
abbrev pub cubes_wanted : Search → Option ℕ → ℕ
cubes_wanted search.Ordered divide = 0
cubes_wanted search.Focused divide = unwrap_or divide 64

-- whether a formula that isn't solved soon is simplified, where that is said, or not
abbrev pub is_simplified : Search → Option Bool → Bool
is_simplified search.Ordered simplify = false
is_simplified search.Focused simplify = unwrap_or simplify true

-- the plan that is asked for
abbrev pub plan_asked : Search → ℕ → Option ℕ → Option Bool → Plan
plan_asked s budget divide simplify = record {
  search = search_of s default_constants;
  budget = budget;
  divide = cubes_wanted s divide;
  simplify = is_simplified s simplify;
}

-- the greatest budget that may be asked for: of the ordered search, also where it is tried first,
-- and of the focused one
abbrev pub most_asked : Choice → ℕ
most_asked Automatic = 100000
most_asked Ordered = 100000
most_asked Focused = 1000000000

-- the strategy that is asked for, where any model will do or not: with the automatic choice the
-- ordered search has this budget, and the focused one behind it the second one
abbrev pub strategy_asked : Choice → ℕ → ℕ → Option ℕ → Option Bool → Bool → Strategy
strategy_asked Automatic budget behind divide simplify any_model = record {
  first = Some budget;
  plan = plan_asked search.Focused behind divide simplify;
  lowers = if any_model then false else true;
}
strategy_asked Ordered budget behind divide simplify any_model = by_plan (plan_asked search.Ordered budget divide simplify)
strategy_asked Focused budget behind divide simplify any_model = by_plan (plan_asked search.Focused budget divide simplify)
