-- How a formula is decided: by a plan alone, or by the ordered search first and by a plan only where
-- the conflicts of that search are used up; and which of its models is the answer. Source: that a
-- short run of another search comes first is the practice of portfolios (Xu, Hutter, Hoos and
-- Leyton-Brown, JAIR 2008: 'pre-solvers'); that the first model is the answer is this project's.
use Rattle.std.specs.Prelude.{ℕ, Bool, false, Option, None, if◌then◌else◌}
use Rattle.theory.specs.Plans.{Search, ordered, Plan}

pub record Strategy : Type 0 where
  -- how many conflicts the ordered search of the whole formula has at most, if there is one before the
  -- plan
  pub first : Option ℕ
  pub plan : Plan
  -- whether the answer is the first model, and not the one that the plan finds
  pub lowers : Bool

-- a plan alone, with the model that it finds
abbrev pub by_plan : Plan → Strategy
by_plan plan = record { first = None; plan = plan; lowers = false }

-- the search whose models are as those of the strategy
abbrev pub search_by : Strategy → Search
search_by s = if s.lowers then ordered else s.plan.search
