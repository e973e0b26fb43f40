-- The numbers that the focused search can be given.
use Rattle.std.specs.Prelude.{◌*◌, ◌<◌, ◌≤◌, ◌^◌}
use Rattle.theory.specs.Plans.{Constants}

-- so that no sum or product of a search passes 2 ^ 64: a score stays at most 32 * (step + 1), since
-- a step of 64 or more grows by more than a 32nd
pub record AreInRange (c : Constants) : Type 0 where
  pub first_step : (64 ≤ c.first_step) × (c.first_step < c.greatest_step)
  pub restarting_growth : (1 ≤ c.restarting_growth) × (c.restarting_growth ≤ 20)
  pub stable_growth : (1 ≤ c.stable_growth) × (c.stable_growth ≤ 20)
  pub greatest_step : c.greatest_step ≤ 2 ^ 56
  pub divisor : (2 ≤ c.divisor) × (64 * c.divisor ≤ c.greatest_step)
  pub window : (1 ≤ c.window) × (c.window ≤ 64)
  pub above : c.above ≤ 64
  pub round_length : 1 ≤ c.round_length
