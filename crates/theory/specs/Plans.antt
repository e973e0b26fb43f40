-- How a formula is searched: by which search, and with how many conflicts for a cube.
-- Source: the constants of the focused search are this project's own, as measured.
use Rattle.std.specs.Prelude.{ℕ, ◌^◌, Bool, false}

-- the numbers of the focused search
pub record Constants : Type 0 where
  -- what a score gains at the first conflict; a step gains its quotient by the growth of the mode;
  -- from greatest_step on, scores and step are divided
  pub first_step : ℕ
  pub restarting_growth : ℕ
  pub stable_growth : ℕ
  pub greatest_step : ℕ
  pub divisor : ℕ
  -- how many glues count as recent; how many of the average glues their sum has to be above; and
  -- how many conflicts are between two restarts at least
  pub window : ℕ
  pub above : ℕ
  pub apart : ℕ
  -- the conflicts of the first mode; by how many a round is longer than the one before; the
  -- greatest glue that is never forgotten
  pub mode_length : ℕ
  pub round_length : ℕ
  pub kept_glue : ℕ

abbrev pub default_constants : Constants
default_constants = record {
  first_step = 65536;
  restarting_growth = 5;
  stable_growth = 20;
  greatest_step = 2 ^ 56;
  divisor = 2 ^ 40;
  window = 32;
  above = 35;
  apart = 5;
  mode_length = 1000;
  round_length = 300;
  kept_glue = 3;
}

-- ordered: the least free variable is decided false, so that the first model is found. focused: the
-- variables of conflicts are decided first, so that hard formulas are solved; its model is one of
-- several.
pub data Search : Type 0 where
  ordered : Search
  focused : Constants → Search

-- the search, the budget of the root, into how many cubes a formula is divided before they are
-- searched, where 0 and 1 divide none, and whether a formula that isn't solved soon is simplified
-- first
pub record Plan : Type 0 where
  pub search : Search
  pub budget : ℕ
  pub divide : ℕ
  pub simplify : Bool

-- the ordered search, with this budget; it never simplifies
abbrev pub ordered_within : ℕ → Plan
ordered_within B = record { search = ordered; budget = B; divide = 0; simplify = false }

-- the same plan, which simplifies no formula
abbrev pub unsimplifying : Plan → Plan
unsimplifying plan = record plan { simplify = false }

-- the same plan, which divides no formula
abbrev pub undivided : Plan → Plan
undivided plan = record plan { divide = 0 }
