-- The two modes of the focused search, in turn: restarting mode restarts often, stable mode never
-- does. Source: a mode with restarts and one nearly without, in turn, since the first refutes more
-- and the second finds more models (Oh, SAT 2015; Biere and Fleury, POS 2020); their lengths are
-- this project's own.
use Rattle.std.specs.Prelude.{ℕ, ◌+◌, ◌*◌, nat_le, Bool, true, false, if◌then◌else◌}
use Rattle.theory.specs.Plans.{Constants}

pub data Mode : Type 0 where
  restarting : Mode
  stable : Mode

abbrev pub is_restarting : Mode → Bool
is_restarting restarting = true
is_restarting stable = false

abbrev pub other : Mode → Mode
other restarting = stable
other stable = restarting

-- the mode, how many conflicts it has, and from which conflict on it gives way
pub record Pace : Type 0 where
  pub mode : Mode
  pub length : ℕ
  pub switch : ℕ

abbrev pub first_pace : Constants → Pace
first_pace c = record { mode = restarting; length = c.mode_length; switch = c.mode_length }

-- at the end of a round with conflict n: a mode that is over gives way to the other one, which has
-- twice as many conflicts
abbrev pub pace_after : ℕ → Pace → Pace
pace_after n p = if nat_le p.switch n then record { mode = other p.mode; length = 2 * p.length; switch = n + 2 * p.length } else p
