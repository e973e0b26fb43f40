-- The rounds of the focused search: at the end of each one clauses are forgotten, and all saved
-- values change. Source: rephasing (Biere and Fleury, POS 2020); the order of the changes is this
-- project's own.
use Rattle.std.specs.Prelude.{ℕ, ◌+◌, ◌*◌, ◌%◌, nat_eq, nat_le, Bool, true, false, not, map, if◌then◌else◌}
use Rattle.theory.specs.Truth.{Assignment}
use Rattle.theory.specs.Plans.{Constants}

-- the round's number, and from which conflict on it ends
pub record Turn : Type 0 where
  pub number : ℕ
  pub end : ℕ

abbrev pub first_turn : Constants → Turn
first_turn c = record { number = 1; end = c.round_length }

-- whether it ends with conflict n
abbrev pub is_over : Turn → ℕ → Bool
is_over r n = nat_le r.end n

-- the next round is longer
abbrev pub next_turn : Constants → ℕ → Turn → Turn
next_turn c n r = record { number = r.number + 1; end = n + c.round_length * (r.number + 1) }

-- the saved values at the end of round n: in turn all are true, each is the other one, all are
-- false
abbrev pub rephased : ℕ → Assignment → Assignment
rephased n saved =
    if nat_eq (n % 3) 1 then map (λ v. true) saved
    else if nat_eq (n % 3) 2 then map not saved
    else map (λ v. false) saved
