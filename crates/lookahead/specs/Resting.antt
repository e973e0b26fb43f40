-- Where a look may be made.
use Rattle.std.specs.Prelude.{◌≡◌, ◌≤◌, false}
use Rattle.theory.specs.Reading.{large, max_vars}
use Rattle.theory.specs.Trails.{current_level}
use Rattle.theory.specs.Propagation.{quiet, by_place, Propagates}
use Rattle.kernel.specs.State.{State}
use Rattle.kernel.specs.declared.order.Order.TheVariants.{ByPlace}

-- propagation by place has come to rest at level 0
pub record IsAtRest (k : State) : Type 0 where
  pub has_memory : k.out_of_memory ≡ false
  pub in_order : k.order ≡ ByPlace
  pub few : k.vars ≤ max_vars large
  pub level : current_level k.trail ≡ 0
  pub quiet : Propagates by_place k.clauses k.trail quiet k.trail
