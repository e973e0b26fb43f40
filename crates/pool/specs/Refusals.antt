-- The numbers of the refusals to open a pool.
use Rattle.std.specs.Prelude.{ℕ}
use Rattle.pool.specs.declared.refusal.PoolRefusal.{PoolRefusal}
use Rattle.pool.specs.declared.refusal.PoolRefusal.TheVariants.{NoMemory, NotOpened}

abbrev pub refusal_number : PoolRefusal → ℕ
refusal_number NoMemory = 61
refusal_number NotOpened = 62
