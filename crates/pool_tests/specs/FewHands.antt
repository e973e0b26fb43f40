-- Pools of few hands, as the tests have them.
use Rattle.std.specs.Prelude.{◌≡◌}
use Rattle.pool.specs.Hands.{HandView}
use Rattle.pool.specs.Pools.{PoolView, roots_of}

-- the one hand of a pool
abbrev pub IsOnly : PoolView → HandView → Type 0
IsOnly p a = (p.hands ≡ 1) × (a.number ≡ 0) × (a.hands ≡ 1) × (a.table ≡ p.table) × (a.roots ≡ roots_of p.root 0)

-- the two hands of a pool
abbrev pub IsPair : PoolView → HandView → HandView → Type 0
IsPair p a b = (p.hands ≡ 2) × (a.number ≡ 0) × (b.number ≡ 1) × (a.hands ≡ 2) × (b.hands ≡ 2) × (a.table ≡ p.table) × (b.table ≡ p.table)
    × (b.deques ≡ a.deques) × (a.roots ≡ roots_of p.root 0) × (b.roots ≡ roots_of p.root 1)
