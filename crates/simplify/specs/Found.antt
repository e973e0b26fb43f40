-- What is found of a variable before it is eliminated.
use Rattle.std.specs.Prelude.{◌≡◌, ℕ, All}
use Rattle.theory.specs.Literals.{positive, negative}
use Rattle.theory.specs.Learning.{Line}
use Rattle.simplify.specs.Entries.{Entries, IsSet, holding}
use Rattle.simplify.specs.Tried.{lines_in, gone_in, vars_of}
use Rattle.simplify.specs.declared.room.Room.{Room}

-- the clauses that hold x, and their resolvents
pub record IsFound (V x : ℕ) (K : Entries) (r : Room) : Type 0 where
  pub positive : r.sides.positive.items ≡ holding (positive x) K
  pub negative : r.sides.negative.items ≡ holding (negative x) K
  pub resolvents : r.resolvents ≡ lines_in x K
  pub sets : All (λ (l : Line). IsSet V l.clause) r.resolvents

-- the clauses that go with x, and their variables
pub record IsListed (x : ℕ) (K : Entries) (r : Room) : Type 0 where
  pub gone : r.gone.items ≡ gone_in x K
  pub touched : r.touched.items ≡ vars_of K (gone_in x K)
