-- Clauses that are forgotten: which they are, and what is left of their watches.
use Rattle.std.specs.Prelude.{◌≡◌, ℕ, ◌+◌, ◌-◌, nat_eq, nat_le, Bool, false, not, ◌&&◌, List, length, filter, cond, slice_index_or}
use Rattle.std.specs.List.{list_any}
use Rattle.theory.specs.Literals.{positive, negative}
use Rattle.kernel.specs.declared.watches.watch.Watched.{Watched}
use Rattle.kernel.specs.declared.watches.watch.Watch.{Watch}
use Rattle.kernel.specs.declared.clauses.named.Named.{Named}
use Rattle.kernel.specs.Watching.{At}

-- whether the clause at a place is among those from `first` on that have a flag
abbrev pub is_flagged : ℕ → List Bool → ℕ → Bool
is_flagged first flags n = nat_le first n && slice_index_or flags (n - first) false

abbrev pub names : Named → ℕ → Bool
names a = is_flagged a.first a.flags.items

-- whether one of the numbers is that of the clause at a place
abbrev pub is_numbered : List ℕ → ℕ → Bool
is_numbered numbers n = list_any (nat_eq (n + 1)) numbers

-- the test tells the places of these numbers
abbrev pub Tells : (ℕ → Bool) → List ℕ → Type 0
Tells gone numbers = (n : ℕ) → gone n ≡ is_numbered numbers n

-- the places that stay
abbrev pub places_left : (ℕ → Bool) → List ℕ → List ℕ
places_left gone ns = filter (λ n. not (gone n)) ns

-- the entries of the clauses that stay
abbrev pub entries_left : (ℕ → Bool) → List Watch → List Watch
entries_left gone ws = filter (λ e. not (gone e.clause)) ws

-- what a forgotten clause is taken to watch, though no list has it
abbrev pub watched_forgotten : Watched
watched_forgotten = record { first = positive 1; second = negative 1 }

-- that is so of the clauses of these numbers, and the others watch what they did
pub record ArePairsLeft (numbers : List ℕ) (old new : List Watched) : Type 0 where
  pub long : length new ≡ length old
  pub pair : (n : ℕ) (w : Watched) → At new n w → cond (is_numbered numbers n) (w ≡ watched_forgotten) (At old n w)
