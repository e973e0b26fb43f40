-- What is seen of a clause one of whose two front literals became false.
use Rattle.std.specs.Prelude.{◌≡◌, ◌≢◌, ℕ, true, false, List, Some, if◌then◌else◌, ◌≤◌, ◌⊎◌, length, take}
use Rattle.std.specs.List.Sorted.{IsPermutation}
use Rattle.theory.specs.Literals.{Literal, Clause, same, has, negated}
use Rattle.theory.specs.Truth.{IsOver}
use Rattle.trail.specs.Tables.{IsTruth, value_of}
use Rattle.kernel.specs.declared.watches.watch.Watched.{Watched}
use Rattle.kernel.specs.declared.watches.watch_visit.WatchVisit.{WatchVisit}
use Rattle.kernel.specs.declared.watches.watch_visit.WatchVisit.TheVariants.{Satisfied, Moved, Last}
use Rattle.kernel.specs.Watching.{At}
use Rattle.kernel.specs.Visiting.{IsLast, Replaces}
use Rattle.kernel.specs.Arranging.{front}

-- what a clause is like that is looked at: of more than one literal, and g, one of the two front
-- ones, is false
pub record CanSee (V : ℕ) (P : List Literal) (g : Literal) (c : Clause) : Type 0 where
  pub over : IsOver V c
  pub long : 2 ≤ length c
  pub gone : has P (negated g) ≡ true
  pub watched : ((front c).first ≡ g) ⊎ ((front c).second ≡ g)

-- at a place of c stands a literal that can be watched beside k
pub record IsFound (P : List Literal) (c : Clause) (k : Literal) (place : ℕ) : Type 0 where
  pub lit : Literal
  pub at : At c place lit
  pub replaces : Replaces P c k lit

-- at a place of c stands the first literal from the start on that isn't false: whichever literal k
-- is, if all before the start are false but k, then so are all before the place
pub record IsFirstOpen (P : List Literal) (c : Clause) (start place : ℕ) : Type 0 where
  pub lit : Literal
  pub at : At c place lit
  pub behind : start ≤ place
  pub not_false : has P (negated lit) ≡ false
  pub before : (k : Literal) → IsLast P (take start c) k → IsLast P (take place c) k

-- the literal that stands in front beside g
abbrev pub other_front : Watched → Literal → Literal
other_front w g = if same w.first g then w.second else w.first

-- the clause c with w in front is seen, and has u in front then
abbrev pub IsWatchVisit : List Literal → Literal → Clause → Watched → Watched → WatchVisit → Type 0
IsWatchVisit P g c w u (Satisfied k) = (k ≡ other_front w g) × (has P k ≡ true) × (u ≡ w)
IsWatchVisit P g c w u (Last k t) = (k ≡ other_front w g) × IsTruth P k (value_of t) × (value_of t ≢ Some true) × IsLast P c k × (u ≡ w)
IsWatchVisit P g c w u (Moved v) = (v.first ≡ other_front w g) × Replaces P c v.first v.second × (u ≡ v)

-- the literals of the clause c change places
pub record IsSeen (P : List Literal) (g : Literal) (c d : Clause) (s : WatchVisit) : Type 0 where
  pub visit : IsWatchVisit P g c (front c) (front d) s
  pub permutes : IsPermutation c d
