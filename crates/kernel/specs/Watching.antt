-- Clauses under two watched literals, over plain lists. P is what the trail holds true, S the part
-- of it that was served: the clauses that watch the negation of an entry's literal were visited. A
-- clause is named by its place, from 0. Source: Moskewicz et al., 'Chaff' (DAC 2001); Een and
-- Sorensson, 'An Extensible SAT-solver' (SAT 2003).
use Rattle.std.specs.Prelude.{◌≡◌, ℕ, zero, suc, ◌<◌, ◌≤◌, true, false, List, [], ◌∷◌, ◌++◌, length, Option, Some, None, cond, ◌⊎◌, slice_index_or, slice_set, take, min}
use Rattle.std.specs.List.{list_all, Contains}
use Rattle.theory.specs.Literals.{Literal, Clause, same, has, negated, has_both_signs}
use Rattle.theory.specs.Status.{is_false, others_false}
use Rattle.theory.specs.Trails.{Trail, literals, current_level, up_to}
use Rattle.cnf.specs.Lits.{code}
use Rattle.kernel.specs.declared.watches.watch.Watched.{Watched}

-- no literal is in P beside its negation
abbrev pub IsConsistent : List Literal → Type 0
IsConsistent P = (l : Literal) → has P l ≡ true → has P (negated l) ≡ true → ⊥

-- each literal of Q is one of P
abbrev pub Includes : List Literal → List Literal → Type 0
Includes P Q = (l : Literal) → has Q l ≡ true → has P l ≡ true

-- x stands at a place of xs
abbrev pub At : {X : Type 0} → List X → ℕ → X → Type 0
At xs n x = (n < length xs) × (slice_index_or xs n x ≡ x)

-- n stands in xs at the place j or behind
abbrev pub StandsFrom : ℕ → List ℕ → ℕ → Type 0
StandsFrom j xs n = (p : ℕ) × (j ≤ p) × (p < length xs) × (slice_index_or xs p n ≡ n)

-- two literals of the clause, which are one only if the clause has no other
pub record IsPair (c : Clause) (w : Watched) : Type 0 where
  pub first_in : has c w.first ≡ true
  pub second_in : has c w.second ≡ true
  pub single : same w.first w.second ≡ true → list_all (same w.first) c ≡ true

-- k is watched beside g
abbrev pub IsBeside : Watched → Literal → Literal → Type 0
IsBeside w g k = ((w.first ≡ g) × (w.second ≡ k)) ⊎ ((w.second ≡ g) × (w.first ≡ k))

-- the watched literals differ and neither is known to be false, or a literal of the clause at n is
-- true, or it has both signs of a variable: it is never unit and never false
pub data IsWatched (K : List Clause) (n : ℕ) (S P : List Literal) (w : Watched) : Type 0 where
  apart : same w.first w.second ≡ false → has S (negated w.first) ≡ false → has S (negated w.second) ≡ false → IsWatched K n S P w
  first_true : has P w.first ≡ true → IsWatched K n S P w
  second_true : has P w.second ≡ true → IsWatched K n S P w
  other_true : (c : Clause) (y : Literal) → At K n c → has c y ≡ true → has P y ≡ true → IsWatched K n S P w
  both_signs : (c : Clause) → At K n c → has_both_signs c ≡ true → IsWatched K n S P w

-- the least place of a false clause so far is at most n
abbrev pub Reached : Option ℕ → ℕ → Type 0
Reached None n = ⊥
Reached (Some m) n = m ≤ n

-- a clause is held, or waits among the units, or stands at or behind a false one; once one is
-- false, none has to wait
pub data Good (K : List Clause) (S P : List Literal) (H : List ℕ) (f : Option ℕ) (w : Watched) (n : ℕ) : Type 0 where
  held : IsWatched K n S P w → Good K S P H f w n
  waits : Contains H n → (has S (negated w.first) ≡ false) ⊎ (has S (negated w.second) ≡ false) → Good K S P H f w n
  reached : Reached f n → Good K S P H f w n
  spared : (m : ℕ) → Reached f m → (has S (negated w.first) ≡ false) ⊎ (has S (negated w.second) ≡ false) → Good K S P H f w n

-- a clause that waits among the units had all literals but one false
abbrev pub WasUnit : List Literal → Clause → Type 0
WasUnit P c = (y : Literal) × (has c y ≡ true) × (others_false P c y ≡ true)

-- the clauses that watch a literal
abbrev pub list_at : List (List ℕ) → Literal → List ℕ
list_at lists l = slice_index_or lists (code l) []

-- what is kept beside the clauses: their watched literals, for each literal the clauses that watch
-- it, the clauses that were found unit, and the least one that was found false
pub record Tending : Type 0 where
  pub pairs : List Watched
  pub lists : List (List ℕ)
  pub units : List ℕ
  pub least : Option ℕ

-- there is a clause at a place, and it isn't empty
abbrev pub IsFull : List Clause → ℕ → Type 0
IsFull K n = (n < length K) × (At K n [] → ⊥)

-- of each clause that isn't empty two literals are watched; it stands in the lists of both, unless
-- it has both signs of a variable
pub record IsListed (K : List Clause) (t : Tending) : Type 0 where
  pub length_pairs : length t.pairs ≡ length K
  pub pairs : (n : ℕ) (c : Clause) (w : Watched) → At K n c → At t.pairs n w → (c ≡ [] → ⊥) → IsPair c w
  pub listed : (n : ℕ) (c : Clause) (w : Watched) → At K n c → At t.pairs n w → (c ≡ [] → ⊥) → has_both_signs c ≡ false → Contains (list_at t.lists w.first) n × Contains (list_at t.lists w.second) n
  pub within : (k : ℕ) (ns : List ℕ) (n : ℕ) → At t.lists k ns → Contains ns n → IsFull K n

-- a list has no other clauses than those that watch the literal, and each once
pub record IsExact (pairs : List Watched) (lists : List (List ℕ)) : Type 0 where
  pub exact : (l : Literal) (n : ℕ) (w : Watched) → Contains (list_at lists l) n → At pairs n w → (w.first ≡ l) ⊎ (w.second ≡ l)
  pub once : (l : Literal) (n i j : ℕ) → At (list_at lists l) i n → At (list_at lists l) j n → i ≡ j

-- the waiting clauses were unit, the least false clause is false, and no empty one stands before it
pub record IsFound (K : List Clause) (P : List Literal) (t : Tending) : Type 0 where
  pub units : (n : ℕ) → Contains t.units n → (n < length K) × ((c : Clause) → At K n c → WasUnit P c)
  pub least : (n : ℕ) → t.least ≡ Some n → (n < length K) × ((c : Clause) → At K n c → is_false P c ≡ true)
  pub empties : (n : ℕ) → At K n [] → Reached t.least n

-- in a state of the trail from which a decision was made, each clause is held; Q is what such a
-- state holds true, R the part of it that was served
abbrev pub AreWatchedIn : List Literal → List Literal → List Clause → List Watched → Type 0
AreWatchedIn R Q K W = (n : ℕ) (c : Clause) (w : Watched) → At K n c → At W n w → (c ≡ [] → ⊥) × IsWatched K n R Q w

-- each clause is good
abbrev pub AllGood : List Clause → List Literal → List Literal → Tending → Type 0
AllGood K S P t = (n : ℕ) (w : Watched) → At t.pairs n w → Good K S P t.units t.least w n

-- each clause is good where l was served too, but for those of a list from the place j on, which
-- are good so far
abbrev pub GoodBut : List Clause → List Literal → Literal → List Literal → Tending → List ℕ → ℕ → Type 0
GoodBut K S l P t ns j = (n : ℕ) (w : Watched) → At t.pairs n w → Good K (S ++ l ∷ []) P t.units t.least w n ⊎ (StandsFrom j ns n × Good K S P t.units t.least w n)

-- all that holds between the visits of clauses, but for what was served; of each earlier state at
-- most the first `floor` entries may be taken for served
pub record Tends (floor : ℕ) (K : List Clause) (T : Trail) (t : Tending) : Type 0 where
  pub listed : IsListed K t
  pub exact : IsExact t.pairs t.lists
  pub found : IsFound K (literals T) t
  pub earlier : (m : ℕ) → m < current_level T → AreWatchedIn (literals (take floor (up_to T m))) (literals (up_to T m)) K t.pairs

-- the smaller of the two
abbrev pub lesser : Option ℕ → ℕ → ℕ
lesser None n = n
lesser (Some m) n = min m n

-- xs without what stands at a place
abbrev pub without_nth : {X : Type 0} → List X → ℕ → List X
without_nth [] j = []
without_nth (x ∷ xs) zero = xs
without_nth (x ∷ xs) (suc j) = x ∷ without_nth xs j

-- the lists once the clause at the place j of the list of g moved to that of z
abbrev pub moved : List (List ℕ) → Literal → Literal → ℕ → ℕ → List (List ℕ)
moved lists g z n j = slice_set (slice_set lists (code z) (list_at lists z ++ n ∷ [])) (code g) (without_nth (list_at lists g) j)

-- a number more in the list of a literal
abbrev pub listed_at : List (List ℕ) → Literal → ℕ → List (List ℕ)
listed_at lists a n = slice_set lists (code a) (list_at lists a ++ n ∷ [])

-- the same in the lists of both literals that a clause watches
abbrev pub listed_both : List (List ℕ) → Watched → ℕ → List (List ℕ)
listed_both lists w n = cond (same w.first w.second) (listed_at lists w.first n) (listed_at (listed_at lists w.first n) w.second n)

-- what holds between two visits of the walk that serves the entry at a place of the trail: g is the
-- negation of its literal, and the clauses before the place j of g's list were visited
pub record Walks (floor : ℕ) (K : List Clause) (T : Trail) (served : ℕ) (g : Literal) (t : Tending) (j : ℕ) : Type 0 where
  pub tends : Tends floor K T t
  pub good : GoodBut K (literals (take served T)) (negated g) (literals T) t (list_at t.lists g) j

-- what holds between two entries that are served
pub record IsServed (floor : ℕ) (K : List Clause) (T : Trail) (served : ℕ) (t : Tending) : Type 0 where
  pub tends : Tends floor K T t
  pub good : AllGood K (literals (take served T)) (literals T) t

-- the entry that is served is on the trail
abbrev pub IsNext : Trail → ℕ → Literal → Type 0
IsNext T served g = Includes (literals T) (literals (take served T) ++ negated g ∷ [])
