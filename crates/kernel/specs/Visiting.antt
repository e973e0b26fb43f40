-- The visit of a clause in the list of a literal that became false.
use Rattle.std.specs.Prelude.{◌≡◌, ℕ, ◌<◌, ◌≤◌, true, false, List, [], ◌∷◌, ◌++◌, length, map, Option, Some, None, ◌⊎◌, slice_index_or, slice_set}
use Rattle.std.specs.List.Sorted.{IsPermutation}
use Rattle.theory.specs.Literals.{Literal, Clause, same, has, negated}
use Rattle.kernel.specs.declared.watches.watch.Watched.{Watched}
use Rattle.kernel.specs.declared.watches.watch.Watch.{Watch}
use Rattle.kernel.specs.declared.propagator.Propagator.{Propagator}
use Rattle.kernel.specs.EntryLists.{entries_of}
use Rattle.cnf.specs.Lits.{code}
use Rattle.kernel.specs.Watching.{At, IsPair, IsBeside, Tending, lesser}

-- what is kept beside the clauses, with the entries of the lists whole
pub record WatchLists : Type 0 where
  pub pairs : List Watched
  pub lists : List (List Watch)
  pub units : List ℕ
  pub least : Option ℕ

-- the places of the clauses that the entries name
abbrev pub places : List Watch → List ℕ
places ws = map (λ e. e.clause) ws

-- the entries of the list of a literal
abbrev pub entries_at : List (List Watch) → Literal → List Watch
entries_at lists l = slice_index_or lists (code l) []

abbrev pub kept_of : Propagator → WatchLists
kept_of p = record { pairs = p.clauses.pairs; lists = map entries_of p.lists; units = p.units; least = p.conflict }

-- the same without what the entries say beside the clauses' places
abbrev pub tending : WatchLists → Tending
tending k = record { pairs = k.pairs; lists = map places k.lists; units = k.units; least = k.least }

-- with the entries ws for the list of g, some of which was gone through
abbrev pub with_list : WatchLists → Literal → List Watch → WatchLists
with_list k g ws = record k { lists = slice_set k.lists (code g) ws }

-- what an entry in the list of l says of its clause
pub record IsEntry (K : List Clause) (pairs : List Watched) (l : Literal) (e : Watch) : Type 0 where
  pub blocker_in : (c : Clause) → At K e.clause c → has c e.blocker ≡ true
  pub short : e.is_short ≡ true → (c : Clause) (w : Watched) → At K e.clause c → At pairs e.clause w → (length c ≤ 2) × IsBeside w l e.blocker
  pub long : e.is_short ≡ false → (c : Clause) → At K e.clause c → 2 < length c

abbrev pub AreEntriesOf : List Clause → List Watched → Literal → List Watch → Type 0
AreEntriesOf K pairs l ws = (p : ℕ) (e : Watch) → At ws p e → IsEntry K pairs l e

abbrev pub AreEntries : List Clause → WatchLists → Type 0
AreEntries K k = (l : Literal) → AreEntriesOf K k.pairs l (entries_at k.lists l)

-- z can be watched beside k
pub record Replaces (P : List Literal) (c : Clause) (k z : Literal) : Type 0 where
  pub member : has c z ≡ true
  pub apart : same z k ≡ false
  pub not_false : has P (negated z) ≡ false

-- all literals of the clause but k are false
abbrev pub IsLast : List Literal → Clause → Literal → Type 0
IsLast P c k = (l : Literal) → has c l ≡ true → same k l ≡ false → has P (negated l) ≡ true

-- what a visit begins from: the entry is one of g, which is false
pub record CanVisit (K : List Clause) (P : List Literal) (g : Literal) (e : Watch) (k : WatchLists) : Type 0 where
  pub within : e.clause < length K
  pub gone : has P (negated g) ≡ true
  pub entry : IsEntry K k.pairs g e
  pub length_pairs : length k.pairs ≡ length K
  pub pair : (c : Clause) (w : Watched) → At K e.clause c → At k.pairs e.clause w → IsPair c w × ((w.first ≡ g) ⊎ (w.second ≡ g))

-- the entry stays in the list, with the blocker b
pub record IsStay (K : List Clause) (e : Watch) (b : Literal) : Type 0 where
  pub blocker_in : (c : Clause) → At K e.clause c → has c b ≡ true
  pub short : e.is_short ≡ true → b ≡ e.blocker

-- what changed in a visit of an entry of g; the answer is the entry's new blocker, or none where
-- the entry left the list
pub data IsVisit (K : List Clause) (P : List Literal) (g : Literal) (e : Watch) (s u : WatchLists) : Option Literal → Type 0 where
  -- the blocker is true
  satisfied : {b : Literal} → IsStay K e b → has P b ≡ true → u ≡ s → IsVisit K P g e s u (Some b)
  -- an earlier clause is false
  behind : {b : Literal} {m : ℕ} → IsStay K e b → s.least ≡ Some m → m ≤ e.clause → u ≡ s → IsVisit K P g e s u (Some b)
  -- all literals but b are false, and b is free
  unit : {b : Literal} → IsStay K e b → ((c : Clause) (w : Watched) → At K e.clause c → At s.pairs e.clause w → IsBeside w g b × IsLast P c b) → has P (negated b) ≡ false
      → IsPermutation (e.clause ∷ s.units) u.units → u.pairs ≡ s.pairs → u.lists ≡ s.lists → u.least ≡ s.least → IsVisit K P g e s u (Some b)
  -- the same, and another clause is false, so this one needn't wait
  needless : {b : Literal} {m : ℕ} → IsStay K e b → ((c : Clause) (w : Watched) → At K e.clause c → At s.pairs e.clause w → IsBeside w g b × IsLast P c b) → has P (negated b) ≡ false
      → s.least ≡ Some m → u ≡ s → IsVisit K P g e s u (Some b)
  -- all literals are false
  clashes : {b : Literal} → IsStay K e b → ((c : Clause) → At K e.clause c → IsLast P c b) → has P (negated b) ≡ true → u ≡ record s { least = Some (lesser s.least e.clause) } → IsVisit K P g e s u (Some b)
  -- z is watched in place of g
  moves : {k z : Literal} → e.is_short ≡ false → ((c : Clause) (w : Watched) → At K e.clause c → At s.pairs e.clause w → IsBeside w g k × (has c k ≡ true) × Replaces P c k z)
      → u.pairs ≡ slice_set s.pairs e.clause record { first = k; second = z } → u.lists ≡ slice_set s.lists (code z) (entries_at s.lists z ++ record { clause = e.clause; blocker = k; is_short = false } ∷ [])
      → u.units ≡ s.units → u.least ≡ s.least → IsVisit K P g e s u None
