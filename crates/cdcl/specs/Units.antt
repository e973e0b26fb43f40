-- The units of level 0 as lines of a search, one entry of the trail after the other.
use Rattle.std.specs.Prelude.{◌≡◌, ℕ, ◌+◌, ◌<◌, false, List, [], ◌∷◌, ◌++◌, map, length, take, drop, Option, Some, None, Bool, slice_get, slice_set}
use Rattle.theory.specs.Literals.{Clause, has, negated}
use Rattle.theory.specs.Trails.{Entry, Trail, current_level}
use Rattle.theory.specs.Learning.{Line}
use Rattle.theory.specs.Forgetting.{Mark, fresh_mark}
use Rattle.theory.specs.Units.{Units, with_number, wide_reason, with_entry, with_entries, units_of}
use Rattle.kernel.specs.State.{State}
use Rattle.cdcl.specs.declared.search.focused.FocusedSearch.{FocusedSearch}
use Rattle.cdcl.specs.Removing.{reason_at}

-- whether an entry makes a literal of the clause false
abbrev pub is_against : Clause → Option Entry → Bool
is_against c None = false
is_against c (Some e) = has c (negated e.lit)

-- the reasons of the entries at these places, in their order
abbrev pub reasons_at : Trail → List ℕ → List ℕ
reasons_at T [] = []
reasons_at T (p ∷ places) = with_number (reason_at (slice_get T p)) (reasons_at T places)

-- the entry at the place may become a unit
pub record CanSettle (k : State) (place : ℕ) : Type 0 where
  pub inside : place < length k.trail
  pub level : current_level k.trail ≡ 0

-- the clauses and the entries before a place, where the units so far gave these lines
abbrev pub units_before : State → ℕ → List Line → Units
units_before k place lines = record { clauses = k.clauses; trail = take place k.trail; lines = lines }

-- lines of so many units have a mark each
abbrev pub unit_marks : List Line → List Mark
unit_marks lines = map (λ line. fresh_mark 0) lines

-- the kernel's clauses and trail changed, and behind the lines stand these, with their marks
pub record HasMore (old : FocusedSearch) (lines : List Line) (new : FocusedSearch) : Type 0 where
  pub lines_are : new.lines ≡ old.lines ++ lines
  pub marks_are : new.marks.items ≡ old.marks.items ++ unit_marks lines
  pub kernel : new.kernel ≡ record old.kernel { clauses = new.kernel.clauses; trail = new.kernel.trail }
  pub level : current_level new.kernel.trail ≡ current_level old.kernel.trail
  pub long : length new.kernel.trail ≡ length old.kernel.trail
  -- all else stays
  pub same : new ≡ record old { kernel = new.kernel; lines = new.lines; marks = new.marks; unit_hints = new.unit_hints }

-- the literal of the entry at the place is a line by the hints that were taken up, and its clause
-- the entry's reason
pub record LearnsUnit (old : FocusedSearch) (place : ℕ) (e : Entry) (new : FocusedSearch) : Type 0 where
  pub lines : new.lines ≡ old.lines ++ record { clause = e.lit ∷ []; hints = old.unit_hints.hints.items; forgets = [] } ∷ []
  pub marks : new.marks.items ≡ old.marks.items ++ fresh_mark 0 ∷ []
  pub kernel : new.kernel ≡ record old.kernel {
    clauses = old.kernel.clauses ++ (e.lit ∷ []) ∷ [];
    trail = slice_set old.kernel.trail place (record e { reason = Some (length old.kernel.clauses + 1) });
  }
  -- all else stays
  pub same : new ≡ record old { kernel = new.kernel; lines = new.lines; marks = new.marks }

-- the entry at the place is a unit, by these lines
pub record SettlesEntry (old : FocusedSearch) (place : ℕ) (e : Entry) (new : FocusedSearch) : Type 0 where
  pub lines : List Line
  pub more : HasMore old lines new
  pub entry : with_entry (units_before old.kernel place []) e (wide_reason old.kernel.clauses e.reason) ≡ units_before new.kernel (place + 1) lines
  pub rest : drop (place + 1) new.kernel.trail ≡ drop (place + 1) old.kernel.trail

-- the entries before the place are units, by these lines
pub record IsSettling (old : FocusedSearch) (place : ℕ) (new : FocusedSearch) : Type 0 where
  pub lines : List Line
  pub more : HasMore old lines new
  pub rest : with_entries (units_before new.kernel place lines) (drop place new.kernel.trail) ≡ units_of old.kernel.clauses old.kernel.trail
