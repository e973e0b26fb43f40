-- The units of level 0 become lines of a search, one entry after the other.
use Rattle.std.proofs.Common.{◌≡◌, ℕ, suc, ◌+◌, ◌<◌, ◌≤◌, true, false, List, [], ◌∷◌, ◌++◌, length, take, drop, Option, Some, None, is_some, slice_get, refl, ap, sym, ◌∙◌, append_assoc, append-nil, arith}
use Rattle.std.proofs.lemmas.List.{length-set, set_split, take_more_set, take_more, drop-set-lt, drop_more, drop_all, take_all, take-append-drop, map-append}
use Rattle.theory.specs.Literals.{Clause}
use Rattle.theory.specs.Trails.{Entry, Trail, current_level}
use Rattle.theory.specs.Learning.{Line}
use Rattle.theory.specs.Forgetting.{Mark, fresh_mark}
use Rattle.theory.specs.Units.{Units, unit_line, wide_reason, with_reason, with_entry, with_entries, units_of, AreUnits}
use Rattle.theory.proofs.searching.KeptUnits.{current_level-replaced}
use Rattle.theory.proofs.searching.UnitWalks.{units-settled}
use Rattle.kernel.specs.State.{State}
use Rattle.cdcl.specs.declared.search.focused.FocusedSearch.{FocusedSearch}
use Rattle.cdcl.specs.declared.analysis.unit_hints.UnitHints.{UnitHints}
use Rattle.cdcl.specs.Units.{units_before, unit_marks, HasMore, LearnsUnit, SettlesEntry, IsSettling}
use Rattle.cdcl.proofs.PlaceLemmas.{placed-inside, placed-is, place-split}

take-next : (T : Trail) (q : ℕ) (e : Entry) → slice_get T q ≡ Some e → take (q + 1) T ≡ take q T ++ e ∷ []
take-next T q e at = take_more T q e (placed-inside T q e at) ∙ ap (λ x. take q T ++ x ∷ []) (sym (placed-is T q e e at))

drop-here : (T : Trail) (q : ℕ) (e : Entry) → slice_get T q ≡ Some e → drop q T ≡ e ∷ drop (q + 1) T
drop-here T q e at = drop_more T q e (placed-inside T q e at) ∙ ap (λ x. x ∷ drop (q + 1) T) (sym (placed-is T q e e at))

-- an entry whose reason has other literals
pub settles-wide : (s t : FocusedSearch) (h : UnitHints) (place n : ℕ) (e : Entry) → slice_get s.kernel.trail place ≡ Some e → wide_reason s.kernel.clauses e.reason ≡ Some n
    → h.hints.items ≡ (unit_line s.kernel.clauses (take place s.kernel.trail) e.lit n).hints → LearnsUnit (record s { unit_hints = h }) place e t → SettlesEntry s place e t
settles-wide s t h place n e at wide hints l = record {
  lines = line ∷ [];
  more = record {
    lines_are = l.lines ∙ ap (λ (ns : List ℕ). s.lines ++ record { clause = e.lit ∷ []; hints = ns; forgets = [] } ∷ []) hints;
    marks_are = l.marks;
    kernel = l.kernel ∙ ap (λ (k : State). record s.kernel { clauses = k.clauses; trail = k.trail }) (sym l.kernel);
    level = ap (λ (k : State). current_level k.trail) l.kernel
        ∙ (ap current_level (set_split T place f inside) ∙ (current_level-replaced (take place T) e f (drop (suc place) T) refl ∙ ap current_level (sym (place-split T place e at))));
    long = ap (λ (k : State). length k.trail) l.kernel ∙ length-set T place f;
    same = l.same ∙ ap (λ (u : UnitHints). record s { kernel = t.kernel; lines = t.lines; marks = t.marks; unit_hints = u }) (sym (ap (λ (x : FocusedSearch). x.unit_hints) l.same));
  };
  entry = ap (with_entry (units_before s.kernel place []) e) wide
      ∙ (sym (ap (λ (U : Trail). record { clauses = K ++ (e.lit ∷ []) ∷ []; trail = U; lines = line ∷ [] }) (take_more_set T place f inside))
      ∙ sym (ap (λ (k : State). units_before k (place + 1) (line ∷ [])) l.kernel));
  rest = ap (λ (k : State). drop (place + 1) k.trail) l.kernel ∙ drop-set-lt (place + 1) T place f (omega arith);
}
  where
    K : List Clause
    K = s.kernel.clauses

    T : Trail
    T = s.kernel.trail

    line : Line
    line = unit_line K (take place T) e.lit n

    f : Entry
    f = with_reason e (length K + 1)

    inside : place < length T
    inside = placed-inside T place e at

-- an entry that is a unit already, or has no reason
pub settles-narrow : (s : FocusedSearch) (h : UnitHints) (place : ℕ) (e : Entry) → slice_get s.kernel.trail place ≡ Some e → wide_reason s.kernel.clauses e.reason ≡ None → SettlesEntry s place e (record s { unit_hints = h })
settles-narrow s h place e at narrow = record {
  lines = [];
  more = record { lines_are = sym (append-nil s.lines); marks_are = sym (append-nil s.marks.items); kernel = refl; level = refl; long = refl; same = refl };
  entry = ap (with_entry (units_before s.kernel place []) e) narrow
      ∙ sym (ap (λ (U : Trail). record { clauses = s.kernel.clauses; trail = U; lines = [] }) (take-next s.kernel.trail place e at));
  rest = refl;
}

pub some-wide : (K : List Clause) (r : Option ℕ) → is_some (wide_reason K r) ≡ true → (n : ℕ) × (wide_reason K r ≡ Some n)
some-wide K r h = go (wide_reason K r) h
  where
    go : (o : Option ℕ) → is_some o ≡ true → (n : ℕ) × (o ≡ Some n)
    go (Some n) h = (n, refl)
    go None h = absurd (cc)

pub none-wide : (K : List Clause) (r : Option ℕ) → is_some (wide_reason K r) ≡ false → wide_reason K r ≡ None
none-wide K r h = go (wide_reason K r) h
  where
    go : (o : Option ℕ) → is_some o ≡ false → o ≡ None
    go (Some n) h = absurd (cc)
    go None h = refl

-- nothing is a unit yet but the entries before the place
pub settling-first : (s : FocusedSearch) (place : ℕ) → AreUnits s.kernel.clauses (take place s.kernel.trail) → IsSettling s place s
settling-first s place units = record {
  lines = [];
  more = record { lines_are = sym (append-nil s.lines); marks_are = sym (append-nil s.marks.items); kernel = refl; level = refl; long = refl; same = refl };
  rest = sym (units-settled s.kernel.clauses (take place s.kernel.trail) (drop place s.kernel.trail) units) ∙ ap (units_of s.kernel.clauses) (take-append-drop place s.kernel.trail);
}

HasMore-trans : (s m t : FocusedSearch) (L N : List Line) → HasMore s L m → HasMore m N t → HasMore s (L ++ N) t
HasMore-trans s m t L N a b = record {
  lines_are = b.lines_are ∙ (ap (λ (ls : List Line). ls ++ N) a.lines_are ∙ append_assoc s.lines L N);
  marks_are = b.marks_are
      ∙ (ap (λ (ms : List Mark). ms ++ unit_marks N) a.marks_are ∙ (append_assoc s.marks.items (unit_marks L) (unit_marks N) ∙ ap (λ (ms : List Mark). s.marks.items ++ ms) (sym (map-append (λ (line : Line). fresh_mark 0) L N))));
  kernel = b.kernel ∙ ap (λ (k : State). record k { clauses = t.kernel.clauses; trail = t.kernel.trail }) a.kernel;
  level = b.level ∙ a.level;
  long = b.long ∙ a.long;
  same = b.same ∙ ap (λ (x : FocusedSearch). record x { kernel = t.kernel; lines = t.lines; marks = t.marks; unit_hints = t.unit_hints }) a.same;
}

-- behind other lines an entry gives the same
with_entry-behind : (k : State) (place : ℕ) (L : List Line) (e : Entry) (r : Option ℕ)
    → with_entry (units_before k place L) e r ≡ record (with_entry (units_before k place []) e r) { lines = L ++ (with_entry (units_before k place []) e r).lines }
with_entry-behind k place L e None = ap (λ (ls : List Line). record { clauses = k.clauses; trail = take place k.trail ++ e ∷ []; lines = ls }) (sym (append-nil L))
with_entry-behind k place L e (Some n) = refl

-- one entry more
pub settling-next : (s m t : FocusedSearch) (place : ℕ) (e : Entry) → slice_get m.kernel.trail place ≡ Some e → IsSettling s place m → SettlesEntry m place e t → IsSettling s (place + 1) t
settling-next s m t place e at i n = record {
  lines = i.lines ++ n.lines;
  more = HasMore-trans s m t i.lines n.lines i.more n.more;
  rest = ap (λ (U : Trail). with_entries (units_before t.kernel (place + 1) (i.lines ++ n.lines)) U) n.rest
      ∙ (ap (λ (u : Units). with_entries (record u { lines = i.lines ++ u.lines }) (drop (place + 1) m.kernel.trail)) (sym n.entry)
      ∙ (ap (λ (u : Units). with_entries u (drop (place + 1) m.kernel.trail)) (sym (with_entry-behind m.kernel place i.lines e (wide_reason m.kernel.clauses e.reason)))
      ∙ (ap (λ (U : Trail). with_entries (units_before m.kernel place i.lines) U) (sym (drop-here m.kernel.trail place e at)) ∙ i.rest)));
}

-- behind the last entry
pub settling-last : (s t : FocusedSearch) (place : ℕ) (i : IsSettling s place t) → length t.kernel.trail ≤ place
    → record { clauses = t.kernel.clauses; trail = t.kernel.trail; lines = i.lines } ≡ units_of s.kernel.clauses s.kernel.trail
settling-last s t place i most =
    ap (λ (U : Trail). record { clauses = t.kernel.clauses; trail = U; lines = i.lines }) (sym (take_all place t.kernel.trail most))
    ∙ (ap (λ (U : Trail). with_entries (units_before t.kernel place i.lines) U) (sym (drop_all place t.kernel.trail most)) ∙ i.rest)
