-- Another reason for the entry at a place.
use Rattle.std.proofs.Common.{◌≡◌, ◌≤◌, ℕ, zero, suc, Bool, true, false, List, [], ◌∷◌, Option, Some, option_map, cond, nat_eq, refl, ap, sym, subst, set, slice_get}
use Rattle.std.proofs.Math.Seq.{map-set_same}
use Rattle.std.proofs.lemmas.Option.{get_or_from_slice_get}
use Rattle.theory.specs.Truth.{IsOver}
use Rattle.theory.specs.Literals.{Literal, are_distinct, has_var}
use Rattle.theory.specs.Trails.{Entry, Trail, literals, entry_of}
use Rattle.trail.specs.TrailOver.{IsRisingFrom, IsOrdered}
use Rattle.trail.specs.declared.truth.Truth.{Truth}
use Rattle.trail.specs.Tables.{value_in, place_in, one_more, AreTables, IsNextFree}

pub literals-reason : (T : Trail) (p : ℕ) (e : Entry) (r : Option ℕ) → slice_get T p ≡ Some e → literals (set T p (record e { reason = r })) ≡ literals T
literals-reason T p e r at =
    map-set_same (λ (x : Entry). x.lit) T p (record e { reason = r }) e (ap (λ (x : Entry). x.lit) (sym (get_or_from_slice_get T p e e at)))

IsRisingFrom-reason : (low : ℕ) (T : Trail) (p : ℕ) (e : Entry) (r : Option ℕ) → slice_get T p ≡ Some e → IsRisingFrom low T → IsRisingFrom low (set T p (record e { reason = r }))
IsRisingFrom-reason low [] p e r at h = h
IsRisingFrom-reason low (x ∷ T) zero e r at h =
    let one : x ≡ e = cc in
    subst (λ (y : Entry). (low ≤ y.level) × IsRisingFrom y.level T) one h
IsRisingFrom-reason low (x ∷ T) (suc p) e r at h = (h.0, IsRisingFrom-reason x.level T p e r at h.1)

pub IsOrdered-reason : (V : ℕ) (T : Trail) (p : ℕ) (e : Entry) (r : Option ℕ) → slice_get T p ≡ Some e → IsOrdered V T → IsOrdered V (set T p (record e { reason = r }))
IsOrdered-reason V T p e r at h =
    let same : literals (set T p (record e { reason = r })) ≡ literals T = literals-reason T p e r at in record {
      distinct = subst (λ (P : List Literal). are_distinct P ≡ true) (sym same) h.distinct;
      over = subst (λ (P : List Literal). IsOver V P) (sym same) h.over;
      rising = IsRisingFrom-reason 0 T p e r at h.rising;
    }

value_in-reason : (T : Trail) (p : ℕ) (e : Entry) (r : Option ℕ) (v : ℕ) → slice_get T p ≡ Some e → value_in (set T p (record e { reason = r })) v ≡ value_in T v
value_in-reason [] p e r v at = refl
value_in-reason (x ∷ T) zero e r v at = let one : x ≡ e = cc in rw one (go (nat_eq e.lit.var v))
  where
    go : (b : Bool) → option_map (λ (y : Entry). y.lit.positive) (cond b (Some (record e { reason = r })) (entry_of T v)) ≡ option_map (λ (y : Entry). y.lit.positive) (cond b (Some e) (entry_of T v))
    go true = refl
    go false = refl
value_in-reason (x ∷ T) (suc p) e r v at = go (nat_eq x.lit.var v) (value_in-reason T p e r v at)
  where
    go : (b : Bool) → value_in (set T p (record e { reason = r })) v ≡ value_in T v
        → option_map (λ (y : Entry). y.lit.positive) (cond b (Some x) (entry_of (set T p (record e { reason = r })) v)) ≡ option_map (λ (y : Entry). y.lit.positive) (cond b (Some x) (entry_of T v))
    go true same = refl
    go false same = same

place_in-reason : (T : Trail) (p : ℕ) (e : Entry) (r : Option ℕ) (v : ℕ) → slice_get T p ≡ Some e → place_in (set T p (record e { reason = r })) v ≡ place_in T v
place_in-reason [] p e r v at = refl
place_in-reason (x ∷ T) zero e r v at = let one : x ≡ e = cc in rw one refl
place_in-reason (x ∷ T) (suc p) e r v at = go (nat_eq x.lit.var v) (place_in-reason T p e r v at)
  where
    go : (b : Bool) → place_in (set T p (record e { reason = r })) v ≡ place_in T v
        → ◌≡◌ {A = ℕ} (elim b [ true ↦ 1 | false ↦ one_more (place_in (set T p (record e { reason = r })) v) ]) (elim b [ true ↦ 1 | false ↦ one_more (place_in T v) ])
    go true same = refl
    go false same = ap one_more same

pub AreTables-reason : (V : ℕ) (T : Trail) (p : ℕ) (e : Entry) (r : Option ℕ) (truths : List Truth) (places : List ℕ) → slice_get T p ≡ Some e → AreTables V T truths places → AreTables V (set T p (record e { reason = r })) truths places
AreTables-reason V T p e r truths places at h = record {
  truths_long = h.truths_long;
  places_long = h.places_long;
  truth_at = λ l within. rw (value_in-reason T p e r l.var at) (h.truth_at l within);
  place_at = λ v within. rw (place_in-reason T p e r v at) (h.place_at v within);
}

pub IsNextFree-reason : (V : ℕ) (T : Trail) (p : ℕ) (e : Entry) (r : Option ℕ) (n : ℕ) → slice_get T p ≡ Some e → IsNextFree V T n → IsNextFree V (set T p (record e { reason = r })) n
IsNextFree-reason V T p e r n at h =
    let same : literals (set T p (record e { reason = r })) ≡ literals T = literals-reason T p e r at in record {
      low = h.low;
      high = h.high;
      taken = λ u one less. subst (λ (P : List Literal). has_var P u ≡ true) (sym same) (h.taken u one less);
      free = subst (λ (P : List Literal). has_var P n ≡ false) (sym same) h.free;
    }
