-- The next free variable, after one entry more, and after the entries behind a place are taken off.
use Rattle.std.proofs.Common.{◌≡◌, ◌≢◌, ℕ, ◌<◌, ◌≤◌, Bool, true, false, List, [], ◌∷◌, ◌++◌, length, slice_index, slice_set, Option, Some, None, option_map, is_some, nat_eq, refl, ap, sym, subst, ◌∙◌, inl, inr, ◌⊎◌, arith}
use Rattle.std.proofs.lemmas.List.{map-append, get_or_past, get_or-set_other}
use Rattle.std.proofs.lemmas.Bool.{cases_lt}
use Rattle.theory.specs.Literals.{has_var, IsVariable}
use Rattle.theory.specs.Truth.{IsOver}
use Rattle.theory.specs.Trails.{Entry, Trail, literals, entry_of, least_free}
use Rattle.theory.proofs.literals.LiteralLemmas.{or-cases, or-left, or-right}
use Rattle.theory.proofs.literals.LiteralSets.{false_unless, has_var-append_left, literal_of_var}
use Rattle.theory.proofs.literals.OverVariables.{AreOver-from_IsOver}
use Rattle.trail.specs.TrailOver.{IsOrdered}
use Rattle.trail.specs.declared.truth.Truth.{Truth}
use Rattle.trail.specs.Tables.{value_in, AreTables, IsNextFree}
use Rattle.trail.proofs.LeastFree.{least_free-found, least_free-none}
use Rattle.trail.proofs.Tables.{entry_of-none, is_some-entry_of, place_in-none, place_in-zero, has_var-push, distinct-behind}

pub least_free-next : (V n : ℕ) (T : Trail) → IsNextFree V T n → n ≤ V → least_free V T ≡ Some n
least_free-next V n T h most = least_free-found V n T h.low most h.free h.taken

pub least_free-past : (V n : ℕ) (T : Trail) → IsNextFree V T n → V < n → least_free V T ≡ None
least_free-past V n T h past = least_free-none V n T past h.taken

-- a variable with a value stands on the trail, and the others don't
pub is_some-value_in : (T : Trail) (v : ℕ) → is_some (value_in T v) ≡ has_var (literals T) v
is_some-value_in T v = same (entry_of T v) ∙ is_some-entry_of T v
  where
    same : (o : Option Entry) → is_some (option_map (λ (e : Entry). e.lit.positive) o) ≡ is_some o
    same None = refl
    same (Some e) = refl

pub has_var-within : (V : ℕ) (T : Trail) (v : ℕ) → IsOver V (literals T) → has_var (literals T) v ≡ true → IsVariable V v
has_var-within V T v over there =
    let l = literal_of_var (literals T) v there in
    subst (IsVariable V) l.2 (AreOver-from_IsOver V (literals T) over l.0 l.1)

pub has_var-beyond : (V : ℕ) (T : Trail) (v : ℕ) → IsOver V (literals T) → V < v → has_var (literals T) v ≡ false
has_var-beyond V T v over past = false_unless (has_var (literals T) v) (λ there. let most = (has_var-within V T v over there).1 in absurd (omega arith))

pub entry_of-beyond : (V : ℕ) (T : Trail) (v : ℕ) → IsOrdered V T → V < v → entry_of T v ≡ None
entry_of-beyond V T v ordered past = entry_of-none T v (has_var-beyond V T v ordered.over past)

-- another variable than the least free one gets its place
pub zero-beside : (V n v place : ℕ) (T : Trail) (truths : List Truth) (places : List ℕ) → AreTables V T truths places → IsNextFree V T n → v ≢ n → slice_index (slice_set places v place) n ≡ 0
zero-beside V n v place T truths places tables h other = get_or-set_other places v n place 0 (λ same. other (sym same)) ∙ elim (cases_lt V n) [
  | inl past ↦ let long = tables.places_long in get_or_past places n 0 (omega (arith, long, past))
  | inr most ↦ tables.place_at n most ∙ place_in-none T n h.free
]

-- one entry more
pub IsNextFree-push : (V n m : ℕ) (T : Trail) (e : Entry) (truths : List Truth) (places : List ℕ) → IsNextFree V T n → IsOver V (literals (T ++ e ∷ []))
    → AreTables V (T ++ e ∷ []) truths places → n ≤ m → m ≤ length places → ((v : ℕ) → n ≤ v → v < m → 1 ≤ slice_index places v) → slice_index places m ≡ 0
    → IsNextFree V (T ++ e ∷ []) m
IsNextFree-push V n m T e truths places h over tables low high before found = record {
  low = let one = h.low in omega arith;
  high = let long = tables.places_long in omega arith;
  taken = λ u first less. elim (cases_lt u n) [
    | inl old ↦ has_var-push T e u ∙ or-left (has_var (literals T) u) (nat_eq u e.lit.var) (h.taken u first old)
    | inr past ↦ true_unless (has_var (literals (T ++ e ∷ [])) u) (λ none.
        let here = tables.place_at u (within u less) in
        let zero = place_in-none (T ++ e ∷ []) u none in
        let some = before u past less in
        absurd (omega arith))
  ];
  free = elim (cases_lt V m) [
    | inl past ↦ has_var-beyond V (T ++ e ∷ []) m over past
    | inr most ↦ sym (is_some-entry_of (T ++ e ∷ []) m) ∙ ap is_some (place_in-zero (T ++ e ∷ []) m (sym (tables.place_at m most) ∙ found))
  ];
}
  where
    within : (u : ℕ) → u < m → u ≤ V
    within u less = let long = tables.places_long in omega arith

    true_unless : (b : Bool) → (b ≡ false → ⊥) → b ≡ true
    true_unless true h = refl
    true_unless false h = absurd (h refl)

-- the entries behind taken off
has_var-parts : (A B : Trail) (v : ℕ) → has_var (literals (A ++ B)) v ≡ true → (has_var (literals A) v ≡ true) ⊎ (has_var (literals B) v ≡ true)
has_var-parts [] B v h = inr h
has_var-parts (e ∷ A) B v h = elim (or-cases (nat_eq v e.lit.var) (has_var (literals (A ++ B)) v) h) [
  | inl here ↦ inl (or-left (nat_eq v e.lit.var) (has_var (literals A) v) here)
  | inr there ↦ elim (has_var-parts A B v there) [ inl a ↦ inl (or-right (nat_eq v e.lit.var) (has_var (literals A) v) a) | inr b ↦ inr b ]
]

pub has_var-behind : (A B : Trail) (v : ℕ) → has_var (literals B) v ≡ true → has_var (literals (A ++ B)) v ≡ true
has_var-behind [] B v h = h
has_var-behind (e ∷ A) B v h = or-right (nat_eq v e.lit.var) (has_var (literals (A ++ B)) v) (has_var-behind A B v h)

pub IsNextFree-front : (V n m : ℕ) (A B : Trail) → IsNextFree V (A ++ B) n → IsOrdered V (A ++ B) → m ≤ n → ((v : ℕ) → has_var (literals B) v ≡ true → m ≤ v)
    → (m ≡ n) ⊎ (has_var (literals B) m ≡ true) → IsNextFree V A m
IsNextFree-front V n m A B h ordered most least there = record {
  low = elim there [ inl same ↦ let one = h.low in omega arith | inr b ↦ (has_var-within V (A ++ B) m ordered.over (has_var-behind A B m b)).0 ];
  high = let high = h.high in omega arith;
  taken = λ u one less. elim (has_var-parts A B u (h.taken u one (omega arith))) [ inl a ↦ a | inr b ↦ let low = least u b in absurd (omega arith) ];
  free = elim there [
    | inl same ↦ has_var-append_left (literals A) (literals B) m (subst (λ c. has_var c m ≡ false) parts (subst (λ k. has_var (literals (A ++ B)) k ≡ false) (sym same) h.free))
    | inr b ↦ distinct-behind (literals A) (literals B) m (rw parts at ordered.distinct) b
  ];
}
  where
    parts : literals (A ++ B) ≡ literals A ++ literals B
    parts = map-append (λ (x : Entry). x.lit) A B
