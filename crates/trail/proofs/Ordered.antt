-- Entries of distinct variables by rising level: one more at the end, and those up to a level.
use Rattle.std.proofs.Common.{◌≡◌, ℕ, zero, suc, ◌+◌, ◌-◌, ◌<◌, ◌≤◌, true, false, not, List, [], ◌∷◌, ◌++◌, length, length-append, take, drop, get_or, refl, ap, sym, subst, ◌∙◌, nat_le, le-leb, slice_get, arith}
use Rattle.std.proofs.lemmas.List.{take_more, length-map, map-append, take-append-drop}
use Rattle.theory.specs.Literals.{Literal, has_var, IsVariable, are_distinct}
use Rattle.theory.specs.Truth.{IsOver}
use Rattle.theory.specs.Trails.{Entry, Trail, literals, level_at, current_level, up_to}
use Rattle.theory.proofs.literals.LiteralLemmas.{and-left, and-right, not_true}
use Rattle.theory.proofs.literals.LiteralSets.{and-true, has_var-append_left}
use Rattle.theory.proofs.trails.TrailEntries.{literals-at, are_distinct-push}
use Rattle.theory.proofs.literals.OverVariables.{AreOver-from_IsOver, IsOver-from_AreOver, AreOver-push, IsOver-left}
use Rattle.theory.proofs.trails.TrailLevels.{up_to-push}
use Rattle.trail.specs.TrailOver.{IsRisingFrom, IsOrdered}
use Rattle.theory.proofs.literals.DistinctLiterals.{length-distinct}

-- the last level, or the given one
abbrev last_level : ℕ → Trail → ℕ
last_level low [] = low
last_level low (e ∷ T) = last_level e.level T

last_level-current : (e : Entry) (T : Trail) → current_level (e ∷ T) ≡ last_level e.level T
last_level-current e [] = refl
last_level-current e (f ∷ T) =
    let down : suc (suc (length T)) - 1 ≡ suc (length T) = omega arith in
    let down_more : suc (length T) - 1 ≡ length T = omega arith in
    let rest : current_level (f ∷ T) ≡ last_level f.level T = last_level-current f T in
    ap (λ n. level_at (slice_get (e ∷ f ∷ T) n)) down ∙ (ap (λ n. level_at (slice_get (f ∷ T) n)) (sym down_more) ∙ rest)

IsRisingFrom-push : (low : ℕ) (T : Trail) (e : Entry) → IsRisingFrom low T → last_level low T ≤ e.level → IsRisingFrom low (T ++ e ∷ [])
IsRisingFrom-push low [] e h k = (k, tt)
IsRisingFrom-push low (f ∷ T) e h k = (h.0, IsRisingFrom-push f.level T e h.1 k)

pub IsRising-push : (T : Trail) (e : Entry) → IsRisingFrom 0 T → current_level T ≤ e.level → IsRisingFrom 0 (T ++ e ∷ [])
IsRising-push [] e h k = (omega arith, tt)
IsRising-push (f ∷ T) e h k = IsRisingFrom-push 0 (f ∷ T) e h (let same : current_level (f ∷ T) ≡ last_level f.level T = last_level-current f T in omega arith)

-- one more entry
pub IsOrdered-push : (V : ℕ) (T : Trail) (e : Entry) → IsOrdered V T → IsVariable V e.lit.var → has_var (literals T) e.lit.var ≡ false → current_level T ≤ e.level
    → IsOrdered V (T ++ e ∷ [])
IsOrdered-push V T e h v free latest = record {
  distinct = rw (literals-at T e []) (are_distinct-push (literals T) e.lit h.distinct free);
  over = IsOver-from_AreOver V (literals (T ++ e ∷ [])) (AreOver-push V T e (AreOver-from_IsOver V (literals T) h.over) v);
  rising = IsRising-push T e h.rising latest;
}

pub length-ordered : (V : ℕ) (T : Trail) → IsOrdered V T → length T ≤ V
length-ordered V T h =
    let n : length (literals T) ≡ length T = length-map T (λ e. e.lit) in
    let most : length (literals T) ≤ V = length-distinct V (literals T) h.distinct (AreOver-from_IsOver V (literals T) h.over) in
    omega arith

-- while a variable is free, there is room
pub length-free : (V : ℕ) (T : Trail) (e : Entry) → IsOrdered V T → IsVariable V e.lit.var → has_var (literals T) e.lit.var ≡ false → current_level T ≤ e.level → length T < V
length-free V T e h v free latest =
    let most : length (T ++ e ∷ []) ≤ V = length-ordered V (T ++ e ∷ []) (IsOrdered-push V T e h v free latest) in
    let n : length (T ++ e ∷ []) ≡ length T + 1 = length-append T (e ∷ []) in
    omega arith

-- the entries in front
are_distinct-front : (P Q : List Literal) → are_distinct (P ++ Q) ≡ true → are_distinct P ≡ true
are_distinct-front [] Q h = refl
are_distinct-front (l ∷ P) Q h =
    let alone : has_var (P ++ Q) l.var ≡ false = not_true (has_var (P ++ Q) l.var) (and-left (not (has_var (P ++ Q) l.var)) (are_distinct (P ++ Q)) h) in
    and-true (not (has_var P l.var)) (are_distinct P) (ap not (has_var-append_left P Q l.var alone))
    (are_distinct-front P Q (and-right (not (has_var (P ++ Q) l.var)) (are_distinct (P ++ Q)) h))

IsRisingFrom-front : (low : ℕ) (A B : Trail) → IsRisingFrom low (A ++ B) → IsRisingFrom low A
IsRisingFrom-front low [] B h = tt
IsRisingFrom-front low (e ∷ A) B h = (h.0, IsRisingFrom-front e.level A B h.1)

IsOrdered-front : (V : ℕ) (A B : Trail) → IsOrdered V (A ++ B) → IsOrdered V A
IsOrdered-front V A B h =
    let parts : literals (A ++ B) ≡ literals A ++ literals B = map-append (λ (e : Entry). e.lit) A B in record {
      distinct = are_distinct-front (literals A) (literals B) (rw parts at h.distinct);
      over = IsOver-left V (literals A) (literals B) (subst (IsOver V) parts h.over);
      rising = IsRisingFrom-front 0 A B h.rising;
    }

pub IsOrdered-take : (V : ℕ) (T : Trail) (n : ℕ) → IsOrdered V T → IsOrdered V (take n T)
IsOrdered-take V T n h = IsOrdered-front V (take n T) (drop n T) (rw take-append-drop h)

-- the entries up to a level are those in front
pub rising-at : (low : ℕ) (T : Trail) (k : ℕ) (d : Entry) → IsRisingFrom low T → k < length T → low ≤ (get_or T k d).level
rising-at low [] k d h less = absurd (omega arith)
rising-at low (e ∷ T) zero d h less = h.0
rising-at low (e ∷ T) (suc k) d h less =
    let here = h.0 in
    let more : e.level ≤ (get_or T k d).level = rising-at e.level T k d h.1 (omega arith) in
    omega arith

up_to-front : (low : ℕ) (T : Trail) (n level : ℕ) (d : Entry) → IsRisingFrom low T → n < length T → (get_or T n d).level ≤ level → up_to (take (suc n) T) level ≡ take (suc n) T
up_to-front low [] n level d h less last = absurd (omega arith)
up_to-front low (e ∷ T) zero level d h less last = let here : nat_le e.level level ≡ true = le-leb e.level level last in rw here refl
up_to-front low (e ∷ T) (suc n) level d h less last =
    let within : n < length T = omega arith in
    let first : e.level ≤ (get_or T n d).level = rising-at e.level T n d h.1 within in
    let here : nat_le e.level level ≡ true = le-leb e.level level (omega arith) in
    let rest : up_to (take (suc n) T) level ≡ take (suc n) T = up_to-front e.level T n level d h.1 within last in
    rw here (ap (λ (U : Trail). e ∷ U) rest)

pub up_to-kept : (T : Trail) (n level : ℕ) (d : Entry) → IsRisingFrom 0 T → 0 < n → n ≤ length T → (get_or T (n - 1) d).level ≤ level → up_to (take n T) level ≡ up_to T level → take n T ≡ up_to T level
up_to-kept T zero level d h some within last same = absurd (omega arith)
up_to-kept T (suc n) level d h some within last same =
    let down : suc n - 1 ≡ n = omega arith in
    sym (up_to-front 0 T n level d h (omega arith) (rw down at last)) ∙ same

pub up_to-dropped : (T : Trail) (n level : ℕ) (d : Entry) → 0 < n → n ≤ length T → level < (get_or T (n - 1) d).level → up_to (take n T) level ≡ up_to (take (n - 1) T) level
up_to-dropped T zero level d some within above = absurd (omega arith)
up_to-dropped T (suc n) level d some within above =
    let down : suc n - 1 ≡ n = omega arith in
    let up : suc n ≡ n + 1 = omega arith in
    rw (down, up) (ap (λ (U : Trail). up_to U level) (take_more T n d (omega arith)) ∙ up_to-push (take n T) (get_or T n d) level (rw down at above))
