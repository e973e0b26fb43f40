-- The tables and the next free variable after the entries from a place on are taken off.
use Rattle.std.proofs.Common.{◌≡◌, ℕ, ◌+◌, ◌*◌, ◌-◌, ◌<◌, ◌≤◌, true, List, ◌++◌, length, take, drop, ap, sym, ◌∙◌, ◌⊎◌, arith}
use Rattle.std.proofs.lemmas.List.{take-append-drop, length-drop}
use Rattle.std.proofs.Math.Seq.{take-append_seam, take-length}
use Rattle.theory.specs.Literals.{has_var}
use Rattle.theory.specs.Trails.{Trail, literals}
use Rattle.trail.specs.TrailOver.{IsOrdered}
use Rattle.trail.specs.declared.truth.Truth.{Truth}
use Rattle.trail.specs.Tables.{AreTables, IsNextFree}
use Rattle.trail.proofs.Tables.{AreFreed, AreUnassigned, AreTables-front}
use Rattle.trail.proofs.NextFree.{IsNextFree-front, has_var-within, has_var-behind}

-- the entries from a place on
pub drop-range : (T : Trail) (count : ℕ) → take (length T - count) (drop count T) ≡ drop count T
drop-range T count = ap (λ n. take n (drop count T)) (sym (length-drop count T)) ∙ take-length (drop count T)

-- a list written back over one as long
pub refilled : {X : Type 0} (n : ℕ) (new rest : List X) → n ≡ length new → take n (new ++ rest) ≡ new
refilled n new rest long = ap (λ k. take k (new ++ rest)) long ∙ take-append_seam new rest

pub AreTables-back : (V : ℕ) (T : Trail) (count : ℕ) (truths new_truths : List Truth) (places new_places : List ℕ) → IsOrdered V T → AreTables V T truths places
    → length new_truths ≡ length truths → length new_places ≡ length places → AreUnassigned truths (drop count T) new_truths → AreFreed 0 places (drop count T) new_places
    → AreTables V (take count T) new_truths new_places
AreTables-back V T count truths new_truths places new_places ordered tables truths_long places_long freed_truths freed_places =
    let whole : take count T ++ drop count T ≡ T = take-append-drop count T in
    AreTables-front V (take count T) (drop count T) truths new_truths places new_places (rw whole ordered.distinct) (rw whole tables) truths_long places_long freed_truths freed_places

pub IsNextFree-back : (V n m : ℕ) (T : Trail) (count : ℕ) → IsOrdered V T → IsNextFree V T n → m ≤ n → ((v : ℕ) → has_var (literals (drop count T)) v ≡ true → m ≤ v)
    → (m ≡ n) ⊎ (has_var (literals (drop count T)) m ≡ true) → IsNextFree V (take count T) m
IsNextFree-back V n m T count ordered next most least there =
    let whole : take count T ++ drop count T ≡ T = take-append-drop count T in
    IsNextFree-front V n m (take count T) (drop count T) (rw whole next) (rw whole ordered) most least there

-- the variables of the entries from a place on are within the tables
pub drop-within : (V : ℕ) (T : Trail) (count : ℕ) (truths : List Truth) (places : List ℕ) → IsOrdered V T → AreTables V T truths places
    → (v : ℕ) → has_var (literals (drop count T)) v ≡ true → (2 * v + 1 < length truths) × (v < length places)
drop-within V T count truths places ordered tables v there =
    let whole : take count T ++ drop count T ≡ T = take-append-drop count T in
    let here : has_var (literals (take count T ++ drop count T)) v ≡ true = has_var-behind (take count T) (drop count T) v there in
    let within = has_var-within V T v ordered.over (rw whole at here) in
    let most = within.1 in
    let truths_long = tables.truths_long in
    let places_long = tables.places_long in
    (omega (arith, most, truths_long), omega (arith, most, places_long))
