-- A pack: facts one behind the other, the bytes of each behind their number, which takes eight
-- bytes, the lowest first.
use Rattle.std.specs.Prelude.{◌≡◌, ◌≢◌, ℕ, suc, Bool, true, false, List, [], ◌∷◌, ◌++◌, length}
use Rattle.std.specs.Int.{w64, to_le_bytes}
use Rattle.packs.specs.declared.fact.Fact.{Fact}
use Rattle.packs.specs.Facts.{IsBody, IsReadAs}

abbrev pub framed : List ℕ → List ℕ
framed body = to_le_bytes w64 (length body) ++ body

-- the bytes are those of the facts
pub data IsPackOf : List ℕ → List Fact → Type 0 where
  nothing : IsPackOf [] []
  first : {bytes body rest : List ℕ} {f : Fact} {fs : List Fact} → bytes ≡ framed body ++ rest → IsBody body f → IsPackOf rest fs → IsPackOf bytes (f ∷ fs)

-- any bytes are read as facts, over the variables 1 to V: so many bodies that are none are passed
-- over, and either the bytes end behind the last body, or the last one is cut off
pub data Reads (V : ℕ) : List ℕ → List Fact → ℕ → Bool → Type 0 where
  ends : Reads V [] [] 0 true
  breaks_off : {bytes : List ℕ} → bytes ≢ [] → ((body rest : List ℕ) → bytes ≢ framed body ++ rest) → Reads V bytes [] 0 false
  reads : {bytes body rest : List ℕ} {f : Fact} {fs : List Fact} {n : ℕ} {whole : Bool} → bytes ≡ framed body ++ rest → IsReadAs V body f → Reads V rest fs n whole
      → Reads V bytes (f ∷ fs) n whole
  passes_over : {bytes body rest : List ℕ} {fs : List Fact} {n : ℕ} {whole : Bool} → bytes ≡ framed body ++ rest → ((f : Fact) → ¬ (IsReadAs V body f)) → Reads V rest fs n whole
      → Reads V bytes fs (suc n) whole
