-- What a pack has: facts, and where their bytes stand.
use Rattle.std.specs.Prelude.{◌≡◌, ℕ, List, [], ◌∷◌, ◌++◌, take, drop, Bool, true, false, not, Option, Some, None}
use Rattle.packs.specs.declared.fact.Fact.{Fact}
use Rattle.packs.specs.declared.fact.Claim.{Claim}
use Rattle.packs.specs.declared.fact.Claim.TheVariants.{Split, Refuted, Model}
use Rattle.packs.specs.Facts.{IsReadAs}
use Rattle.packs.specs.Packs.{Reads}
use Rattle.spread.specs.PackFiles.{IsWholePack}
use Rattle.spread.specs.declared.found.Entry.{Entry}
use Rattle.spread.specs.declared.found.Found.{Found}

-- whether it is said that the cube has a model
abbrev pub is_model : Claim → Bool
is_model Model = true
is_model (Split x) = false
is_model (Refuted lines) = false

-- the bytes there are read as this fact, and the entry has its cube, and whether it claims a model
pub record IsAt (V : ℕ) (bytes : List ℕ) (e : Entry) (f : Fact) : Type 0 where
  pub cube : e.cube ≡ f.cube
  pub model : e.claims_model ≡ is_model f.claim
  pub body : IsReadAs V (take e.span.length (drop e.span.start bytes)) f

-- so it is of each, in their order
pub data AreAt (V : ℕ) (bytes : List ℕ) : List Entry → List Fact → Type 0 where
  nothing : AreAt V bytes [] []
  behind : {es : List Entry} {fs : List Fact} {e : Entry} {f : Fact} → AreAt V bytes es fs → IsAt V bytes e f → AreAt V bytes (es ++ e ∷ []) (fs ++ f ∷ [])

-- the last bytes of these are read as facts over the variables 1 to V, and where they stand is found
pub record HasFound (V : ℕ) (bytes last : List ℕ) (found : Found) : Type 0 where
  pub facts : List Fact
  pub reads : Reads V last facts found.passed_over (not found.is_broken_off)
  pub entries : AreAt V bytes found.facts.items facts

-- a pack of this name with these bytes is a whole one of the run with this sum, and what it has is
-- found, or it is none
abbrev pub IsTaken : ℕ → (sum name bytes : List ℕ) → Option Found → Type 0
IsTaken V sum name bytes (Some found) = (body : List ℕ) × IsWholePack sum name bytes body × HasFound V bytes body found
IsTaken V sum name bytes None = (body : List ℕ) → ¬ (IsWholePack sum name bytes body)
