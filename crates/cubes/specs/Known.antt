-- Outcomes of cubes that are known, and looking them up.
use Rattle.std.specs.Prelude.{◌≡◌, List, Option, Some, None, Contains}
use Rattle.std.specs.Cmp.Lexicographic.{pointwise}
use Rattle.std.specs.HashMap.{get_by}
use Rattle.theory.specs.Literals.{Literal}
use Rattle.theory.specs.Learning.{Line}
use Rattle.theory.specs.Search as search
use Rattle.theory.specs.Runs.{Runs}
use Rattle.theory.specs.Truth.{Formula}
use Rattle.theory.specs.Plans.{Search, Plan}
use Rattle.theory.specs.Results.{done}
use Rattle.theory.specs.Results as results
use Rattle.theory.specs.Checked.{IsCheckedOf}
use Rattle.cnf.specs.contracts.lit.LitPartialEq.TheImpl.{ghosts}
use Rattle.trail.specs.Cubes.{AreOfVariables}
use Rattle.cdcl.specs.Outcome.{outcome_by}
use Rattle.cdcl.specs.declared.api.outcome.Outcome.{Outcome}
use Rattle.cubes.specs.declared.known.Known.{Known}

-- the outcome that is known of a cube
abbrev pub known_of : {L : Type 0} → Known L → List Literal → Option (Outcome L)
known_of k Q = get_by (λ key. pointwise ghosts.eq Q key.items) k.outcomes

-- what is known is in the list, and of what isn't known there is no outcome in the list, where
-- refuted cubes keep what has these lines
pub record AreKnown {L : Type 0} (lines : L → List Line) (rs : List results.Solved) (k : Known L) : Type 0 where
  pub found : (Q : List Literal) (o : Outcome L) → AreOfVariables Q → known_of k Q ≡ Some o → Contains rs (record { cube = Q; what = done (outcome_by lines o) })
  pub missing : (Q : List Literal) (o : search.Outcome) → AreOfVariables Q → known_of k Q ≡ None → ¬ (Contains rs (record { cube = Q; what = done o }))

-- what is known is so
abbrev pub AreOutcomes : {L : Type 0} → (L → List Line) → Formula → Plan → Known L → Type 0
AreOutcomes {L} lines F plan k = (Q : List Literal) (o : Outcome L) → AreOfVariables Q → known_of k Q ≡ Some o → Runs F plan Q (outcome_by lines o)

-- what is known is checked
abbrev pub AreCheckedOutcomes : {L : Type 0} → (L → List Line) → Search → Formula → Known L → Type 0
AreCheckedOutcomes {L} lines search F k = (Q : List Literal) (o : Outcome L) → AreOfVariables Q → known_of k Q ≡ Some o → IsCheckedOf search F Q (done (outcome_by lines o))
