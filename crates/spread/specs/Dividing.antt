-- How the tree of a formula is divided.
use Rattle.std.specs.Prelude.{◌≡◌, ℕ, suc, Bool, true, false, List, [], ◌∷◌, ◌++◌, All, length, nat_lt, if◌then◌else◌}
use Rattle.theory.specs.Literals.{Literal}
use Rattle.theory.specs.Truth.{Formula}
use Rattle.theory.specs.Plans.{Plan}
use Rattle.theory.specs.Search.{Outcome, model, refuted, exhausted}
use Rattle.theory.specs.Trees.{false_half, true_half}
use Rattle.theory.specs.Runs.{Runs}
use Rattle.theory.specs.Beginnings.{begun_by}
use Rattle.packs.specs.declared.fact.Fact.{Fact}
use Rattle.gathering.specs.Facts.{claim_of}

-- of open cubes from left to right, what is left where Q, between `low` and `high`, has this
-- outcome: its halves in its place, or nothing; and right of a model nothing
abbrev pub opened_by : (low high : List (List Literal)) → List Literal → Outcome → List (List Literal)
opened_by low high Q (model M) = low
opened_by low high Q (refuted lines) = low ++ high
opened_by low high Q (exhausted x) = low ++ false_half Q x ∷ true_half Q x ∷ high

-- whether a model is known, where one was or the outcome is one
abbrev pub model_known : Bool → Outcome → Bool
model_known known (model M) = true
model_known known (refuted lines) = known
model_known known (exhausted x) = known

-- Open cubes were solved, one after the other, from the cube without literals on: the facts say
-- what each came to, these cubes are open now, from left to right, and it is told whether what lies
-- right of them is cut off by a model.
pub data Divides (F : Formula) (plan : Plan) : List Fact → List (List Literal) → Bool → Type 0 where
  begins : Divides F plan [] ([] ∷ []) false
  goes_on : {facts : List Fact} {cubes : List (List Literal)} {has_model : Bool} (low high : List (List Literal)) (Q : List Literal) (o : Outcome) → Divides F plan facts cubes has_model → cubes ≡ low ++ Q ∷ high → Runs (begun_by plan.search F) plan Q o
      → Divides F plan (facts ++ record { cube = Q; claim = claim_of o } ∷ []) (opened_by low high Q o) (model_known has_model o)

-- the open cubes as they wait, by breadth: those with so many literals, and behind them those left
-- of these, which have one more
pub record IsBreadth (F : Formula) (plan : Plan) (facts : List Fact) (queue : List (List Literal)) (has_model : Bool) : Type 0 where
  pub count : ℕ
  pub first : List (List Literal)
  pub behind : List (List Literal)
  pub waits : queue ≡ first ++ behind
  pub short : All (λ Q. length Q ≡ count) first
  pub long : All (λ Q. length Q ≡ suc count) behind
  pub divides : Divides F plan facts (behind ++ first) has_model

-- from the first cube on that has more than so many literals
abbrev pub from_longer : ℕ → List (List Literal) → List (List Literal)
from_longer count [] = []
from_longer count (Q ∷ Qs) = if nat_lt count (length Q) then Q ∷ Qs else from_longer count Qs

-- the cubes before that
abbrev pub before_longer : ℕ → List (List Literal) → List (List Literal)
before_longer count [] = []
before_longer count (Q ∷ Qs) = if nat_lt count (length Q) then [] else Q ∷ before_longer count Qs

-- those that have more literals than the first one come before the others
abbrev pub longer_first : List (List Literal) → List (List Literal)
longer_first [] = []
longer_first (Q ∷ Qs) = from_longer (length Q) (Q ∷ Qs) ++ before_longer (length Q) (Q ∷ Qs)
