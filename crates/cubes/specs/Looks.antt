-- The looks of a hand at the least place: each cube that it got has its own, and is skipped or done
-- by what that one answered.
use Rattle.std.specs.Prelude.{◌≡◌, ℕ, ◌<◌, List, [], ◌∷◌, ◌++◌, map, flat_map, All, Option, Some}
use Rattle.theory.specs.Literals.{Literal}
use Rattle.theory.specs.Places.{place_of}
use Rattle.theory.specs.Results.{What, done, skipped, Solved, IsDone}
use Rattle.theory.specs.Ledger.{Call, look, Ledger, got_from}
use Rattle.theory.specs.Order.{entries_of}
use Rattle.theory.specs.Work.{IsNotBelow}

-- the answers of the looks among some calls, in their order
abbrev pub answer_of : Call → List (Option ℕ)
answer_of (look seen) = seen ∷ []
answer_of call = []

abbrev pub looks_of : List Call → List (Option ℕ)
looks_of calls = flat_map answer_of calls

-- The turn of a cube that was got: the deque that it was got from, what its look answered, what
-- became of it, and the results of cubes below it that were carried on.
pub record Turn : Type 0 where
  pub deque : ℕ
  pub cube : List Literal
  pub seen : Option ℕ
  pub what : What
  pub carried : List Solved

abbrev pub got_in : Turn → ℕ × List Literal
got_in t = (t.deque, t.cube)

abbrev pub results_of : Turn → List Solved
results_of t = record { cube = t.cube; what = t.what } ∷ t.carried

-- a cube at this place goes by its look: it is skipped with the place that was seen, which is below
-- its own, and done where none below its own was seen
abbrev pub GoesBy : What → Option ℕ → ℕ → Type 0
GoesBy (skipped least) seen place = (seen ≡ Some least) × (least < place)
GoesBy (done outcome) seen place = IsNotBelow seen place

-- only results of cubes that are done were added
pub record AddsDone (before after : List Solved) : Type 0 where
  pub more : List Solved
  pub is_after : after ≡ before ++ more
  pub are_done : All (λ r. IsDone r.what) more

-- between these two ledgers is the turn of the cube Q, with one look
pub record TakesTurn (Q : List Literal) (old new : Ledger) (before after : List Solved) : Type 0 where
  pub seen : Option ℕ
  pub what : What
  pub carried : List Solved
  pub looks : looks_of new.calls ≡ looks_of old.calls ++ seen ∷ []
  pub is_after : after ≡ before ++ record { cube = Q; what = what } ∷ carried
  pub goes_by : GoesBy what seen (place_of Q)
  pub are_done : All (λ r. IsDone r.what) carried

-- Between these two ledgers each cube that was got had its turn, one after the other. So the looks
-- are one for each cube, in the order in which the cubes were got, and the results go in that order
-- too.
pub record TakeTurns (old new : Ledger) (results : List Solved) : Type 0 where
  pub turns : List Turn
  pub got : (d : ℕ) → got_from d new ≡ got_from d old ++ entries_of d (map got_in turns)
  pub looks : looks_of new.calls ≡ looks_of old.calls ++ map (λ t. t.seen) turns
  pub are_results : results ≡ flat_map results_of turns
  pub go_by : All (λ t. GoesBy t.what t.seen (place_of t.cube)) turns
  pub are_done : All (λ t. All (λ r. IsDone r.what) t.carried) turns
