-- What each hand has in the harvest.
use Rattle.std.specs.Prelude.{◌≡◌, ◌<◌, ◌≤◌, ℕ, List, [], map, flat_map, length, All, IsPermutation, Option, Some, slice_get, slice_index_or}
use Rattle.theory.specs.Literals.{Literal}
use Rattle.theory.specs.Truth.{Formula}
use Rattle.theory.specs.Plans.{Plan}
use Rattle.theory.specs.Ledger.{times, all_got}
use Rattle.theory.specs.Work.{IsWork}
use Rattle.theory.specs.Round.{HasWorked}
use Rattle.theory.specs.Results.{IsWhole}
use Rattle.theory.specs.Harvest.{Share, IsClosed, ledgers_of}
use Rattle.pool.specs.Hands.{HandView, SameHand}
use Rattle.theory.specs.Learning.{Line}
use Rattle.cubes.specs.Solved.{results_by}
use Rattle.cubes.specs.declared.hands.Worked.{Worked}
use Rattle.cubes.specs.declared.solved.Solved.{Solved}

-- a row and a refutation are both seen as the lines that they have
abbrev pub LinesWorked : Type 0
LinesWorked = Worked (List Line)

-- a hand's share, where refuted cubes keep what has these lines
abbrev pub share_by : {L : Type 0} → (L → List Line) → Worked L → Share
share_by lines w = record { ledger = w.hand.ledger; results = results_by lines w.solved.items }

-- and where they keep their lines
abbrev pub share_of : LinesWorked → Share
share_of w = share_by (λ lines. lines) w

-- the hands stand in the order of their numbers
abbrev pub AreNumbered : {L : Type 0} → List (Worked L) → Type 0
AreNumbered {L} works = (place : ℕ) (w : Worked L) → slice_get works place ≡ Some w → w.hand.number ≡ place

-- the hand has done its work, from the ledger that it had
abbrev pub HasDone : {L : Type 0} → (L → List Line) → Formula → Plan → HandView → Worked L → Type 0
HasDone lines F plan h w = SameHand h w.hand × HasWorked F plan w.short_of_memory h.ledger w.hand.ledger (results_by lines w.solved.items)

-- and so have all of these hands
abbrev pub HaveDone : {L : Type 0} → (L → List Line) → Formula → Plan → List HandView → List (Worked L) → Type 0
HaveDone {L} lines F plan hands works = (i : ℕ) (d : HandView) (e : Worked L) → i < length hands → HasDone lines F plan (slice_index_or hands i d) (slice_index_or works i e)

-- each did its work, by the plan
abbrev pub HaveWorked : {L : Type 0} → (L → List Line) → Formula → Plan → List (Worked L) → Type 0
HaveWorked lines F plan works = All (λ w. IsWork F plan w.short_of_memory w.hand.ledger (results_by lines w.solved.items)) works

-- and these are the same hands in that order
abbrev pub AreByNumber : {L : Type 0} → List (Worked L) → List (Worked L) → Type 0
AreByNumber works sorted = IsPermutation works sorted × AreNumbered sorted

-- Once the pool is closed: no cube was left and none to be done, none was got twice, and the
-- results are enough. A pool tells its hands by their numbers, in whatever order they come home.
pub record AreHarvested {L : Type 0} (lines : L → List Line) (F : Formula) (plan : Plan) (works : List (Worked L)) (results : List (Solved L)) : Type 0 where
  pub least : Option ℕ
  pub closed : (sorted : List (Worked L)) → AreByNumber works sorted → IsClosed F plan (map (share_by lines) sorted) [] least 0
  pub once : (Q : List Literal) → times Q (flat_map all_got (ledgers_of (map (share_by lines) works))) ≤ 1
  pub whole : IsWhole F plan (results_by lines results)
