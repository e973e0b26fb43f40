-- The parts of a hand's work, over the crate's own types.
use Rattle.std.specs.Prelude.{◌≡◌, ℕ, zero, Bool, true, false, List, [], ◌∷◌, ◌++◌, map, All}
use Rattle.theory.specs.Literals.{Literal, IsVariable, has_var}
use Rattle.theory.specs.Truth.{Formula, Assignment}
use Rattle.theory.specs.Plans.{Plan}
use Rattle.theory.specs.Learning.{Line}
use Rattle.theory.specs.Search as search
use Rattle.theory.specs.Runs.{Runs}
use Rattle.theory.specs.Ledger.{Call, still_open, halt, halted, Ledger, joined, getting}
use Rattle.theory.specs.Trees.{false_half, true_half}
use Rattle.theory.specs.Results as results
use Rattle.theory.specs.Round.{IsHandOn, IsRound, Adds, HasWorked}
use Rattle.cubes.specs.Solved.{LinesSolved, solved_of}
use Rattle.cubes.specs.Source.{IsLazySolver}
use Rattle.cubes.specs.declared.hands.Ending.{Ending}
use Rattle.cubes.specs.declared.hands.Ending.TheVariants as ending
use Rattle.cubes.specs.declared.hands.Worker.{Worker}

-- the cube was got, from some deque
abbrev pub Gets : Ledger → Ledger → List Literal → Type 0
Gets old new Q = (d : ℕ) × (new ≡ joined old (getting d Q))

-- the hand's solver is the formula's, by the plan, and the pool is over the formula's variables
abbrev pub IsWorker : {L : Type 0} → Formula → Plan → Worker L → Type 0
IsWorker F plan w = IsLazySolver F plan w.solver × (w.hand.vars ≡ F.vars)

-- how a cube's outcome goes on
abbrev pub EndsIn : Formula → List Literal → search.Outcome → Ending → Type 0
EndsIn F Q o ending.Model = (M : Assignment) × (o ≡ search.model M)
EndsIn F Q o ending.Refuted = (lines : List Line) × (o ≡ search.refuted lines)
EndsIn F Q o (ending.Exhausted x) = (o ≡ search.exhausted x) × IsVariable F.vars x × (has_var Q x ≡ false)

-- the cube was solved here, and its result is kept
pub record Settles (F : Formula) (plan : Plan) (Q : List Literal) (e : Ending) (before after : List results.Solved) : Type 0 where
  pub outcome : search.Outcome
  pub runs : Runs F plan Q outcome
  pub ends : EndsIn F Q outcome e
  pub is_after : after ≡ before ++ record { cube = Q; what = results.done outcome } ∷ []

abbrev pub AddsRound : Formula → Plan → Bool → List Literal → Ledger → Ledger → List results.Solved → List results.Solved → Type 0
AddsRound F plan is_done Q old new before after = Adds (IsRound F plan is_done Q) old new before after

abbrev pub AddsHandOn : Formula → Plan → Bool → List Literal → Ledger → Ledger → List results.Solved → List results.Solved → Type 0
AddsHandOn F plan is_done H old new before after = Adds (IsHandOn F plan is_done H) old new before after

-- both halves of the cube Q are handed on, one after the other
pub record AddsHalves (F : Formula) (plan : Plan) (is_done : Bool) (Q : List Literal) (x : ℕ) (old new : Ledger) (before after : List results.Solved) : Type 0 where
  pub left_done : Bool
  pub right_done : Bool
  pub left_piece : Ledger
  pub right_piece : Ledger
  pub left_results : List results.Solved
  pub right_results : List results.Solved
  pub left : IsHandOn F plan left_done (false_half Q x) left_piece left_results
  pub right : IsHandOn F plan right_done (true_half Q x) right_piece right_results
  pub both_done : is_done ≡ true → (left_done ≡ true) × (right_done ≡ true)
  pub is_new : new ≡ joined (joined old left_piece) right_piece
  pub is_after : after ≡ before ++ left_results ++ right_results

-- a half that is carried on puts no cube
abbrev pub AddsCarried : Formula → Plan → Bool → List Literal → Ledger → Ledger → List results.Solved → List results.Solved → Type 0
AddsCarried F plan is_done H old new before after = Adds (λ l s. (l.put ≡ []) × IsHandOn F plan is_done H l s) old new before after

abbrev pub Worked_as : Formula → Plan → Bool → Ledger → Ledger → List LinesSolved → Type 0
Worked_as F plan short_of_memory first last solved = HasWorked F plan short_of_memory first last (map solved_of solved)

-- a call behind which a hand goes on: it tells nobody to go home, and it read neither that nothing
-- is left to be done nor that a hand was told to
abbrev pub IsOnward : Call → Type 0
IsOnward (still_open zero) = ⊥
IsOnward halt = ⊥
IsOnward (halted true) = ⊥
IsOnward call = Unit {0}

-- all calls between these two ledgers are such
pub record GoesOn (old new : Ledger) : Type 0 where
  pub between : List Call
  pub is_new : new.calls ≡ old.calls ++ between
  pub onward : All IsOnward between

-- the call behind which a hand goes home: where it is short of memory it has told the others, and
-- else it read one of the two
abbrev pub IsFarewell : Bool → Call → Type 0
IsFarewell true halt = Unit {0}
IsFarewell false (still_open zero) = Unit {0}
IsFarewell false (halted true) = Unit {0}
IsFarewell short_of_memory call = ⊥

-- a hand goes home at the first such call, and not later
pub record GoesHome (short_of_memory : Bool) (old new : Ledger) : Type 0 where
  pub until : Ledger
  pub last : Call
  pub goes_on : GoesOn old until
  pub is_new : new.calls ≡ until.calls ++ last ∷ []
  pub is_farewell : IsFarewell short_of_memory last
