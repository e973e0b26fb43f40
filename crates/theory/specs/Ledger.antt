-- What one hand does to the shared state, as plain data: the cubes that it put into its own deque,
-- the cubes that it got from each deque, and its calls on the three shared words, each with its
-- answer. Source: work-stealing deques (Blumofe and Leiserson, JACM 1999), one to a hand; the three
-- words are this project's own.
use Rattle.std.specs.Prelude.{ℕ, zero, suc, ◌≤◌, ◌&&◌, Bool, true, false, List, [], ◌∷◌, ◌++◌, length, Option, slice_index_or, count_by, flat_map}
use Rattle.theory.specs.Literals.{Literal, same}
use Rattle.theory.specs.Truth.{IsOver}

-- a cube that may be put into a deque: over these variables, and with no more literals than a place
-- in the tree has bits
abbrev pub IsFit : ℕ → List Literal → Type 0
IsFit vars Q = IsOver vars Q × (length Q ≤ 32)

-- a call on the shared words, with its answer where it has one
pub data Call : Type 0 where
  -- a model was found at this place
  offer : ℕ → Call
  -- the least place offered so far
  look : Option ℕ → Call
  -- one cube more is to be done, and one less
  more : Call
  less : Call
  -- how many are still to be done
  still_open : ℕ → Call
  -- a hand was refused memory, so that all are to go home; and whether one was
  halt : Call
  halted : Bool → Call

pub record Ledger : Type 0 where
  pub put : List (List Literal)
  -- by the number of the deque
  pub got : List (List (List Literal))
  pub calls : List Call

abbrev pub empty : Ledger
empty = record { put = []; got = []; calls = [] }

abbrev pub got_from : ℕ → Ledger → List (List Literal)
got_from d l = slice_index_or l.got d []

abbrev pub all_got : Ledger → List (List Literal)
all_got l = flat_map (λ cubes. cubes) l.got

-- what was got from each deque, and then more
abbrev pub both : List (List (List Literal)) → List (List (List Literal)) → List (List (List Literal))
both [] later = later
both (cubes ∷ got) [] = cubes ∷ got
both (cubes ∷ got) (more_cubes ∷ later) = (cubes ++ more_cubes) ∷ both got later

-- the entries of one ledger, and then those of the other
abbrev pub joined : Ledger → Ledger → Ledger
joined l m = record { put = l.put ++ m.put; got = both l.got m.got; calls = l.calls ++ m.calls }

-- the ledger of one entry: a cube put, a cube got from the deque d, a call
abbrev pub putting : List Literal → Ledger
putting Q = record { put = Q ∷ []; got = []; calls = [] }

abbrev pub from_deque : ℕ → List (List Literal) → List (List (List Literal))
from_deque zero cubes = cubes ∷ []
from_deque (suc d) cubes = [] ∷ from_deque d cubes

abbrev pub getting : ℕ → List Literal → Ledger
getting d Q = record { put = []; got = from_deque d (Q ∷ []); calls = [] }

abbrev pub calling : Call → Ledger
calling call = record { put = []; got = []; calls = call ∷ [] }

-- whether two cubes are one
abbrev pub same_cube : List Literal → List Literal → Bool
same_cube [] [] = true
same_cube (k ∷ Q) (l ∷ R) = same k l && same_cube Q R
same_cube Q R = false

-- how often a cube stands in a list of cubes
abbrev pub times : List Literal → List (List Literal) → ℕ
times Q cubes = count_by (same_cube Q) cubes

abbrev pub is_more : Call → Bool
is_more more = true
is_more call = false

abbrev pub is_less : Call → Bool
is_less less = true
is_less call = false

abbrev pub is_look : Call → Bool
is_look (look seen) = true
is_look call = false
