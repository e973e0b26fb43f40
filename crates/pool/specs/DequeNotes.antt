-- What the owner of a deque and its thieves know of it.
use Rattle.std.specs.Prelude.{◌≡◌, ℕ, Bool, true, false, List, [], ◌∷◌, ◌++◌}
use Rattle.theory.specs.Literals.{Literal}

abbrev pub Cube : Type 0
Cube = List Literal

-- What the owner of a deque, or a thief of it, knows. The owner knows how many variables there are,
-- how many hands have a thief, the roots, what it has put, and, once the pool is closed, what was
-- left. The cubes that were got go by the number of the hand: one entry in the notes of a thief,
-- none in those of one that is spent.
pub record DequeNotes : Type 0 where
  pub is_owner : Bool
  pub vars : ℕ
  pub made : ℕ
  pub roots : List Cube
  pub put : List Cube
  pub left : List Cube
  pub got : List (ℕ × List Cube)

-- the owner's notes before the deque has a number of variables, with that number, and a thief's at
-- the start
abbrev pub owner_notes : ℕ → ℕ → List Cube → DequeNotes
owner_notes vars made put = record { is_owner = true; vars = vars; made = made; roots = []; put = put; left = []; got = [] }

abbrev pub thief_notes : ℕ → ℕ → DequeNotes
thief_notes vars k = record { is_owner = false; vars = vars; made = 0; roots = []; put = []; left = []; got = (k, []) ∷ [] }

abbrev pub spent : DequeNotes
spent = record { is_owner = false; vars = 0; made = 0; roots = []; put = []; left = []; got = [] }

-- the first hand of the notes gets some more
abbrev pub with_more : List Cube → List (ℕ × List Cube) → List (ℕ × List Cube)
with_more xs [] = []
with_more xs (n ∷ ns) = (n.0, n.1 ++ xs) ∷ ns

-- the notes of another are taken in
abbrev pub merged : DequeNotes → DequeNotes → DequeNotes
merged v w = record v { got = v.got ++ w.got }

-- the notes are a hand's, and no others'
abbrev pub IsHandEnd : DequeNotes → Type 0
IsHandEnd v = (k : ℕ) × (cubes : List Cube) × (ns : List (ℕ × List Cube)) × (v.got ≡ (k, cubes) ∷ ns)
