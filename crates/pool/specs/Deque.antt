-- What is kept true of one hand's deque between any two steps: of its tasks, and of what its owner
-- and its thieves know.
use Rattle.std.specs.Prelude.{◌≡◌, ℕ, ◌<◌, ◌≤◌, true, false, List, [], ◌∷◌, ◌++◌, map}
use mathlib.Core.Option.{some}
use lib.ListN.{get_elem?}
use Rattle.theory.specs.Ledger.{IsFit}
use Rattle.theory.specs.Order.{entries_of}
use Rattle.pool.specs.Tally.{Tally}
use Rattle.pool.specs.DequeNotes.{Cube, DequeNotes, owner_notes, with_more}
use Rattle.pool.specs.declared.task.Task.{Task}

-- the task is a fit cube for this many variables
abbrev pub Fit : ℕ → Task → Type 0
Fit vars t = (t.vars ≡ vars) × IsFit vars t.cube

-- the cubes of tasks
abbrev pub cubes : List Task → List Cube
cubes ts = map (λ (t : Task). t.cube) ts

abbrev pub AllFit : ℕ → List Task → Type 0
AllFit vars [] = Unit {0}
AllFit vars (t ∷ ts) = Fit vars t × AllFit vars ts

-- these were got, by the hand whose notes come first
abbrev pub noted : DequeNotes → List Task → DequeNotes
noted v xs = record v { got = with_more (cubes xs) v.got }

-- the owner's notes agree
abbrev pub Agree : DequeNotes → DequeNotes → Type 0
Agree b v = (v.vars ≡ b.vars) × (v.made ≡ b.made) × (v.roots ≡ b.roots) × (v.put ≡ b.put) × (v.left ≡ b.left)

-- some order of what the hands got, followed by what is left, is what was put
abbrev pub Content : DequeNotes → List (ℕ × Cube) → List Task → Type 0
Content b order items = map (λ e. e.1) order ++ (b.left ++ cubes items) ≡ b.roots ++ b.put

-- what each hand got, by the number of the hand
abbrev pub got_of : DequeNotes → List (ℕ × List Cube)
got_of v = v.got

-- one view is the owner's; the others get tasks only while none is left over
abbrev pub Knows : DequeNotes → ℕ → DequeNotes → Type 0
Knows b port v = (v.is_owner ≡ true → (port ≡ 0) × Agree b v) × ((n : ℕ × List Cube) (ns : List (ℕ × List Cube)) → v.got ≡ n ∷ ns → (v.vars ≡ b.vars) × (v.is_owner ≡ false → b.left ≡ []))

-- The rule. What the owner knows, some order of what the hands got that keeps each hand's own, and
-- the tasks agree; each task is fit; and the notes of all views are of that order.
abbrev pub HoldsTasks : List Task → List DequeNotes → Type 0
HoldsTasks items views = (b : DequeNotes) × (order : List (ℕ × Cube)) × Content b order items × AllFit b.vars items × Tally got_of b.made order views
    × ((port : ℕ) (v : DequeNotes) → get_elem? views port ≡ some v → Knows b port v)

-- the notes of all hands are here
abbrev pub Whole : DequeNotes → Type 0
Whole v = (k : ℕ) → k < v.made → (i : ℕ) × (xs : List Cube) × (get_elem? v.got i ≡ some (k, xs))

-- at a moment all that the owner had put was taken, and this is how
abbrev pub Emptied : DequeNotes → Type 0
Emptied v = (order : List (ℕ × Cube)) × (map (λ e. e.1) order ++ v.left ≡ v.roots ++ v.put) × ((k : ℕ) → v.made ≤ k → entries_of k order ≡ [])
    × ((i : ℕ) (n : ℕ × List Cube) → get_elem? v.got i ≡ some n → entries_of n.0 order ≡ n.1)

-- the first push and its pop tell the rule of the variables, and leave nothing else
abbrev pub Marked : DequeNotes → List Task → DequeNotes → Type 0
Marked v [] w = Unit {0}
Marked v (x ∷ xs) w = w ≡ owner_notes x.vars 0 (cubes (x ∷ xs))

-- the same of a deque of which only these notes are known, and not what was put
abbrev pub EmptyThen : DequeNotes → Type 0
EmptyThen v = (put : List Cube) × (order : List (ℕ × Cube)) × (map (λ e. e.1) order ≡ put) × ((i : ℕ) (n : ℕ × List Cube) → get_elem? v.got i ≡ some n → entries_of n.0 order ≡ n.1)

-- these cubes were the front: what the hands had got, and then they, begin what the owner had put
abbrev pub Fronts : DequeNotes → List Cube → Type 0
Fronts v cs = (order : List (ℕ × Cube)) × (rest : List Cube) × (map (λ e. e.1) order ++ (v.left ++ (cs ++ rest)) ≡ v.roots ++ v.put) × ((k : ℕ) → v.made ≤ k → entries_of k order ≡ [])
    × ((i : ℕ) (n : ℕ × List Cube) → get_elem? v.got i ≡ some n → entries_of n.0 order ≡ n.1)
