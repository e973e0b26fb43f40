-- What the kernel of a session has of the clauses added.
use Rattle.std.specs.Prelude.{◌≡◌, ℕ, ◌+◌, ◌≤◌, Bool, true, false, List, length, take}
use Rattle.theory.specs.Literals.{Literal, Clause, has}
use Rattle.theory.specs.Truth.{AreTrue, IsOver, are_true}
use Rattle.theory.specs.Trails.{Trail, cube_trail}
use Rattle.theory.specs.Reading.{large, max_vars}
use Rattle.kernel.specs.declared.order.Order.TheVariants.{ByPlace}
use Rattle.kernel.specs.State.{State}
use Rattle.session.specs.declared.search.Search.{Search}
use Rattle.session.specs.Choosing.{HasChoice}

-- the parts of a search are for the same variables
pub record IsFit (s : Search) : Type 0 where
  pub memory : s.kernel.out_of_memory ≡ false
  pub order : s.kernel.order ≡ ByPlace
  pub few : s.kernel.vars ≤ max_vars large
  pub lessons : s.lessons.vars ≡ s.kernel.vars
  pub choice : HasChoice s.kernel.vars s.choice
  pub marked : length s.marked.items ≡ s.kernel.vars + 1
  pub facts : IsOver s.kernel.vars s.facts

-- the kernel's clauses C and the facts Q follow from the clauses added, K; the others, D, follow from
-- these two
pub record IsMeant (K D C : List Clause) (Q : List Literal) : Type 0 where
  pub clauses : (m : ℕ → Bool) → are_true m K ≡ true → are_true m C ≡ true
  pub facts : (m : ℕ → Bool) → are_true m K ≡ true → AreTrue m Q
  pub covers : (m : ℕ → Bool) → are_true m C ≡ true → AreTrue m Q → are_true m D ≡ true

-- the search is ready for a question, of whose clauses it has those in D
pub record IsLoaded (K D : List Clause) (s : Search) : Type 0 where
  pub fit : IsFit s
  pub meant : IsMeant K D s.kernel.clauses s.facts

-- the clauses D stand for the first so many of K, where what is on the trail is true
pub record IsPut (K D : List Clause) (place : ℕ) (P : List Literal) : Type 0 where
  pub follows : (m : ℕ → Bool) → are_true m (take place K) ≡ true → are_true m D ≡ true
  pub covers : (m : ℕ → Bool) → are_true m D ≡ true → AreTrue m P → are_true m (take place K) ≡ true

-- clauses of K were put behind others
pub record IsPutBehind (K old new : List Clause) : Type 0 where
  pub follows : (m : ℕ → Bool) → are_true m K ≡ true → are_true m old ≡ true → are_true m new ≡ true
  pub covers : (m : ℕ → Bool) → are_true m new ≡ true → are_true m old ≡ true

-- the literals of the clause p, each once, which are on the trail at level 0
pub record IsGathered (p lits : Clause) (T : Trail) : Type 0 where
  pub held : T ≡ cube_trail lits
  pub within : (k : Literal) → has lits k ≡ true → has p k ≡ true
  pub covers : (k : Literal) → has p k ≡ true → has lits k ≡ true

-- the clauses of K between two places were put behind others
pub record IsAttached (K : List Clause) (from place : ℕ) (old new : List Clause) : Type 0 where
  pub follows : (m : ℕ → Bool) → are_true m K ≡ true → are_true m old ≡ true → are_true m new ≡ true
  pub before : (m : ℕ → Bool) → are_true m new ≡ true → are_true m old ≡ true
  pub covers : (m : ℕ → Bool) → are_true m new ≡ true → are_true m (take from K) ≡ true → are_true m (take place K) ≡ true

-- a kernel of the same kind, with memory
pub record IsSameKernel (old new : State) : Type 0 where
  pub vars : new.vars ≡ old.vars
  pub order : new.order ≡ old.order
  pub memory : new.out_of_memory ≡ false
