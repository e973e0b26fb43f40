-- What contracts see of a hand's own deque, and of a thief into another's.
use Rattle.std.specs.Prelude.{ℕ, [], ◌∷◌, ◌++◌}
use Rattle.std.specs.Global.{Global}
use Rattle.pool.specs.DequeNotes.{Cube, DequeNotes, with_more}
use Rattle.pool.specs.declared.taken.Taken.{Taken}
use Rattle.pool.specs.declared.taken.Taken.TheVariants.{Got, Empty, Again}

-- which deque it is
abbrev pub DequeId : Type 0
DequeId = (ℕ × ℕ) × Global

-- one end of a deque: which deque it is, and what is known there
pub record DequeEnd : Type 0 where
  pub id : DequeId
  pub notes : DequeNotes

-- the end of a deque once the root or another cube was put there, one was got, or one was left
abbrev pub with_root : DequeEnd → Cube → DequeEnd
with_root e Q = record e { notes = record e.notes { roots = e.notes.roots ++ Q ∷ [] } }

abbrev pub with_put : DequeEnd → Cube → DequeEnd
with_put e Q = record e { notes = record e.notes { put = e.notes.put ++ Q ∷ [] } }

abbrev pub with_got : DequeEnd → Cube → DequeEnd
with_got e Q = record e { notes = record e.notes { got = with_more (Q ∷ []) e.notes.got } }

abbrev pub with_left : DequeEnd → Cube → DequeEnd
with_left e Q = record e { notes = record e.notes { left = e.notes.left ++ Q ∷ [] } }

-- what is so of each answer of a steal
abbrev pub MatchTaken : Taken → (Cube → Type 0) → Type 0 → Type 0 → Type 0
MatchTaken (Got c) P Q R = P c
MatchTaken Empty P Q R = Q
MatchTaken Again P Q R = R
