-- What a search keeps of its clauses, its trail and its lines, whichever search it is. Source:
-- textbook CDCL (Handbook of Satisfiability): the invariants of the clauses learnt and of the
-- trail.
use Rattle.std.specs.Prelude.{◌≡◌, ℕ, ◌+◌, true, List, [], ◌∷◌, ◌++◌, map, length, ◌⊎◌, All}
use Rattle.theory.specs.Literals.{Literal, Clause}
use Rattle.theory.specs.Truth.{IsOver}
use Rattle.theory.specs.Trails.{Trail, literals}
use Rattle.theory.specs.Lawful.{IsLawful, cube_of}
use Rattle.theory.specs.Learnable.{IsOpenBelow}
use Rattle.theory.specs.Learning.{Line}
use Rattle.theory.specs.Replaying.{AreReplayed, AreForgetting}
use Rattle.theory.specs.Deletions.{is_among}
use Rattle.theory.specs.Propagation.{clause_at}
use Rattle.theory.specs.Proofs.{forgotten_by}
use Rattle.theory.specs.Forgetting.{forgotten}

-- the clauses of the lines, in their order
abbrev pub clauses_of : List Line → List Clause
clauses_of lines = map (λ line. line.clause) lines

-- what is left of clauses: each is as it was, or forgotten
abbrev pub AreLeft : List Clause → List Clause → Type 0
AreLeft [] [] = Unit {0}
AreLeft (c ∷ all) (d ∷ left) = ((d ≡ c) ⊎ (d ≡ forgotten)) × AreLeft all left
AreLeft all left = ⊥

-- a search of the cube Q, from the first clauses K over the variables 1 to V on, has these clauses,
-- this trail and these lines
pub record IsSearchOf (V : ℕ) (K : List Clause) (Q : List Literal) (clauses : List Clause) (trail : Trail) (lines : List Line) : Type 0 where
  -- behind the first clauses stands what is left of the lines' clauses
  pub learnt : List Clause
  pub are_clauses : clauses ≡ K ++ learnt
  pub left : AreLeft (clauses_of lines) learnt
  pub over : All (IsOver V) clauses
  -- the trail is lawful, has the cube and no variable but the formula's, and no clause was false
  -- below its level
  pub lawful : IsLawful clauses trail
  pub open_below : IsOpenBelow clauses trail
  pub cube : cube_of trail ≡ Q
  pub variables : IsOver V (literals trail)
  -- each line replays over the first clauses and the lines before it, forgotten ones too; but it
  -- has no hint that is forgotten, and forgets what isn't
  pub replayed : AreReplayed V (length K) Q K lines
  pub forgetting : AreForgetting (length K) (length K + 1) [] lines
  pub gone : (k : ℕ) → is_among k (forgotten_by lines) ≡ true → clause_at clauses k ≡ forgotten
