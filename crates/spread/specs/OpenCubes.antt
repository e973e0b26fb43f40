-- The cubes that are open.
use Rattle.std.specs.Prelude.{◌≡◌, ◌≤◌, ℕ, Bool, true, false, List, [], ◌∷◌, ◌++◌, All, Option, Some, None, take, length, reverse, if◌then◌else◌}
use Rattle.std.specs.Cmp.Lexicographic.{pointwise}
use Rattle.std.specs.HashMap.{get_by}
use Rattle.std.specs.HashSet.{contains_by}
use Rattle.theory.specs.Literals.{Literal}
use Rattle.theory.specs.Truth.{Formula}
use Rattle.theory.specs.Trees.{false_half, true_half}
use Rattle.theory.specs.Checked.{IsFitSplit}
use Rattle.cnf.specs.contracts.lit.LitPartialEq.TheImpl.{ghosts}
use Rattle.packs.specs.declared.fact.Claim.{Claim}
use Rattle.packs.specs.declared.fact.Claim.TheVariants as claims
use Rattle.packs.specs.declared.fact.Fact.{Fact}
use Rattle.spread.specs.declared.open_cubes.Tops.{Tops}
use Rattle.spread.specs.declared.open_cubes.Word.{Word}
use Rattle.spread.specs.declared.open_cubes.Word.TheVariants.{Split, Refuted, Model}
use Rattle.spread.specs.declared.open_cubes.Words.{Words}

-- what is said of a cube, if anything
abbrev pub said_in : Words → List Literal → Option Word
said_in words Q = get_by (λ key. pointwise ghosts.eq Q key.items) words.by_cube

-- whether a cube of which this is said is solved
abbrev pub is_solved : Word → Bool
is_solved (Split x) = false
is_solved Refuted = true
is_solved Model = true

-- whether two cubes have the same literals, in their order
abbrev pub same_cube : List Literal → List Literal → Bool
same_cube Q R = pointwise ghosts.eq Q R

-- what is claimed, without the lines of a refuted cube
abbrev pub word_by : Claim → Word
word_by (claims.Split x) = Split x
word_by (claims.Refuted lines) = Refuted
word_by claims.Model = Model

-- what is said of the cube Q behind facts: what the last one of Q says, and where none is of Q, what
-- was said before
abbrev pub said_behind : List Literal → Option Word → List Fact → Option Word
said_behind Q word [] = word
said_behind Q word (f ∷ fs) = said_behind Q (if same_cube Q f.cube then Some (word_by f.claim) else word) fs

-- whether Q is one of the cubes that are asked for
abbrev pub has_cube : Tops → List Literal → Bool
has_cube tops Q = contains_by (λ key. pointwise ghosts.eq Q key.items) tops.lits

-- it is, and no shorter than the shortest one, nor longer than the longest
pub record IsTop (tops : Tops) (Q : List Literal) : Type 0 where
  pub one : has_cube tops Q ≡ true
  pub shortest : tops.shortest ≤ length Q
  pub longest : length Q ≤ tops.longest

-- Q is one of them, or lies below one
abbrev pub IsBelowTop : Tops → List Literal → Type 0
IsBelowTop tops Q = (count : ℕ) × (count ≤ length Q) × IsTop tops (take count Q)

-- what is said of the cube Q leaves it as it is: nothing, or a split on no variable that is fit
abbrev pub IsNoWord : Formula → List Literal → Option Word → Type 0
IsNoWord F Q None = Unit {0}
IsNoWord F Q (Some (Split x)) = ¬ (IsFitSplit F Q x)
IsNoWord F Q (Some Refuted) = ⊥
IsNoWord F Q (Some Model) = ⊥

-- Of cubes from left to right, by what is said of cubes, these are open, from left to right, and
-- whether what lies right of them is cut off by a model: a refuted cube leaves none, a model leaves
-- none right of it either, a split leaves what its halves leave, and any other cube is open.
pub data LeavesOpen (F : Formula) (said : List Literal → Option Word) : List (List Literal) → List (List Literal) → Bool → Type 0 where
  at_end : LeavesOpen F said [] [] false
  at_refuted : {Q : List Literal} {cubes left : List (List Literal)} {has_model : Bool} → said Q ≡ Some Refuted → LeavesOpen F said cubes left has_model → LeavesOpen F said (Q ∷ cubes) left has_model
  at_model : {Q : List Literal} {cubes : List (List Literal)} → said Q ≡ Some Model → LeavesOpen F said (Q ∷ cubes) [] true
  at_split : {Q : List Literal} {cubes left : List (List Literal)} {has_model : Bool} (x : ℕ) → said Q ≡ Some (Split x) → IsFitSplit F Q x
      → LeavesOpen F said (false_half Q x ∷ true_half Q x ∷ cubes) left has_model → LeavesOpen F said (Q ∷ cubes) left has_model
  at_open : {Q : List Literal} {cubes left : List (List Literal)} {has_model : Bool} → IsNoWord F Q (said Q) → LeavesOpen F said cubes left has_model → LeavesOpen F said (Q ∷ cubes) (Q ∷ left) has_model

-- what the cubes on the way leave stands behind those that are open so far, and that is what `cubes` leave
abbrev pub IsOnTheWay : Formula → (List Literal → Option Word) → List (List Literal) → List (List Literal) → List (List Literal) → Type 0
IsOnTheWay F said cubes left way = (rest : List (List Literal)) (has_model : Bool) → LeavesOpen F said way rest has_model → LeavesOpen F said cubes (left ++ rest) has_model

-- the words are what facts say of these cubes and of those below them
pub record AreWordsOf (cubes : List (List Literal)) (words : Words) : Type 0 where
  pub facts : List Fact
  pub asked : All (IsTop words.tops) cubes
  pub says : (Q : List Literal) → IsBelowTop words.tops Q → said_in words Q ≡ said_behind Q None facts

-- of the cubes on a way, the last one first, facts leave these open
pub record AreLeftOpen (F : Formula) (way left : List (List Literal)) (has_model : Bool) : Type 0 where
  pub facts : List Fact
  pub leaves : LeavesOpen F (λ Q. said_behind Q None facts) (reverse way) left has_model
