-- The lines of a proof that are still to come, and what is kept on the way.
use Rattle.std.specs.Prelude.{◌≡◌, ℕ, ◌+◌, ◌-◌, ◌<◌, ◌≤◌, Bool, true, false, List, [], ◌∷◌, map, length, All}
use Rattle.std.specs.Vec.Iter.{into_iter_items}
use Rattle.theory.specs.Literals.{Literal}
use Rattle.theory.specs.Truth.{Formula}
use Rattle.theory.specs.Trees as trees
use Rattle.theory.specs.Learning.{Line}
use Rattle.theory.specs.Reading.{large, max_vars, max_clauses}
use Rattle.theory.specs.Steps.{Step, add, delete}
use Rattle.theory.specs.Proofs.{unit_steps, forget_steps}
use Rattle.theory.specs.ProofReading.{IsStep, max_number}
use Rattle.cubes.specs.declared.traversal.Split.{Split}
use Rattle.cubes.specs.Result.{node_of}
use Rattle.join.specs.declared.joiner.Joiner.{Joiner}
use Rattle.join.specs.declared.joiner.Stage.{Stage}
use Rattle.join.specs.declared.joiner.Stage.TheVariants.{Between, Within}
use Rattle.join.specs.declared.line.Kind.{Kind}
use Rattle.join.specs.declared.line.Kind.TheVariants.{Addition, Deletion}
use Rattle.join.specs.declared.line.ProofLine.{ProofLine}
use Rattle.join.specs.declared.proof_lines.Lines.{Lines}
use Rattle.join.specs.Joining.{Joined, behind, from_leaf, on_nodes, after_nodes}
use Rattle.join.specs.Numbered.{AreLines, AreNodes, IsHalf}

-- a line by its kind: the numbers are the hints, or those of the clauses to be deleted
abbrev pub step_by : Kind → ℕ → List Literal → List ℕ → Step
step_by Addition n clause numbers = add (record { id = n; clause = clause; hints = numbers; groups = [] })
step_by Deletion n clause numbers = delete (record { id = n; ids = numbers })

abbrev pub line_of : ProofLine → Step
line_of l = step_by l.kind l.id l.clause.items l.numbers.items

-- the line of a leaf that was read into it, and forgets these
abbrev pub learnt_in : ProofLine → List ℕ → Line
learnt_in l forgets = record { clause = l.clause.items; hints = l.numbers.items; forgets = forgets }

-- what was given is followed by this, by where a joiner stands: between nodes nothing is left of
-- those that came, or else the deletion that is due, and what is left of the leaf
abbrev pub at_stage : ℕ → Stage → ℕ → ℕ → List ℕ → List Bool → List (Split ℕ) → List Line → Joined
at_stage N Between first n due marks hs leaf = record { halves = hs; next = n; steps = [] }
at_stage N Within first n due marks hs leaf = behind (forget_steps (n - 1) due) (from_leaf N first n hs marks leaf)

-- what the nodes that came give yet, and where they lead; the pure literals' lines come first
abbrev pub joined : Joiner → Joined
joined j = behind (unit_steps j.unit (into_iter_items j.units)) (at_stage j.clauses j.stage j.first j.next j.due.items j.deleted.items j.place j.leaf)

-- the lines that are still to come: those of the nodes that came, and of the others
abbrev pub lines_left : Lines → List Step
lines_left l = (on_nodes l.joiner.clauses (joined l.joiner) (map node_of l.nodes.items)).steps

-- what is kept within a leaf, where the next line has the number n: what is due was given before
-- the last one, and each of the leaf's lines has a mark
pub record IsInLeaf (N first n : ℕ) (due : List ℕ) (marks : List Bool) (lines : List Line) : Type 0 where
  pub above : N < first
  pub begun : first ≤ n
  pub started : length lines ≡ 0 → first < n
  pub are : AreLines N (N + (n - first)) lines
  pub is_due : All (λ k. (1 ≤ k) × (k < n - 1)) due
  pub marked : 0 < length lines → n + length lines ≤ first + length marks

abbrev pub IsAtStage : ℕ → Stage → ℕ → ℕ → List ℕ → List Bool → List Line → Type 0
IsAtStage N Between first n due marks lines = Unit {0}
IsAtStage N Within first n due marks lines = IsInLeaf N first n due marks lines

-- what a joiner keeps between two lines
pub record IsJoining (j : Joiner) : Type 0 where
  pub clauses : j.clauses ≤ max_clauses large + max_vars large
  pub begun : j.clauses < j.next
  pub fits : j.next ≤ max_number + 1
  pub splits : All (IsHalf j.next) j.place
  pub at : IsAtStage j.clauses j.stage j.first j.next j.due.items j.deleted.items j.leaf
  pub unit : 1 ≤ j.unit
  pub units : j.unit + length (into_iter_items j.units) ≤ max_number

-- a joiner stands between two nodes, and no line is to come of those before
pub record IsStanding (j : Joiner) : Type 0 where
  pub joining : IsJoining j
  pub between : j.stage ≡ Between
  pub no_units : into_iter_items j.units ≡ []

-- what is kept between two lines
pub record IsBetweenLines (l : Lines) : Type 0 where
  pub joiner : IsJoining l.joiner
  pub nodes : AreNodes l.joiner.clauses (map node_of l.nodes.items)

-- all lines of the nodes that came are given, but for those of the pure literals
pub record IsBetweenNodes (l : Lines) : Type 0 where
  pub lines : IsBetweenLines l
  pub between : l.joiner.stage ≡ Between

-- all lines are given
pub record IsAtEnd (l : Lines) : Type 0 where
  pub at : IsBetweenNodes l
  pub no_nodes : l.nodes.items ≡ []
  pub none : lines_left l ≡ []

-- whether there was one more line
abbrev pub HasNextLine : List Step → List Step → Step → Bool → Type 0
HasNextLine old new line true = old ≡ line ∷ new
HasNextLine old new line false = old ≡ []

abbrev pub OnMore : Type 0 → Bool → Type 0
OnMore P true = P
OnMore P false = Unit {0}

-- whether the nodes that came gave one more line, which was the first of theirs; if they didn't,
-- all stays
abbrev pub IsNextLine : Joined → Joined → Step → Bool → Type 0
IsNextLine old new line true = old ≡ behind (line ∷ []) new
IsNextLine old new line false = (old.steps ≡ []) × (new ≡ old)

-- a line was made, which was the first of those to come
pub record IsMade (old new : Joiner) : Type 0 where
  pub rest : joined old ≡ behind (line_of new.line ∷ []) (joined new)
  pub within : IsStep (line_of new.line)
  pub clauses : new.clauses ≡ old.clauses
  pub lawful : IsJoining new

-- or there was none of its kind, and all are still to come
pub record IsKept (old new : Joiner) : Type 0 where
  pub rest : joined new ≡ joined old
  pub clauses : new.clauses ≡ old.clauses
  pub lawful : IsJoining new

abbrev pub Makes : Joiner → Joiner → Bool → Type 0
Makes old new true = IsMade old new
Makes old new false = IsKept old new

-- the first nodes of a formula's tree were taken, behind the lines of these units, and these lines
-- were made of what they give
pub record HasJoined (F : Formula) (units : List Literal) (nodes : List trees.Node) (lines : List Step) (j : Joiner) : Type 0 where
  pub lawful : IsJoining j
  pub clauses : j.clauses ≡ length F.clauses + length units
  pub so_far : behind lines (joined j) ≡ after_nodes F units nodes
