-- How far a lowering is: a model, and the literals that are settled. Source: the search for a
-- lexicographically least model, one query a variable (Nadel and Ryvchin, SAT 2016, 'Bit-vector
-- optimization'; the order is this project's, false before true).
use Rattle.std.specs.Prelude.{◌≡◌, ℕ, ◌+◌, ◌≤◌, ◌<◌, Bool, true, false, not, ◌&&◌, List, ◌++◌, length, All, IsTrue, Option, Some, None, IfSome}
use Rattle.theory.specs.Literals.{Literal, IsVariable, has, has_var, negative}
use Rattle.theory.specs.Truth.{Formula, Assignment, IsOver, Satisfies, AreTrue, is_true, value}
use Rattle.theory.specs.FirstModel.{comes_before, IsFirst, IsModelIn}
use Rattle.theory.specs.Trails.{literals}
use Rattle.theory.specs.Propagation.{quiet, by_place, Propagates}
use Rattle.theory.specs.Pure.{pure_literals, first_clauses, searched, unit_clauses}
use Rattle.kernel.specs.declared.order.Order.TheVariants.{ByPlace}
use Rattle.session.specs.State.{State}
use Rattle.strategies.specs.Settled.{Agrees, IsFirstUpTo}
use Rattle.strategies.specs.declared.lowering.prefix.Prefix.{Prefix}
use Rattle.strategies.specs.declared.lowering.question.Reply.{Reply}
use Rattle.strategies.specs.declared.lowering.question.Reply.TheVariants.{Model, NoModel, Stopped}
use Rattle.strategies.specs.declared.lowering.settling.Lowered.{Lowered}
use Rattle.strategies.specs.declared.lowering.settling.Lowered.TheVariants as lowered
use Rattle.strategies.specs.declared.lowering.settling.Lowering.{Lowering}

-- no assignment satisfies the formula and the cube
abbrev pub HasNoModelIn : Formula → List Literal → Type 0
HasNoModelIn F Q = (M : Assignment) → Satisfies F M → ¬ (AreTrue (value M) Q)

-- M satisfies the formula, and what satisfies it and comes before M has its values below x
pub record IsFirstBelow (F : Formula) (x : ℕ) (M : Assignment) : Type 0 where
  pub satisfies : Satisfies F M
  pub agrees : (N : Assignment) → Satisfies F N → IsTrue (comes_before N M) → Agrees x M N

-- the cube is of variables below x and true in M; on the trail, where propagation has come to rest,
-- stand all variables below x, and only what is true in each model of the cube
pub record IsPrefix (F : Formula) (x : ℕ) (M : Assignment) (p : Prefix) : Type 0 where
  pub over : IsOver F.vars p.cube
  pub below : All (λ l. l.var < x) p.cube
  pub holds : AreTrue (value M) p.cube
  pub vars : p.kernel.vars ≡ F.vars
  pub clauses : p.kernel.clauses ≡ first_clauses F
  pub in_order : p.kernel.order ≡ ByPlace
  pub has_memory : p.kernel.out_of_memory ≡ false
  pub rests : Propagates by_place (first_clauses F) p.kernel.trail quiet p.kernel.trail
  pub follows : (N : Assignment) → Satisfies (searched F) N → AreTrue (value N) p.cube → AreTrue (value N) (literals p.kernel.trail)
  pub settled : (u : ℕ) → 1 ≤ u → u < x → has_var (literals p.kernel.trail) u ≡ true

-- N has the values of M but for the variables whose negations are among these literals, which are
-- false
abbrev pub IsFalsified : List Literal → Assignment → Assignment → Type 0
IsFalsified units M N = (v : ℕ) → IsVariable (length M) v → value N v ≡ (value M v && not (has units (negative v)))

-- the session has the first clauses, and behind them each of these literals as a clause
abbrev pub IsAsked : Formula → List Literal → State → Type 0
IsAsked F P s = s.formula.clauses ≡ first_clauses F ++ unit_clauses P

-- the variables below x are settled: the model at hand has the first model's values there
pub record IsLowering (F : Formula) (x : ℕ) (l : Lowering) : Type 0 where
  pub first : IsFirstBelow (searched F) x l.model.items
  pub prefix : IsPrefix F x l.model.items l.prefix
  pub units : l.questions.units.items ≡ pure_literals F
  pub session : IfSome l.questions.session (IsAsked F l.prefix.cube)

-- the literal settles variable x: the model at hand makes it true, and has the first model's values
-- up to x
pub record IsSettling (F : Formula) (x : ℕ) (old : Lowering) (k : Literal) (l : Lowering) : Type 0 where
  pub var : k.var ≡ x
  pub holds : is_true (value l.model.items) k ≡ true
  pub first : IsFirstBelow (searched F) (x + 1) l.model.items
  pub prefix : IsPrefix F x l.model.items l.prefix
  pub kept : l.prefix ≡ old.prefix
  pub units : l.questions.units.items ≡ pure_literals F
  pub session : IfSome l.questions.session (IsAsked F l.prefix.cube)

-- the literal that settles variable x; or none, and the variables below x are settled as before
abbrev pub IsLiteralOf : Formula → ℕ → Lowering → Option Literal → Lowering → Type 0
IsLiteralOf F x old None l = IsLowering F x l
IsLiteralOf F x old (Some k) l = IsSettling F x old k l

-- the lowering where variable x is settled, or isn't, and all below it are
abbrev pub IsLoweringAfter : Formula → ℕ → Bool → Lowering → Type 0
IsLoweringAfter F x true l = IsLowering F (x + 1) l
IsLoweringAfter F x false l = IsLowering F x l

-- what a lowering comes to
abbrev pub IsLowered : Formula → Lowered → Type 0
IsLowered F (lowered.First values) = IsFirst F values.items
IsLowered F (lowered.Stopped values k) = IsFirstUpTo F k values.items

-- what a question comes to: whether some model makes the literals of Q true
abbrev pub IsReply : Formula → List Literal → Reply → Type 0
IsReply F Q (Model values) = IsModelIn (searched F) Q values.items
IsReply F Q NoModel = HasNoModelIn (searched F) Q
IsReply F Q Stopped = Unit {0}
