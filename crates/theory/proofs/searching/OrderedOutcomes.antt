-- What the outcomes of the ordered search say, by what it keeps: the lines of a refuted cube
-- replay, and a model makes the first clauses and the cube true.
use Rattle.std.proofs.Common.{◌≡◌, ℕ, ◌+◌, Bool, true, false, List, [], ◌∷◌, ◌++◌, refl, subst, nat_eq, eqb-true, Option, Some, None, unwrap_or, if◌then◌else◌}
use Rattle.theory.specs.Literals.{Literal, Clause, negative, IsCube}
use Rattle.theory.specs.Truth.{Formula, IsOver, IsFormula}
use Rattle.theory.specs.Trails.{literals, current_level, least_free}
use Rattle.theory.specs.Propagation.{Closed, quiet, conflict, by_number, least_false}
use Rattle.theory.specs.Learning.{Line, learn}
use Rattle.theory.specs.Search.{Outcome, refuted, exhausted, Next, ends, goes_on, budget_of}
use Rattle.theory.specs.Ordered.{OrderedState, learnt_next, on_quiet, on_conflict, after, RunsOrdered, begin, IsOrderedStep}
use Rattle.theory.specs.Kept.{IsSearchOf}
use Rattle.theory.proofs.searching.Rules.{IsRule-by_number}
use Rattle.theory.proofs.searching.RunLemmas.{RunsFrom-says}
use Rattle.theory.proofs.searching.SearchSoundness.{Says, Propagates-says}
use Rattle.theory.proofs.searching.SearchSteps.{above_zero, least_free-variable}
use Rattle.theory.proofs.searching.KeptSearches.{IsSearchOf-begin, IsSearchOf-Propagates, IsSearchOf-decide, IsSearchOf-learn}
use Rattle.theory.proofs.searching.CubeOutcomes.{CubeSays, CubeSays-model, CubeSays-refuted}

-- a state of an ordered search of the cube Q, over the clauses K, or what an outcome says
abbrev SaysNext : ℕ → List Clause → List Literal → Next OrderedState → Type 0
SaysNext V K Q (goes_on t) = IsSearchOf V K Q t.clauses t.trail t.lines
SaysNext V K Q (ends o) = CubeSays V K Q o

module _ (V : ℕ) (K : List Clause) (Q : List Literal) where
  -- a decision, or the model
  quiet-says : (s : OrderedState) → SaysNext V K Q (goes_on s) → least_false (literals s.trail) s.clauses ≡ None → SaysNext V K Q (on_quiet V s (least_free V s.trail))
  quiet-says s i calm = go (least_free V s.trail) refl
    where
      go : (o : Option ℕ) → least_free V s.trail ≡ o → SaysNext V K Q (on_quiet V s o)
      go None e = CubeSays-model V K Q s.clauses s.trail s.lines e calm i
      go (Some x) e = let free = least_free-variable V s.trail x e in IsSearchOf-decide V K Q s.clauses s.trail s.lines (negative x) calm free.0 free.1 i

  -- a conflict
  conflict-says : (budget : ℕ) (s : OrderedState) (n : ℕ) → SaysNext V K Q (goes_on s) → least_false (literals s.trail) s.clauses ≡ Some n
      → SaysNext V K Q (on_conflict budget s (learn s.clauses s.trail n))
  conflict-says budget s n i h = go (nat_eq (current_level s.trail) 0) refl (nat_eq (s.conflicts + 1) budget)
    where
      line : Line
      line = learn s.clauses s.trail n

      go : (b : Bool) → nat_eq (current_level s.trail) 0 ≡ b → (d : Bool)
          → SaysNext V K Q (if b then ends (refuted (s.lines ++ line ∷ [])) else if d then ends (exhausted (unwrap_or s.decided 0)) else goes_on (learnt_next s line))
      go true e d = CubeSays-refuted V [] K Q s.clauses s.trail s.lines n h (eqb-true (current_level s.trail) 0 e) i
      go false e true = tt
      go false e false = IsSearchOf-learn V [] K Q s.clauses s.trail s.lines n h (above_zero (current_level s.trail) e) i

  after-says : (budget : ℕ) (s : OrderedState) (a : Closed) → SaysNext V K Q (goes_on s) → Says s.clauses s.trail a → SaysNext V K Q (after V budget s a)
  after-says budget s quiet i h = quiet-says s i h
  after-says budget s (conflict n) i h = conflict-says budget s n i h

  step-says : (budget : ℕ) (s : OrderedState) (n : Next OrderedState) → SaysNext V K Q (goes_on s) → IsOrderedStep V budget s n → SaysNext V K Q n
  step-says budget s n i w =
      subst (SaysNext V K Q) w.follows (after-says budget (record s { trail = w.trail }) w.answer
      (IsSearchOf-Propagates by_number IsRule-by_number V K Q s.clauses s.trail w.trail w.answer s.lines w.propagates i) (Propagates-says by_number s.clauses s.trail w.trail w.answer w.propagates))

-- What the outcome of a cube says.
pub RunsOrdered-says : (F : Formula) (B : ℕ) (Q : List Literal) (o : Outcome) → IsFormula F → IsCube Q → IsOver F.vars Q → RunsOrdered F B Q o → CubeSays F.vars F.clauses Q o
RunsOrdered-says F B Q o formed cube over runs =
    RunsFrom-says (IsOrderedStep F.vars (budget_of B Q)) (SaysNext F.vars F.clauses Q) (step-says F.vars F.clauses Q (budget_of B Q)) (begin F Q) o runs
    (IsSearchOf-begin F.vars F.clauses Q formed cube over)

-- what is kept by a step that goes on
pub IsSearchOf-ordered_step : (V budget : ℕ) (K : List Clause) (Q : List Literal) (s t : OrderedState) → IsOrderedStep V budget s (goes_on t) → IsSearchOf V K Q s.clauses s.trail s.lines
    → IsSearchOf V K Q t.clauses t.trail t.lines
IsSearchOf-ordered_step V budget K Q s t step i = step-says V K Q budget s (goes_on t) i step
