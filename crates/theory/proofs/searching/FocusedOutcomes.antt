-- What the outcomes of the focused search say.
use Rattle.std.proofs.Common.{◌≡◌, ℕ, List, [], length, ap, sym, subst, ◌∙◌, None}
use Rattle.theory.specs.Literals.{Literal, Clause, IsCube}
use Rattle.theory.specs.Truth.{Formula, Assignment, IsOver, IsFormula, Satisfies, AreTrue, value, are_true}
use Rattle.theory.specs.Plans.{Constants}
use Rattle.theory.specs.Trails.{literals, cube_trail, up_to}
use Rattle.theory.specs.Held.{held}
use Rattle.theory.specs.Propagation.{by_place, least_false}
use Rattle.theory.specs.Learning.{Line}
use Rattle.theory.specs.Search.{Outcome, model, refuted, exhausted, goes_on}
use Rattle.theory.specs.Focused.{FocusedState, IsFocusedStep, RunsFocused}
use Rattle.theory.specs.Units.{AreUnits}
use Rattle.theory.specs.Kept.{IsSearchOf}
use Rattle.theory.proofs.searching.Rules.{IsRule-by_place}
use Rattle.theory.proofs.searching.KeptSearches.{IsSearchOf-begin}
use Rattle.theory.proofs.searching.KeptUnits.{IsInvariant-IsSearchOf}
use Rattle.theory.proofs.trails.TrailEntries.{IsLawful-cube_trail}
use Rattle.theory.proofs.searching.CubeOutcomes.{CubeSays, CubeSays-true, CubeSays-refuted}
use Rattle.theory.proofs.searching.TrueSearches.{IsTrueSearch, IsTrueSearch-begin, IsTrueSearch-conflict, IsInvariant-IsTrueSearch}
use Rattle.theory.proofs.searching.FirstClauses.{BeginsWith, BeginsWith-begin, IsInvariant-BeginsWith}
use Rattle.theory.proofs.trees.FirstModel.{front-none}
use Rattle.theory.proofs.searching.ModelLemmas.{length-values}
use Rattle.theory.proofs.searching.HeldVariables.{held-variable, quiet-held}
use Rattle.theory.proofs.searching.FocusedRuns.{Keeps, EndsSo, step-goes, RunsFocused-ends}

EndsSo-says : (F : Formula) (Q : List Literal) (o : Outcome) → IsFormula F → EndsSo F (IsSearchOf F.vars F.clauses Q) o → CubeSays F.vars F.clauses Q o
EndsSo-says F Q (model M) formed e =
    let calm : least_false (literals e.trail) F.clauses ≡ None
    = front-none (literals e.trail) F.clauses e.keeps.learnt (subst (λ (C : List Clause). least_false (literals e.trail) C ≡ None) e.keeps.are_clauses e.none_false) in
    subst (λ (x : Assignment). CubeSays F.vars F.clauses Q (model x)) (sym e.is_values)
    (CubeSays-true F.vars F.clauses Q e.clauses e.trail e.lines (quiet-held F e.trail e.none_free formed calm) e.keeps)
EndsSo-says F Q (refuted lines) formed e =
    subst (λ (x : List Line). CubeSays F.vars F.clauses Q (refuted x)) (sym e.2)
    (CubeSays-refuted F.vars [] F.clauses Q e.0.clauses e.0.trail e.0.lines e.0.number e.0.is_false e.1 e.0.keeps)
EndsSo-says F Q (exhausted x) formed e = tt

-- A refuted cube's lines replay, forgotten ones too, and the last one's clause is empty; a model
-- makes the first clauses and the cube true.
pub RunsFocused-says : (c : Constants) (F : Formula) (B : ℕ) (Q : List Literal) (o : Outcome) → IsFormula F → IsCube Q → IsOver F.vars Q → RunsFocused c F B Q o
    → CubeSays F.vars F.clauses Q o
RunsFocused-says c F B Q o formed cube over runs =
    EndsSo-says F Q o formed
    (RunsFocused-ends c F B Q o (Unit {0}) (IsSearchOf F.vars F.clauses Q) (IsInvariant-IsSearchOf by_place IsRule-by_place F.vars (held F) (held-variable F) F.clauses Q) (λ h. IsLawful-cube_trail F.clauses Q cube)
    (IsSearchOf-begin F.vars F.clauses Q formed cube over) runs)

-- what is kept by a step that goes on
pub IsSearchOf-focused_step : (c : Constants) (F : Formula) (budget : ℕ) (K : List Clause) (Q : List Literal) (s t : FocusedState) → IsFocusedStep c F budget s (goes_on t) → length s.marks ≡ length s.lines
    → AreUnits s.clauses (up_to s.trail 0) → IsSearchOf F.vars K Q s.clauses s.trail s.lines
    → IsSearchOf F.vars K Q t.clauses t.trail t.lines × AreUnits t.clauses (up_to t.trail 0) × (length t.marks ≡ length t.lines)
IsSearchOf-focused_step c F budget K Q s t step many units i =
    let k : Keeps (Unit {0}) (IsSearchOf F.vars K Q) t
    = step-goes c F (Unit {0}) (IsSearchOf F.vars K Q) (IsInvariant-IsSearchOf by_place IsRule-by_place F.vars (held F) (held-variable F) K Q) budget s (goes_on t) (record { kept = i; grounded = λ h. (i.lawful, units); marks = many }) step in
    (k.kept, (k.grounded tt).1, k.marks)

-- a refuted cube has no model
pub RunsFocused-refuted : (c : Constants) (F : Formula) (B : ℕ) (Q : List Literal) (lines : List Line) → IsCube Q → RunsFocused c F B Q (refuted lines)
    → (M : Assignment) → Satisfies F M → AreTrue (value M) Q → ⊥
RunsFocused-refuted c F B Q lines cube runs M s q =
    let m = value M in
    let e = RunsFocused-ends c F B Q (refuted lines) (Unit {0}) (IsTrueSearch m Q) (IsInvariant-IsTrueSearch by_place IsRule-by_place (held F) m Q q) (λ h. IsLawful-cube_trail F.clauses Q cube) (IsTrueSearch-begin m F.clauses Q s.clauses cube) runs in
    IsTrueSearch-conflict m [] Q e.0.clauses e.0.trail e.0.lines e.0.number q e.0.is_false e.1 e.0.keeps

-- a model satisfies the formula
pub RunsFocused-satisfies : (c : Constants) (F : Formula) (B : ℕ) (Q : List Literal) (M : Assignment) → IsFormula F → RunsFocused c F B Q (model M) → Satisfies F M
RunsFocused-satisfies c F B Q M formed runs =
    let e = RunsFocused-ends c F B Q (model M) ⊥ (BeginsWith F.clauses) (IsInvariant-BeginsWith by_place (held F) F.clauses) (λ h. absurd h) (BeginsWith-begin F.clauses (cube_trail Q)) runs in
    let calm : least_false (literals e.trail) F.clauses ≡ None
    = front-none (literals e.trail) F.clauses e.keeps.learnt (subst (λ (C : List Clause). least_false (literals e.trail) C ≡ None) e.keeps.are_clauses e.none_false) in
    record {
      values = ap length e.is_values ∙ length-values F.vars e.trail;
      clauses = ap (λ (x : Assignment). are_true (value x) F.clauses) e.is_values ∙ quiet-held F e.trail e.none_free formed calm;
    }
