-- How the focused search of a cube begins.
use Rattle.std.proofs.Common.{◌≡◌, ℕ, zero, suc, true, false, Bool, Vec, Global, List, [], ◌∷◌, length, take, drop, refl, ap, sym, subst, ◌∙◌, All, arith}
use Rattle.std.proofs.lemmas.List.Elements.{All-nil}
use Rattle.theory.specs.Literals.{Literal, Clause, IsVariable}
use Rattle.theory.specs.Truth.{Formula, IsOver, value}
use Rattle.theory.specs.Trails.{literals, cube_trail}
use Rattle.theory.specs.Lawful.{IsLawful}
use Rattle.theory.specs.Scores.{first_scores}
use Rattle.theory.specs.Modes.{first_pace}
use Rattle.theory.specs.Forgetting.{Mark}
use Rattle.theory.specs.Rephasing.{first_turn}
use Rattle.heuristics.specs.Rankings.{Ranking, vars_of}
use Rattle.heuristics.specs.Averages.{Averages, first_averages}
use Rattle.kernel.specs.State.{State}
use Rattle.kernel.specs.declared.order.Order.TheVariants.{ByPlace}
use Rattle.cdcl.specs.declared.search.focused.FocusedSearch.{FocusedSearch}
use Rattle.cdcl.specs.declared.search.decisions.Decisions.{Decisions}
use Rattle.cdcl.specs.Forgetful.{IsPlain}
use Rattle.cdcl.specs.Saving.{AreWaiting, AreKept}
use Rattle.cdcl.specs.Searching.{formula_of, IsReady}
use Rattle.cdcl.specs.Focusing.{IsEquipped, Begins}
use Rattle.cdcl.proofs.SearchedFormulas.{formula-ready}
use Rattle.cdcl.proofs.WaitingLemmas.{holds-still}
use Rattle.cdcl.proofs.SettledSearches.{AreUnits-cube}
use Rattle.cdcl.proofs.Beginnings.{IsBegun, IsBegun-restart}
use Rattle.theory.proofs.searching.MappedVariables.{at-variable, length-mapped}

none-left : (n : ℕ) (K : List Clause) → n ≡ length K → drop n K ≡ []
none-left zero [] e = refl
none-left zero (c ∷ K) e = absurd (omega arith)
none-left (suc n) [] e = refl
none-left (suc n) (c ∷ K) e = none-left n K (omega arith)

pub Begins-focused : (F : Formula) (Q : List Literal) (s t : FocusedSearch) (free : Decisions) → IsEquipped s → IsReady ByPlace F s.kernel → AreWaiting s.kernel.vars [] free → AreKept s.decisions free
    → t.decisions.scores ≡ record free.scores { scores = first_scores free.scores.constants (vars_of free.scores) } → length t.decisions.saved ≡ length free.saved → ((v : ℕ) → IsVariable (length free.saved) v → value t.decisions.saved v ≡ true)
    → t.decisions.held ≡ free.held
    → t.kernel ≡ record s.kernel { clauses = take s.kernel.first s.kernel.clauses; trail = cube_trail Q }
    → IsLawful t.kernel.clauses t.kernel.trail → IsOver t.kernel.vars (literals t.kernel.trail) → All (IsOver t.kernel.vars) t.kernel.clauses
    → t.conflicts ≡ 0 → t.stable_conflicts ≡ 0 → t.decided ≡ 0 → t.lines ≡ [] → t.marks.items ≡ [] → t.averages ≡ first_averages s.averages.constants
    → t.restarted ≡ 0 → t.pace ≡ first_pace s.constants → t.round ≡ first_turn s.constants → t.constants ≡ s.constants → t.analysis ≡ s.analysis
    → Begins F s.constants Q t
Begins-focused F Q s t free e ready waiting kept scores long all flags went lawful over clauses_over counted stable decided lines marks averages restarted pace round constants analysis = record {
  ready = b.ready;
  focusing = record {
    searching = b.searching;
    few = let few = ready.few in let v = b.ready.vars in omega arith;
    equipped = record {
      waiting = record {
        vars = ap (λ (r : Ranking). vars_of r) scores ∙ (length-mapped {X = ℕ} (λ v. 0) (vars_of free.scores) ∙ (waiting.vars ∙ sym vars));
        long = ap (λ (r : Ranking). length r.waiting) scores ∙ (waiting.long ∙ sym vars);
        saved = long ∙ (waiting.saved ∙ sym vars);
        flags = ap (λ (bs : Vec Bool Global). length bs.items) flags ∙ (waiting.flags ∙ sym vars);
        waits = rw (scores, flags) (λ v k h f. waiting.waits v (rw (length-mapped {X = ℕ} (λ v. 0) (vars_of free.scores)) at k) h refl);
      };
      seen = rw (analysis, vars) e.seen;
      levels = rw (analysis, vars) e.levels;
      removing = rw (analysis, vars) e.removing;
      scored = ap (λ (r : Ranking). r.constants) scores ∙ (kept.constants ∙ (e.scored ∙ sym constants));
      averaged = ap (λ (a : Averages). a.constants) averages ∙ (e.averaged ∙ sym constants);
      held = holds-still (formula_of s.kernel) (formula_of t.kernel) s.decisions t.decisions (formula-ready ByPlace F t.kernel b.ready ∙ sym (formula-ready ByPlace F s.kernel ready)) (flags ∙ kept.held) e.held;
    };
    taken = rw averages (omega arith);
    stable = omega (arith, stable);
    decided = omega (arith, decided);
    learnt = let a = ap length b.clauses in let f = b.ready.first in let l = ap length lines in omega arith;
    marks = ap (λ (ms : List Mark). length ms) marks ∙ sym (ap length lines);
    plain = subst (All (IsPlain t.kernel.vars)) (sym (none-left t.kernel.first t.kernel.clauses (b.ready.first ∙ sym (ap length b.clauses)))) (All-nil (IsPlain t.kernel.vars));
  };
  units = rw b.trail (AreUnits-cube t.kernel.clauses Q);
  constants = constants;
  counted = counted;
  saves = λ v k f. all v (subst (λ V. IsVariable V v) (vars ∙ sym waiting.saved) k) ∙ sym (at-variable (λ v. true) F.vars v false (rw b.ready.vars at k));
  begun = rw (b.clauses, b.trail, counted, stable, decided, lines, marks, score, averages, restarted, pace, round) refl;
}
  where
    b : IsBegun ByPlace F Q t.kernel
    b = IsBegun-restart ByPlace F Q s.kernel t.kernel ready went lawful over clauses_over

    vars : t.kernel.vars ≡ s.kernel.vars
    vars = ap (λ (k : State). k.vars) went

    score : t.decisions.scores.scores ≡ first_scores s.constants F.vars
    score = ap (λ (r : Ranking). r.scores) scores ∙ (ap (λ c. first_scores c (vars_of free.scores)) (kept.constants ∙ e.scored) ∙ ap (first_scores s.constants) (waiting.vars ∙ ready.vars))
