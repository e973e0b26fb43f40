-- The best one that waits is the best one of those that are chosen from, where each of them that is
-- free waits.
use Rattle.std.proofs.Common.{◌≡◌, ℕ, ◌≤◌, List, filter, Bool, true, false, not, ◌&&◌, refl, ap, subst, ◌∙◌, Some, None}
use Rattle.theory.specs.Literals.{Literal, has_var}
use Rattle.theory.specs.Trails.{variables}
use Rattle.theory.specs.Scores.{best_of, best_outside}
use Rattle.theory.proofs.literals.LiteralSets.{true_false, and-true}
use Rattle.theory.proofs.literals.LiteralLemmas.{not_true, and-left, and-right}
use Rattle.theory.proofs.searching.BestOnes.{IsTop, AreNone, IsAnswer, best_of-is, best_of-top, best_of-nobody, filter-both}
use Rattle.heuristics.specs.Rankings.{Ranking, vars_of, waits, best_waiting, AllWait}

-- where all that pass and are outside P wait, the best one that waits is the best one of these, if it
-- is one
pub best_outside-waiting : (r : Ranking) (p : ℕ → Bool) (P : List Literal) (x : ℕ) → AllWait r p P → best_waiting r ≡ Some x → p x ≡ true → has_var P x ≡ false
    → best_outside (filter p (variables (vars_of r))) P r.scores ≡ Some x
best_outside-waiting r p P x all best held free =
    let top : IsTop r.scores (waits r) (vars_of r) x = subst (IsAnswer r.scores (waits r) (vars_of r)) best (best_of-is r.scores (waits r) (vars_of r)) in
    ap (best_of r.scores) (filter-both (λ v. not (has_var P v)) p (variables (vars_of r)))
    ∙ best_of-top r.scores (λ v. p v && not (has_var P v)) (vars_of r) x (record {
      low = top.low;
      high = top.high;
      passes = and-true (p x) (not (has_var P x)) held (ap not free);
      above = λ v l u t. top.above v l u (all v (l, u) (and-left (p v) (not (has_var P v)) t) (not_true (has_var P v) (and-right (p v) (not (has_var P v)) t)));
    })

pub best_outside-nobody : (r : Ranking) (p : ℕ → Bool) (P : List Literal) → AllWait r p P → best_waiting r ≡ None → best_outside (filter p (variables (vars_of r))) P r.scores ≡ None
best_outside-nobody r p P all best =
    let none : AreNone (waits r) (vars_of r) = subst (IsAnswer r.scores (waits r) (vars_of r)) best (best_of-is r.scores (waits r) (vars_of r)) in
    ap (best_of r.scores) (filter-both (λ v. not (has_var P v)) p (variables (vars_of r)))
    ∙ best_of-nobody r.scores (λ v. p v && not (has_var P v)) (vars_of r) (λ v l u. go v l u (p v) (has_var P v) refl refl none)
  where
    go : (v : ℕ) → 1 ≤ v → v ≤ vars_of r → (a b : Bool) → p v ≡ a → has_var P v ≡ b → AreNone (waits r) (vars_of r) → (a && not b) ≡ false
    go v l u false b d e none = refl
    go v l u true true d e none = refl
    go v l u true false d e none = true_false (waits r v) (all v (l, u) d e) (none v l u)
