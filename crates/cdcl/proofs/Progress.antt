-- A search ends: with each step one more conflict is counted, or the trail is longer.
use Rattle.std.proofs.Common.{◌≡◌, ℕ, ◌+◌, ◌-◌, ◌*◌, ◌<◌, ◌≤◌, Bool, true, false, [], ◌∷◌, ◌++◌, length, length-append, Some, None, refl, sym, subst, nat_eq, eq-eqb, if◌then◌else◌, unwrap_or, arith, All}
use Rattle.std.proofs.lemmas.List.Elements.{All-push}
use Rattle.theory.specs.Literals.{negative}
use Rattle.theory.specs.Truth.{IsOver}
use Rattle.theory.specs.Trails.{Trail, literals, current_level, up_to}
use Rattle.theory.specs.Propagation.{Closed, quiet, conflict, least_false}
use Rattle.theory.specs.Lawful.{IsLawful}
use Rattle.theory.specs.Learning.{learn, back_level}
use Rattle.theory.specs.Search.{Next, ends, goes_on, refuted, exhausted}
use Rattle.theory.specs.Ordered.{OrderedState, after, decided_next}
use Rattle.theory.proofs.searching.SearchSteps.{Answers, after-quiet, after-conflict, conflict_next}
use Rattle.theory.proofs.literals.OverVariables.{AreOver, AreOver-push, AreOver-from_IsOver}
use Rattle.theory.proofs.searching.KeptSearches.{AreOver-up_to}
use Rattle.theory.proofs.literals.LiteralSets.{true_false}
use Rattle.lookahead.proofs.TrailLengths.{length-lawful}
use Rattle.cdcl.proofs.SearchingLemmas.{IsOver-learn}

-- the conflicts and the variables that are left
abbrev pub remaining : ℕ → ℕ → ℕ → Trail → ℕ
remaining V budget conflicts T = (budget - conflicts) * (V + 2) + (V + 1 - length T)

-- what a step does
pub record Progresses (V budget : ℕ) (s t : OrderedState) : Type 0 where
  pub clauses_over : All (IsOver V) t.clauses
  pub trail_over : AreOver V (literals t.trail)
  pub counted : t.conflicts < budget
  pub less : remaining V budget t.conflicts t.trail < remaining V budget s.conflicts s.trail

more_left : (V budget n : ℕ) (x y : ℕ) → n + 1 < budget → x ≤ V + 1 → (budget - (n + 1)) * (V + 2) + x < (budget - n) * (V + 2) + y
more_left V budget n x y h k =
    let left : budget - n ≡ (budget - (n + 1)) + 1 = omega arith in
    rw left (let e = budget - (n + 1) in apart e)
  where
    apart : (e : ℕ) → e * (V + 2) + x < (e + 1) * (V + 2) + y
    apart e = omega arith

after-decision : (V budget : ℕ) (s : OrderedState) (x : ℕ) → IsLawful s.clauses s.trail → All (IsOver V) s.clauses → AreOver V (literals s.trail) → s.conflicts < budget
    → (1 ≤ x) × (x ≤ V) → Progresses V budget s (decided_next s x)
after-decision V budget s x lawful clauses trail counted variable = record {
  clauses_over = clauses;
  trail_over = AreOver-push V s.trail (record { lit = negative x; reason = None; level = current_level s.trail + 1 }) trail variable;
  counted = counted;
  less = let room = length-lawful V s.clauses s.trail lawful trail in
      let one = length-append s.trail (record { lit = negative x; reason = None; level = current_level s.trail + 1 } ∷ []) in
      omega arith;
}

not_last : (V budget n : ℕ) (s t : OrderedState) → after V budget s (conflict n) ≡ goes_on t → nat_eq (s.conflicts + 1) budget ≡ false
not_last V budget n s t e = level (nat_eq (current_level s.trail) 0) e
  where
    stop : Next OrderedState
    stop = ends (refuted (s.lines ++ learn s.clauses s.trail n ∷ []))

    count : (b : Bool) → (if b then ends (exhausted (unwrap_or s.decided 0)) else goes_on (conflict_next s n)) ≡ goes_on t → b ≡ false
    count true q = absurd (cc)
    count false q = refl

    level : (b : Bool) → (if b then ends (refuted (s.lines ++ learn s.clauses s.trail n ∷ [])) else if nat_eq (s.conflicts + 1) budget then ends (exhausted (unwrap_or s.decided 0)) else goes_on (conflict_next s n)) ≡ goes_on t
        → nat_eq (s.conflicts + 1) budget ≡ false
    level true q = absurd (cc)
    level false q = count (nat_eq (s.conflicts + 1) budget) q

after-clash : (V budget : ℕ) (s : OrderedState) (n : ℕ) → IsLawful s.clauses s.trail → All (IsOver V) s.clauses → IsOver V (literals s.trail) → s.conflicts + 1 < budget
    → least_false (literals s.trail) s.clauses ≡ Some n → Progresses V budget s (conflict_next s n)
after-clash V budget s n lawful clauses trail counted clash = record {
  clauses_over = All-push (IsOver V) s.clauses (learn s.clauses s.trail n).clause clauses (IsOver-learn V [] s.clauses s.trail n lawful trail clash);
  trail_over = AreOver-up_to V s.trail (back_level s.trail (learn s.clauses s.trail n).clause) (AreOver-from_IsOver V (literals s.trail) trail);
  counted = counted;
  less = more_left V budget s.conflicts (V + 1 - length (up_to s.trail (back_level s.trail (learn s.clauses s.trail n).clause))) (V + 1 - length s.trail) counted (omega arith);
}

pub after-Progresses : (V budget : ℕ) (s t : OrderedState) (a : Closed) → IsLawful s.clauses s.trail → All (IsOver V) s.clauses → IsOver V (literals s.trail) → s.conflicts < budget
    → Answers a s → after V budget s a ≡ goes_on t → Progresses V budget s t
after-Progresses V budget s t quiet lawful clauses trail counted h e =
    let next = after-quiet V budget s t e in
    subst (Progresses V budget s) (sym next.2) (after-decision V budget s next.0 lawful clauses (AreOver-from_IsOver V (literals s.trail) trail) counted next.1.0)
after-Progresses V budget s t (conflict n) lawful clauses trail counted h e =
    let next = after-conflict V budget n s t e in
    let other : s.conflicts + 1 ≡ budget → ⊥ = λ q. true_false (nat_eq (s.conflicts + 1) budget) (eq-eqb (s.conflicts + 1) budget q) (not_last V budget n s t e) in
    subst (Progresses V budget s) (sym next.1) (after-clash V budget s n lawful clauses trail (omega arith) h)
