-- The focused search exhausts a cube in a variable of the formula that the cube doesn't have.
use Rattle.std.proofs.Common.{◌≡◌, ℕ, ◌+◌, ◌≤◌, Bool, true, false, not, List, [], ◌∷◌, ◌++◌, filter, refl, ap, sym, subst, ◌∙◌, nat_eq, nat_le, eqb-true, le-leb, cond, Option, Some, None, is_some, arith, unwrap_or}
use Rattle.theory.specs.Literals.{Literal, Clause, has_var, IsVariable}
use Rattle.theory.specs.Truth.{Formula}
use Rattle.theory.specs.Plans.{Constants}
use Rattle.theory.specs.Trails.{Entry, Trail, literals, current_level, is_given, decide, up_to}
use Rattle.theory.specs.Held.{held}
use Rattle.theory.specs.Propagation.{Closed, Propagates, Rule, by_place}
use Rattle.theory.specs.Lawful.{cube_of}
use Rattle.theory.specs.Learning.{Line}
use Rattle.theory.specs.Units.{with_reason}
use Rattle.theory.specs.Search.{exhausted}
use Rattle.theory.specs.Focused.{RunsFocused}
use Rattle.theory.proofs.literals.LiteralLemmas.{and-left}
use Rattle.theory.proofs.literals.LiteralSets.{or-none, or-false_left, or-false_right}
use Rattle.theory.proofs.trails.LawfulTrails.{current_level-Propagates}
use Rattle.theory.proofs.trails.TrailLevels.{up_to-up_to, up_to-push}
use Rattle.theory.proofs.trails.TrailEntries.{cube_of-decide, cube_of-Propagates, cube_of-up_to, cube_of-cube_trail}
use Rattle.theory.proofs.searching.OpenTrails.{current_level-cube_trail, up_to-Propagates}
use Rattle.theory.proofs.searching.BestVariables.{best_outside-some, best_outside-there}
use Rattle.theory.proofs.searching.KeptUnits.{cube_of-with_reason, current_level-replaced}
use Rattle.theory.proofs.searching.Invariants.{IsAmong, IsInvariant}
use Rattle.theory.proofs.searching.HeldVariables.{held-variable}
use Rattle.theory.proofs.searching.FocusedRuns.{RunsFocused-ends}

-- the trail has the cube, and where it is above level 0, one of these variables isn't at level 0
record LeavesFree (vs : List ℕ) (Q : List Literal) (C : List Clause) (T : Trail) (lines : List Line) : Type 0 where
  cube : cube_of T ≡ Q
  free : 1 ≤ current_level T → (v : ℕ) × IsAmong vs v × (has_var (literals (up_to T 0)) v ≡ false)

-- what is free is free after going back
free-up_to : (T : Trail) (b v : ℕ) → has_var (literals T) v ≡ false → has_var (literals (up_to T b)) v ≡ false
free-up_to [] b v h = h
free-up_to (e ∷ T) b v h = go (nat_le e.level b) (free-up_to T b v (or-false_right _ (has_var (literals T) v) h))
  where
    go : (c : Bool) → has_var (literals (up_to T b)) v ≡ false → has_var (literals (cond c (e ∷ up_to T b) (up_to T b))) v ≡ false
    go true more = or-none _ (has_var (literals (up_to T b)) v) (or-false_left _ (has_var (literals T) v) h) more
    go false more = more

LeavesFree-Propagates : (rule : Rule) (vs : List ℕ) (Q : List Literal) (C : List Clause) (T U : Trail) (lines : List Line) (a : Closed) → Propagates rule C T a U → LeavesFree vs Q C T lines → LeavesFree vs Q C U lines
LeavesFree-Propagates rule vs Q C T U lines a h i = record {
  cube = cube_of-Propagates rule C T U a h ∙ i.cube;
  free = λ above.
      let level = current_level-Propagates rule C T U a h in
      let before : 1 ≤ current_level T = omega (arith, level, above) in
      subst (λ (x : Trail). (v : ℕ) × IsAmong vs v × (has_var (literals x) v ≡ false)) (sym (up_to-Propagates rule C T U a 0 h (omega (arith, before)))) (i.free before);
}

LeavesFree-decide : (vs : List ℕ) (Q : List Literal) (C : List Clause) (T : Trail) (lines : List Line) (l : Literal) → IsAmong vs l.var → has_var (literals T) l.var ≡ false
    → LeavesFree vs Q C T lines → LeavesFree vs Q C (decide T l) lines
LeavesFree-decide vs Q C T lines l variable free i = record {
  cube = cube_of-decide T l ∙ i.cube;
  free = λ above. (
    l.var,
    variable,
    subst (λ (x : Trail). has_var (literals x) l.var ≡ false) (sym (up_to-push T (record { lit = l; reason = None; level = current_level T + 1 }) 0 (omega arith))) (free-up_to T 0 l.var free),
  );
}

LeavesFree-up_to : (vs : List ℕ) (Q : List Literal) (C D : List Clause) (T : Trail) (lines more : List Line) (level : ℕ) → 1 ≤ current_level T → LeavesFree vs Q C T lines → LeavesFree vs Q D (up_to T level) more
LeavesFree-up_to vs Q C D T lines more level above i = record {
  cube = cube_of-up_to T level ∙ i.cube;
  free = λ still. subst (λ (x : Trail). (v : ℕ) × IsAmong vs v × (has_var (literals x) v ≡ false)) (sym (up_to-up_to T level 0 (omega arith))) (i.free above);
}

LeavesFree-unit : (vs : List ℕ) (Q : List Literal) (C D : List Clause) (before : Trail) (e : Entry) (es : Trail) (lines more : List Line) (n m : ℕ) → current_level (before ++ e ∷ es) ≡ 0 → e.reason ≡ Some n
    → LeavesFree vs Q C (before ++ e ∷ es) lines → LeavesFree vs Q D (before ++ with_reason e m ∷ es) more
LeavesFree-unit vs Q C D before e es lines more n m level reason i = record {
  cube = cube_of-with_reason before e es n m reason ∙ i.cube;
  free = λ above. let same = current_level-replaced before e (with_reason e m) es refl in absurd (omega (arith, above, same, level));
}

IsInvariant-LeavesFree : (rule : Rule) (vs : List ℕ) (Q : List Literal) → IsInvariant ⊥ rule vs (LeavesFree vs Q)
IsInvariant-LeavesFree rule vs Q = record {
  propagated = λ C T U lines a h i. LeavesFree-Propagates rule vs Q C T U lines a h i;
  unit = λ C before e es lines n level reason units i. LeavesFree-unit vs Q C _ before e es lines _ n _ level reason i;
  decided = λ C T lines l calm v free i. LeavesFree-decide vs Q C T lines l v free i;
  learnt = λ R C T lines n ns level h above low own unused i. LeavesFree-up_to vs Q C _ T lines _ level above i;
}

-- the cube stands at level 0
has_var-cube_of : (T : Trail) (v : ℕ) → has_var (literals (up_to T 0)) v ≡ false → has_var (cube_of T) v ≡ false
has_var-cube_of [] v h = refl
has_var-cube_of (e ∷ T) v h = go (nat_eq e.level 0) refl (is_given (Some e)) refl h (has_var-cube_of T v)
  where
    go : (x : Bool) → nat_eq e.level 0 ≡ x → (y : Bool) → is_given (Some e) ≡ y → has_var (literals (up_to (e ∷ T) 0)) v ≡ false → (has_var (literals (up_to T 0)) v ≡ false → has_var (cube_of T) v ≡ false)
        → has_var (literals (cond y (e ∷ filter (λ f. is_given (Some f)) T) (filter (λ f. is_given (Some f)) T))) v ≡ false
    go x p true q k more =
        let zeroth : e.level ≡ 0 = eqb-true e.level 0 (and-left (nat_eq e.level 0) (not (is_some e.reason)) q) in
        let here : nat_le e.level 0 ≡ true = le-leb e.level 0 (omega (arith, zeroth)) in
        let both : has_var (e.lit ∷ literals (up_to T 0)) v ≡ false = subst (λ b. has_var (literals (cond b (e ∷ up_to T 0) (up_to T 0))) v ≡ false) here k in
        or-none (nat_eq v e.lit.var) (has_var (cube_of T) v) (or-false_left (nat_eq v e.lit.var) (has_var (literals (up_to T 0)) v) both) (more (or-false_right (nat_eq v e.lit.var) (has_var (literals (up_to T 0)) v) both))
    go x p false q k more = more (rest (nat_le e.level 0) k)
      where
        rest : (b : Bool) → has_var (literals (cond b (e ∷ up_to T 0) (up_to T 0))) v ≡ false → has_var (literals (up_to T 0)) v ≡ false
        rest true j = or-false_right (nat_eq v e.lit.var) (has_var (literals (up_to T 0)) v) j
        rest false j = j

-- A cube is exhausted in a held variable of the formula that it doesn't have.
pub RunsFocused-splits : (c : Constants) (F : Formula) (B : ℕ) (Q : List Literal) (x : ℕ) → RunsFocused c F B Q (exhausted x) → IsAmong (held F) x × (has_var Q x ≡ false)
RunsFocused-splits c F B Q x runs =
    let e = RunsFocused-ends c F B Q (exhausted x) ⊥ (LeavesFree (held F) Q) (IsInvariant-LeavesFree by_place (held F) Q) (λ h. absurd h) (record {
      cube = cube_of-cube_trail Q;
      free = λ above. let level = current_level-cube_trail Q in absurd (omega (arith, level, above));
    }) runs in
    let T = e.0.trail in
    let i = e.0.keeps in
    let free = i.free e.1 in
    let best = best_outside-there (held F) (literals (up_to T 0)) e.2 free.0 free.1 free.2 in
    let at = best_outside-some (held F) (literals (up_to T 0)) e.2 best.0 best.1 in
    let it : x ≡ best.0 = e.3 ∙ ap (λ (o : Option ℕ). unwrap_or o 0) best.1 in
    subst (λ y. IsAmong (held F) y × (has_var Q y ≡ false)) (sym it) (at.0, subst (λ (P : List Literal). has_var P best.0 ≡ false) i.cube (has_var-cube_of T best.0 at.1))

pub RunsFocused-exhausted : (c : Constants) (F : Formula) (B : ℕ) (Q : List Literal) (x : ℕ) → RunsFocused c F B Q (exhausted x) → IsVariable F.vars x × (has_var Q x ≡ false)
RunsFocused-exhausted c F B Q x runs = let at = RunsFocused-splits c F B Q x runs in (held-variable F x at.0, at.1)
