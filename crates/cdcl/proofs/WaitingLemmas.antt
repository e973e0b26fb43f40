-- Which variables wait, and which values are saved, as entries are taken off the trail.
use Rattle.std.proofs.Common.{◌≡◌, ℕ, suc, zero, ◌+◌, ◌-◌, ◌<◌, ◌≤◌, Bool, true, false, ◌||◌, List, [], ◌∷◌, length, take, get_or, slice_get, slice_set, refl, ap, sym, subst, ◌∙◌, nat_eq, eqb-true, eq-eqb, Some, None, Option, unwrap_or, option_map, arith, inl, inr, if◌then◌else◌, cond, ◌⊎◌, count_by, All, filter, map, not, ◌&&◌, ◌++◌, ap₂, nat_le}
use Rattle.std.proofs.Math.Seq.{take-length}
use Rattle.std.proofs.lemmas.Bool.{cases_eq}
use Rattle.std.proofs.lemmas.List.Sums.{sum_by-set}
use Rattle.std.proofs.lemmas.List.Elements.{filter-append, All-nil, All-cons, All-head, All-tail, All-push, All-weaker}
use Rattle.theory.proofs.literals.OverVariables.{AreOver-from_IsOver}
use Rattle.std.proofs.lemmas.List.{get_or-set_same, get_or-set_other, length-set}
use Rattle.theory.specs.Literals.{Literal, Clause, IsVariable, has, has_var, positive}
use Rattle.theory.specs.Truth.{Formula, Assignment, IsOver, value}
use Rattle.theory.specs.Held.{is_held, held}
use Rattle.theory.specs.Scores.{Scores, score_of, better, best_of, best_outside}
use Rattle.theory.specs.Trails.{Trail, Entry, literals, entry_of, variables}
use Rattle.theory.specs.Lawful.{IsLawful}
use Rattle.theory.specs.Focused.{saved_after}
use Rattle.theory.proofs.literals.LiteralSets.{true_false, and-true, false_unless, has_var-has, or-none}
use Rattle.theory.proofs.searching.BestVariables.{best_outside-some}
use Rattle.theory.proofs.searching.HeldVariables.{held-variable}
use Rattle.theory.proofs.searching.MappedVariables.{at-variable}
use Rattle.heuristics.specs.Rankings.{Ranking, vars_of, waits, with_waiting, best_waiting}
use Rattle.cdcl.specs.Saving.{AgreeOutside, AreWaiting, HoldsAsIn}
use Rattle.cdcl.specs.declared.search.decisions.Decisions.{Decisions}
use Rattle.cdcl.proofs.PlaceLemmas.{placed-there, placed-is, place-below, entry_of-placed}
use Rattle.cdcl.proofs.TrailFronts.{has_var-last}
use Rattle.cdcl.proofs.TrailValues.{has-value}

-- the values saved at a conflict
pub value-saved : (V : ℕ) (T : Trail) (M : Assignment) (v : ℕ) → IsVariable V v → value (saved_after V T M) v ≡ (if has_var (literals T) v then has (literals T) (positive v) else value M v)
value-saved V T M v h = at-variable (λ v. if has_var (literals T) v then has (literals T) (positive v) else value M v) V v false h

pub value-saved_free : (V : ℕ) (T : Trail) (M : Assignment) (v : ℕ) → IsVariable V v → has_var (literals T) v ≡ false → value (saved_after V T M) v ≡ value M v
value-saved_free V T M v h free = value-saved V T M v h ∙ ap (λ b. if b then has (literals T) (positive v) else value M v) free

pub value-saved_there : (V : ℕ) (T : Trail) (M : Assignment) (v : ℕ) → IsVariable V v → has_var (literals T) v ≡ true → value (saved_after V T M) v ≡ has (literals T) (positive v)
value-saved_there V T M v h there = value-saved V T M v h ∙ ap (λ b. if b then has (literals T) (positive v) else value M v) there

-- values that agree for the free variables are saved as the same ones
pub saved-agree : (V : ℕ) (T : Trail) (M N : Assignment) (v : ℕ) → AgreeOutside V (literals T) M N → IsVariable V v → value (saved_after V T M) v ≡ value (saved_after V T N) v
saved-agree V T M N v agree h = go (has_var (literals T) v) refl
  where
    go : (b : Bool) → has_var (literals T) v ≡ b → value (saved_after V T M) v ≡ value (saved_after V T N) v
    go true e = value-saved_there V T M v h e ∙ sym (value-saved_there V T N v h e)
    go false e = value-saved_free V T M v h e ∙ (agree v h e ∙ sym (value-saved_free V T N v h e))

pub AgreeOutside-saved : (V : ℕ) (T : Trail) (P : List Literal) (S M N : Assignment) → AgreeOutside V (literals T) M N → AgreeOutside V P S (saved_after V T M) → AgreeOutside V P S (saved_after V T N)
AgreeOutside-saved V T P S M N agree h v variable free = h v variable free ∙ saved-agree V T M N v agree variable

-- one that waits or doesn't
pub waits-same : (r : Ranking) (v : ℕ) (b : Bool) → v - 1 < length r.waiting → waits (with_waiting r v b) v ≡ b
waits-same r v b inside = get_or-set_same r.waiting (v - 1) b false inside

pub waits-other : (r : Ranking) (v w : ℕ) (b : Bool) → 1 ≤ v → 1 ≤ w → (w ≡ v → ⊥) → waits (with_waiting r v b) w ≡ waits r w
waits-other r v w b one two other = get_or-set_other r.waiting (v - 1) (w - 1) b false (λ e. other (omega (arith, e)))

-- one that isn't held, or isn't free, may be taken out
pub AreWaiting-out : (V : ℕ) (P : List Literal) (d e : Decisions) (x : ℕ) → AreWaiting V P d → IsVariable V x → (value d.held.items x && not (has_var P x)) ≡ false → e.scores ≡ with_waiting d.scores x false → e.saved ≡ d.saved
    → e.held ≡ d.held → AreWaiting V P e
AreWaiting-out V P d e x h variable other out saved same = record {
  vars = rw out h.vars;
  long = rw out (length-set d.scores.waiting (x - 1) false ∙ h.long);
  saved = rw saved h.saved;
  flags = rw same h.flags;
  waits = λ v k t free. rw out (waits-other d.scores x v false variable.0 k.0 (kept v (rw same at t) free) ∙ h.waits v (rw out at k) (rw same at t) free);
}
  where
    kept : (v : ℕ) → value d.held.items v ≡ true → has_var P v ≡ false → v ≡ x → ⊥
    kept v t free q = true_false (value d.held.items x && not (has_var P x))
        (and-true (value d.held.items x) (not (has_var P x)) (ap (value d.held.items) (sym q) ∙ t) (ap not (ap (has_var P) (sym q) ∙ free))) other

-- the variable of the last entry waits, and its value is saved
pub AreWaiting-free : (V : ℕ) (T : Trail) (n : ℕ) (d e : Decisions) (f : Entry) → n < length T → f ≡ get_or T n f → IsVariable V f.lit.var → AreWaiting V (literals (take (n + 1) T)) d
    → e.scores ≡ with_waiting d.scores f.lit.var true → length e.saved ≡ length d.saved → e.held ≡ d.held → AreWaiting V (literals (take n T)) e
AreWaiting-free V T n d e f inside is variable h put saved same = record {
  vars = rw put h.vars;
  long = rw put (length-set d.scores.waiting (f.lit.var - 1) true ∙ h.long);
  saved = saved ∙ h.saved;
  flags = rw same h.flags;
  waits = λ v k t free. rw put (waiting v (rw put at k) (rw same at t) free (cases_eq v f.lit.var));
}
  where
    waiting : (v : ℕ) → IsVariable (vars_of d.scores) v → value d.held.items v ≡ true → has_var (literals (take n T)) v ≡ false → (v ≡ f.lit.var) ⊎ (v ≡ f.lit.var → ⊥) → waits (with_waiting d.scores f.lit.var true) v ≡ true
    waiting v k t free (inl e) =
        let long = h.long in
        let low = variable.0 in
        let high = variable.1 in
        ap (waits (with_waiting d.scores f.lit.var true)) e ∙ waits-same d.scores f.lit.var true (omega (arith, long, low, high))
    waiting v k t free (inr other) =
        waits-other d.scores f.lit.var v true variable.0 k.0 other
        ∙ h.waits v k t (has_var-last T n v f inside ∙ or-none (has_var (literals (take n T)) v) (nat_eq v (get_or T n f).lit.var) free
        (false_unless (nat_eq v (get_or T n f).lit.var) (λ u. other (eqb-true v (get_or T n f).lit.var u ∙ ap (λ (x : Entry). x.lit.var) (sym is)))))

pub AgreeOutside-free : (V : ℕ) (K : List Clause) (T : Trail) (n : ℕ) (S R M : Assignment) (f : Entry) → IsLawful K T → n < length T → f ≡ get_or T n f → IsVariable V f.lit.var → length S ≡ V
    → R ≡ slice_set S (f.lit.var - 1) f.lit.positive → AgreeOutside V (literals (take (n + 1) T)) S (saved_after V T M) → AgreeOutside V (literals (take n T)) R (saved_after V T M)
AgreeOutside-free V K T n S R M f lawful inside is variable long set h v k free = ap (λ (X : Assignment). value X v) set ∙ go (cases_eq v f.lit.var)
  where
    at : slice_get T n ≡ Some f
    at = let there = placed-there T n inside in there.1 ∙ ap Some (placed-is T n there.0 f there.1 ∙ sym is)

    go : (v ≡ f.lit.var) ⊎ (v ≡ f.lit.var → ⊥) → value (slice_set S (f.lit.var - 1) f.lit.positive) v ≡ value (saved_after V T M) v
    go (inl same) =
        let low = variable.0 in
        let high = variable.1 in
        let written : value (slice_set S (f.lit.var - 1) f.lit.positive) f.lit.var ≡ f.lit.positive = get_or-set_same S (f.lit.var - 1) f.lit.positive false (omega (arith, long, low, high)) in
        let there : has_var (literals T) f.lit.var ≡ true = has_var-has (literals T) f.lit (subst (λ (U : Trail). has (literals U) f.lit ≡ true) (take-length T) (place-below T n (length T) f at inside)) in
        let read : has (literals T) (positive f.lit.var) ≡ f.lit.positive = has-value K T f.lit.var lawful ∙ ap (λ o. unwrap_or (option_map (λ (e : Entry). e.lit.positive) o) false) (entry_of-placed K T n f lawful at) in
        ap (value (slice_set S (f.lit.var - 1) f.lit.positive)) same ∙ written ∙ sym (ap (value (saved_after V T M)) same ∙ (value-saved_there V T M f.lit.var variable there ∙ read))
    go (inr other) =
        get_or-set_other S (f.lit.var - 1) (v - 1) f.lit.positive false (λ e. let low = variable.0 in let one = k.0 in other (omega (arith, e, low, one)))
        ∙ h v k (has_var-last T n v f inside ∙ or-none (has_var (literals (take n T)) v) (nat_eq v (get_or T n f).lit.var) free
        (false_unless (nat_eq v (get_or T n f).lit.var) (λ t. other (eqb-true v (get_or T n f).lit.var t ∙ ap (λ (x : Entry). x.lit.var) (sym is)))))

-- whether a variable is free, by its value
pub free-none : (T : Trail) (v : ℕ) → option_map (λ (e : Entry). e.lit.positive) (entry_of T v) ≡ None → has_var (literals T) v ≡ false
free-none [] v h = refl
free-none (e ∷ T) v h = go (nat_eq e.lit.var v) refl h (free-none T v)
  where
    go : (b : Bool) → nat_eq e.lit.var v ≡ b → option_map (λ (e : Entry). e.lit.positive) (cond b (Some e) (entry_of T v)) ≡ None
        → (option_map (λ (e : Entry). e.lit.positive) (entry_of T v) ≡ None → has_var (literals T) v ≡ false) → (nat_eq v e.lit.var || has_var (literals T) v) ≡ false
    go true q h more = absurd (cc)
    go false q h more = or-none (nat_eq v e.lit.var) (has_var (literals T) v) (false_unless (nat_eq v e.lit.var) (λ t. true_false (nat_eq e.lit.var v) (eq-eqb e.lit.var v (sym (eqb-true v e.lit.var t))) q)) (more h)

-- fewer wait when one is taken out
pub fewer-wait : (r : Ranking) (x : ℕ) → x - 1 < length r.waiting → waits r x ≡ true → count_by (λ b. b) (with_waiting r x false).waiting < count_by (λ b. b) r.waiting
fewer-wait r x inside there =
    let one : ◌≡◌ {A = ℕ} (cond (get_or r.waiting (x - 1) false) 1 0) 1 = ap (λ b. cond b 1 0) there in
    let sum = sum_by-set (λ b. cond b 1 0) r.waiting (x - 1) false false inside in
    omega (arith, one, sum)

-- the best one that waits is a variable that waits
best-in : (P : ℕ → Type 0) (s : Scores) (vs : List ℕ) (x : ℕ) → All P vs → best_of s vs ≡ Some x → P x
best-in P s [] x all h = absurd (cc)
best-in P s (v ∷ vs) x all h = go (best_of s vs) refl h (best-in P s vs x (All-tail P v vs all))
  where
    head : v ≡ x → P x
    head e = subst P e (All-head P v vs all)

    pick : (w : ℕ) (b : Bool) → best_of s vs ≡ Some w → (if b then Some w else Some v) ≡ Some x → (best_of s vs ≡ Some x → P x) → P x
    pick w true e q more = more (e ∙ q)
    pick w false e q more = head (cc)

    go : (o : Option ℕ) → best_of s vs ≡ o → better s v o ≡ Some x → (best_of s vs ≡ Some x → P x) → P x
    go None e q more = head (cc)
    go (Some w) e q more = pick w (nat_le (score_of s v) (score_of s w)) e q more

All-passing : (P : ℕ → Type 0) (p : ℕ → Bool) (vs : List ℕ) → All P vs → All (λ v. P v × (p v ≡ true)) (filter p vs)
All-passing P p [] all = All-nil (λ v. P v × (p v ≡ true))
All-passing P p (v ∷ vs) all = go (p v) refl (All-passing P p vs (All-tail P v vs all))
  where
    go : (b : Bool) → p v ≡ b → All (λ v. P v × (p v ≡ true)) (filter p vs) → All (λ v. P v × (p v ≡ true)) (cond b (v ∷ filter p vs) (filter p vs))
    go true e more = All-cons (λ v. P v × (p v ≡ true)) v (filter p vs) (All-head P v vs all, e) more
    go false e more = more

All-variables : (V : ℕ) → All (IsVariable V) (variables V)
All-variables zero = All-nil (IsVariable 0)
All-variables (suc V) = All-push (IsVariable (suc V)) (variables V) (suc V) (All-weaker (IsVariable V) (IsVariable (suc V)) (λ v h. (h.0, let high = h.1 in omega arith)) (variables V) (All-variables V)) (omega arith, omega arith)

pub best-waits : (r : Ranking) (x : ℕ) → best_waiting r ≡ Some x → IsVariable (vars_of r) x × (waits r x ≡ true)
best-waits r x e =
    best-in (λ v. IsVariable (vars_of r) v × (waits r v ≡ true)) r.scores (filter (waits r) (variables (vars_of r))) x
    (All-passing (IsVariable (vars_of r)) (waits r) (variables (vars_of r)) (All-variables (vars_of r))) e

-- the flags choose the variables that are held
pub filter-variables : (p q : ℕ → Bool) (V : ℕ) → ((v : ℕ) → IsVariable V v → p v ≡ q v) → filter p (variables V) ≡ filter q (variables V)
filter-variables p q zero h = refl
filter-variables p q (suc V) h =
    filter-append p (variables V) (suc V ∷ [])
    ∙ (ap₂ (λ (xs : List ℕ) b. xs ++ cond b (suc V ∷ []) []) (filter-variables p q V (λ v k. h v (k.0, let high = k.1 in omega arith))) (h (suc V) (omega arith, omega arith))
    ∙ sym (filter-append q (variables V) (suc V ∷ [])))

pub chosen-held : (F : Formula) (flags : List Bool) → HoldsAsIn F flags → filter (value flags) (variables F.vars) ≡ held F
chosen-held F flags h = filter-variables (value flags) (is_held F.clauses) F.vars (λ v k. ap (λ (xs : List Bool). value xs v) h ∙ at-variable (is_held F.clauses) F.vars v false k)

-- they are so still for the same formula
pub holds-still : (F G : Formula) (d e : Decisions) → G ≡ F → e.held ≡ d.held → HoldsAsIn F d.held.items → HoldsAsIn G e.held.items
holds-still F G d e same held h = ap (λ x. x.items) held ∙ (h ∙ ap (λ (X : Formula). map (is_held X.clauses) (variables X.vars)) (sym same))

-- the best one of those that are held is a variable that is free
pub best-held : (F : Formula) (P : List Literal) (s : Scores) (x : ℕ) → best_outside (held F) P s ≡ Some x → IsVariable F.vars x × (has_var P x ≡ false)
best-held F P s x e = let h = best_outside-some (held F) P s x e in (held-variable F x h.0, h.1)

-- the variable of an entry
pub entry-variable : (V : ℕ) (T : Trail) (n : ℕ) (e : Entry) → IsOver V (literals T) → n < length T → e ≡ get_or T n e → IsVariable V e.lit.var
entry-variable V T n e over inside is =
    let there = placed-there T n inside in
    let at : there.0 ≡ e = placed-is T n there.0 e there.1 ∙ sym is in
    AreOver-from_IsOver V (literals T) over e.lit (subst (λ (U : Trail). has (literals U) e.lit ≡ true) (take-length T) (place-below T n (length T) e (there.1 ∙ ap Some at) inside))
