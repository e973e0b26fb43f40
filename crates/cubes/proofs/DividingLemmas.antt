-- A look at a cube, and what the first search says of a formula's division.
use Rattle.std.proofs.Common.{◌≡◌, ◌≢◌, true, Bool, not, nat_eq, None, cond, find, eq-eqb, min, take, ℕ, ◌+◌, ◌*◌, ◌^◌, ◌<◌, ◌≤◌, false, nat_lt, le-ltb, List, [], ◌∷◌, Option, Some, IfSome, filter, refl, ap, ap₂, sym, subst, ◌∙◌, arith}
use Rattle.std.proofs.Math.Pow.{pow_mono}
use Rattle.std.specs.List.{list_any}
use Rattle.theory.specs.Literals.{Clause, IsVariable, has_var}
use Rattle.theory.specs.Truth.{Formula}
use Rattle.theory.specs.Plans.{Constants, focused, Plan}
use Rattle.theory.specs.Trails.{Trail, literals, variables}
use Rattle.theory.specs.Held.{is_held, held, least_held}
use Rattle.theory.specs.Propagation.{Closed, by_place}
use Rattle.theory.specs.Search.{Outcome, model, exhausted, values, Next, ends, goes_on, max_focused}
use Rattle.theory.proofs.literals.OverVariables.{AreOver-from_IsOver}
use Rattle.lookahead.proofs.TrailLengths.{length-lawful}
use Rattle.theory.specs.Focused.{FocusedState, if_stable, begin, settled, after, splits_on, IsFocusedStep}
use Rattle.theory.specs.Looking.{Chooses, no_choice, best_ones, max_candidates, ranks, SplitsInto}
use Rattle.theory.specs.Dividing.{LeadsTo, stays, moves, HasFewDecisions, first_conflicts, IsDivisible}
use Rattle.theory.proofs.literals.LiteralLemmas.{or-left, or-right, not_true}
use Rattle.theory.proofs.literals.LiteralSets.{true_false}
use Rattle.theory.proofs.searching.HeldVariables.{held-variable, held-is, held-has}
use Rattle.theory.proofs.searching.BestVariables.{none-among}
use Rattle.theory.proofs.searching.PropagationLemmas.{Propagates-unique}
use Rattle.kernel.specs.declared.order.Order.TheVariants.{ByPlace}
use Rattle.lookahead.specs.declared.ranking.Ranked.{Ranked}
use Rattle.lookahead.specs.Rankings.{IsRanking}
use Rattle.cubes.specs.declared.division.dividing.Division.{Division}
use Rattle.cubes.specs.declared.division.dividing.Division.TheVariants.{Unasked, Whole, Divided}
use Rattle.cubes.specs.declared.division.dividing.First.{First}
use Rattle.cubes.specs.declared.division.dividing.First.TheVariants.{Ended, FewDecisions, ManyDecisions}
use Rattle.cdcl.specs.declared.search.focused.FocusedSearch.{FocusedSearch}
use Rattle.cdcl.specs.Outcome.{outcome_of}
use Rattle.cdcl.specs.Searching.{IsReady}
use Rattle.cdcl.specs.Focusing.{state_of, stable_at, RunsTo, Reaches, IsSpent, IsKept}
use Rattle.cubes.specs.declared.division.dividing.DividingSearch.{DividingSearch}
use Rattle.cubes.specs.Division.{IsKnown, IsDivisionOf, FirstSays, IsDividing}

-- by more literals than the number wanted needs, no cube is looked at
pub never-upper : (d divide : ℕ) → divide ≤ 65536 → 17 ≤ d → false ≡ nat_lt (2 ^ d) divide
never-upper d divide few many = let more = pow_mono {i = 17} {j = d} many in sym (le-ltb (2 ^ d) divide (omega (arith, more, few)))

-- what is found passes, and is one of the list
found : (p : ℕ → Bool) (vs : List ℕ) (v : ℕ) → find p vs ≡ Some v → (list_any (nat_eq v) vs ≡ true) × (p v ≡ true)
found p [] v e = absurd (cc)
found p (w ∷ vs) v e = go (p w) refl e (found p vs v)
  where
    go : (b : Bool) → p w ≡ b → cond b (Some w) (find p vs) ≡ Some v → (find p vs ≡ Some v → (list_any (nat_eq v) vs ≡ true) × (p v ≡ true)) → (list_any (nat_eq v) (w ∷ vs) ≡ true) × (p v ≡ true)
    go true t q more = let same : w ≡ v = cc in (or-left (nat_eq v w) (list_any (nat_eq v) vs) (eq-eqb v w (sym same)), ap p (sym same) ∙ t)
    go false t q more = let m = more q in (or-right (nat_eq v w) (list_any (nat_eq v) vs) m.0, m.1)

not-no : (b : Bool) → not b ≡ false → b ≡ true
not-no true h = refl
not-no false h = absurd (cc)

all-there : (F : Formula) (T : Trail) (v : ℕ) → least_held F T ≡ None → IsVariable F.vars v → is_held F.clauses v ≡ true → has_var (literals T) v ≡ true
all-there F T v none k h = not-no (has_var (literals T) v) (none-among (λ w. not (has_var (literals T) w)) (held F) v none (held-has F v k h))

-- where no variable that is held is free, the trail's values are what a look comes to
pub splits-none : (F : Formula) (T : Trail) (o : Outcome) → ((v : ℕ) → IsVariable F.vars v → is_held F.clauses v ≡ true → has_var (literals T) v ≡ true) → o ≡ model (values F.vars T) → SplitsInto F T (least_held F T) o
splits-none F T o all is = go (least_held F T) refl
  where
    go : (w : Option ℕ) → least_held F T ≡ w → SplitsInto F T w o
    go None e = is
    go (Some v) e =
        let it = found (λ w. not (has_var (literals T) w)) (held F) v e in
        true_false (has_var (literals T) v) (all v (held-variable F v it.0) (held-is F v it.0)) (not_true (has_var (literals T) v) it.1)

-- else the variable that is chosen
pub splits-some : (F : Formula) (T : Trail) (x : ℕ) (o : Outcome) → ¬ ((v : ℕ) → IsVariable F.vars v → is_held F.clauses v ≡ true → has_var (literals T) v ≡ true) → o ≡ exhausted x
    → Chooses F.clauses T no_choice (best_ones max_candidates (held F) (ranks F.vars F.clauses) (literals T)) x → SplitsInto F T (least_held F T) o
splits-some F T x o some is chosen = go (least_held F T) refl
  where
    go : (w : Option ℕ) → least_held F T ≡ w → SplitsInto F T w o
    go None e = absurd (some (λ v k h. all-there F T v e k h))
    go (Some v) e = (x, is, chosen)

pub chosen-some : (F : Formula) (V : ℕ) (K : List Clause) (T : Trail) (found : Option ℕ) (x : ℕ) → found ≡ Some x → V ≡ F.vars → K ≡ F.clauses
    → IfSome found (Chooses K T no_choice (best_ones max_candidates (filter (is_held K) (variables V)) (ranks V K) (literals T)))
    → Chooses F.clauses T no_choice (best_ones max_candidates (held F) (ranks F.vars F.clauses) (literals T)) x
chosen-some F V K T found x is vars clauses h =
    subst (λ (L : List Clause). Chooses L T no_choice (best_ones max_candidates (filter (is_held L) (variables F.vars)) (ranks F.vars L) (literals T)) x) clauses
    (subst (λ (W : ℕ). Chooses K T no_choice (best_ones max_candidates (filter (is_held K) (variables W)) (ranks W K) (literals T)) x) vars
    (subst (λ (o : Option ℕ). IfSome o (Chooses K T no_choice (best_ones max_candidates (filter (is_held K) (variables V)) (ranks V K) (literals T)))) is h))

-- steps to an end, of which each state has one, have one end
ends-unique : {State : Type 0} (IsStep : State → Next State → Type 0) → ((s : State) (m n : Next State) → IsStep s m → IsStep s n → m ≡ n)
    → (s u v : State) (o p : Outcome) → LeadsTo IsStep s u → IsStep u (ends o) → LeadsTo IsStep s v → IsStep v (ends p) → (u ≡ v) × (o ≡ p)
ends-unique IsStep one s u v o p stays h stays k = (refl, let n = one s (ends o) (ends p) h k in cc)
ends-unique IsStep one s u v o p stays h (moves {t = w} k more) last = absurd (let n = one s (ends o) (goes_on w) h k in cc)
ends-unique IsStep one s u v o p (moves {t = w} h more) last stays k = absurd (let n = one s (goes_on w) (ends p) h k in cc)
ends-unique {State} IsStep one s u v o p (moves {t = t} h more) last (moves {t = w} k rest) end =
    let n = one s (goes_on t) (goes_on w) h k in
    let same : w ≡ t = cc in
    ends-unique IsStep one t u v o p more last (subst (λ (x : State). LeadsTo IsStep x v) same rest) end

step-unique : (c : Constants) (F : Formula) (budget : ℕ) (s : FocusedState) (m n : Next FocusedState) → IsFocusedStep c F budget s m → IsFocusedStep c F budget s n → m ≡ n
step-unique c F budget s m n h k =
    let one = Propagates-unique by_place s.clauses s.trail h.trail k.trail h.answer k.answer h.propagates k.propagates in
    sym h.follows ∙ ap₂ (λ (T : Trail) (a : Closed). after c F budget (settled (record s { trail = T })) a) one.0 one.1 ∙ k.follows

-- what was counted at its last conflict is less than the program's numbers
pub spent-counts : (last : ℕ) (s : FocusedSearch) → IsSpent last s → last ≤ max_focused → (s.decided < 2 ^ 60) × (s.stable_conflicts < 2 ^ 31)
spent-counts last s h within =
    let f = h.focusing in
    let k = s.kernel in
    let long = length-lawful k.vars k.clauses k.trail f.searching.lawful (AreOver-from_IsOver k.vars (literals k.trail) f.searching.trail_over) in
    let few = f.searching.few in
    let most = f.decided in
    let stable = f.stable in
    let counted = h.counted in
    (omega (arith, long, few, most, counted, within), omega (arith, stable, counted, within))

-- the first search says whether there are few decisions
pub few-decisions : (c : Constants) (F : Formula) (t : ℕ) (s : FocusedSearch) → Reaches c F t (begin c F []) s → 4 * s.decided < 5 * stable_at s → HasFewDecisions c F t
few-decisions c F t s r few = record {
  state = r.final;
  var = splits_on F (state_of s r.values);
  leads = r.leads;
  last = r.ends_there;
  few = let same = r.decided in let stable = r.stable in omega (arith, same, stable, few);
}

many-decisions : (c : Constants) (F : Formula) (t : ℕ) (s : FocusedSearch) → Reaches c F t (begin c F []) s → HasFewDecisions c F t → 4 * s.decided < 5 * stable_at s
many-decisions c F t s r h =
    let x = splits_on F (state_of s r.values) in
    let one = ends-unique (IsFocusedStep c F t) (step-unique c F t) (begin c F []) r.final h.state (exhausted x) (exhausted h.var) r.leads r.ends_there h.leads h.last in
    let same = ap (λ (u : FocusedState). u.decisions) one.0 in
    let counted = r.decided in
    let stable = ap (λ (u : FocusedState). u.stable_conflicts + if_stable u) one.0 in
    let counted_too = r.stable in
    let few = h.few in
    omega (arith, same, counted, stable, counted_too, few)

own-outcome : (c : Constants) (F : Formula) (t count : ℕ) (o : Outcome) → RunsTo c F t (begin c F []) o count → HasFewDecisions c F t → (x : ℕ) × (o ≡ exhausted x)
own-outcome c F t count o r h = (h.var, (ends-unique (IsFocusedStep c F t) (step-unique c F t) (begin c F []) r.final h.state o (exhausted h.var) r.leads r.last h.leads h.last).1)

-- so it says whether the formula is divided
first-divides : (c : Constants) (F : Formula) (t : ℕ) (first : First) (s : FocusedSearch) → FirstSays c F t first s → first ≢ FewDecisions → ¬ (HasFewDecisions c F t)
first-divides c F t (Ended o) s says other h = let own = own-outcome c F t s.decided (outcome_of o) says.0 h in says.1 own.0 own.1
first-divides c F t FewDecisions s says other h = other refl
first-divides c F t ManyDecisions s says other h = says.1 (many-decisions c F t s says.0 h)

pub first-whole : (c : Constants) (F : Formula) (plan : Plan) (t : ℕ) (first : First) (s : FocusedSearch) → plan.search ≡ focused c → min first_conflicts plan.budget ≡ t → FirstSays c F t first s → first ≢ FewDecisions
    → ¬ (IsDivisible F plan)
first-whole c F plan t first s search asked says other h = first-divides c F t first s says other (rw (search, asked) at h.by)

-- what is known once it was asked
pub first-known : (c : Constants) (F : Formula) (plan : Plan) (t : ℕ) (first : First) (s : FocusedSearch) (d : Division) → plan.search ≡ focused c → min first_conflicts plan.budget ≡ t → 2 ≤ plan.divide
    → FirstSays c F t first s → IsReady ByPlace F s.kernel
    → (first ≡ FewDecisions → (ranking : List Ranked) × (d ≡ Divided ranking) × IsRanking s.kernel.vars (take s.kernel.first s.kernel.clauses) ranking)
    → (first ≢ FewDecisions → d ≡ Whole) → IsKnown F plan d
first-known c F plan t first s d search asked wanted says ready divided whole = go first says divided whole
  where
    known_whole : (f : First) → FirstSays c F t f s → f ≢ FewDecisions → d ≡ Whole → IsKnown F plan d
    known_whole f says other is = subst (IsKnown F plan) (sym is) (first-whole c F plan t f s search asked says other)

    go : (f : First) → FirstSays c F t f s → (f ≡ FewDecisions → (ranking : List Ranked) × (d ≡ Divided ranking) × IsRanking s.kernel.vars (take s.kernel.first s.kernel.clauses) ranking)
        → (f ≢ FewDecisions → d ≡ Whole) → IsKnown F plan d
    go (Ended o) says divided whole = let other : Ended o ≢ FewDecisions = λ e. cc in known_whole (Ended o) says other (whole other)
    go FewDecisions says divided whole =
        let ranked = divided refl in
        let few : IsDivisible F plan = record { wanted = wanted; by = rw (search, asked) (few-decisions c F t s says.0 says.1) } in
        subst (IsKnown F plan) (sym ranked.1) (few, rw (ready.vars, ready.clauses) at ranked.2)
    go ManyDecisions says divided whole = let other : ManyDecisions ≢ FewDecisions = λ e. cc in known_whole ManyDecisions says other (whole other)

-- and what is known then
IsKnown-division : (F : Formula) (plan : Plan) (d : Division) → IsKnown F plan d → IsDivisionOf F plan d
IsKnown-division F plan Unasked h = absurd h
IsKnown-division F plan Whole h = h
IsKnown-division F plan (Divided ranking) h = h

pub IsDividing-asked : (F : Formula) (plan : Plan) (s : DividingSearch) (t : FocusedSearch) (d : Division) → IsDividing plan F s → IsKept s.search t → IsKnown F plan d
    → IsDividing plan F (record s { search = t; division = d })
IsDividing-asked F plan s t d h kept known = record {
  ready = kept.0 F h.ready;
  equipped = kept.1;
  search = h.search ∙ ap focused (sym kept.2);
  divide = h.divide;
  few = h.few;
  asked = h.asked;
  within = h.within;
  division = IsKnown-division F plan d known;
  root = h.root;
}
