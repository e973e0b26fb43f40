-- What the focused search keeps where it goes back, learns, forgets and decides.
use Rattle.std.proofs.Common.{◌≡◌, ℕ, suc, zero, ◌+◌, ◌<◌, ◌≤◌, Bool, true, false, List, [], ◌∷◌, ◌++◌, length, take, drop, refl, ap, ◌∙◌, nat_eq, inl, inr, Option, Some, None, option_map, All, arith, if◌then◌else◌}
use Rattle.std.specs.List.{list_any}
use Rattle.std.proofs.lemmas.List.Elements.{All-push, All-cons, All-head, All-tail}
use Rattle.theory.specs.Literals.{Literal, Clause, has_var}
use Rattle.theory.specs.Status.{is_false}
use Rattle.theory.specs.Trails.{Trail, literals, current_level, up_to}
use Rattle.theory.specs.Propagation.{least_false}
use Rattle.theory.specs.Lawful.{IsLawful}
use Rattle.theory.specs.Learnable.{IsOpenBelow}
use Rattle.theory.specs.Learning.{learn_removing}
use Rattle.theory.specs.Removing.{first_walk, removable}
use Rattle.theory.specs.Forgetting.{forgotten, forget}
use Rattle.theory.proofs.trails.LawfulTrails.{least_false-at}
use Rattle.theory.proofs.searching.LearnableLines.{back_level-learn, free-learn, current_level-learn, IsLearnable-learn}
use Rattle.theory.proofs.searching.LearntLines.{has_both_signs-learn_clause}
use Rattle.theory.proofs.literals.LiteralSets.{true_false, false_unless, has_var-has, Refutes-from_is_false}
use Rattle.theory.proofs.literals.DistinctLiterals.{length-distinct}
use Rattle.theory.proofs.literals.OverVariables.{AreOver-from_IsOver}
use Rattle.cdcl.proofs.SearchingLemmas.{IsOver-learn}
use Rattle.theory.proofs.trails.TrailLevels.{up_to-up_to, current_level-up_to}
use Rattle.theory.specs.Literals.{negated}
use Rattle.kernel.specs.State.{State}
use Rattle.kernel.specs.declared.order.Order.TheVariants.{ByPlace}
use Rattle.cdcl.specs.Forgetful.{IsPlain}
use Rattle.cdcl.specs.Searching.{IsSearching}
use Rattle.cdcl.specs.Focusing.{IsTaught}

-- one more clause that isn't false
least_false-push : (P : List Literal) (K : List Clause) (c : Clause) → least_false P K ≡ None → is_false P c ≡ false → least_false P (K ++ c ∷ []) ≡ None
least_false-push P [] c h f = rw (f, least_false) refl
least_false-push P (d ∷ K) c h f = first (is_false P d) h (λ r. least_false-push P K c r f)
  where
    none : (r : Option ℕ) → option_map (λ k. k + 1) r ≡ None → r ≡ None
    none None e = refl
    none (Some k) e = absurd (cc)

    first : (r : Bool) → ◌≡◌ {A = Option ℕ} (elim r [ true ↦ Some 1 | false ↦ option_map (λ k. k + 1) (least_false P K) ]) None
        → (least_false P K ≡ None → least_false P (K ++ c ∷ []) ≡ None)
        → ◌≡◌ {A = Option ℕ} (elim r [ true ↦ Some 1 | false ↦ option_map (λ k. k + 1) (least_false P (K ++ c ∷ [])) ]) None
    first true e more = absurd (cc)
    first false e more = ap (option_map (λ k. k + 1)) (more (none (least_false P K) e))

-- where the search went back, no clause is false, the learnt one neither
pub none-false-learnt : (R : List Literal) (K : List Clause) (T : Trail) (n level : ℕ) → IsLawful K T → IsOpenBelow K T → 1 ≤ current_level T → least_false (literals T) K ≡ Some n → level < current_level T
    → least_false (literals (up_to T level)) (K ++ (learn_removing R K T n).clause ∷ []) ≡ None
none-false-learnt R K T n level lawful low_open above clash lower = least_false-push (literals (up_to T level)) K c (low_open level lower) not_false
  where
    c : Clause
    c = (learn_removing R K T n).clause

    not_false : is_false (literals (up_to T level)) c ≡ false
    not_false =
        let u = free-learn R K T n lawful low_open above clash in
        false_unless (is_false (literals (up_to T level)) c) (λ t. true_false (has_var (literals (up_to T level)) u.0.var)
        (has_var-has (literals (up_to T level)) (negated u.0) (Refutes-from_is_false (literals (up_to T level)) c t u.0 u.1)) (u.2 level lower))

pub low-learnt : (R : List Literal) (K : List Clause) (T : Trail) (n level : ℕ) → IsLawful K T → IsOpenBelow K T → 1 ≤ current_level T → least_false (literals T) K ≡ Some n → level < current_level T
    → IsOpenBelow (K ++ (learn_removing R K T n).clause ∷ []) (up_to T level)
low-learnt R K T n level lawful low_open above clash lower low less =
    let most : current_level (up_to T level) ≤ level = current_level-up_to T level in
    ap (λ (U : Trail). least_false (literals U) (K ++ (learn_removing R K T n).clause ∷ [])) (up_to-up_to T level low (omega (arith, less, most)))
    ∙ none-false-learnt R K T n low lawful low_open above clash (omega (arith, less, most, lower))

-- what is removable at a conflict
abbrev pub removed : List Clause → Trail → ℕ → List Literal
removed K T n = removable K T (first_walk K T n).0 T []

-- the level to which the search goes back
pub lower-level : (k : State) (n : ℕ) (clause : Clause) (level : ℕ) (restarts : Bool) → IsSearching ByPlace k → IsTaught k n clause level
    → (level < current_level k.trail) × ((if restarts then 0 else level) ≤ level) × (current_level (up_to k.trail level) ≡ level)
lower-level k n clause level restarts h t = (
  rw t.back (back_level-learn (removed k.clauses k.trail n) k.clauses k.trail n h.lawful h.open_below t.above t.conflict),
  go restarts,
  rw t.back (current_level-learn (removed k.clauses k.trail n) k.clauses k.trail n h.lawful h.open_below t.above t.conflict),
)
  where
    go : (b : Bool) → (if b then 0 else level) ≤ level
    go true = omega arith
    go false = omega arith

-- the learnt clause is no forgotten one
pub IsPlain-learn : (k : State) (n : ℕ) (clause : Clause) (level : ℕ) → IsSearching ByPlace k → IsTaught k n clause level → IsPlain k.vars clause
IsPlain-learn k n clause level h t =
    let R = removed k.clauses k.trail n in
    let at = least_false-at (literals k.trail) k.clauses n t.conflict in
    let learnable = IsLearnable-learn R k.clauses k.trail n h.lawful h.open_below t.above t.conflict in
    rw t.learnt (inl (
      has_both_signs-learn_clause R k.clauses k.trail n h.lawful at.2,
      length-distinct k.vars (learn_removing R k.clauses k.trail n).clause learnable.distinct
          (AreOver-from_IsOver k.vars (learn_removing R k.clauses k.trail n).clause (IsOver-learn k.vars R k.clauses k.trail n h.lawful h.trail_over t.conflict)),
    ))

-- forgetting leaves such clauses
pub AllPlain-forget : (V : ℕ) (ns : List ℕ) (n i : ℕ) (K : List Clause) → All (IsPlain V) (drop i K) → All (IsPlain V) (drop i (forget ns n K))
AllPlain-forget V ns n zero [] h = h
AllPlain-forget V ns n (suc i) [] h = h
AllPlain-forget V ns n zero (c ∷ K) h =
    All-cons (IsPlain V) (if list_any (nat_eq n) ns then forgotten else c) (forget ns (n + 1) K) (go (list_any (nat_eq n) ns)) (AllPlain-forget V ns (n + 1) zero K (All-tail (IsPlain V) c K h))
  where
    go : (b : Bool) → IsPlain V (if b then forgotten else c)
    go true = inr refl
    go false = All-head (IsPlain V) c K h
AllPlain-forget V ns n (suc i) (c ∷ K) h = AllPlain-forget V ns (n + 1) i K h

drop-push : (i : ℕ) (K : List Clause) (c : Clause) → i ≤ length K → drop i (K ++ c ∷ []) ≡ drop i K ++ c ∷ []
drop-push zero K c h = refl
drop-push (suc i) [] c h = absurd (omega arith)
drop-push (suc i) (d ∷ K) c h = drop-push i K c (omega arith)

pub take-push : (i : ℕ) (K : List Clause) (c : Clause) → i ≤ length K → take i (K ++ c ∷ []) ≡ take i K
take-push zero K c h = refl
take-push (suc i) [] c h = absurd (omega arith)
take-push (suc i) (d ∷ K) c h = ap (λ (L : List Clause). d ∷ L) (take-push i K c (omega arith))

pub AllPlain-push : (V i : ℕ) (K : List Clause) (c : Clause) → i ≤ length K → All (IsPlain V) (drop i K) → IsPlain V c → All (IsPlain V) (drop i (K ++ c ∷ []))
AllPlain-push V i K c within h one = rw (drop-push i K c within) (All-push (IsPlain V) (drop i K) c h one)

-- the first clauses aren't forgotten
pub take-forget : (ns : List ℕ) (n i : ℕ) (K : List Clause) → ((k : ℕ) → list_any (nat_eq k) ns ≡ true → n + i ≤ k) → take i (forget ns n K) ≡ take i K
take-forget ns n zero K h = refl
take-forget ns n (suc i) [] h = refl
take-forget ns n (suc i) (c ∷ K) h =
    let none : list_any (nat_eq n) ns ≡ false = false_unless (list_any (nat_eq n) ns) (λ t. let low = h n t in absurd (omega arith)) in
    rw none (ap (λ (L : List Clause). c ∷ L) (take-forget ns (n + 1) i K (λ k t. let low = h k t in omega (arith, low))))

pub if-false : {X : Type 0} (b : Bool) (x y : X) → b ≡ false → (if b then x else y) ≡ y
if-false true x y h = absurd (cc)
if-false false x y h = refl
