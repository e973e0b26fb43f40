-- A search keeps it that no clause is false below the current level.
use Rattle.std.proofs.Common.{◌≡◌, ℕ, ◌+◌, ◌-◌, ◌<◌, ◌≤◌, Bool, true, false, List, [], ◌∷◌, ◌++◌, length, refl, ap, sym, subst, ◌∙◌, nat_lt, ltb-true, ltb-false, Option, Some, None, slice_get, arith, option_map}
use Rattle.std.proofs.lemmas.Option.{slice_get-map}
use Rattle.theory.specs.Literals.{Literal, Clause, negated, has_var, negative}
use Rattle.theory.specs.Status.{is_false}
use Rattle.theory.specs.Trails.{Entry, Trail, literals, current_level, level_at, cube_trail, decide, up_to}
use Rattle.theory.specs.Propagation.{least_false, Closed, quiet, conflict, unit_entry, Propagates, clashes, grows, rests, Rule, by_number}
use Rattle.theory.specs.Lawful.{IsLawful}
use Rattle.theory.specs.Learnable.{IsOpenBelow}
use Rattle.theory.specs.Learning.{learn, learn_removing, back_level}
use Rattle.theory.specs.Search.{goes_on}
use Rattle.theory.specs.Ordered.{OrderedState, after}
use Rattle.theory.proofs.searching.Rules.{IsRule-by_number}
use Rattle.theory.proofs.literals.LiteralSets.{true_false, false_unless, has_var-has, Refutes-from_is_false}
use Rattle.theory.proofs.trails.LawfulTrails.{current_level-Propagates, IsLawful-append, IsLawful-up_to, IsLawful-decide, IsLawful-Propagates}
use Rattle.theory.proofs.searching.SearchSteps.{Answers, Propagates-Answers, after-quiet, after-conflict}
use Rattle.theory.proofs.trails.TrailLevels.{current_level-up_to, up_to-up_to, up_to-current, up_to-push}
use Rattle.theory.proofs.searching.LearnableLines.{back_level-learn, free-learn}
use Rattle.theory.proofs.trails.TrailLists.{current_level-push}

-- a cube's trail has no level below its own
pub current_level-cube_trail : (Q : List Literal) → current_level (cube_trail Q) ≡ 0
current_level-cube_trail Q = ap level_at (slice_get-map given Q (length (cube_trail Q) - 1)) ∙ zeroth (slice_get Q (length (cube_trail Q) - 1))
  where
    given : Literal → Entry
    given l = record { lit = l; reason = None; level = 0 }

    zeroth : (o : Option Literal) → level_at (option_map given o) ≡ 0
    zeroth None = refl
    zeroth (Some l) = refl

pub IsOpenBelow-cube_trail : (K : List Clause) (Q : List Literal) → IsOpenBelow K (cube_trail Q)
IsOpenBelow-cube_trail K Q level less = let z = current_level-cube_trail Q in absurd (omega (arith, z, less))

-- propagation puts nothing below the current level
pub up_to-Propagates : (rule : Rule) (K : List Clause) (T U : Trail) (a : Closed) (level : ℕ) → Propagates rule K T a U → level < current_level T → up_to U level ≡ up_to T level
up_to-Propagates rule K T U a level (clashes h) less = refl
up_to-Propagates rule K T U a level (rests h i) less = refl
up_to-Propagates rule K T U a level (grows {u = u} h i more) less =
    let same : current_level (T ++ unit_entry T u ∷ []) ≡ current_level T = current_level-push T (unit_entry T u) in
    up_to-Propagates rule K (T ++ unit_entry T u ∷ []) U a level more (omega arith) ∙ up_to-push T (unit_entry T u) level less

pub IsOpenBelow-Propagates : (rule : Rule) (K : List Clause) (T U : Trail) (a : Closed) → Propagates rule K T a U → IsOpenBelow K T → IsOpenBelow K U
IsOpenBelow-Propagates rule K T U a h o level less =
    let same : current_level U ≡ current_level T = current_level-Propagates rule K T U a h in
    let below : level < current_level T = omega arith in
    ap (λ (V : Trail). least_false (literals V) K) (up_to-Propagates rule K T U a level h below) ∙ o level below

-- a decision comes where no clause is false
pub IsOpenBelow-decide : (K : List Clause) (T : Trail) (l : Literal) → IsLawful K T → least_false (literals T) K ≡ None → IsOpenBelow K T → IsOpenBelow K (decide T l)
IsOpenBelow-decide K T l lawful calm o level less = ap (λ (V : Trail). least_false (literals V) K) (up_to-push T e level least) ∙ go (nat_lt level (current_level T)) refl
  where
    e : Entry
    e = record { lit = l; reason = None; level = current_level T + 1 }

    least : level < current_level T + 1
    least = subst (λ n. level < n) (current_level-push T e) less

    go : (b : Bool) → nat_lt level (current_level T) ≡ b → least_false (literals (up_to T level)) K ≡ None
    go true t = o level (ltb-true level (current_level T) t)
    go false t =
        let most : current_level T ≤ level = ltb-false level (current_level T) t in
        let it : level ≡ current_level T = omega (arith, least, most) in
        ap (λ (V : Trail). least_false (literals V) K) (ap (up_to T) it ∙ up_to-current K T lawful) ∙ calm

-- going back
pub IsOpenBelow-up_to : (K : List Clause) (T : Trail) (b : ℕ) → b ≤ current_level T → IsOpenBelow K T → IsOpenBelow K (up_to T b)
IsOpenBelow-up_to K T b low o level less =
    let most : current_level (up_to T b) ≤ b = current_level-up_to T b in
    ap (λ (V : Trail). least_false (literals V) K) (up_to-up_to T b level (omega (arith, less, most))) ∙ o level (omega (arith, less, most, low))

-- one more clause that isn't false
pub least_false-push : (P : List Literal) (K : List Clause) (c : Clause) → least_false P K ≡ None → is_false P c ≡ false → least_false P (K ++ c ∷ []) ≡ None
least_false-push P [] c h f = rw (f, least_false) refl
least_false-push P (d ∷ K) c h f = first (is_false P d) h (λ r. least_false-push P K c r f)
  where
    none : (r : Option ℕ) → option_map (λ k. k + 1) r ≡ None → r ≡ None
    none None e = refl
    none (Some k) e = absurd (cc)

    first : (r : Bool) → ◌≡◌ {A = Option ℕ} (elim r [ true ↦ Some 1 | false ↦ option_map (λ k. k + 1) (least_false P K) ]) None
        → (least_false P K ≡ None → least_false P (K ++ c ∷ []) ≡ None)
        → ◌≡◌ {A = Option ℕ} (elim r [ true ↦ Some 1 | false ↦ option_map (λ k. k + 1) (least_false P (K ++ c ∷ [])) ]) None
    first true e more = absurd (cc)
    first false e more = ap (option_map (λ k. k + 1)) (more (none (least_false P K) e))

-- the learnt clause isn't false where its literal of the old level is free
pub IsOpenBelow-learn : (R : List Literal) (K : List Clause) (T : Trail) (n : ℕ) → IsLawful K T → IsOpenBelow K T → 1 ≤ current_level T → least_false (literals T) K ≡ Some n
    → IsOpenBelow (K ++ (learn_removing R K T n).clause ∷ []) (up_to T (back_level T (learn_removing R K T n).clause))
IsOpenBelow-learn R K T n lawful o above h level less =
    ap (λ (V : Trail). least_false (literals V) (K ++ c ∷ [])) (up_to-up_to T b level (omega (arith, less, current_level-up_to T b))) ∙ least_false-push (literals (up_to T level)) K c (o level lower) not_false
  where
    c : Clause
    c = (learn_removing R K T n).clause

    b : ℕ
    b = back_level T c

    lower : level < current_level T
    lower =
        let most : current_level (up_to T b) ≤ b = current_level-up_to T b in
        let back : b < current_level T = back_level-learn R K T n lawful o above h in
        omega (arith, less, most, back)

    not_false : is_false (literals (up_to T level)) c ≡ false
    not_false =
        let u = free-learn R K T n lawful o above h in
        false_unless (is_false (literals (up_to T level)) c) (λ t. true_false (has_var (literals (up_to T level)) u.0.var)
        (has_var-has (literals (up_to T level)) (negated u.0) (Refutes-from_is_false (literals (up_to T level)) c t u.0 u.1)) (u.2 level lower))

-- a search's step
pub kept-after : (V budget : ℕ) (s t : OrderedState) (a : Closed) → IsLawful s.clauses s.trail → IsOpenBelow s.clauses s.trail → Answers a s → after V budget s a ≡ goes_on t
    → IsLawful t.clauses t.trail × IsOpenBelow t.clauses t.trail
kept-after V budget s t quiet lawful o h e =
    let next = after-quiet V budget s t e in
    subst (λ (u : OrderedState). IsLawful u.clauses u.trail × IsOpenBelow u.clauses u.trail) (sym next.2)
    (IsLawful-decide s.clauses s.trail (negative next.0) lawful next.1.1, IsOpenBelow-decide s.clauses s.trail (negative next.0) lawful h o)
kept-after V budget s t (conflict n) lawful o h e =
    let next = after-conflict V budget n s t e in
    let c = (learn s.clauses s.trail n).clause in
    subst (λ (u : OrderedState). IsLawful u.clauses u.trail × IsOpenBelow u.clauses u.trail) (sym next.1) (
      IsLawful-append s.clauses (c ∷ []) (up_to s.trail (back_level s.trail c)) (IsLawful-up_to s.clauses s.trail (back_level s.trail c) lawful),
      IsOpenBelow-learn [] s.clauses s.trail n lawful o next.0 h,
    )

pub kept-step : (V budget : ℕ) (s t : OrderedState) (T : Trail) (a : Closed) → IsLawful s.clauses s.trail → IsOpenBelow s.clauses s.trail → Propagates by_number s.clauses s.trail a T
    → after V budget (record s { trail = T }) a ≡ goes_on t → IsLawful t.clauses t.trail × IsOpenBelow t.clauses t.trail
kept-step V budget s t T a lawful o h e =
    kept-after V budget (record s { trail = T }) t a (IsLawful-Propagates by_number IsRule-by_number s.clauses s.trail T a h lawful) (IsOpenBelow-Propagates by_number s.clauses s.trail T a h o)
    (Propagates-Answers by_number s.clauses s.trail T (record s { trail = T }) a h refl refl) e
