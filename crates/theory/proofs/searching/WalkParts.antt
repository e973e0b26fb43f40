-- The walk in two parts: over the current level, where nothing is removable, and below it.
use Rattle.std.proofs.Common.{◌≡◌, ℕ, ◌-◌, ◌≤◌, Bool, true, false, ◌&&◌, ◌||◌, List, [], ◌∷◌, ◌++◌, filter, refl, ap, sym, subst, ◌∙◌, nat_eq, nat_le, nat_lt, eqb-true, eq-eqb, leb-true, leb-false, ltb-true, None, append_assoc, arith, if◌then◌else◌}
use Rattle.theory.specs.Literals.{Literal, Clause, negated, has}
use Rattle.theory.specs.Trails.{Trail, current_level, up_to}
use Rattle.theory.specs.Lawful.{IsLawfulAfter}
use Rattle.theory.specs.Learning.{at_current_level, reason_used, resolved_by, walk}
use Rattle.theory.proofs.trails.LawfulTrails.{level-rises, current_level-rises}
use Rattle.theory.proofs.trails.TrailLists.{current_level-push}
use Rattle.theory.proofs.trails.TrailEntries.{and-false_right}
use Rattle.theory.proofs.literals.LiteralSets.{false_unless}

-- a walk in two parts
pub walk-append : (K : List Clause) (T : Trail) (R : List Literal) (A B : Trail) (S : Clause) (hints : List ℕ)
    → walk K T R (A ++ B) S hints ≡ walk K T R A (walk K T R B S hints).0 (walk K T R B S hints).1
walk-append K T R [] B S hints = refl
walk-append K T R (e ∷ A) B S hints = ap (λ (w : Clause × List ℕ). resolved_by K e w (reason_used T R w.0 e)) (walk-append K T R A B S hints)

-- all entries are of this level
abbrev pub AreOfLevel : ℕ → Trail → Type 0
AreOfLevel c [] = Unit {0}
AreOfLevel c (e ∷ T) = (e.level ≡ c) × AreOfLevel c T

-- over the current level nothing is removable
pub walk-latest : (K : List Clause) (T : Trail) (R : List Literal) (B : Trail) (S : Clause) (hints : List ℕ) → AreOfLevel (current_level T) B → walk K T R B S hints ≡ walk K T [] B S hints
walk-latest K T R [] S hints h = refl
walk-latest K T R (e ∷ B) S hints h =
    ap (λ (w : Clause × List ℕ). resolved_by K e w (reason_used T R w.0 e)) (walk-latest K T R B S hints h.1) ∙ ap (resolved_by K e w) same_reason
  where
    w : Clause × List ℕ
    w = walk K T [] B S hints

    not_lower : nat_lt e.level (current_level T) ≡ false
    not_lower = let level = h.0 in false_unless (nat_lt e.level (current_level T)) (λ t. let less = ltb-true e.level (current_level T) t in omega (arith, less, level))

    none : has R (negated e.lit) && nat_lt e.level (current_level T) ≡ false
    none = and-false_right (has R (negated e.lit)) (nat_lt e.level (current_level T)) not_lower

    same_reason : reason_used T R w.0 e ≡ reason_used T [] w.0 e
    same_reason = ap (λ b. if has w.0 (negated e.lit) && (nat_eq e.level 0 || (b || (nat_eq e.level (current_level T) && nat_le 2 (at_current_level T w.0)))) then e.reason else None) none

-- behind entries of the current level all are
behind-latest : (K : List Clause) (before T : Trail) (c : ℕ) → IsLawfulAfter K before T → c ≤ current_level before → current_level (before ++ T) ≡ c → 1 ≤ c
    → (up_to T (c - 1) ≡ []) × (filter (λ e. nat_eq e.level c) T ≡ T) × AreOfLevel c T
behind-latest K before [] c h low end one = (refl, refl, tt)
behind-latest K before (e ∷ T) c h low end one =
    let more = behind-latest K (before ++ e ∷ []) T c h.1 (omega (arith, pushed, level)) (ap current_level whole ∙ end) one in
    (rw out more.0, rw it (ap (λ U. e ∷ U) more.1), (level, more.2))
  where
    whole : (before ++ e ∷ []) ++ T ≡ before ++ e ∷ T
    whole = append_assoc before (e ∷ []) T

    pushed : current_level (before ++ e ∷ []) ≡ e.level
    pushed = current_level-push before e

    level : e.level ≡ c
    level =
        let rises = level-rises K before e e.reason h.0.grounded in
        let falls = current_level-rises K (before ++ e ∷ []) T h.1 in
        let same_end = ap current_level whole in
        let at = pushed in
        omega (arith, rises, falls, same_end, at, low, end)

    out : nat_le e.level (c - 1) ≡ false
    out = let l = level in false_unless (nat_le e.level (c - 1)) (λ t. let low = leb-true e.level (c - 1) t in omega (arith, low, l, one))

    it : nat_eq e.level c ≡ true
    it = eq-eqb e.level c level

-- a lawful trail is what is below its current level, and then that level
pub split-latest : (K : List Clause) (before T : Trail) (c : ℕ) → IsLawfulAfter K before T → current_level (before ++ T) ≡ c → 1 ≤ c
    → (T ≡ up_to T (c - 1) ++ filter (λ e. nat_eq e.level c) T) × AreOfLevel c (filter (λ e. nat_eq e.level c) T)
split-latest K before [] c h end one = (refl, tt)
split-latest K before (e ∷ T) c h end one = go (nat_le e.level (c - 1)) refl (split-latest K (before ++ e ∷ []) T c h.1 (ap current_level whole ∙ end) one)
  where
    Split : Trail → Type 0
    Split U = (U ≡ up_to U (c - 1) ++ filter (λ e. nat_eq e.level c) U) × AreOfLevel c (filter (λ e. nat_eq e.level c) U)

    whole : (before ++ e ∷ []) ++ T ≡ before ++ e ∷ T
    whole = append_assoc before (e ∷ []) T

    go : (b : Bool) → nat_le e.level (c - 1) ≡ b → Split T → Split (e ∷ T)
    go true t more =
        let low = leb-true e.level (c - 1) t in
        let other : nat_eq e.level c ≡ false = false_unless (nat_eq e.level c) (λ q. let same_level = eqb-true e.level c q in omega (arith, low, same_level, one)) in
        rw (t, other) (ap (λ U. e ∷ U) more.0, more.1)
    go false t more =
        let high = leb-false e.level (c - 1) t in
        let falls = current_level-rises K (before ++ e ∷ []) T h.1 in
        let same_end = ap current_level whole in
        let at = current_level-push before e in
        let level : e.level ≡ c = omega (arith, high, falls, same_end, at, end, one) in
        let it : nat_eq e.level c ≡ true = eq-eqb e.level c level in
        let rest = behind-latest K (before ++ e ∷ []) T c h.1 (omega (arith, at, level)) (ap current_level whole ∙ end) one in
        rw (t, it) (ap (λ U. e ∷ U) (sym rest.1) ∙ sym (ap (λ (U : Trail). U ++ e ∷ filter (λ x. nat_eq x.level c) T) rest.0), (level, subst (AreOfLevel c) (sym rest.1) rest.2))
