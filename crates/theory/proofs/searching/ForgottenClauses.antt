-- Clauses of which some are forgotten: a forgotten one is never false and never a reason, so what
-- is learnt is learnt from the others.
use Rattle.std.proofs.Common.{◌≡◌, ℕ, zero, suc, ◌-◌, ◌≤◌, Bool, true, false, List, [], ◌∷◌, ◌++◌, length, refl, ap, sym, subst, ◌∙◌, nat_eq, eqb-true, ◌⊎◌, inl, inr, Option, Some, None, slice_get, unwrap_or, if◌then◌else◌}
use Rattle.theory.specs.Literals.{Literal, Clause, positive, negative, negated, has, has_var, without}
use Rattle.theory.specs.Status.{is_false}
use Rattle.theory.specs.Trails.{Entry, Trail, literals}
use Rattle.theory.specs.Propagation.{clause_at, least_false}
use Rattle.theory.specs.Lawful.{IsReason, IsGrounded, IsLawfulAfter, IsLawful}
use Rattle.theory.specs.Learning.{with_literals, resolved_by, reason_used, walk, learnt_from, learn_removing}
use Rattle.theory.specs.Forgetting.{forgotten}
use Rattle.theory.specs.Deletions.{is_among}
use Rattle.theory.specs.Kept.{AreLeft}
use Rattle.theory.proofs.literals.LiteralSets.{true_false, false_unless, or-none, has_var-has, has-cases, Refutes-from_is_false}
use Rattle.theory.proofs.trails.LawfulTrails.{least_false-at}
use Rattle.theory.proofs.searching.Walks.{walk-all, entry-place, grounded-place}
use Rattle.theory.proofs.trails.TrailEntries.{literals-consistent}

-- the forgotten clause
pub is_false-forgotten : (K : List Clause) (T : Trail) → IsLawful K T → is_false (literals T) forgotten ≡ false
is_false-forgotten K T h = false_unless (is_false (literals T) forgotten) (λ t.
    let r = Refutes-from_is_false (literals T) forgotten t in
    literals-consistent K T (positive 1) h (r (negative 1) refl) (r (positive 1) refl))

pub IsReason-forgotten : (K : List Clause) (P : List Literal) (l : Literal) (n : ℕ) → has_var P l.var ≡ false → IsReason K P l n → clause_at K n ≡ forgotten → ⊥
IsReason-forgotten K P l n new reason e = go (has-cases (positive 1) l (negative 1 ∷ []) there)
  where
    there : has forgotten l ≡ true
    there = subst (λ (c : Clause). has c l ≡ true) e reason.holds

    others : (k : Literal) → has (without forgotten l) k ≡ true → has P (negated k) ≡ true
    others = Refutes-from_is_false P (without forgotten l) (subst (λ (c : Clause). is_false P (without c l) ≡ true) e reason.others)

    go : (l ≡ positive 1) ⊎ (has (negative 1 ∷ []) l ≡ true) → ⊥
    go (inl i) = absurd (let held = others (negative 1) (subst (λ (x : Literal). has (without forgotten x) (negative 1) ≡ true) (sym i) refl) in
        true_false (has_var P 1) (has_var-has P (positive 1) held) (subst (λ (x : Literal). has_var P x.var ≡ false) i new))
    go (inr r) = elim (has-cases (negative 1) l [] r) [
      | inl i ↦ absurd (let held = others (positive 1) (subst (λ (x : Literal). has (without forgotten x) (positive 1) ≡ true) (sym i) refl) in
          true_false (has_var P 1) (has_var-has P (negative 1) held) (subst (λ (x : Literal). has_var P x.var ≡ false) i new))
      | inr none ↦ absurd (cc)
    ]

-- what is left of clauses
pub AreLeft-refl : (K : List Clause) → AreLeft K K
AreLeft-refl [] = tt
AreLeft-refl (c ∷ K) = (inl refl, AreLeft-refl K)

pub AreLeft-append : (A L B M : List Clause) → AreLeft A L → AreLeft B M → AreLeft (A ++ B) (L ++ M)
AreLeft-append [] [] B M h k = k
AreLeft-append [] (d ∷ L) B M h k = absurd h
AreLeft-append (c ∷ A) [] B M h k = absurd h
AreLeft-append (c ∷ A) (d ∷ L) B M h k = (h.0, AreLeft-append A L B M h.1 k)

pub AreLeft-length : (A L : List Clause) → AreLeft A L → length L ≡ length A
AreLeft-length [] [] h = refl
AreLeft-length [] (d ∷ L) h = absurd h
AreLeft-length (c ∷ A) [] h = absurd h
AreLeft-length (c ∷ A) (d ∷ L) h = ap suc (AreLeft-length A L h.1)

left-at : (A L : List Clause) (i : ℕ) → AreLeft A L → (unwrap_or (slice_get L i) [] ≡ unwrap_or (slice_get A i) []) ⊎ (unwrap_or (slice_get L i) [] ≡ forgotten)
left-at [] [] i h = inl refl
left-at [] (d ∷ L) i h = absurd h
left-at (c ∷ A) [] i h = absurd h
left-at (c ∷ A) (d ∷ L) zero h = h.0
left-at (c ∷ A) (d ∷ L) (suc i) h = left-at A L i h.1

pub AreLeft-at : (A L : List Clause) (n : ℕ) → AreLeft A L → (clause_at L n ≡ clause_at A n) ⊎ (clause_at L n ≡ forgotten)
AreLeft-at A L n h = left-at A L (n - 1) h

-- a trail that is lawful over what is left is lawful over all
pub IsReason-left : (A L : List Clause) (P : List Literal) (l : Literal) (n : ℕ) → AreLeft A L → has_var P l.var ≡ false → IsReason L P l n → (clause_at L n ≡ clause_at A n) × IsReason A P l n
IsReason-left A L P l n h new r = go (AreLeft-at A L n h)
  where
    go : (clause_at L n ≡ clause_at A n) ⊎ (clause_at L n ≡ forgotten) → (clause_at L n ≡ clause_at A n) × IsReason A P l n
    go (inl e) = (
      e,
      record {
        numbered = (r.numbered.0, subst (λ k. n ≤ k) (AreLeft-length A L h) r.numbered.1);
        holds = subst (λ (c : Clause). has c l ≡ true) e r.holds;
        others = subst (λ (c : Clause). is_false P (without c l) ≡ true) e r.others;
      },
    )
    go (inr e) = absurd (IsReason-forgotten L P l n new r e)

IsGrounded-left : (A L : List Clause) (before : Trail) (e : Entry) (r : Option ℕ) → AreLeft A L → has_var (literals before) e.lit.var ≡ false → IsGrounded L before e r → IsGrounded A before e r
IsGrounded-left A L before e (Some n) h new g = (g.0, (IsReason-left A L (literals before) e.lit n h new g.1).1)
IsGrounded-left A L before e None h new g = g

IsLawfulAfter-left : (A L : List Clause) (before T : Trail) → AreLeft A L → IsLawfulAfter L before T → IsLawfulAfter A before T
IsLawfulAfter-left A L before [] h t = tt
IsLawfulAfter-left A L before (e ∷ T) h t = (
  record { is_new = t.0.is_new; grounded = IsGrounded-left A L before e e.reason h t.0.is_new t.0.grounded },
  IsLawfulAfter-left A L (before ++ e ∷ []) T h t.1,
)

pub IsLawful-left : (A L : List Clause) (T : Trail) → AreLeft A L → IsLawful L T → IsLawful A T
IsLawful-left A L T h t = IsLawfulAfter-left A L [] T h t

-- the same is learnt from what is left as from all
walk-left : (A L : List Clause) (T : Trail) (R : List Literal) (before es : Trail) (S : Clause) (hints : List ℕ) → AreLeft A L → IsLawfulAfter L before es → walk L T R es S hints ≡ walk A T R es S hints
walk-left A L T R before [] S hints h t = refl
walk-left A L T R before (e ∷ es) S hints h t =
    step (reason_used T R (walk L T R es S hints).0 e) used ∙ ap (λ (w : Clause × List ℕ). resolved_by A e w (reason_used T R w.0 e)) (walk-left A L T R (before ++ e ∷ []) es S hints h t.1)
  where
    used : (n : ℕ) → reason_used T R (walk L T R es S hints).0 e ≡ Some n → clause_at L n ≡ clause_at A n
    used n q = one e.reason (reason q) t.0.grounded
      where
        reason : reason_used T R (walk L T R es S hints).0 e ≡ Some n → e.reason ≡ Some n
        reason p = go _ p
          where
            go : (b : Bool) → (if b then e.reason else None) ≡ Some n → e.reason ≡ Some n
            go true i = i
            go false i = absurd (cc)

        one : (r : Option ℕ) → r ≡ Some n → IsGrounded L before e r → clause_at L n ≡ clause_at A n
        one None p g = absurd (cc)
        one (Some k) p g = let it : k ≡ n = cc in subst (λ i. clause_at L i ≡ clause_at A i) it (IsReason-left A L (literals before) e.lit k h t.0.is_new g.1).0

    step : (r : Option ℕ) → ((n : ℕ) → r ≡ Some n → clause_at L n ≡ clause_at A n) → resolved_by L e (walk L T R es S hints) r ≡ resolved_by A e (walk L T R es S hints) r
    step None f = refl
    step (Some n) f = let c = f n refl in rw c refl

pub conflict-left : (A L : List Clause) (T : Trail) (n : ℕ) → AreLeft A L → IsLawful L T → least_false (literals T) L ≡ Some n → clause_at L n ≡ clause_at A n
conflict-left A L T n h t f = go (AreLeft-at A L n h)
  where
    go : (clause_at L n ≡ clause_at A n) ⊎ (clause_at L n ≡ forgotten) → clause_at L n ≡ clause_at A n
    go (inl e) = e
    go (inr e) = absurd (true_false (is_false (literals T) forgotten) (subst (λ (c : Clause). is_false (literals T) c ≡ true) e (least_false-at (literals T) L n f).2) (is_false-forgotten L T t))

pub learn-left : (R : List Literal) (A L : List Clause) (T : Trail) (n : ℕ) → AreLeft A L → IsLawful L T → least_false (literals T) L ≡ Some n → learn_removing R L T n ≡ learn_removing R A T n
learn-left R A L T n h t f =
    ap (λ (c : Clause). learnt_from (walk L T R T (with_literals c []) (n ∷ [])) T) (conflict-left A L T n h t f)
    ∙ ap (λ (w : Clause × List ℕ). learnt_from w T) (walk-left A L T R [] T (with_literals (clause_at A n) []) (n ∷ []) h t)

-- no hint of what is learnt is the number of a forgotten clause
pub hints-left : (R : List Literal) (C : List Clause) (T : Trail) (n k : ℕ) → IsLawful C T → least_false (literals T) C ≡ Some n → clause_at C k ≡ forgotten → is_among k (learn_removing R C T n).hints ≡ false
hints-left R C T n k lawful f e =
    walk-all C T R (λ before w. is_among k w.1 ≡ false) (λ before x es w place h i. i) (λ before x es w m place h i. or-none (nat_eq k m) (is_among k w.1) (other before x es w m place h) i)
    (with_literals (clause_at C n) []) (n ∷ []) (or-none (nat_eq k n) false conflict refl)
  where
    conflict : nat_eq k n ≡ false
    conflict = false_unless (nat_eq k n) (λ t.
        true_false (is_false (literals T) forgotten) (subst (λ (c : Clause). is_false (literals T) c ≡ true) (ap (clause_at C) (sym (eqb-true k n t)) ∙ e) (least_false-at (literals T) C n f).2) (is_false-forgotten C T lawful))

    other : (before : Trail) (x : Entry) (es : Trail) (w : Clause × List ℕ) (m : ℕ) → T ≡ before ++ x ∷ es → reason_used T R w.0 x ≡ Some m → nat_eq k m ≡ false
    other before x es w m place h = false_unless (nat_eq k m) (λ t.
        IsReason-forgotten C (literals before) x.lit m (entry-place C T before x es lawful place).is_new (grounded-place C T R before x es w.0 m lawful place h).1 (ap (clause_at C) (sym (eqb-true k m t)) ∙ e))
