-- The place of a clause's last false literal.
use Rattle.std.proofs.Common.{◌≡◌, ℕ, suc, zero, ◌+◌, ◌-◌, ◌<◌, ◌≤◌, Bool, true, false, not, ◌||◌, [], ◌∷◌, ◌++◌, length, max, Some, refl, ap, sym, subst, ◌∙◌, ◌⊎◌, inl, inr, arith, cond, nat_eq, nat_lt, eqb-true, eq-eqb, slice_get, get_or}
use Rattle.std.specs.Ordering.{is_lt, nat_cmp}
use Rattle.std.specs.declared.cmp.Ordering.TheVariants.{Less, Equal, Greater}
use Rattle.std.proofs.lemmas.Bool.{ltb-true, ltb-false}
use Rattle.theory.specs.Literals.{Literal, Clause, same, has, has_var, negated, are_distinct}
use Rattle.theory.specs.Trails.{Entry, Trail, literals, entry_of}
use Rattle.theory.specs.Propagation.{with_first, last_false}
use Rattle.theory.proofs.literals.LiteralLemmas.{and-left, and-right, or-cases, or-left, not_true, same-eq, same-refl}
use Rattle.theory.proofs.literals.LiteralSets.{false_unless}
use Rattle.kernel.proofs.LiteralFacts.{true_false, has-append, free-not_negated, negated-negated, or_false_left, or_false_right}

with_first-more : (b : Bool) (n : ℕ) → 1 ≤ n → with_first b n ≡ n + 1
with_first-more b zero h = absurd (omega (arith, h))
with_first-more b (suc n) h = omega arith

with_first-none : (b : Bool) → with_first b 0 ≤ 1
with_first-none true = omega arith
with_first-none false = omega arith

with_first-both : (a b : Bool) (m n : ℕ) → with_first (a || b) (max m n) ≡ max (with_first a m) (with_first b n)
with_first-both a b zero zero = subst (λ k. with_first (a || b) k ≡ max (with_first a 0) (with_first b 0)) (let z : 0 ≡ max 0 0 = omega arith in z) (go a b)
  where
    go : (a b : Bool) → with_first (a || b) 0 ≡ max (with_first a 0) (with_first b 0)
    go true true = omega arith
    go true false = omega arith
    go false true = omega arith
    go false false = omega arith
with_first-both a b zero (suc n) = omega (arith, with_first-more (a || b) (max zero (suc n)) (omega arith), with_first-none a, with_first-more b (suc n) (omega arith))
with_first-both a b (suc m) zero = omega (arith, with_first-more (a || b) (max (suc m) zero) (omega arith), with_first-none b, with_first-more a (suc m) (omega arith))
with_first-both a b (suc m) (suc n) = omega (arith, with_first-more (a || b) (max (suc m) (suc n)) (omega arith), with_first-more a (suc m) (omega arith), with_first-more b (suc n) (omega arith))

-- a literal more
pub last_false-more : (T : Trail) (c : Clause) (l : Literal) → last_false T (c ++ l ∷ []) ≡ max (last_false T c) (last_false T (l ∷ []))
last_false-more [] c l = omega arith
last_false-more (e ∷ T) c l =
    (λ i. with_first (has-append c (l ∷ []) (negated e.lit) i) (last_false-more T c l i))
    ∙ with_first-both (has c (negated e.lit)) (has (l ∷ []) (negated e.lit)) (last_false T c) (last_false T (l ∷ []))

-- of a literal that isn't false
pub last_false-none : (T : Trail) (l : Literal) → has (literals T) (negated l) ≡ false → last_false T (l ∷ []) ≡ 0
last_false-none [] l h = refl
last_false-none (e ∷ T) l h =
    (λ i. with_first (apart i) (last_false-none T l (or_false_right (same (negated l) e.lit) (has (literals T) (negated l)) h) i))
  where
    here : same (negated l) e.lit ≡ false
    here = or_false_left (same (negated l) e.lit) (has (literals T) (negated l)) h

    apart : has (l ∷ []) (negated e.lit) ≡ false
    apart = false_unless (has (l ∷ []) (negated e.lit)) (λ m. one (or-cases (same (negated e.lit) l) false m))
      where
        one : (same (negated e.lit) l ≡ true) ⊎ (false ≡ true) → ⊥
        one (inl f) =
            let g : negated l ≡ e.lit = ap negated (sym (same-eq (negated e.lit) l f)) ∙ negated-negated e.lit in
            true_false (same (negated l) e.lit) (subst (λ (x : Literal). same x e.lit ≡ true) (sym g) (same-refl e.lit)) here
        one (inr f) = absurd (cc)

entry_of-var : (T : Trail) (v : ℕ) (e : Entry) → entry_of T v ≡ Some e → e.lit.var ≡ v
entry_of-var [] v e h = absurd (cc)
entry_of-var (d ∷ T) v e h = go (nat_eq d.lit.var v) refl h (entry_of-var T v e)
  where
    go : (b : Bool) → nat_eq d.lit.var v ≡ b → cond b (Some d) (entry_of T v) ≡ Some e → (entry_of T v ≡ Some e → e.lit.var ≡ v) → e.lit.var ≡ v
    go true f k more = let one : d ≡ e = cc in rw (← one) (eqb-true d.lit.var v f)
    go false f k more = more k

slice_get-var : (T : Trail) (p : ℕ) (e : Entry) → slice_get T p ≡ Some e → has_var (literals T) e.lit.var ≡ true
slice_get-var [] p e h = absurd (cc)
slice_get-var (d ∷ T) zero e h = let one : d ≡ e = cc in rw (← one, eq-eqb d.lit.var d.lit.var refl) refl
slice_get-var (d ∷ T) (suc p) e h = go (nat_eq e.lit.var d.lit.var) (slice_get-var T p e h)
  where
    go : (b : Bool) → has_var (literals T) e.lit.var ≡ true → b || has_var (literals T) e.lit.var ≡ true
    go true f = refl
    go false f = f

-- of a false literal
pub last_false-at : (T : Trail) (l : Literal) (p : ℕ) → are_distinct (literals T) ≡ true → p < length T → slice_get T p ≡ entry_of T l.var → has (literals T) (negated l) ≡ true → last_false T (l ∷ []) ≡ p + 1
last_false-at [] l p d inside found h = absurd (omega (arith, inside))
last_false-at (e ∷ T) l p d inside found h = go p inside found (or-cases (same (negated l) e.lit) (has (literals T) (negated l)) h) (last_false-at T l)
  where
    fresh : has_var (literals T) e.lit.var ≡ false
    fresh = not_true (has_var (literals T) e.lit.var) (and-left (not (has_var (literals T) e.lit.var)) (are_distinct (literals T)) d)

    rest : are_distinct (literals T) ≡ true
    rest = and-right (not (has_var (literals T) e.lit.var)) (are_distinct (literals T)) d

    here : e.lit.var ≡ l.var → same (negated l) e.lit ≡ true → last_false (e ∷ T) (l ∷ []) ≡ 1
    here v f = (λ i. with_first (is i) (behind i))
      where
        lit : negated e.lit ≡ l
        lit = ap negated (sym (same-eq (negated l) e.lit f)) ∙ negated-negated l

        is : has (l ∷ []) (negated e.lit) ≡ true
        is = subst (λ (x : Literal). has (l ∷ []) x ≡ true) (sym lit) (or-left (same l l) false (same-refl l))

        behind : last_false T (l ∷ []) ≡ 0
        behind = last_false-none T l (false_unless (has (literals T) (negated l)) (λ m. free-not_negated (literals T) l (rw (← v) fresh) m))

    one_var : same (negated l) e.lit ≡ true → e.lit.var ≡ l.var
    one_var f = ap (λ (x : Literal). x.var) (sym (same-eq (negated l) e.lit f))

    not_behind : e.lit.var ≡ l.var → has (literals T) (negated l) ≡ true → ⊥
    not_behind v m = free-not_negated (literals T) l (rw (← v) fresh) m

    go : (p : ℕ) → p < length (e ∷ T) → slice_get (e ∷ T) p ≡ cond (nat_eq e.lit.var l.var) (Some e) (entry_of T l.var) → (same (negated l) e.lit ≡ true) ⊎ (has (literals T) (negated l) ≡ true)
        → ((q : ℕ) → are_distinct (literals T) ≡ true → q < length T → slice_get T q ≡ entry_of T l.var → has (literals T) (negated l) ≡ true → last_false T (l ∷ []) ≡ q + 1) → last_false (e ∷ T) (l ∷ []) ≡ p + 1
    go zero inside found (inl f) more = here (one_var f) f
    go zero inside found (inr m) more = by (nat_eq e.lit.var l.var) refl found
      where
        by : (b : Bool) → nat_eq e.lit.var l.var ≡ b → Some e ≡ cond b (Some e) (entry_of T l.var) → last_false (e ∷ T) (l ∷ []) ≡ 0 + 1
        by true v g = absurd (not_behind (eqb-true e.lit.var l.var v) m)
        by false v g = absurd (true_false (nat_eq e.lit.var l.var) (eq-eqb e.lit.var l.var (entry_of-var T l.var e (sym g))) v)
    go (suc q) inside found h more = by (nat_eq e.lit.var l.var) refl found h
      where
        by : (b : Bool) → nat_eq e.lit.var l.var ≡ b → slice_get T q ≡ cond b (Some e) (entry_of T l.var) → (same (negated l) e.lit ≡ true) ⊎ (has (literals T) (negated l) ≡ true) → last_false (e ∷ T) (l ∷ []) ≡ suc q + 1
        by true v g x = absurd (true_false (has_var (literals T) e.lit.var) (slice_get-var T q e g) fresh)
        by false v g (inl f) = absurd (true_false (nat_eq e.lit.var l.var) (eq-eqb e.lit.var l.var (one_var f)) v)
        by false v g (inr m) =
            let r : last_false T (l ∷ []) ≡ q + 1 = more q rest (omega (arith, inside)) g m in
            omega (arith, r, with_first-more (has (l ∷ []) (negated e.lit)) (last_false T (l ∷ [])) (omega (arith, r)))

-- an entry more that makes none of the clause's literals false
pub last_false-push : (T : Trail) (e : Entry) (c : Clause) → has c (negated e.lit) ≡ false → last_false (T ++ e ∷ []) c ≡ last_false T c
last_false-push [] e c h = rw h refl
last_false-push (d ∷ T) e c h = ap (with_first (has c (negated d.lit))) (last_false-push T e c h)

pub last_false-empty : (T : Trail) → last_false T [] ≡ 0
last_false-empty [] = refl
last_false-empty (e ∷ T) = ap (with_first false) (last_false-empty T)

-- how a program takes the greater of two numbers
pub max-is : (x y : ℕ) → cond (is_lt (nat_cmp y x)) x y ≡ max x y
max-is x y = go (nat_lt y x) refl (nat_eq y x)
  where
    go : (b : Bool) → nat_lt y x ≡ b → (c : Bool) → cond (is_lt (cond b Less (cond c Equal Greater))) x y ≡ max x y
    go true e c = let f = ltb-true y x e in omega (arith, f)
    go false e true = let f = ltb-false y x e in omega (arith, f)
    go false e false = let f = ltb-false y x e in omega (arith, f)

-- of a clause with a literal that the last entry makes false
last_false-last : (T : Trail) (p : ℕ) (e x : Entry) (c : Clause) → length T ≡ p + 1 → e ≡ get_or T p x → has c (negated e.lit) ≡ true → last_false T c ≡ length T
last_false-last [] p e x c long found h = absurd (omega (arith, long))
last_false-last (d ∷ []) zero e x c long found h = ap (λ b. with_first b 0) (ap (λ (y : Entry). has c (negated y.lit)) (sym found) ∙ h)
last_false-last (d ∷ []) (suc p) e x c long found h = absurd (omega (arith, long))
last_false-last (d ∷ f ∷ T) zero e x c long found h = absurd (omega (arith, long))
last_false-last (d ∷ f ∷ T) (suc p) e x c long found h =
    let r : last_false (f ∷ T) c ≡ length (f ∷ T) = last_false-last (f ∷ T) p e x c (omega (arith, long)) found h in
    ap (with_first (has c (negated d.lit))) r

pub last_false-fell : (T : Trail) (e x : Entry) (c : Clause) (l gone : Literal) → 0 < length T → e ≡ get_or T (length T - 1) x → gone ≡ negated e.lit → same l gone ≡ true → has c l ≡ true → last_false T c ≡ length T
last_false-fell T e x c l gone some found is one member =
    last_false-last T (length T - 1) e x c (omega (arith, some)) found (subst (λ (k : Literal). has c k ≡ true) (same-eq l gone one ∙ is) member)
