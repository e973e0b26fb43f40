-- The literals of a trail, of its front and of its states at earlier levels.
use Rattle.std.proofs.Common.{◌≡◌, ℕ, suc, zero, ◌-◌, ◌<◌, Bool, true, false, not, ◌||◌, List, [], ◌∷◌, ◌++◌, length, take, Some, refl, ap, sym, subst, ◌∙◌, ◌⊎◌, inl, inr, arith, cond, nat_le, leb-true, slice_get}
use Rattle.std.proofs.lemmas.List.{length_push}
use Rattle.theory.specs.Literals.{Literal, same, has, has_var, negated, are_distinct}
use Rattle.theory.specs.Trails.{Entry, Trail, literals, current_level, up_to}
use Rattle.theory.proofs.literals.LiteralLemmas.{and-left, and-right, or-cases, or-left, or-right, not_true, same-eq}
use Rattle.kernel.specs.Watching.{Includes, IsConsistent}
use Rattle.kernel.proofs.LiteralFacts.{true_false, has-var}

pub literals-push : (T : Trail) (e : Entry) → literals (T ++ e ∷ []) ≡ literals T ++ e.lit ∷ []
literals-push [] e = refl
literals-push (f ∷ T) e = ap (λ x. f.lit ∷ x) (literals-push T e)

pub Includes-up_to : (T : Trail) (m : ℕ) → Includes (literals T) (literals (up_to T m))
Includes-up_to [] m l h = h
Includes-up_to (e ∷ T) m l h = go (nat_le e.level m) h (Includes-up_to T m l)
  where
    go : (b : Bool) → has (literals (cond b (e ∷ up_to T m) (up_to T m))) l ≡ true → (has (literals (up_to T m)) l ≡ true → has (literals T) l ≡ true) → same l e.lit || has (literals T) l ≡ true
    go true k more = last (or-cases (same l e.lit) (has (literals (up_to T m)) l) k)
      where
        last : (same l e.lit ≡ true) ⊎ (has (literals (up_to T m)) l ≡ true) → same l e.lit || has (literals T) l ≡ true
        last (inl a) = or-left (same l e.lit) (has (literals T) l) a
        last (inr a) = or-right (same l e.lit) (has (literals T) l) (more a)
    go false k more = or-right (same l e.lit) (has (literals T) l) (more k)

pub Includes-take : (T : Trail) (n : ℕ) → Includes (literals T) (literals (take n T))
Includes-take T zero l h = absurd (cc)
Includes-take [] (suc n) l h = h
Includes-take (e ∷ T) (suc n) l h = last (or-cases (same l e.lit) (has (literals (take n T)) l) h) (Includes-take T n l)
  where
    last : (same l e.lit ≡ true) ⊎ (has (literals (take n T)) l ≡ true) → (has (literals (take n T)) l ≡ true → has (literals T) l ≡ true) → same l e.lit || has (literals T) l ≡ true
    last (inl a) more = or-left (same l e.lit) (has (literals T) l) a
    last (inr a) more = or-right (same l e.lit) (has (literals T) l) (more a)

-- an entry of a higher level isn't in an earlier state
pub up_to-push : (T : Trail) (e : Entry) (m : ℕ) → m < e.level → up_to (T ++ e ∷ []) m ≡ up_to T m
up_to-push [] e m h = go (nat_le e.level m) refl
  where
    go : (b : Bool) → nat_le e.level m ≡ b → cond (nat_le e.level m) (e ∷ []) [] ≡ []
    go true k = absurd (omega (arith, leb-true e.level m k, h))
    go false k = rw k refl
up_to-push (f ∷ T) e m h = go (nat_le f.level m) (up_to-push T e m h)
  where
    go : (b : Bool) → up_to (T ++ e ∷ []) m ≡ up_to T m → cond b (f ∷ up_to (T ++ e ∷ []) m) (up_to (T ++ e ∷ []) m) ≡ cond b (f ∷ up_to T m) (up_to T m)
    go true k = ap (λ x. f ∷ x) k
    go false k = k

slice_get-last : (U : Trail) (e : Entry) → slice_get (U ++ e ∷ []) (length U) ≡ Some e
slice_get-last [] e = refl
slice_get-last (f ∷ U) e = slice_get-last U e

pub current_level-push : (T : Trail) (e : Entry) → current_level (T ++ e ∷ []) ≡ e.level
current_level-push T e =
    let size : length (T ++ e ∷ []) - 1 ≡ length T = omega (arith, length_push T e) in
    rw (size, slice_get-last T e) refl

-- a list without two literals of one variable has no literal beside its negation
pub distinct-consistent : (P : List Literal) → are_distinct P ≡ true → IsConsistent P
distinct-consistent [] h l a b = absurd (cc)
distinct-consistent (k ∷ P) h l a b = go (or-cases (same l k) (has P l) a) (or-cases (same (negated l) k) (has P (negated l)) b) (distinct-consistent P (and-right (not (has_var P k.var)) (are_distinct P) h) l)
  where
    fresh : has_var P k.var ≡ false
    fresh = not_true (has_var P k.var) (and-left (not (has_var P k.var)) (are_distinct P) h)

    clash : (x : Literal) → x.var ≡ k.var → has P x ≡ true → ⊥
    clash x e m = true_false (has_var P k.var) (subst (λ v. has_var P v ≡ true) e (has-var P x m)) fresh

    of_k : (x : Literal) → same x k ≡ true → x.var ≡ k.var
    of_k x e = ap (λ (y : Literal). y.var) (same-eq x k e)

    opposite : (s : Bool) → not s ≡ s → ⊥
    opposite true e = absurd (cc)
    opposite false e = absurd (cc)

    go : (same l k ≡ true) ⊎ (has P l ≡ true) → (same (negated l) k ≡ true) ⊎ (has P (negated l) ≡ true) → (has P l ≡ true → has P (negated l) ≡ true → ⊥) → ⊥
    go (inl e) (inl f) more = opposite l.positive (ap (λ (y : Literal). y.positive) (same-eq (negated l) k f ∙ sym (same-eq l k e)))
    go (inl e) (inr f) more = clash (negated l) (of_k l e) f
    go (inr e) (inl f) more = clash l (of_k (negated l) f) e
    go (inr e) (inr f) more = more e f
