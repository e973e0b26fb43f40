-- The best of the variables that pass a test: the one of greatest score, of several the greatest
-- variable.
use Rattle.std.proofs.Common.{◌≡◌, ℕ, zero, suc, ◌<◌, ◌≤◌, Bool, true, false, List, [], ◌∷◌, ◌++◌, filter, refl, ap, sym, ◌∙◌, subst, nat_le, leb-true, leb-false, le-leb, Option, Some, None, inl, inr, append-nil, arith, if◌then◌else◌, cond, ◌&&◌}
use Rattle.std.proofs.lemmas.Bool.{cases_eq, lt-leb}
use Rattle.std.proofs.lemmas.List.Elements.{filter-append}
use Rattle.theory.specs.Trails.{variables}
use Rattle.theory.specs.Scores.{Scores, score_of, better, best_of}
use Rattle.theory.proofs.literals.LiteralSets.{true_false}

-- of two, the second where it is no worse
pushed : Scores → Option ℕ → ℕ → Option ℕ
pushed s None x = Some x
pushed s (Some w) x = if nat_le (score_of s w) (score_of s x) then Some x else Some w

-- one more at the end of a list: v is before it, w the best of those between, and x the last
step : (s : Scores) (v w x : ℕ) → better s v (pushed s (Some w) x) ≡ pushed s (better s v (Some w)) x
unfolding pushed
step s v w x = go (nat_le (score_of s w) (score_of s x)) refl (nat_le (score_of s v) (score_of s w)) refl
  where
    go : (a : Bool) → nat_le (score_of s w) (score_of s x) ≡ a → (b : Bool) → nat_le (score_of s v) (score_of s w) ≡ b
        → better s v (if a then Some x else Some w) ≡ pushed s (if b then Some w else Some v) x
    go true e true f =
        let third : nat_le (score_of s v) (score_of s x) ≡ true = (let l = leb-true (score_of s w) (score_of s x) e in let m = leb-true (score_of s v) (score_of s w) f in le-leb (score_of s v) (score_of s x) (omega arith)) in
        rw (third, e) refl
    go true e false f = refl
    go false e true f = rw (f, e) refl
    go false e false f =
        let third : nat_le (score_of s v) (score_of s x) ≡ false = (let l = leb-false (score_of s w) (score_of s x) e in let m = leb-false (score_of s v) (score_of s w) f in lt-leb (score_of s v) (score_of s x) (omega arith)) in
        rw (f, third) refl

best_of-push : (s : Scores) (vs : List ℕ) (x : ℕ) → best_of s (vs ++ x ∷ []) ≡ pushed s (best_of s vs) x
unfolding pushed
best_of-push s [] x = refl
best_of-push s (v ∷ vs) x = ap (better s v) (best_of-push s vs x) ∙ go (best_of s vs)
  where
    go : (o : Option ℕ) → better s v (pushed s o x) ≡ pushed s (better s v o) x
    go None = refl
    go (Some w) = step s v w x

-- x passes, and is the best of the variables 1 to V that pass
pub record IsTop (s : Scores) (p : ℕ → Bool) (V x : ℕ) : Type 0 where
  pub low : 1 ≤ x
  pub high : x ≤ V
  pub passes : p x ≡ true
  pub above : (v : ℕ) → 1 ≤ v → v ≤ V → p v ≡ true → (score_of s v ≤ score_of s x) × (score_of s v ≡ score_of s x → v ≤ x)

abbrev pub AreNone : (ℕ → Bool) → ℕ → Type 0
AreNone p V = (v : ℕ) → 1 ≤ v → v ≤ V → p v ≡ false

abbrev pub IsAnswer : Scores → (ℕ → Bool) → ℕ → Option ℕ → Type 0
IsAnswer s p V None = AreNone p V
IsAnswer s p V (Some x) = IsTop s p V x

none-more : (p : ℕ → Bool) (V : ℕ) → AreNone p V → p (suc V) ≡ false → AreNone p (suc V)
none-more p V h e v l u = elim (cases_eq v (suc V)) [ inl same ↦ ap p same ∙ e | inr ne ↦ h v l (omega arith) ]

skipped : (s : Scores) (p : ℕ → Bool) (V : ℕ) (o : Option ℕ) → IsAnswer s p V o → p (suc V) ≡ false → IsAnswer s p (suc V) o
skipped s p V None h e = none-more p V h e
skipped s p V (Some x) h e = record {
  low = h.low;
  high = (let u = h.high in omega arith);
  passes = h.passes;
  above = λ v l u t. elim (cases_eq v (suc V)) [ inl same ↦ true_false (p v) t (ap p same ∙ e) | inr ne ↦ h.above v l (omega arith) t ];
}

-- the last one, which passes
last-alone : (s : Scores) (p : ℕ → Bool) (V : ℕ) → AreNone p V → p (suc V) ≡ true → IsTop s p (suc V) (suc V)
last-alone s p V h e = record {
  low = omega arith;
  high = omega arith;
  passes = e;
  above = λ v l u t. elim (cases_eq v (suc V)) [
    | inl same ↦ (let f = ap (score_of s) same in (omega arith, λ g. omega arith))
    | inr ne ↦ true_false (p v) t (h v l (omega arith))
  ];
}

last-best : (s : Scores) (p : ℕ → Bool) (V w : ℕ) → IsTop s p V w → p (suc V) ≡ true → score_of s w ≤ score_of s (suc V) → IsTop s p (suc V) (suc V)
last-best s p V w h e most = record {
  low = omega arith;
  high = omega arith;
  passes = e;
  above = λ v l u t. elim (cases_eq v (suc V)) [
    | inl same ↦ (let f = ap (score_of s) same in (omega arith, λ g. omega arith))
    | inr ne ↦ (let a = h.above v l (omega arith) t in let less = a.0 in (omega arith, λ g. omega arith))
  ];
}

last-worse : (s : Scores) (p : ℕ → Bool) (V w : ℕ) → IsTop s p V w → score_of s (suc V) < score_of s w → IsTop s p (suc V) w
last-worse s p V w h less = record {
  low = h.low;
  high = (let u = h.high in omega arith);
  passes = h.passes;
  above = λ v l u t. elim (cases_eq v (suc V)) [
    | inl same ↦ (let f = ap (score_of s) same in (omega arith, λ g. absurd (omega arith)))
    | inr ne ↦ h.above v l (omega arith) t
  ];
}

taken : (s : Scores) (p : ℕ → Bool) (V : ℕ) (o : Option ℕ) → IsAnswer s p V o → p (suc V) ≡ true → IsAnswer s p (suc V) (pushed s o (suc V))
unfolding pushed
taken s p V None h e = last-alone s p V h e
taken s p V (Some w) h e = go (nat_le (score_of s w) (score_of s (suc V))) refl
  where
    go : (b : Bool) → nat_le (score_of s w) (score_of s (suc V)) ≡ b → IsAnswer s p (suc V) (if b then Some (suc V) else Some w)
    go true f = last-best s p V w h e (leb-true (score_of s w) (score_of s (suc V)) f)
    go false f = last-worse s p V w h (leb-false (score_of s w) (score_of s (suc V)) f)

pub best_of-is : (s : Scores) (p : ℕ → Bool) (V : ℕ) → IsAnswer s p V (best_of s (filter p (variables V)))
best_of-is s p zero = λ v l u. absurd (omega arith)
best_of-is s p (suc V) = subst (λ vs. IsAnswer s p (suc V) (best_of s vs)) (sym (filter-append p (variables V) (suc V ∷ []))) (go (p (suc V)) refl (best_of-is s p V))
  where
    go : (b : Bool) → p (suc V) ≡ b → IsAnswer s p V (best_of s (filter p (variables V))) → IsAnswer s p (suc V) (best_of s (filter p (variables V) ++ filter p (suc V ∷ [])))
    go true e h = rw e (subst (IsAnswer s p (suc V)) (sym (best_of-push s (filter p (variables V)) (suc V))) (taken s p V (best_of s (filter p (variables V))) h e))
    go false e h = rw e (subst (λ vs. IsAnswer s p (suc V) (best_of s vs)) (sym (append-nil (filter p (variables V)))) (skipped s p V (best_of s (filter p (variables V))) h e))

-- there is one best one
pub best_of-top : (s : Scores) (p : ℕ → Bool) (V x : ℕ) → IsTop s p V x → best_of s (filter p (variables V)) ≡ Some x
best_of-top s p V x h = go (best_of s (filter p (variables V))) (best_of-is s p V)
  where
    one : (y : ℕ) → IsTop s p V y → y ≡ x
    one y k =
        let a = h.above y k.low k.high k.passes in
        let b = k.above x h.low h.high h.passes in
        let m = a.0 in
        let n = b.0 in
        let u = a.1 (omega arith) in
        let w = b.1 (omega arith) in
        omega arith

    go : (o : Option ℕ) → IsAnswer s p V o → o ≡ Some x
    go None k = true_false (p x) h.passes (k x h.low h.high)
    go (Some y) k = ap Some (one y k)

pub best_of-nobody : (s : Scores) (p : ℕ → Bool) (V : ℕ) → ((v : ℕ) → 1 ≤ v → v ≤ V → p v ≡ false) → best_of s (filter p (variables V)) ≡ None
best_of-nobody s p V h = go (best_of s (filter p (variables V))) (best_of-is s p V)
  where
    go : (o : Option ℕ) → IsAnswer s p V o → o ≡ None
    go None k = refl
    go (Some y) k = true_false (p y) k.passes (h y k.low k.high)

-- two tests, one after the other, are one
pub filter-both : (p q : ℕ → Bool) (vs : List ℕ) → filter p (filter q vs) ≡ filter (λ v. q v && p v) vs
filter-both p q [] = refl
filter-both p q (v ∷ vs) = go (q v) (p v) (filter-both p q vs) refl
  where
    go : (a b : Bool) → filter p (filter q vs) ≡ filter (λ v. q v && p v) vs → p v ≡ b → filter p (cond a (v ∷ filter q vs) (filter q vs)) ≡ cond (a && b) (v ∷ filter (λ v. q v && p v) vs) (filter (λ v. q v && p v) vs)
    go true true more e = rw e (ap (λ (r : List ℕ). v ∷ r) more)
    go true false more e = rw e more
    go false b more e = more
