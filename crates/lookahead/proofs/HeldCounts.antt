-- Whether a clause holds a variable, by how often its literals are counted: it does where its rank
-- is above 1.
use Rattle.std.proofs.Common.{◌≡◌, ℕ, zero, suc, ◌+◌, ◌*◌, ◌<◌, ◌≤◌, Bool, true, false, not, ◌&&◌, ◌||◌, cond, nat_eq, nat_lt, List, [], ◌∷◌, ◌++◌, map, filter, refl, ap, ap₂, sym, subst, ◌∙◌, append-nil, arith}
use Rattle.std.proofs.lemmas.Bool.{lt-ltb}
use Rattle.std.proofs.lemmas.Nat.{mul-le}
use Rattle.std.proofs.lemmas.List.{map-append}
use Rattle.std.proofs.lemmas.List.Elements.{filter-append}
use Rattle.std.proofs.lemmas.List.Sums.{sum_by-cons}
use Rattle.theory.specs.Literals.{Clause, has, has_var, has_both_signs, positive, negative}
use Rattle.theory.specs.Trails.{variables}
use Rattle.theory.specs.Held.{is_held}
use Rattle.theory.specs.Looking.{occurrences, rank}
use Rattle.theory.proofs.literals.LiteralLemmas.{or-left, or-right}
use Rattle.lookahead.specs.declared.ranking.Ranked.{Ranked}

-- a clause has a variable where it has one of its literals
has_var-signs : (c : Clause) (v : ℕ) → has_var c v ≡ (has c (positive v) || has c (negative v))
has_var-signs [] v = refl
has_var-signs (l ∷ c) v = go (nat_eq v l.var) l.positive (has_var c v) (has c (positive v)) (has c (negative v)) (has_var-signs c v)
  where
    go : (e p h a b : Bool) → h ≡ (a || b) → (e || h) ≡ (((e && p) || a) || ((e && not p) || b))
    go true true h a b k = refl
    go true false h true b k = refl
    go true false h false b k = refl
    go false p h a b k = k

none-more : (n : ℕ) → nat_lt 0 n ≡ nat_lt 0 (0 + n)
none-more n = ap (nat_lt 0) (let e : n ≡ 0 + n = omega arith in e)

one-more : (n : ℕ) → nat_lt 0 (1 + n) ≡ true
one-more n = lt-ltb 0 (1 + n) (omega arith)

-- one clause more: whether it has both literals of a variable, the positive one, and the other one
counted-more : (s p q : Bool) (m n : ℕ) → (((p || q) && not s) || (nat_lt 0 m || nat_lt 0 n)) ≡ (nat_lt 0 (cond (p && not s) 1 0 + m) || nat_lt 0 (cond (q && not s) 1 0 + n))
counted-more true true true m n = ap₂ (λ a b. a || b) (none-more m) (none-more n)
counted-more true true false m n = ap₂ (λ a b. a || b) (none-more m) (none-more n)
counted-more true false true m n = ap₂ (λ a b. a || b) (none-more m) (none-more n)
counted-more true false false m n = ap₂ (λ a b. a || b) (none-more m) (none-more n)
counted-more false true q m n = sym (or-left (nat_lt 0 (1 + m)) (nat_lt 0 (cond (q && true) 1 0 + n)) (one-more m))
counted-more false false true m n = sym (or-right (nat_lt 0 (0 + m)) (nat_lt 0 (1 + n)) (one-more n))
counted-more false false false m n = ap₂ (λ a b. a || b) (none-more m) (none-more n)

held-counted : (K : List Clause) (v : ℕ) → is_held K v ≡ (nat_lt 0 (occurrences K (positive v)) || nat_lt 0 (occurrences K (negative v)))
held-counted [] v = refl
held-counted (c ∷ K) v =
    let first = sum_by-cons (λ (d : Clause). cond (has d (positive v) && not (has_both_signs d)) 1 0) c K in
    let second = sum_by-cons (λ (d : Clause). cond (has d (negative v) && not (has_both_signs d)) 1 0) c K in
    ap₂ (λ h r. (h && not (has_both_signs c)) || r) (has_var-signs c v) (held-counted K v)
    ∙ (counted-more (has_both_signs c) (has c (positive v)) (has c (negative v)) (occurrences K (positive v)) (occurrences K (negative v))
    ∙ ap₂ (λ a b. nat_lt 0 a || nat_lt 0 b) (sym first) (sym second))

-- a product of two numbers above 0 is above 1 where one of them is
above-one : (a b : ℕ) → nat_lt 1 ((a + 1) * (b + 1)) ≡ (nat_lt 0 a || nat_lt 0 b)
above-one zero zero = refl
above-one zero (suc b) =
    let product = mul-le 1 (suc b + 1) (0 + 1) (suc b + 1) (omega arith) (omega arith) in
    lt-ltb 1 ((0 + 1) * (suc b + 1)) (omega (arith, product)) ∙ sym (or-right (nat_lt 0 0) (nat_lt 0 (suc b)) (lt-ltb 0 (suc b) (omega arith)))
above-one (suc a) b =
    let product = mul-le (suc a + 1) 1 (suc a + 1) (b + 1) (omega arith) (omega arith) in
    lt-ltb 1 ((suc a + 1) * (b + 1)) (omega (arith, product)) ∙ sym (or-left (nat_lt 0 (suc a)) (nat_lt 0 b) (lt-ltb 0 (suc a) (omega arith)))

pub held-ranked : (K : List Clause) (v : ℕ) → nat_lt 1 (rank K v) ≡ is_held K v
held-ranked K v = above-one (occurrences K (positive v)) (occurrences K (negative v)) ∙ sym (held-counted K v)

-- the variables that pass, with one more
pub chosen-more : (p : ℕ → Bool) (f : ℕ → Ranked) (n : ℕ) → p (n + 1) ≡ true → map f (filter p (variables (n + 1))) ≡ map f (filter p (variables n)) ++ f (n + 1) ∷ []
chosen-more p f n h =
    let next : suc n ≡ n + 1 = omega arith in
    subst (λ m. p m ≡ true → map f (filter p (variables m)) ≡ map f (filter p (variables n)) ++ f m ∷ []) next
    (λ k. ap (map f) (filter-append p (variables n) (suc n ∷ []) ∙ ap (λ b. filter p (variables n) ++ cond b (suc n ∷ []) []) k) ∙ map-append f (filter p (variables n)) (suc n ∷ [])) h

pub chosen-less : (p : ℕ → Bool) (f : ℕ → Ranked) (n : ℕ) → p (n + 1) ≡ false → map f (filter p (variables (n + 1))) ≡ map f (filter p (variables n))
chosen-less p f n h =
    let next : suc n ≡ n + 1 = omega arith in
    subst (λ m. p m ≡ false → map f (filter p (variables m)) ≡ map f (filter p (variables n))) next
    (λ k. ap (map f) (filter-append p (variables n) (suc n ∷ []) ∙ (ap (λ b. filter p (variables n) ++ cond b (suc n ∷ []) []) k ∙ append-nil (filter p (variables n))))) h
