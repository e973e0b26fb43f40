-- Sets of literals by rising variable: their variables and their counts, as literals come and go.
use Rattle.std.proofs.Common.{◌≡◌, ℕ, zero, suc, ◌+◌, ◌-◌, ◌<◌, ◌≤◌, Bool, true, false, not, ◌||◌, [], ◌∷◌, length, refl, ap, sym, ◌∙◌, nat_eq, nat_lt, eq-eqb, ltb-true, ltb-false, cond, count_by, filter, drop, get_or, if◌then◌else◌, inl, inr, arith}
use Rattle.std.proofs.lemmas.List.{drop_more}
use Rattle.std.proofs.lemmas.List.Sums.{sum_by-cons}
use Rattle.theory.specs.Literals.{Literal, Clause, same, has, has_var, without}
use Rattle.theory.specs.Learning.{IsRising, with_literal}
use Rattle.theory.proofs.literals.LiteralLemmas.{same-eq, true_or_false}
use Rattle.theory.proofs.literals.LiteralSets.{true_false, false_unless, has-cases, has-equal, has-head, has-tail, other-same, or-false_left, or-false_right}

or-idem : (a b : Bool) → a || (a || b) ≡ a || b
or-idem true b = refl
or-idem false b = refl

or-swap : (a b c : Bool) → a || (b || c) ≡ b || (a || c)
or-swap true true c = refl
or-swap true false c = refl
or-swap false b c = refl

-- the variables of a set with a literal more
pub has_var-with_literal : (l : Literal) (S : Clause) (v : ℕ) → has_var (with_literal l S) v ≡ nat_eq v l.var || has_var S v
has_var-with_literal l [] v = refl
has_var-with_literal l (k ∷ S) v = equal (same l k) refl (has_var-with_literal l S v)
  where
    More : Type 0
    More = has_var (with_literal l S) v ≡ nat_eq v l.var || has_var S v

    below : (b : Bool) → More → has_var (if b then k ∷ with_literal l S else l ∷ k ∷ S) v ≡ nat_eq v l.var || has_var (k ∷ S) v
    below true h = ap (λ b. nat_eq v k.var || b) h ∙ or-swap (nat_eq v k.var) (nat_eq v l.var) (has_var S v)
    below false h = refl

    equal : (b : Bool) → same l k ≡ b → More → has_var (if b then k ∷ S else if nat_lt k.var l.var then k ∷ with_literal l S else l ∷ k ∷ S) v ≡ nat_eq v l.var || has_var (k ∷ S) v
    equal true e h = sym (ap (λ (x : Literal). nat_eq v x.var || (nat_eq v k.var || has_var S v)) (same-eq l k e) ∙ or-idem (nat_eq v k.var) (has_var S v))
    equal false e h = below (nat_lt k.var l.var) h

-- a literal that is there already
pub with_literal-there : (l : Literal) (S : Clause) → IsRising S → has S l ≡ true → with_literal l S ≡ S
with_literal-there l [] h a = absurd (cc)
with_literal-there l (k ∷ S) h a = equal (same l k) refl (λ r. with_literal-there l S h.1 r)
  where
    below : (b : Bool) → nat_lt k.var l.var ≡ b → has S l ≡ true → with_literal l S ≡ S → (if b then k ∷ with_literal l S else l ∷ k ∷ S) ≡ k ∷ S
    below true e r more = ap (λ c. k ∷ c) more
    below false e r more = let less = h.0 l r in let most = ltb-false k.var l.var e in absurd (omega arith)

    equal : (b : Bool) → same l k ≡ b → (has S l ≡ true → with_literal l S ≡ S)
        → (if b then k ∷ S else if nat_lt k.var l.var then k ∷ with_literal l S else l ∷ k ∷ S) ≡ k ∷ S
    equal true e more = refl
    equal false e more = elim (has-cases k l S a) [ inl i ↦ absurd (other-same l k e i) | inr r ↦ below (nat_lt k.var l.var) refl r (more r) ]

-- counts
count-cons : (p : Literal → Bool) (k : Literal) (S : Clause) → count_by p (k ∷ S) ≡ cond (p k) 1 0 + count_by p S
count-cons p k S = sum_by-cons (λ l. cond (p l) 1 0) k S

pub count-length : (p : Literal → Bool) (S : Clause) → count_by p S ≤ length S
count-length p [] = omega arith
count-length p (k ∷ S) = let c = count-cons p k S in let more = count-length p S in let one = most (p k) in omega arith
  where
    most : (b : Bool) → cond b 1 0 ≤ 1
    most true = omega arith
    most false = omega arith

pub count-with_literal : (p : Literal → Bool) (l : Literal) (S : Clause) → has S l ≡ false → count_by p (with_literal l S) ≡ cond (p l) 1 0 + count_by p S
count-with_literal p l [] a = count-cons p l []
count-with_literal p l (k ∷ S) a = equal (same l k) refl (count-with_literal p l S (or-false_right (same l k) (has S l) a))
  where
    More : Type 0
    More = count_by p (with_literal l S) ≡ cond (p l) 1 0 + count_by p S

    below : (b : Bool) → More → count_by p (if b then k ∷ with_literal l S else l ∷ k ∷ S) ≡ cond (p l) 1 0 + count_by p (k ∷ S)
    below true h = let c = count-cons p k S in let d = count-cons p k (with_literal l S) in omega arith
    below false h = count-cons p l (k ∷ S)

    equal : (b : Bool) → same l k ≡ b → More
        → count_by p (if b then k ∷ S else if nat_lt k.var l.var then k ∷ with_literal l S else l ∷ k ∷ S) ≡ cond (p l) 1 0 + count_by p (k ∷ S)
    equal true e h = true_false (same l k) e (or-false_left (same l k) (has S l) a)
    equal false e h = below (nat_lt k.var l.var) h

without-none : (l : Literal) (S : Clause) → has S l ≡ false → without S l ≡ S
without-none l [] a = refl
without-none l (k ∷ S) a =
    let here : same l k ≡ false = or-false_left (same l k) (has S l) a in
    rw here (ap (λ c. k ∷ c) (without-none l S (or-false_right (same l k) (has S l) a)))

pub count-without : (p : Literal → Bool) (l : Literal) (S : Clause) → IsRising S → has S l ≡ true → count_by p S ≡ cond (p l) 1 0 + count_by p (without S l)
count-without p l [] h a = absurd (cc)
count-without p l (k ∷ S) h a = go (same l k) refl (λ r. count-without p l S h.1 r)
  where
    behind : l ≡ k → has S l ≡ true → ⊥
    behind e t = let less = h.0 l t in let one : l.var ≡ k.var = ap (λ (x : Literal). x.var) e in omega arith

    go : (b : Bool) → same l k ≡ b → (has S l ≡ true → count_by p S ≡ cond (p l) 1 0 + count_by p (without S l))
        → count_by p (k ∷ S) ≡ cond (p l) 1 0 + count_by p (cond (not b) (k ∷ without S l) (without S l))
    go true e more =
        let one = same-eq l k e in
        let none : has S l ≡ false = false_unless (has S l) (behind one) in
        count-cons p k S
        ∙ (ap (λ (x : Literal). cond (p x) 1 0 + count_by p S) (sym one) ∙ ap (λ c. cond (p l) 1 0 + count_by p c) (sym (without-none l S none)))
    go false e more = elim (has-cases k l S a) [
      | inl i ↦ absurd (other-same l k e i)
      | inr r ↦ (let m = more r in let c = count-cons p k S in let d = count-cons p k (without S l) in omega arith)
    ]

-- the other variables of a set without a literal
pub has_var-without : (l : Literal) (S : Clause) (v : ℕ) → nat_eq v l.var ≡ false → has_var (without S l) v ≡ has_var S v
has_var-without l [] v n = refl
has_var-without l (k ∷ S) v n = go (same l k) refl (has_var-without l S v n)
  where
    go : (b : Bool) → same l k ≡ b → has_var (without S l) v ≡ has_var S v
        → has_var (cond (not b) (k ∷ without S l) (without S l)) v ≡ nat_eq v k.var || has_var S v
    go true e more =
        let other : nat_eq v k.var ≡ false = ap (λ (x : Literal). nat_eq v x.var) (sym (same-eq l k e)) ∙ n in
        more ∙ sym (ap (λ b. b || has_var S v) other)
    go false e more = ap (λ b. nat_eq v k.var || b) more

-- a set without a literal has no further variable
pub has_var-from_without : (l : Literal) (S : Clause) (v : ℕ) → has_var (without S l) v ≡ true → has_var S v ≡ true
has_var-from_without l [] v a = a
has_var-from_without l (k ∷ S) v a = go (same l k) a (has_var-from_without l S v)
  where
    or-more : (a b c : Bool) → (b ≡ true → c ≡ true) → a || b ≡ true → a || c ≡ true
    or-more true b c more h = refl
    or-more false b c more h = more h

    or-last : (a b : Bool) → b ≡ true → a || b ≡ true
    or-last true b h = refl
    or-last false b h = h

    go : (b : Bool) → has_var (cond (not b) (k ∷ without S l) (without S l)) v ≡ true → (has_var (without S l) v ≡ true → has_var S v ≡ true) → nat_eq v k.var || has_var S v ≡ true
    go true h more = or-last (nat_eq v k.var) (has_var S v) (more h)
    go false h more = or-more (nat_eq v k.var) (has_var (without S l) v) (has_var S v) more h

-- a literal of a clause, by its place
pub has-at : (c : Clause) (i : ℕ) (l : Literal) → i < length c → l ≡ get_or c i l → has c l ≡ true
has-at [] i l h e = absurd (omega arith)
has-at (k ∷ c) zero l h e = has-equal k l c e
has-at (k ∷ c) (suc i) l h e = has-tail k l c (has-at c i l (omega arith) e)

-- the literals from a place on, counted from the end
pub drop-before : (c : Clause) (done : ℕ) (l : Literal) → done < length c → l ≡ get_or c (length c - 1 - done) l
    → drop (length c - (done + 1)) c ≡ l ∷ drop (length c - done) c
drop-before c done l h e =
    let i = length c - 1 - done in
    let next : length c - done ≡ i + 1 = omega arith in
    let here : length c - (done + 1) ≡ i = omega arith in
    let below : i < length c = omega arith in
    rw (next, here) (drop_more c i l below ∙ ap (λ k. k ∷ drop (i + 1) c) (sym e))

pub without-same : (c : Clause) (k l : Literal) → same k l ≡ true → without (l ∷ c) k ≡ without c k
without-same c k l e = rw e refl

pub without-other : (c : Clause) (k l : Literal) → same k l ≡ false → without (l ∷ c) k ≡ l ∷ without c k
without-other c k l e = rw e refl

-- the literals of the variables above i
abbrev pub above : ℕ → Clause → Clause
above i S = filter (λ l. nat_lt i l.var) S

lt-true : (a b : ℕ) → a < b → nat_lt a b ≡ true
lt-true a b h = elim (true_or_false (nat_lt a b)) [ inl e ↦ e | inr e ↦ (let most = ltb-false a b e in absurd (omega arith)) ]

lt-false : (a b : ℕ) → b ≤ a → nat_lt a b ≡ false
lt-false a b h = elim (true_or_false (nat_lt a b)) [ inl e ↦ (let less = ltb-true a b e in absurd (omega arith)) | inr e ↦ e ]

pub above-all : (i : ℕ) (S : Clause) → ((l : Literal) → has S l ≡ true → i < l.var) → above i S ≡ S
above-all i [] h = refl
above-all i (k ∷ S) h = rw (lt-true i k.var (h k (has-head k S))) (ap (λ c. k ∷ c) (above-all i S (λ l a. h l (has-tail k l S a))))

pub above-none : (i : ℕ) (S : Clause) → ((l : Literal) → has S l ≡ true → l.var ≤ i) → above i S ≡ []
above-none i [] h = refl
above-none i (k ∷ S) h = rw (lt-false i k.var (h k (has-head k S))) (above-none i S (λ l a. h l (has-tail k l S a)))

-- one variable on, where it isn't in the set
pub above-same : (i : ℕ) (S : Clause) → has_var S (i + 1) ≡ false → above i S ≡ above (i + 1) S
above-same i [] h = refl
above-same i (k ∷ S) h = go (nat_lt i k.var) refl (above-same i S (or-false_right (nat_eq (i + 1) k.var) (has_var S (i + 1)) h))
  where
    other : ¬ (i + 1 ≡ k.var)
    other e = true_false (nat_eq (i + 1) k.var) (eq-eqb (i + 1) k.var e) (or-false_left (nat_eq (i + 1) k.var) (has_var S (i + 1)) h)

    go : (b : Bool) → nat_lt i k.var ≡ b → above i S ≡ above (i + 1) S → cond b (k ∷ above i S) (above i S) ≡ above (i + 1) (k ∷ S)
    go true e more =
        let less = ltb-true i k.var e in
        let higher : i + 1 < k.var = omega (arith, other) in
        rw (lt-true (i + 1) k.var higher) (ap (λ c. k ∷ c) more)
    go false e more = let most = ltb-false i k.var e in rw (lt-false (i + 1) k.var (omega arith)) more

-- and where it is
pub above-here : (i : ℕ) (l : Literal) (S : Clause) → IsRising S → has S l ≡ true → l.var ≡ i + 1 → above i S ≡ l ∷ above (i + 1) S
above-here i l [] h a e = absurd (cc)
above-here i l (k ∷ S) h a e = elim (has-cases k l S a) [
  | inl one ↦ first one
  | inr r ↦ later (h.0 l r) (above-here i l S h.1 r e)
]
  where
    first : l ≡ k → above i (k ∷ S) ≡ l ∷ above (i + 1) (k ∷ S)
    first one =
        let var : k.var ≡ i + 1 = ap (λ (x : Literal). x.var) (sym one) ∙ e in
        let low : (x : Literal) → has S x ≡ true → i + 1 < x.var = λ x b. (let more = h.0 x b in omega arith) in
        let lower : (x : Literal) → has S x ≡ true → i < x.var = λ x b. (let more = h.0 x b in omega arith) in
        rw (lt-true i k.var (omega arith), lt-false (i + 1) k.var (omega arith), above-all i S lower, above-all (i + 1) S low) (ap (λ x. x ∷ S) (sym one))

    later : k.var < l.var → above i S ≡ l ∷ above (i + 1) S → above i (k ∷ S) ≡ l ∷ above (i + 1) (k ∷ S)
    later less more = rw (lt-false i k.var (omega arith), lt-false (i + 1) k.var (omega arith)) more
