-- Literals that were stably sorted by their variables and had what repeats side by side left out: they
-- are the set that they were of.
use Rattle.std.proofs.Common.{◌≡◌, ℕ, suc, ◌+◌, ◌*◌, ◌<◌, ◌≤◌, Bool, true, false, not, cond, nat_eq, nat_le, nat_lt, ltb-true, ltb-false, eqb-true, eq-eqb, leb-true, le-leb, [], ◌∷◌, filter, refl, ap, ap₂, sym, subst, ◌∙◌, ◌⊎◌, inl, inr, arith, ◌&&◌, IsTrue, ◌↔◌, if◌then◌else◌}
use Rattle.std.specs.List.{dedup, dedup_from}
use Rattle.std.specs.List.Sorted.{IsNonDecreasingBy, ties}
use Rattle.std.specs.Ordering.{nat_cmp, is_lt}
use Rattle.std.specs.declared.cmp.Ordering.TheVariants.{Less, Equal, Greater}
use Rattle.std.proofs.lemmas.Bool.{cases_eq}
use Rattle.theory.specs.Literals.{Literal, Clause, positive, same, has, has_both_signs}
use Rattle.theory.specs.Learning.{IsRising, with_literal}
use Rattle.theory.proofs.literals.LiteralLemmas.{and-left, and-right, not_true, same-eq, same-refl}
use Rattle.theory.proofs.literals.LiteralSets.{true_false, and-true, has-head, has-tail, has-cases, has-from_with_literal, has-from_filter, same-other, false_unless}
use Rattle.cnf.specs.Lits.{code}
use Rattle.simplify.specs.Entries.{set}
use Rattle.simplify.proofs.LiteralSets.{both, has-set, has_both_signs-set, rising-one_sign, set-rising, set-of}

-- the first variable is at least so great, and each other one above the one before
abbrev pub is_above : ℕ → Clause → Bool
is_above least [] = true
is_above least (l ∷ c) = nat_le least l.var && is_above (l.var + 1) c

above-all : (n : ℕ) (d : Clause) (k : Literal) → is_above n d ≡ true → has d k ≡ true → n ≤ k.var
above-all n [] k t a = absurd (cc)
above-all n (j ∷ d) k t a = go (has-cases j k d a) (above-all (j.var + 1) d k (and-right (nat_le n j.var) (is_above (j.var + 1) d) t))
  where
    here : n ≤ j.var
    here = leb-true n j.var (and-left (nat_le n j.var) (is_above (j.var + 1) d) t)

    go : (k ≡ j) ⊎ (has d k ≡ true) → (has d k ≡ true → j.var + 1 ≤ k.var) → n ≤ k.var
    go (inl e) more = let v : k.var ≡ j.var = ap (λ (x : Literal). x.var) e in let one = here in omega arith
    go (inr r) more = let rest = more r in let one = here in omega arith

-- so the literals rise
above-rising : (least : ℕ) (c : Clause) → is_above least c ≡ true → IsRising c
above-rising least [] h = tt
above-rising least (l ∷ c) h =
    let more = and-right (nat_le least l.var) (is_above (l.var + 1) c) h in
    (λ k a. (let less = above-all (l.var + 1) c k more a in omega arith), above-rising (l.var + 1) c more)

rising-above : (least : ℕ) (c : Clause) → IsRising c → ((l : Literal) → has c l ≡ true → least ≤ l.var) → is_above least c ≡ true
rising-above least [] r h = refl
rising-above least (l ∷ c) r h =
    and-true (nat_le least l.var) (is_above (l.var + 1) c) (le-leb least l.var (h l (has-head l c)))
    (rising-above (l.var + 1) c r.1 (λ k a. (let less = r.0 k a in omega arith)))

pub above-is : (b : Bool) (c : Clause) → b ≡ is_above 0 c → IsTrue b ↔ IsRising c
above-is b c e = (λ t. above-rising 0 c (sym e ∙ t), λ r. e ∙ rising-above 0 c r (λ l a. omega arith))

-- literals of one code are one
pub code-one : (k l : Literal) → code k ≡ code l → k ≡ l
code-one k l h = go k.positive l.positive refl refl h
  where
    one : (a b : Bool) → k.positive ≡ a → l.positive ≡ b → a ≡ b → k.var ≡ l.var → k ≡ l
    one a b p q s v = let same_sign : k.positive ≡ l.positive = p ∙ (s ∙ sym q) in λ i. record { var = v i; positive = same_sign i }

    go : (a b : Bool) → k.positive ≡ a → l.positive ≡ b → 2 * k.var + cond a 1 0 ≡ 2 * l.var + cond b 1 0 → k ≡ l
    go true true p q e = one true true p q refl (omega arith)
    go true false p q e = absurd (omega arith)
    go false true p q e = absurd (omega arith)
    go false false p q e = one false false p q refl (omega arith)

-- whether two literals have one code
abbrev pub same_code : Literal → Literal → Bool
same_code k l = nat_eq (code k) (code l)

-- whether a literal is of a variable
abbrev pub is_of : ℕ → Literal → Bool
is_of v l = nat_eq v l.var

-- the literals of one variable
abbrev of : ℕ → Clause → Clause
of v c = filter (is_of v) c

-- no literal is of a greater variable than those behind it
abbrev pub NeverFalls : Clause → Type 0
NeverFalls [] = Unit {0}
NeverFalls (k ∷ S) = ((l : Literal) → has S l ≡ true → k.var ≤ l.var) × NeverFalls S

-- a literal in front, unless it stands there
abbrev pub in_front : Literal → Clause → Clause
in_front l [] = l ∷ []
in_front l (k ∷ S) = if same l k then k ∷ S else l ∷ k ∷ S

-- the list without what repeats side by side
abbrev pub once_each : Clause → Clause
once_each [] = []
once_each (l ∷ c) = in_front l (once_each c)

falls-with_literal : (l : Literal) (S : Clause) → NeverFalls S → NeverFalls (with_literal l S)
falls-with_literal l [] h = (λ k a. absurd (cc), tt)
falls-with_literal l (k ∷ S) h = equal (same l k) (falls-with_literal l S h.1)
  where
    below : (b : Bool) → nat_lt k.var l.var ≡ b → NeverFalls (with_literal l S) → NeverFalls (if b then k ∷ with_literal l S else l ∷ k ∷ S)
    below true e r = (
      λ j a. elim (has-from_with_literal l j S a) [
        | inl i ↦ (let v : j.var ≡ l.var = ap (λ (x : Literal). x.var) i in let less = ltb-true k.var l.var e in omega arith)
        | inr i ↦ h.0 j i
      ],
      r,
    )
    below false e r = (
      λ j a. elim (has-cases k j S a) [
        | inl i ↦ (let v : j.var ≡ k.var = ap (λ (x : Literal). x.var) i in let most = ltb-false k.var l.var e in omega arith)
        | inr i ↦ (let more = h.0 j i in let most = ltb-false k.var l.var e in omega arith)
      ],
      h,
    )

    equal : (b : Bool) → NeverFalls (with_literal l S) → NeverFalls (if b then k ∷ S else if nat_lt k.var l.var then k ∷ with_literal l S else l ∷ k ∷ S)
    equal true r = h
    equal false r = below (nat_lt k.var l.var) refl r

falls-set : (c : Clause) → NeverFalls (set c)
falls-set [] = tt
falls-set (l ∷ c) = falls-with_literal l (set c) (falls-set c)

-- a literal of another variable
of-skips : (v : ℕ) (k : Literal) (S : Clause) → ¬ (v ≡ k.var) → of v (k ∷ S) ≡ of v S
of-skips v k S other = ap (λ b. cond b (k ∷ of v S) (of v S)) (false_unless (nat_eq v k.var) (λ t. other (eqb-true v k.var t)))

of-takes : (v : ℕ) (k : Literal) (S : Clause) → v ≡ k.var → of v (k ∷ S) ≡ k ∷ of v S
of-takes v k S e = ap (λ b. cond b (k ∷ of v S) (of v S)) (eq-eqb v k.var e)

-- none is of a variable less than all
of-none : (v : ℕ) (S : Clause) → ((l : Literal) → has S l ≡ true → v < l.var) → of v S ≡ []
of-none v [] h = refl
of-none v (k ∷ S) h = of-skips v k S (λ e. (let less = h k (has-head k S) in absurd (omega arith))) ∙ of-none v S (λ l a. h l (has-tail k l S a))

of-other : (v : ℕ) (l : Literal) (S : Clause) → ¬ (v ≡ l.var) → of v (with_literal l S) ≡ of v S
of-other v l [] other = of-skips v l [] other
of-other v l (k ∷ S) other = equal (same l k) (of-other v l S other)
  where
    below : (b : Bool) → of v (with_literal l S) ≡ of v S → of v (if b then k ∷ with_literal l S else l ∷ k ∷ S) ≡ of v (k ∷ S)
    below true e = ap (λ T. cond (is_of v k) (k ∷ T) T) e
    below false e = of-skips v l (k ∷ S) other

    equal : (b : Bool) → of v (with_literal l S) ≡ of v S → of v (if b then k ∷ S else if nat_lt k.var l.var then k ∷ with_literal l S else l ∷ k ∷ S) ≡ of v (k ∷ S)
    equal true e = refl
    equal false e = below (nat_lt k.var l.var) e

of-own : (l : Literal) (S : Clause) → NeverFalls S → of l.var (with_literal l S) ≡ in_front l (of l.var S)
of-own l [] h = of-takes l.var l [] refl
of-own l (k ∷ S) h = equal (same l k) refl (of-own l S h.1)
  where
    v : ℕ
    v = l.var

    -- behind k, where it isn't the same
    behind : same l k ≡ false → l.var ≤ k.var → (b : Bool) → nat_eq l.var k.var ≡ b → of l.var (l ∷ k ∷ S) ≡ in_front l (of l.var (k ∷ S))
    behind d most true e = of-takes l.var l (k ∷ S) refl ∙ (ap (λ T. l ∷ T) (of-takes l.var k S (eqb-true l.var k.var e))
        ∙ sym (ap (in_front l) (of-takes l.var k S (eqb-true l.var k.var e)) ∙ ap (λ b. if b then k ∷ of l.var S else l ∷ k ∷ of l.var S) d))
    behind d most false e =
        let other : ¬ (l.var ≡ k.var) = λ i. true_false (nat_eq l.var k.var) (eq-eqb l.var k.var i) e in
        let none : of l.var (k ∷ S) ≡ [] = of-skips l.var k S other ∙ of-none l.var S (λ j a. (let more = h.0 j a in omega (arith, other))) in
        of-takes l.var l (k ∷ S) refl ∙ (ap (λ T. l ∷ T) none ∙ sym (ap (in_front l) none))

    below : same l k ≡ false → (b : Bool) → nat_lt k.var l.var ≡ b → of l.var (with_literal l S) ≡ in_front l (of l.var S) → of l.var (if b then k ∷ with_literal l S else l ∷ k ∷ S) ≡ in_front l (of l.var (k ∷ S))
    below d true e r =
        let less = ltb-true k.var l.var e in
        let other : ¬ (l.var ≡ k.var) = λ i. absurd (omega arith) in
        of-skips l.var k (with_literal l S) other ∙ (r ∙ ap (in_front l) (sym (of-skips l.var k S other)))
    below d false e r = behind d (ltb-false k.var l.var e) (nat_eq l.var k.var) refl

    equal : (b : Bool) → same l k ≡ b → of l.var (with_literal l S) ≡ in_front l (of l.var S)
        → of l.var (if b then k ∷ S else if nat_lt k.var l.var then k ∷ with_literal l S else l ∷ k ∷ S) ≡ in_front l (of l.var (k ∷ S))
    equal true e r =
        let one : l.var ≡ k.var = ap (λ (x : Literal). x.var) (same-eq l k e) in
        of-takes l.var k S one ∙ sym (ap (in_front l) (of-takes l.var k S one) ∙ ap (λ b. if b then k ∷ of l.var S else l ∷ k ∷ of l.var S) e)
    equal false e r = below e (nat_lt k.var l.var) refl r

-- a variable's literals in the set
of-set : (v : ℕ) (c : Clause) → of v (set c) ≡ once_each (of v c)
of-set v [] = refl
of-set v (l ∷ c) = go (nat_eq v l.var) refl (of-set v c)
  where
    go : (b : Bool) → nat_eq v l.var ≡ b → of v (set c) ≡ once_each (of v c) → of v (with_literal l (set c)) ≡ once_each (cond b (l ∷ of v c) (of v c))
    go true e r =
        let one : v ≡ l.var = eqb-true v l.var e in
        ap (λ w. of w (with_literal l (set c))) one ∙ (of-own l (set c) (falls-set c) ∙ ap (in_front l) (ap (λ w. of w (set c)) (sym one) ∙ r))
    go false e r = of-other v l (set c) (λ i. true_false (nat_eq v l.var) (eq-eqb v l.var i) e) ∙ r

-- lists that never fall, with the same literals of each variable, are one
falls-equal : (S T : Clause) → NeverFalls S → NeverFalls T → ((v : ℕ) → of v S ≡ of v T) → S ≡ T
falls-equal [] [] s t h = refl
falls-equal [] (k ∷ T) s t h = let e = h k.var ∙ of-takes k.var k T refl in absurd (cc)
falls-equal (j ∷ S) [] s t h = let e = sym (h j.var) ∙ of-takes j.var j S refl in absurd (cc)
falls-equal (j ∷ S) (k ∷ T) s t h = ap₂ (λ x xs. x ∷ xs) first (falls-equal S T s.1 t.1 rest)
  where
    within : (i : Literal) (R : Clause) (l : Literal) (Q : Clause) → NeverFalls (l ∷ Q) → of i.var (i ∷ R) ≡ of i.var (l ∷ Q) → l.var ≤ i.var
    within i R l Q f e =
        let there = subst (λ c. has c i ≡ true) (sym (of-takes i.var i R refl) ∙ e) (has-head i (of i.var R)) in
        elim (has-cases l i Q (has-from_filter (is_of i.var) (l ∷ Q) i there).0) [
          | inl m ↦ (let v : i.var ≡ l.var = ap (λ (x : Literal). x.var) m in omega arith)
          | inr m ↦ f.0 i m
        ]

    one : j.var ≡ k.var
    one = let a = within j S k T t (h j.var) in let b = within k T j S s (sym (h k.var)) in omega arith

    heads : j ∷ of j.var S ≡ k ∷ of j.var T
    heads = sym (of-takes j.var j S refl) ∙ (h j.var ∙ of-takes j.var k T one)

    first : j ≡ k
    first = let e = heads in cc

    rest : (v : ℕ) → of v S ≡ of v T
    rest v = elim (cases_eq v j.var) [
      | inl e ↦ (let f : of j.var S ≡ of j.var T = (let g = heads in cc) in ap (λ w. of w S) e ∙ (f ∙ sym (ap (λ w. of w T) e)))
      | inr e ↦ sym (of-skips v j S e) ∙ (h v ∙ of-skips v k T (λ f. e (f ∙ sym one)))
    ]

-- stably sorted by variable
set-sorted : (xs ys : Clause) → NeverFalls ys → ((v : ℕ) → of v ys ≡ of v xs) → set ys ≡ set xs
set-sorted xs ys h same_ones = falls-equal (set ys) (set xs) (falls-set ys) (falls-set xs) (λ v. of-set v ys ∙ (ap once_each (same_ones v) ∙ sym (of-set v xs)))

-- a list that never falls loses what repeats
set-once : (ys : Clause) → NeverFalls ys → set ys ≡ once_each ys
set-once [] h = refl
set-once (l ∷ c) h =
    with-front l (set c) (λ k a. h.0 k (sym (has-set c k) ∙ a)) ∙ ap (in_front l) (set-once c h.1)
  where
    with-front : (l : Literal) (S : Clause) → ((k : Literal) → has S k ≡ true → l.var ≤ k.var) → with_literal l S ≡ in_front l S
    with-front l [] h = refl
    with-front l (k ∷ S) h =
        ap (λ b. if same l k then k ∷ S else if b then k ∷ with_literal l S else l ∷ k ∷ S) (false_unless (nat_lt k.var l.var) (λ t. (let less = ltb-true k.var l.var t in let most = h k (has-head k S) in absurd (omega arith))))

front-twice : (k : Literal) (R : Clause) → in_front k (in_front k R) ≡ in_front k R
front-twice k [] = ap (λ b. if b then k ∷ [] else k ∷ k ∷ []) (same-refl k)
front-twice k (j ∷ R) = go (same k j) refl
  where
    go : (b : Bool) → same k j ≡ b → in_front k (if b then j ∷ R else k ∷ j ∷ R) ≡ (if b then j ∷ R else k ∷ j ∷ R)
    go true e = ap (λ b. if b then j ∷ R else k ∷ j ∷ R) e
    go false e = ap (λ b. if b then k ∷ j ∷ R else k ∷ k ∷ j ∷ R) (same-refl k)

front-other : (k x : Literal) (R : Clause) → same k x ≡ false → in_front k (in_front x R) ≡ k ∷ in_front x R
front-other k x [] d = ap (λ b. if b then x ∷ [] else k ∷ x ∷ []) d
front-other k x (j ∷ R) d = go (same x j) refl
  where
    go : (b : Bool) → same x j ≡ b → in_front k (if b then j ∷ R else x ∷ j ∷ R) ≡ k ∷ (if b then j ∷ R else x ∷ j ∷ R)
    go true e = ap (λ b. if b then j ∷ R else k ∷ j ∷ R) (subst (λ y. same k y ≡ false) (same-eq x j e) d)
    go false e = ap (λ b. if b then x ∷ j ∷ R else k ∷ x ∷ j ∷ R) d

dedup-front : (k : Literal) (xs : Clause) → dedup_from same_code k xs ≡ in_front k (once_each xs)
dedup-front k [] = refl
dedup-front k (x ∷ xs) = go (same_code x k) refl (dedup-front k xs) (dedup-front x xs)
  where
    go : (b : Bool) → same_code x k ≡ b → dedup_from same_code k xs ≡ in_front k (once_each xs) → dedup_from same_code x xs ≡ in_front x (once_each xs)
        → cond b (dedup_from same_code k xs) (k ∷ dedup_from same_code x xs) ≡ in_front k (in_front x (once_each xs))
    go true e f g = f ∙ subst (λ y. in_front k (once_each xs) ≡ in_front k (in_front y (once_each xs))) (sym (code-one x k (eqb-true (code x) (code k) e))) (sym (front-twice k (once_each xs)))
    go false e f g = ap (λ c. k ∷ c) g ∙ sym (front-other k x (once_each xs) (same-other k x (λ i. true_false (same_code x k) (eq-eqb (code x) (code k) (ap code (sym i))) e)))

pub dedup-once : (ys : Clause) → dedup same_code ys ≡ once_each ys
dedup-once [] = refl
dedup-once (x ∷ ys) = dedup-front x ys

at-least : (k : Literal) (ys : Clause) → IsNonDecreasingBy (λ (l : Literal). l.var) (k ∷ ys) → (l : Literal) → has ys l ≡ true → k.var ≤ l.var
at-least k [] h l a = absurd (cc)
at-least k (j ∷ ys) h l a =
    let here : k.var ≤ j.var = h 0 1 k (omega arith) (omega arith) in
    elim (has-cases j l ys a) [
      | inl e ↦ (let v : l.var ≡ j.var = ap (λ (x : Literal). x.var) e in omega arith)
      | inr r ↦ (let more = at-least j ys (λ m n d x y. h (suc m) (suc n) d (omega arith) (omega arith)) l r in omega arith)
    ]

never_falls : (ys : Clause) → IsNonDecreasingBy (λ (l : Literal). l.var) ys → NeverFalls ys
never_falls [] h = tt
never_falls (k ∷ ys) h = (at-least k ys h, never_falls ys (λ m n d x y. h (suc m) (suc n) d (omega arith) (omega arith)))

pub sorted-set : (xs ys zs : Clause) → IsNonDecreasingBy (λ (l : Literal). l.var) ys → ((v : ℕ) → of v ys ≡ of v xs) → zs ≡ dedup same_code ys → zs ≡ set xs
sorted-set xs ys zs h same_ones is = is ∙ (dedup-once ys ∙ (sym (set-once ys (never_falls ys h)) ∙ set-sorted xs ys (never_falls ys h) same_ones))

-- the first of these is too small
pub below-none : (least : ℕ) (l : Literal) (c : Clause) → l.var < least → is_above least (l ∷ c) ≡ false
below-none least l c h = ap (λ b. b && is_above (l.var + 1) c) (false_unless (nat_le least l.var) (λ t. (let more = leb-true least l.var t in absurd (omega arith))))

-- a set rises just where no variable is in both signs
pub set-says : (b : Bool) (c S : Clause) → S ≡ set c → IsTrue b ↔ IsRising S → b ≡ not (has_both_signs c)
set-says b c S e is =
    both b (not (has_both_signs c)) (λ t. ap not (sym (has_both_signs-set c) ∙ rising-one_sign (set c) (subst IsRising e (is.0 t))))
    (λ t. is.1 (subst IsRising (sym e) (set-rising c (not_true (has_both_signs c) t))))

-- a clause that rises as it stands
pub rising-set : (c : Clause) → IsRising c → (true ≡ not (has_both_signs c)) × (c ≡ set c)
rising-set c r = (sym (ap not (rising-one_sign c r)), sym (set-of c c r (λ l. refl)))

-- what a stable sort by variable says
abbrev pub is_before : Literal → Literal → Bool
is_before k l = is_lt (nat_cmp k.var l.var)

before-is : (v w : ℕ) → is_lt (nat_cmp v w) ≡ nat_lt v w
before-is v w = go (nat_lt v w) (nat_eq v w)
  where
    go : (t e : Bool) → is_lt (cond t Less (cond e Equal Greater)) ≡ t
    go true e = refl
    go false true = refl
    go false false = refl

ties-of : (v : ℕ) (l : Literal) → ties is_before (positive v) l ≡ is_of v l
ties-of v l = ap₂ (λ a b. not a && not b) (before-is v l.var) (before-is l.var v) ∙ both (not (nat_lt v l.var) && not (nat_lt l.var v)) (nat_eq v l.var) to from
  where
    to : not (nat_lt v l.var) && not (nat_lt l.var v) ≡ true → nat_eq v l.var ≡ true
    to t =
        let a = ltb-false v l.var (not_true (nat_lt v l.var) (and-left (not (nat_lt v l.var)) (not (nat_lt l.var v)) t)) in
        let b = ltb-false l.var v (not_true (nat_lt l.var v) (and-right (not (nat_lt v l.var)) (not (nat_lt l.var v)) t)) in
        eq-eqb v l.var (omega arith)

    from : nat_eq v l.var ≡ true → not (nat_lt v l.var) && not (nat_lt l.var v) ≡ true
    from t =
        let e = eqb-true v l.var t in
        and-true (not (nat_lt v l.var)) (not (nat_lt l.var v))
        (ap not (false_unless (nat_lt v l.var) (λ u. (let less = ltb-true v l.var u in absurd (omega arith)))))
        (ap not (false_unless (nat_lt l.var v) (λ u. (let less = ltb-true l.var v u in absurd (omega arith)))))

filter-alike : (p q : Literal → Bool) (xs : Clause) → ((l : Literal) → p l ≡ q l) → filter p xs ≡ filter q xs
filter-alike p q [] h = refl
filter-alike p q (x ∷ xs) h = ap₂ (λ b ys. cond b (x ∷ ys) ys) (h x) (filter-alike p q xs h)

pub stable-of : (xs ys : Clause) → ((l : Literal) → filter (ties is_before l) ys ≡ filter (ties is_before l) xs) → (v : ℕ) → filter (is_of v) ys ≡ filter (is_of v) xs
stable-of xs ys h v = sym (filter-alike (ties is_before (positive v)) (is_of v) ys (ties-of v)) ∙ (h (positive v) ∙ filter-alike (ties is_before (positive v)) (is_of v) xs (ties-of v))
