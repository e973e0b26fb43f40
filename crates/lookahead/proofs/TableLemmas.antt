-- What one write changes in a table by literal.
use Rattle.std.proofs.Common.{◌≡◌, ℕ, ◌-◌, cond, ◌+◌, ◌*◌, ◌<◌, ◌≤◌, Bool, true, false, not, ◌&&◌, ◌||◌, nat_eq, eqb-true, eq-eqb, List, [], ◌∷◌, ◌++◌, length, take, get_or, slice_set, refl, ap, sym, subst, ◌∙◌, inl, inr, if◌then◌else◌, arith}
use Rattle.std.proofs.lemmas.Bool.{cases_eq}
use Rattle.std.proofs.lemmas.List.{get_or-set_same, get_or-set_other, get_or_default, take_more}
use Rattle.std.proofs.lemmas.List.Elements.{All-get_or}
use Rattle.std.proofs.lemmas.Option.{unwrap_or-slice_get}
use Rattle.std.proofs.lemmas.List.Folds.{list_any-append}
use Rattle.std.proofs.lemmas.List.Sums.{sum_by-append, sum_by-cons, count_by-le-length}
use Rattle.theory.specs.Truth.{IsOver}
use Rattle.theory.specs.Propagation.{clause_at}
use Rattle.theory.specs.Looking.{occurrences}
use Rattle.theory.specs.Literals.{Literal, Clause, IsVariable, same, same_sign, has, has_both_signs}
use Rattle.theory.proofs.literals.LiteralLemmas.{same-eq}
use Rattle.theory.proofs.literals.ClauseWalks.{has-at}
use Rattle.theory.proofs.literals.LiteralSets.{false_unless}
use Rattle.cnf.specs.Lits.{code}
use Rattle.lookahead.specs.Tables.{at, AreStamped, AreOccurrences}

and-right-false : (b : Bool) → (b && false) ≡ false
and-right-false true = refl
and-right-false false = refl

and-right-true : (b : Bool) → (b && true) ≡ b
and-right-true true = refl
and-right-true false = refl

or-right-false : (b : Bool) → (b || false) ≡ b
or-right-false true = refl
or-right-false false = refl

-- two literals have one place where they are one
eq-by : (a b : ℕ) (r : Bool) → (a ≡ b → r ≡ true) → ((a ≡ b → ⊥) → r ≡ false) → nat_eq a b ≡ r
eq-by a b r if_same if_other = elim (cases_eq a b) [
  | inl e ↦ eq-eqb a b e ∙ sym (if_same e)
  | inr ne ↦ false_unless (nat_eq a b) (λ t. absurd (ne (eqb-true a b t))) ∙ sym (if_other ne)
]

pub code-same : (k l : Literal) → nat_eq (code k) (code l) ≡ same k l
code-same k l = go k.positive l.positive k.var l.var
  where
    parity : (a b : ℕ) → 2 * a + 1 ≡ 2 * b → ⊥
    parity a b e = omega (arith, e)

    go : (p q : Bool) (a b : ℕ) → nat_eq (2 * a + (if p then 1 else 0)) (2 * b + (if q then 1 else 0)) ≡ (nat_eq a b && same_sign p q)
    go true true a b = eq-by (2 * a + 1) (2 * b + 1) (nat_eq a b && true) (λ e. and-right-true (nat_eq a b) ∙ eq-eqb a b (omega (arith, e)))
        (λ ne. and-right-true (nat_eq a b) ∙ false_unless (nat_eq a b) (λ t. absurd (ne (let e = eqb-true a b t in omega (arith, e)))))
    go false false a b = eq-by (2 * a + 0) (2 * b + 0) (nat_eq a b && true) (λ e. and-right-true (nat_eq a b) ∙ eq-eqb a b (omega (arith, e)))
        (λ ne. and-right-true (nat_eq a b) ∙ false_unless (nat_eq a b) (λ t. absurd (ne (let e = eqb-true a b t in omega (arith, e)))))
    go true false a b = eq-by (2 * a + 1) (2 * b + 0) (nat_eq a b && false) (λ e. absurd (parity a b (omega (arith, e)))) (λ ne. and-right-false (nat_eq a b))
    go false true a b = eq-by (2 * a + 0) (2 * b + 1) (nat_eq a b && false) (λ e. absurd (parity b a (omega (arith, e)))) (λ ne. and-right-false (nat_eq a b))

-- so two literals of one place are one
code-one : (k l : Literal) → code k ≡ code l → k ≡ l
code-one k l e = same-eq k l (sym (code-same k l) ∙ eq-eqb (code k) (code l) e)

has-push : (c : Clause) (k l : Literal) → has (c ++ k ∷ []) l ≡ (has c l || (same l k || false))
has-push c k l = list_any-append (same l) c (k ∷ [])

or-true : (b c : Bool) → c ≡ true → (b || (c || false)) ≡ true
or-true true c e = refl
or-true false c e = or-right-false c ∙ e

or-none : (b c : Bool) → c ≡ false → (b || (c || false)) ≡ b
or-none true c e = refl
or-none false c e = or-right-false c ∙ e

has-itself : (c : Clause) (k l : Literal) → code l ≡ code k → has (c ++ k ∷ []) l ≡ true
has-itself c k l e = has-push c k l ∙ or-true (has c l) (same l k) (sym (code-same l k) ∙ eq-eqb (code l) (code k) e)

has-others : (c : Clause) (k l : Literal) → (code l ≡ code k → ⊥) → has (c ++ k ∷ []) l ≡ has c l
has-others c k l ne = has-push c k l ∙ or-none (has c l) (same l k) (sym (code-same l k) ∙ false_unless (nat_eq (code l) (code k)) (λ t. absurd (ne (eqb-true (code l) (code k) t))))

-- with one literal more
pub stamped-more : (V n : ℕ) (c : Clause) (k : Literal) (table : List ℕ) → code k < length table → AreStamped V n c table → AreStamped V n (c ++ k ∷ []) (slice_set table (code k) n)
stamped-more V n c k table inside h = record {
  stamped = λ l u. elim (cases_eq (code l) (code k)) [
    | inl e ↦ ap (λ i. nat_eq (at (slice_set table (code k) n) i) n) e ∙ (ap (λ x. nat_eq x n) (get_or-set_same table (code k) n 0 inside) ∙ (eq-eqb n n refl ∙ sym (has-itself c k l e)))
    | inr ne ↦ ap (λ x. nat_eq x n) (get_or-set_other table (code k) (code l) n 0 ne) ∙ (h.stamped l u ∙ sym (has-others c k l ne))
  ];
  within = λ i. elim (cases_eq i (code k)) [
    | inl e ↦ subst (λ j. at (slice_set table (code k) n) j ≤ n) (sym e) (let is = get_or-set_same table (code k) n 0 inside in omega (arith, is))
    | inr ne ↦ let is = get_or-set_other table (code k) i n 0 ne in let most = h.within i in omega (arith, is, most)
  ];
}

-- before the first one
pub stamped-none : (V n : ℕ) (table : List ℕ) → ((i : ℕ) → at table i < n) → AreStamped V n [] table
stamped-none V n table h = record {
  stamped = λ l u. false_unless (nat_eq (at table (code l)) n) (λ t. let e = eqb-true (at table (code l)) n t in let less = h (code l) in absurd (omega (arith, e, less)));
  within = λ i. let less = h i in omega (arith, less);
}

-- a clause c is counted up to the literals P: those of P are counted, and the others of c are still stamped
pub record AreCountedUpTo (V n : ℕ) (c P : Clause) (old counts stamps : List ℕ) : Type 0 where
  pub left : (l : Literal) → l.var ≤ V → nat_eq (at stamps (code l)) n ≡ (has c l && not (has P l))
  pub counted : (l : Literal) → l.var ≤ V → at counts (code l) ≡ at old (code l) + (if has P l then 1 else 0)
  pub within : (i : ℕ) → at stamps i ≤ n

pub counted-none : (V n : ℕ) (c : Clause) (counts stamps : List ℕ) → AreStamped V n c stamps → AreCountedUpTo V n c [] counts counts stamps
counted-none V n c counts stamps h = record {
  left = λ l u. h.stamped l u ∙ sym (and-right-true (has c l));
  counted = λ l u. omega arith;
  within = h.within;
}

and-not : (a b : Bool) → (a && not b) ≡ false → a ≡ true → b ≡ true
and-not true true e h = refl
and-not true false e h = absurd (cc)
and-not false b e h = absurd (cc)

and-both : (a b : Bool) → (a && not b) ≡ true → (a ≡ true) × (b ≡ false)
and-both true true e = absurd (cc)
and-both true false e = (refl, refl)
and-both false b e = absurd (cc)

-- a literal that is still stamped is counted, and isn't any more
pub counted-first : (V n : ℕ) (c P : Clause) (k : Literal) (old counts stamps : List ℕ) → 1 ≤ n → k.var ≤ V → code k < length counts → code k < length stamps → at stamps (code k) ≡ n
    → AreCountedUpTo V n c P old counts stamps → AreCountedUpTo V n c (P ++ k ∷ []) old (slice_set counts (code k) (at counts (code k) + 1)) (slice_set stamps (code k) 0)
counted-first V n c P k old counts stamps some u inside here is h = record {
  left = λ l v. elim (cases_eq (code l) (code k)) [
    | inl e ↦ ap (λ i. nat_eq (at (slice_set stamps (code k) 0) i) n) e
        ∙ (ap (λ x. nat_eq x n) (get_or-set_same stamps (code k) 0 0 here)
        ∙ (false_unless (nat_eq 0 n) (λ t. let z = eqb-true 0 n t in absurd (omega (arith, z, some)))
        ∙ sym (ap (λ b. has c l && not b) (has-itself P k l e) ∙ and-right-false (has c l))))
    | inr ne ↦ ap (λ x. nat_eq x n) (get_or-set_other stamps (code k) (code l) 0 0 ne) ∙ (h.left l v ∙ ap (λ b. has c l && not b) (sym (has-others P k l ne)))
  ];
  counted = λ l v. elim (cases_eq (code l) (code k)) [
    | inl e ↦ same_place l e
    | inr ne ↦ get_or-set_other counts (code k) (code l) (at counts (code k) + 1) 0 ne ∙ (h.counted l v ∙ ap (λ b. at old (code l) + (if b then 1 else 0)) (sym (has-others P k l ne)))
  ];
  within = λ i. elim (cases_eq i (code k)) [
    | inl e ↦ subst (λ j. at (slice_set stamps (code k) 0) j ≤ n) (sym e) (let z = get_or-set_same stamps (code k) 0 0 here in omega (arith, z))
    | inr ne ↦ let same = get_or-set_other stamps (code k) i 0 0 ne in let most = h.within i in omega (arith, same, most)
  ];
}
  where
    new : (has c k ≡ true) × (has P k ≡ false)
    new = and-both (has c k) (has P k) (sym (h.left k u) ∙ eq-eqb (at stamps (code k)) n is)

    before : at counts (code k) ≡ at old (code k)
    before = let m = h.counted k u ∙ ap (λ b. at old (code k) + (if b then 1 else 0)) new.1 in omega (arith, m)

    same_place : (l : Literal) → code l ≡ code k → at (slice_set counts (code k) (at counts (code k) + 1)) (code l) ≡ at old (code l) + (if has (P ++ k ∷ []) l then 1 else 0)
    same_place l e =
        ap (at (slice_set counts (code k) (at counts (code k) + 1))) e
        ∙ (get_or-set_same counts (code k) (at counts (code k) + 1) 0 inside
        ∙ (ap (λ n. n + 1) before ∙ (ap (λ i. at old i + 1) (sym e) ∙ ap (λ b. at old (code l) + (if b then 1 else 0)) (sym (has-itself P k l e)))))

-- one that isn't was counted before
pub counted-again : (V n : ℕ) (c P : Clause) (k : Literal) (old counts stamps : List ℕ) → k.var ≤ V → has c k ≡ true → (at stamps (code k) ≡ n → ⊥)
    → AreCountedUpTo V n c P old counts stamps → AreCountedUpTo V n c (P ++ k ∷ []) old counts stamps
counted-again V n c P k old counts stamps u there other h = record {
  left = λ l v. h.left l v ∙ ap (λ b. has c l && not b) (sym (same_set l));
  counted = λ l v. h.counted l v ∙ ap (λ b. at old (code l) + (if b then 1 else 0)) (sym (same_set l));
  within = h.within;
}
  where
    known : has P k ≡ true
    known = and-not (has c k) (has P k) (sym (h.left k u) ∙ false_unless (nat_eq (at stamps (code k)) n) (λ t. absurd (other (eqb-true (at stamps (code k)) n t)))) there

    same_set : (l : Literal) → has (P ++ k ∷ []) l ≡ has P l
    same_set l = elim (cases_eq (code l) (code k)) [
      | inl e ↦ has-itself P k l e ∙ sym (ap (has P) (code-one l k e) ∙ known)
      | inr ne ↦ has-others P k l ne
    ]

-- a literal of a clause over V has a place in a table by literal
pub place-within : (V i : ℕ) (c : Clause) (d : Literal) → IsOver V c → i < length c → code (get_or c i d) < 2 * V + 2
place-within V i c d over inside =
    let u = (All-get_or (λ (l : Literal). IsVariable V l.var) c i d inside over).1 in
    sign (get_or c i d).positive (get_or c i d).var u
  where
    sign : (b : Bool) (v : ℕ) → v ≤ V → 2 * v + (if b then 1 else 0) < 2 * V + 2
    sign true v u = omega arith
    sign false v u = omega arith

-- the next literal of a clause, at its place
pub counted-next : (V n i j : ℕ) (c : Clause) (k : Literal) (old counts stamps : List ℕ) → 1 ≤ n → IsOver V c → i < length c → k ≡ get_or c i k → j ≡ code k → length counts ≡ 2 * V + 2 → length stamps ≡ 2 * V + 2
    → get_or stamps j 0 ≡ n → AreCountedUpTo V n c (take i c) old counts stamps
    → AreCountedUpTo V n c (take (i + 1) c) old (slice_set counts j (get_or counts j 0 + 1)) (slice_set stamps j 0)
counted-next V n i j c k old counts stamps some over inside is place room space stamped h =
    subst (λ (P : Clause). AreCountedUpTo V n c P old (slice_set counts j (get_or counts j 0 + 1)) (slice_set stamps j 0)) (sym (take_more c i k inside ∙ ap (λ (x : Literal). take i c ++ x ∷ []) (sym is)))
    (subst (λ p. AreCountedUpTo V n c (take i c ++ k ∷ []) old (slice_set counts p (get_or counts p 0 + 1)) (slice_set stamps p 0)) (sym place)
    (counted-first V n c (take i c) k old counts stamps some var (omega (arith, within, room)) (omega (arith, within, space)) (ap (λ p. get_or stamps p 0) (sym place) ∙ stamped) h))
  where
    within : code k < 2 * V + 2
    within = subst (λ (x : Literal). code x < 2 * V + 2) (sym is) (place-within V i c k over inside)

    var : k.var ≤ V
    var = subst (λ (x : Literal). x.var ≤ V) (sym is) ((All-get_or (λ (l : Literal). IsVariable V l.var) c i k inside over).1)

pub counted-before : (V n i j : ℕ) (c : Clause) (k : Literal) (old counts stamps : List ℕ) → IsOver V c → i < length c → k ≡ get_or c i k → j ≡ code k
    → (get_or stamps j 0 ≡ n → ⊥) → AreCountedUpTo V n c (take i c) old counts stamps → AreCountedUpTo V n c (take (i + 1) c) old counts stamps
counted-before V n i j c k old counts stamps over inside is place other h =
    subst (λ (P : Clause). AreCountedUpTo V n c P old counts stamps) (sym (take_more c i k inside ∙ ap (λ (x : Literal). take i c ++ x ∷ []) (sym is)))
    (counted-again V n c (take i c) k old counts stamps (subst (λ (x : Literal). x.var ≤ V) (sym is) ((All-get_or (λ (l : Literal). IsVariable V l.var) c i k inside over).1))
    (subst (λ (x : Literal). has c x ≡ true) (sym is) (has-at c i k inside)) (λ e. other (ap (λ p. get_or stamps p 0) place ∙ e)) h)

-- one clause more
occurrences-push : (K : List Clause) (c : Clause) (l : Literal) → occurrences (K ++ c ∷ []) l ≡ occurrences K l + (if has c l && not (has_both_signs c) then 1 else 0)
occurrences-push K c l =
    let all = sum_by-append (λ (d : Clause). cond (has d l && not (has_both_signs d)) 1 0) K (c ∷ []) in
    let one = sum_by-cons (λ (d : Clause). cond (has d l && not (has_both_signs d)) 1 0) c [] in
    omega (arith, all, one)

pub occurrences-more : (V n number : ℕ) (K : List Clause) (c : Clause) (old new : List ℕ) → n < length K → number ≡ n + 1 → c ≡ clause_at K number → AreOccurrences V (take n K) old
    → ((l : Literal) → l.var ≤ V → at new (code l) ≡ at old (code l) + (if has c l && not (has_both_signs c) then 1 else 0)) → AreOccurrences V (take (n + 1) K) new
occurrences-more V n number K c old new inside next is before now l u =
    let more = occurrences-push (take n K) (get_or K n c) l in
    let same : get_or K n c ≡ c = here in
    now l u ∙ (ap (λ m. m + (if has c l && not (has_both_signs c) then 1 else 0)) (before l u)
    ∙ (ap (λ (d : Clause). occurrences (take n K) l + (if has d l && not (has_both_signs d) then 1 else 0)) (sym same)
    ∙ (sym more ∙ ap (λ (L : List Clause). occurrences L l) (sym (take_more K n c inside)))))
  where
    here : get_or K n c ≡ c
    here = sym (is ∙ (ap (clause_at K) next ∙ (unwrap_or-slice_get K (n + 1 - 1) [] ∙ (ap (λ i. get_or K i []) (let e : n + 1 - 1 ≡ n = omega arith in e) ∙ get_or_default K n [] c inside))))

-- no more than there are clauses
pub occurrences-most : (K : List Clause) (l : Literal) → occurrences K l ≤ length K
occurrences-most K l = count_by-le-length (λ (d : Clause). has d l && not (has_both_signs d)) K
