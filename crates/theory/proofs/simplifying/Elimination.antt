-- What is implied is true, and truth values that make true what an elimination leaves make all
-- clauses true once the variable has its value. In the lemmas m gives the variables' truth values.
use Rattle.std.proofs.Common.{◌≡◌, ℕ, Bool, true, false, not, ◌||◌, List, [], ◌∷◌, ◌++◌, refl, ap, sym, subst, ◌∙◌, ◌⊎◌, inl, inr, Contains, nat_eq}
use Rattle.std.specs.List.{list_any, list_all}
use Rattle.std.proofs.lemmas.List.Folds.{list_any-append}
use Rattle.theory.specs.Literals.{Literal, Clause, positive, negative, has, has_var, has_both_signs, without}
use Rattle.theory.specs.Truth.{is_true, is_true_clause, are_true}
use Rattle.theory.specs.Checking.{Numbered, without_number}
use Rattle.theory.specs.Deletions.{is_among, without_numbers}
use Rattle.theory.specs.Simplifying.{resolvent, Eliminated, clauses_in, having, is_implied, IsEliminable, AreImplied, with_value, is_needed, extended}
use Rattle.theory.proofs.literals.LiteralLemmas.{and-left, and-right, or-cases, true_or_false, not_true}
use Rattle.theory.proofs.literals.LiteralSets.{true_false, false_unless, or-false_left, or-false_right, literal_of_var, has_var-has, same_variable}
use Rattle.theory.proofs.literals.TrueClauses.{has-true, some_sign, flipped, flipped-pivot, without-flipped, absent-flipped}
use Rattle.theory.proofs.literals.Membership.{Contains-map, map-Contains}
use Rattle.theory.proofs.simplifying.ListTests.{all-at, all-from, any-at, any-from, filter-has, has-filter_of}

-- a clause with all literals of a true one is true
within-true : (m : ℕ → Bool) (c d : Clause) → list_all (has c) d ≡ true → is_true_clause m d ≡ true → is_true_clause m c ≡ true
within-true m c [] h t = absurd (cc)
within-true m c (k ∷ d) h t = elim (or-cases (is_true m k) (is_true_clause m d) t) [
  | inl it ↦ has-true m c k (and-left (has c k) (list_all (has c) d) h) it
  | inr rest ↦ within-true m c d (and-right (has c k) (list_all (has c) d) h) rest
]

-- what true clauses imply is true
pub implied-true : (m : ℕ → Bool) (K : Numbered) (c : Clause) → are_true m (clauses_in K) ≡ true → is_implied K c ≡ true → is_true_clause m c ≡ true
implied-true m K c h e = elim (or-cases (has_both_signs c) (list_any (λ d. list_all (has c) d) (clauses_in K)) e) [
  | inl twice ↦ some_sign m c c (λ l k. k) twice
  | inr some ↦
      let one = any-at (λ d. list_all (has c) d) (clauses_in K) some in
      within-true m c one.0 one.2 (all-at (is_true_clause m) (clauses_in K) one.0 h one.1)
]

-- the entries whose numbers aren't dropped stay
pub without_number-has : (K : Numbered) (n : ℕ) (e : ℕ × Clause) → Contains K e → nat_eq e.0 n ≡ false → Contains (without_number K n) e
without_number-has K n e c h = filter-has (λ e. not (nat_eq e.0 n)) K e c (ap not h)

pub without_numbers-has : (K : Numbered) (ns : List ℕ) (e : ℕ × Clause) → Contains K e → is_among e.0 ns ≡ false → Contains (without_numbers K ns) e
without_numbers-has K [] e c h = c
without_numbers-has K (n ∷ ns) e c h =
    without_numbers-has (without_number K n) ns e (without_number-has K n e c (or-false_left (nat_eq e.0 n) (is_among e.0 ns) h)) (or-false_right (nat_eq e.0 n) (is_among e.0 ns) h)

-- and nothing else comes
pub without_numbers-of : (K : Numbered) (ns : List ℕ) (e : ℕ × Clause) → Contains (without_numbers K ns) e → Contains K e
without_numbers-of K [] e c = c
without_numbers-of K (n ∷ ns) e c = (has-filter_of (λ e. not (nat_eq e.0 n)) K e (without_numbers-of (without_number K n) ns e c)).0

-- an entry's clause is among the clauses
pub entry-there : (K : Numbered) (e : ℕ × Clause) → Contains K e → Contains (clauses_in K) e.1
entry-there K e c = Contains-map (λ e. e.1) K e c

-- all are true, where each entry is
pub are_true-entries : (m : ℕ → Bool) (K : Numbered) → ((e : ℕ × Clause) → Contains K e → is_true_clause m e.1 ≡ true) → are_true m (clauses_in K) ≡ true
are_true-entries m K h = all-from (is_true_clause m) (clauses_in K) (λ c a. go c (map-Contains (λ e. e.1) K c a))
  where
    go : (c : Clause) → (e : ℕ × Clause) × Contains K e × (e.1 ≡ c) → is_true_clause m c ≡ true
    go c f = ap (is_true_clause m) (sym f.2) ∙ h f.0 f.1

pub entry-true : (m : ℕ → Bool) (K : Numbered) (e : ℕ × Clause) → are_true m (clauses_in K) ≡ true → Contains K e → is_true_clause m e.1 ≡ true
entry-true m K e h c = all-at (is_true_clause m) (clauses_in K) e.1 h (entry-there K e c)

-- fewer clauses are true too
pub without_numbers-true : (m : ℕ → Bool) (K : Numbered) (ns : List ℕ) → are_true m (clauses_in K) ≡ true → are_true m (clauses_in (without_numbers K ns)) ≡ true
without_numbers-true m K ns h = are_true-entries m (without_numbers K ns) (λ e c. entry-true m K e h (without_numbers-of K ns e c))

-- clauses that were implied are true where the others are
pub dropped-true : (m : ℕ → Bool) (K : Numbered) (ns : List ℕ) → AreImplied K ns → are_true m (clauses_in (without_numbers K ns)) ≡ true → are_true m (clauses_in K) ≡ true
dropped-true m K ns fit h = are_true-entries m K each
  where
    L : Numbered
    L = without_numbers K ns

    each : (e : ℕ × Clause) → Contains K e → is_true_clause m e.1 ≡ true
    each e c = go (true_or_false (is_among e.0 ns))
      where
        go : (is_among e.0 ns ≡ true) ⊎ (is_among e.0 ns ≡ false) → is_true_clause m e.1 ≡ true
        go (inr stays) = entry-true m L e h (without_numbers-has K ns e c stays)
        go (inl goes) = implied-true m L e.1 h (elim (or-cases (not (is_among e.0 ns)) (is_implied L e.1)
            (all-at (λ e. not (is_among e.0 ns) || is_implied L e.1) K e fit.1 c)) [
              | inl not_it ↦ true_false (is_among e.0 ns) goes (not_true (is_among e.0 ns) not_it)
              | inr it ↦ it
            ])

-- a variable's value is that of its literal
with_value-flipped : (m : ℕ → Bool) (x : ℕ) (b : Bool) (c : Clause) → is_true_clause (flipped m (record { var = x; positive = b })) c ≡ true → is_true_clause (with_value m x b) c ≡ true
unfolding flipped
with_value-flipped m x b c h = h

-- The variable gets a value by which all clauses are true.
pub eliminated-true : (m : ℕ → Bool) (K : Numbered) (x : ℕ) (ns : List ℕ) → IsEliminable K x ns → are_true m (clauses_in (without_numbers K ns)) ≡ true
    → are_true (extended m (record { var = x; clauses = having (positive x) K } ∷ [])) (clauses_in K) ≡ true
eliminated-true m K x ns fit h = are_true-entries (with_value m x (is_needed m E)) K each
  where
    E : Eliminated
    E = record { var = x; clauses = having (positive x) K }

    L : Numbered
    L = without_numbers K ns

    lit : Bool → Literal
    lit b = record { var = x; positive = b }

    -- a clause with the literal that is made true
    own : (b : Bool) (c : Clause) → has c (lit b) ≡ true → is_true_clause (with_value m x b) c ≡ true
    own b c a = with_value-flipped m x b c (has-true (flipped m (lit b)) c (lit b) a (flipped-pivot m (lit b)))

    -- a clause with the other one
    other : (b : Bool) (c : Clause) → is_true_clause m (without c (lit (not b))) ≡ true → is_true_clause (with_value m x b) c ≡ true
    other b c t = with_value-flipped m x b c (without-flipped m (lit b) c t)

    -- a clause that had the variable without a negation
    had : (c : Clause) → Contains (clauses_in K) c → has c (positive x) ≡ true → (b : Bool) → is_needed m E ≡ b → is_true_clause (with_value m x b) c ≡ true
    had c there a true e = own true c a
    had c there a false e = other false c (go (true_or_false (is_true_clause m (without c (positive x)))))
      where
        go : (is_true_clause m (without c (positive x)) ≡ true) ⊎ (is_true_clause m (without c (positive x)) ≡ false) → is_true_clause m (without c (positive x)) ≡ true
        go (inl t) = t
        go (inr f) = true_false (is_needed m E)
            (any-from (λ c. not (is_true_clause m (without c (positive x)))) (having (positive x) K) c (filter-has (λ c. has c (positive x)) (clauses_in K) c there a) (ap not f)) e

    -- a clause that had its negation
    had_not : (d : Clause) → Contains (clauses_in K) d → has d (negative x) ≡ true → (b : Bool) → is_needed m E ≡ b → is_true_clause (with_value m x b) d ≡ true
    had_not d there a false e = own false d a
    had_not d there a true e = other true d (go (any-at (λ c. not (is_true_clause m (without c (positive x)))) (having (positive x) K) e))
      where
        go : (c : Clause) × Contains (having (positive x) K) c × (not (is_true_clause m (without c (positive x))) ≡ true) → is_true_clause m (without d (negative x)) ≡ true
        go one =
            let mine = all-at (λ d. is_implied L (resolvent (positive x) one.0 d)) (having (negative x) K) d
            (all-at (λ c. list_all (λ d. is_implied L (resolvent (positive x) c d)) (having (negative x) K)) (having (positive x) K) one.0 fit.resolved one.1)
            (filter-has (λ c. has c (negative x)) (clauses_in K) d there a) in
            let whole : is_true_clause m (resolvent (positive x) one.0 d) ≡ true = implied-true m L (resolvent (positive x) one.0 d) h mine in
            let parts : is_true_clause m (without one.0 (positive x)) || is_true_clause m (without d (negative x)) ≡ true
            = sym (list_any-append (is_true m) (without one.0 (positive x)) (without d (negative x))) ∙ whole in
            elim (or-cases (is_true_clause m (without one.0 (positive x))) (is_true_clause m (without d (negative x))) parts) [
              | inl t ↦ true_false (is_true_clause m (without one.0 (positive x))) t (not_true (is_true_clause m (without one.0 (positive x))) one.2)
              | inr t ↦ t
            ]

    -- a clause without the variable
    lacks : (c : Clause) → has_var c x ≡ false → is_true_clause m c ≡ true → (b : Bool) → is_true_clause (with_value m x b) c ≡ true
    lacks c none t b = with_value-flipped m x b c (absent-flipped m (lit b) c (false_unless (has c (lit (not b))) (λ a. true_false (has_var c x) (has_var-has c (lit (not b)) a) none)) t)

    each : (e : ℕ × Clause) → Contains K e → is_true_clause (with_value m x (is_needed m E)) e.1 ≡ true
    each e c = go (true_or_false (is_among e.0 ns))
      where
        here : Contains (clauses_in K) e.1
        here = entry-there K e c

        of_literal : (l : Literal) → has e.1 l ≡ true → l.var ≡ x → is_true_clause (with_value m x (is_needed m E)) e.1 ≡ true
        of_literal l a v = elim (same_variable l (positive x) v) [
          | inl i ↦ had e.1 here (subst (λ k. has e.1 k ≡ true) i a) (is_needed m E) refl
          | inr i ↦ had_not e.1 here (subst (λ k. has e.1 k ≡ true) i a) (is_needed m E) refl
        ]

        go : (is_among e.0 ns ≡ true) ⊎ (is_among e.0 ns ≡ false) → is_true_clause (with_value m x (is_needed m E)) e.1 ≡ true
        go (inr stays) =
            let left = without_numbers-has K ns e c stays in
            lacks e.1 (not_true (has_var e.1 x) (all-at (λ c. not (has_var c x)) (clauses_in L) e.1 fit.lack_it (entry-there L e left))) (entry-true m L e h left) (is_needed m E)
        go (inl goes) = elim (or-cases (not (is_among e.0 ns)) (has_var e.1 x) (all-at (λ e. not (is_among e.0 ns) || has_var e.1 x) K e fit.have_it c)) [
          | inl not_it ↦ true_false (is_among e.0 ns) goes (not_true (is_among e.0 ns) not_it)
          | inr it ↦ let l = literal_of_var e.1 x it in of_literal l.0 l.1 l.2
        ]

-- the last variable first
pub extended-push : (m : ℕ → Bool) (es : List Eliminated) (e : Eliminated) → extended m (es ++ e ∷ []) ≡ extended (extended m (e ∷ [])) es
extended-push m [] e = refl
extended-push m (d ∷ es) e = ap (λ n. with_value n d.var (is_needed n d)) (extended-push m es e)
