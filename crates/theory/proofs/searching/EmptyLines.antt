-- The clause learnt from a conflict at level 0 is empty.
use Rattle.std.proofs.Common.{◌≡◌, ℕ, Bool, true, false, not, List, [], ◌∷◌, ◌++◌, refl, ap, sym, subst, ◌∙◌, nat_eq, eq-eqb, ◌⊎◌, inl, inr, filter, Some, None, is_some, arith}
use Rattle.theory.specs.Literals.{Literal, Clause, negated, same, has, has_var}
use Rattle.theory.specs.Status.{is_false}
use Rattle.theory.specs.Trails.{Entry, Trail, literals, current_level, entry_of, is_given}
use Rattle.theory.specs.Propagation.{clause_at}
use Rattle.theory.specs.Lawful.{IsLawful}
use Rattle.theory.specs.Learning.{with_literals, resolved, reason_used, walk, is_of_cube, learn_removing}
use Rattle.theory.proofs.literals.LiteralSets.{Refutes, and-true, negated-negated, other-same, has-head, has-tail, has-cases, has-append_cases, has_var-has, literal_of_var, has-from_resolved}
use Rattle.theory.proofs.trails.TrailEntries.{IsAt, literals-at, has-literals_at, entry_of-at, level-at, literals-distinct}
use Rattle.theory.proofs.searching.Walks.{walk-all, at-place, reason_used-none, resolved-at_zero, grounded-place, Refutes-others, Refutes-resolved, Refutes-begin}

-- each literal is of an entry before, or is of the cube
record Settled (T before : Trail) (S : Clause) : Type 0 where
  refuted : Refutes (literals T) S
  settled : (l : Literal) → has S l ≡ true → (is_of_cube T l ≡ true) ⊎ (has_var (literals before) l.var ≡ true)

pub push-cases : (before : Trail) (e : Entry) (v : ℕ) → has_var (literals (before ++ e ∷ [])) v ≡ true → (has_var (literals before) v ≡ true) ⊎ (e.lit.var ≡ v)
push-cases before e v h =
    let f = literal_of_var (literals (before ++ e ∷ [])) v h in
    elim (has-append_cases (literals before) (e.lit ∷ []) f.0 (subst (λ c. has c f.0 ≡ true) (literals-at before e []) f.1)) [
      | inl i ↦ inl (subst (λ x. has_var (literals before) x ≡ true) f.2 (has_var-has (literals before) f.0 i))
      | inr i ↦ elim (has-cases e.lit f.0 [] i) [ inl one ↦ inr (sym (ap (λ (x : Literal). x.var) one) ∙ f.2) | inr none ↦ absurd (cc) ]
    ]

-- a literal of the set of the variable of the entry is its negation
pub negation-of_entry : (K : List Clause) (T : Trail) (e : Entry) (S : Clause) (l : Literal) → IsLawful K T → IsAt T e → Refutes (literals T) S → has S l ≡ true → e.lit.var ≡ l.var → l ≡ negated e.lit
negation-of_entry K T e S l lawful at r a i =
    let one : e.lit ≡ negated l = literals-distinct K T e.lit (negated l) lawful (has-literals_at T e at) (r l a) i in
    sym (negated-negated l) ∙ sym (ap negated one)

Settled-pass : (K : List Clause) (T : Trail) (R : List Literal) (before : Trail) (e : Entry) (es : Trail) (S : Clause) → IsLawful K T → current_level T ≡ 0 → T ≡ before ++ e ∷ es
    → reason_used T R S e ≡ None → Settled T (before ++ e ∷ []) S → Settled T before S
Settled-pass K T R before e es S lawful level place none s = record { refuted = s.refuted; settled = λ l a. first l a (s.settled l a) }
  where
    at : IsAt T e
    at = at-place T before e es place

    zero_level : e.level ≡ 0
    zero_level = let top = level-at K T e lawful at in omega arith

    given : (l : Literal) → has S l ≡ true → l ≡ negated e.lit → is_of_cube T l ≡ true
    given l a i =
        let met : has S (negated e.lit) ≡ true = subst (λ x. has S x ≡ true) i a in
        let found : entry_of T e.lit.var ≡ Some e = entry_of-at K T e lawful at in
        let zeroth : nat_eq e.level 0 ≡ true = eq-eqb e.level 0 zero_level in
        let resolves = resolved-at_zero T R S e met zeroth in
        let bare : e.reason ≡ None = reason_used-none T R S e none resolves in
        let here : is_given (entry_of T e.lit.var) ≡ true = ap is_given found ∙ and-true (nat_eq e.level 0) (not (is_some e.reason)) zeroth (ap (λ o. not (is_some o)) bare) in
        subst (λ (x : Literal). is_given (entry_of T x.var) ≡ true) (sym i) here

    first : (l : Literal) → has S l ≡ true → (is_of_cube T l ≡ true) ⊎ (has_var (literals (before ++ e ∷ [])) l.var ≡ true) → (is_of_cube T l ≡ true) ⊎ (has_var (literals before) l.var ≡ true)
    first l a (inl i) = inl i
    first l a (inr i) = elim (push-cases before e l.var i) [
      | inl j ↦ inr j
      | inr j ↦ inl (given l a (negation-of_entry K T e S l lawful at s.refuted a j))
    ]

Settled-resolve : (K : List Clause) (T : Trail) (R : List Literal) (before : Trail) (e : Entry) (es : Trail) (S : Clause) (n : ℕ) → IsLawful K T → T ≡ before ++ e ∷ es
    → reason_used T R S e ≡ Some n → Settled T (before ++ e ∷ []) S → Settled T before (resolved S e.lit (clause_at K n))
Settled-resolve K T R before e es S n lawful place used s = record {
  refuted = Refutes-resolved K T R before e es S n lawful place used s.refuted;
  settled = λ l a. elim (has-from_resolved S (clause_at K n) e.lit l a) [
    | inl i ↦ old l i (s.settled l i.0)
    | inr i ↦ inr (has_var-has (literals before) (negated l) (Refutes-others K (literals before) e.lit n (grounded-place K T R before e es S n lawful place used).1 l i))
  ];
}
  where
    old : (l : Literal) → (has S l ≡ true) × (same (negated e.lit) l ≡ false) → (is_of_cube T l ≡ true) ⊎ (has_var (literals (before ++ e ∷ [])) l.var ≡ true)
        → (is_of_cube T l ≡ true) ⊎ (has_var (literals before) l.var ≡ true)
    old l i (inl g) = inl g
    old l i (inr g) = elim (push-cases before e l.var g) [
      | inl j ↦ inr j
      | inr j ↦ absurd (other-same (negated e.lit) l i.1 (sym (negation-of_entry K T e S l lawful (at-place T before e es place) s.refuted i.0 j)))
    ]

filter-nothing : (p : Literal → Bool) (c : Clause) → ((l : Literal) → has c l ≡ true → p l ≡ false) → filter p c ≡ []
filter-nothing p [] h = refl
filter-nothing p (k ∷ c) h = let out = h k (has-head k c) in let rest = filter-nothing p c (λ l a. h l (has-tail k l c a)) in rw (out, rest) refl

-- at level 0 the learnt clause is empty
pub clause-learn_empty : (R : List Literal) (K : List Clause) (T : Trail) (n : ℕ) → IsLawful K T → current_level T ≡ 0 → is_false (literals T) (clause_at K n) ≡ true → (learn_removing R K T n).clause ≡ []
clause-learn_empty R K T n lawful level clash = filter-nothing (λ l. not (is_of_cube T l)) (walk K T R T S (n ∷ [])).0 out
  where
    S : Clause
    S = with_literals (clause_at K n) []

    begin : Settled T T S
    begin = record { refuted = Refutes-begin K T n clash; settled = λ l a. inr (has_var-has (literals T) (negated l) (Refutes-begin K T n clash l a)) }

    end : Settled T [] (walk K T R T S (n ∷ [])).0
    end = walk-all K T R (λ before w. Settled T before w.0) (λ before e es w place h i. Settled-pass K T R before e es w.0 lawful level place h i)
        (λ before e es w m place h i. Settled-resolve K T R before e es w.0 m lawful place h i) S (n ∷ []) begin

    out : (l : Literal) → has (walk K T R T S (n ∷ [])).0 l ≡ true → not (is_of_cube T l) ≡ false
    out l a = elim (end.settled l a) [ inl i ↦ ap not i | inr i ↦ absurd (cc) ]
