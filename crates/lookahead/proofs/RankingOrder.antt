-- The order of variables by rank.
use Rattle.std.proofs.Common.{◌≡◌, ◌≤◌, Bool, true, false, ◌&&◌, ◌||◌, nat_eq, nat_lt, eqb-true, eq-eqb, ltb-false, refl, sym, ◌∙◌, inl, inr, arith}
use Rattle.std.proofs.lemmas.Bool.{cases_eq, cases_lt, le-ltb}
use Rattle.std.specs.Cmp.{IsStrictWeakOrder}
use Rattle.theory.proofs.literals.LiteralSets.{true_false, or-false_left, or-false_right, false_unless}
use Rattle.lookahead.specs.Rankings.{goes_before}
use Rattle.lookahead.specs.declared.ranking.Ranked.{Ranked}

-- a doesn't go before b
pub record IsNotBefore (a b : Ranked) : Type 0 where
  pub rank : a.rank ≤ b.rank
  pub var : a.rank ≡ b.rank → a.var ≤ b.var

and-true : (p q : Bool) → p ≡ true → (p && q) ≡ q
and-true true q e = refl
and-true false q e = absurd (cc)

or-no : (p q : Bool) → p ≡ false → q ≡ false → (p || q) ≡ false
or-no true q e f = absurd (cc)
or-no false q e f = f

and-no : (p q : Bool) → (p ≡ true → q ≡ false) → (p && q) ≡ false
and-no true q f = f refl
and-no false q f = refl

pub IsNotBefore-from_test : (a b : Ranked) → goes_before a b ≡ false → IsNotBefore a b
IsNotBefore-from_test a b h = record {
  rank = ltb-false b.rank a.rank (or-false_left (nat_lt b.rank a.rank) _ h);
  var = λ e. ltb-false b.var a.var (sym (and-true (nat_eq a.rank b.rank) _ (eq-eqb a.rank b.rank e)) ∙ or-false_right (nat_lt b.rank a.rank) _ h);
}

pub test-from_IsNotBefore : (a b : Ranked) → IsNotBefore a b → goes_before a b ≡ false
test-from_IsNotBefore a b h =
    or-no (nat_lt b.rank a.rank) _ (le-ltb b.rank a.rank h.rank)
    (and-no (nat_eq a.rank b.rank) _ (λ e. le-ltb b.var a.var (h.var (eqb-true a.rank b.rank e))))

IsNotBefore-trans : (a b c : Ranked) → IsNotBefore a b → IsNotBefore b c → IsNotBefore a c
IsNotBefore-trans a b c h k =
    let g = h.rank in
    let l = k.rank in
    record {
      rank = omega arith;
      var = λ e. (
          let same : a.rank ≡ b.rank = omega arith in
          let next : b.rank ≡ c.rank = omega arith in
          let m = h.var same in
          let n = k.var next in
          omega arith);
    }

-- of two one doesn't go before the other
both-before : (a b : Ranked) → goes_before a b ≡ true → goes_before b a ≡ true → ⊥
both-before a b h k = elim (cases_lt a.rank b.rank) [
  | inl less ↦ true_false (goes_before a b) h (test-from_IsNotBefore a b (record { rank = omega arith; var = λ e. absurd (omega arith) }))
  | inr most ↦ elim (cases_eq a.rank b.rank) [
    | inr ne ↦ true_false (goes_before b a) k (test-from_IsNotBefore b a (record { rank = most; var = λ e. absurd (ne (sym e)) }))
    | inl same ↦ elim (cases_lt a.var b.var) [
      | inl less ↦ true_false (goes_before a b) h (test-from_IsNotBefore a b (record { rank = omega arith; var = λ e. omega arith }))
      | inr high ↦ true_false (goes_before b a) k (test-from_IsNotBefore b a (record { rank = most; var = λ e. high }))
    ]
  ]
]

pub order : IsStrictWeakOrder goes_before
order = record {
  one_way = λ a b h. false_unless (goes_before b a) (λ t. both-before a b h t);
  chain = λ a b c h k. test-from_IsNotBefore a c (IsNotBefore-trans a b c (IsNotBefore-from_test a b h) (IsNotBefore-from_test b c k));
}
