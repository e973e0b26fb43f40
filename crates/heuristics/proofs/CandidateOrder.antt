-- The order of candidates, the first of which are kept: of two with different numbers one goes
-- before the other.
use Rattle.std.proofs.Common.{◌≡◌, ◌≢◌, ◌≤◌, Bool, true, false, ◌&&◌, ◌||◌, nat_eq, nat_lt, eqb-true, eq-eqb, ltb-false, refl, sym, ◌∙◌, inl, inr, arith}
use Rattle.std.proofs.lemmas.Bool.{cases_eq, cases_lt, le-ltb}
use Rattle.std.specs.Cmp.{IsStrictWeakOrder}
use Rattle.theory.specs.Forgetting.{Candidate, goes_before}
use Rattle.theory.proofs.literals.LiteralSets.{true_false, or-false_left, or-false_right, false_unless}

-- a doesn't go before b
pub record IsNotBefore (a b : Candidate) : Type 0 where
  pub glue : b.glue ≤ a.glue
  pub size : a.glue ≡ b.glue → b.size ≤ a.size
  pub number : a.glue ≡ b.glue → a.size ≡ b.size → a.number ≤ b.number

and-true : (p q : Bool) → p ≡ true → (p && q) ≡ q
and-true true q e = refl
and-true false q e = absurd (cc)

pub IsNotBefore-from_test : (a b : Candidate) → goes_before a b ≡ false → IsNotBefore a b
IsNotBefore-from_test a b h =
    let rest : (nat_eq a.glue b.glue && (nat_lt a.size b.size || (nat_eq a.size b.size && nat_lt b.number a.number))) ≡ false = or-false_right (nat_lt a.glue b.glue) _ h in
    record {
      glue = ltb-false a.glue b.glue (or-false_left (nat_lt a.glue b.glue) _ h);
      size = λ e. ltb-false a.size b.size (or-false_left (nat_lt a.size b.size) _ (sizes e rest));
      number = λ e f. ltb-false b.number a.number (numbers f (or-false_right (nat_lt a.size b.size) _ (sizes e rest)));
    }
  where
    sizes : a.glue ≡ b.glue → (nat_eq a.glue b.glue && (nat_lt a.size b.size || (nat_eq a.size b.size && nat_lt b.number a.number))) ≡ false → (nat_lt a.size b.size || (nat_eq a.size b.size && nat_lt b.number a.number)) ≡ false
    sizes e rest = sym (and-true (nat_eq a.glue b.glue) _ (eq-eqb a.glue b.glue e)) ∙ rest

    numbers : a.size ≡ b.size → (nat_eq a.size b.size && nat_lt b.number a.number) ≡ false → nat_lt b.number a.number ≡ false
    numbers f rest = sym (and-true (nat_eq a.size b.size) _ (eq-eqb a.size b.size f)) ∙ rest

or-no : (p q : Bool) → p ≡ false → q ≡ false → (p || q) ≡ false
or-no true q e f = absurd (cc)
or-no false q e f = f

and-no : (p q : Bool) → (p ≡ true → q ≡ false) → (p && q) ≡ false
and-no true q f = f refl
and-no false q f = refl

pub test-from_IsNotBefore : (a b : Candidate) → IsNotBefore a b → goes_before a b ≡ false
test-from_IsNotBefore a b h =
    or-no (nat_lt a.glue b.glue) _ (le-ltb a.glue b.glue h.glue)
    (and-no (nat_eq a.glue b.glue) _ (λ e. or-no (nat_lt a.size b.size) _ (le-ltb a.size b.size (h.size (eqb-true a.glue b.glue e)))
    (and-no (nat_eq a.size b.size) _ (λ f. le-ltb b.number a.number (h.number (eqb-true a.glue b.glue e) (eqb-true a.size b.size f))))))

IsNotBefore-trans : (a b c : Candidate) → IsNotBefore a b → IsNotBefore b c → IsNotBefore a c
IsNotBefore-trans a b c h k =
    let g = h.glue in
    let l = k.glue in
    record {
      glue = omega arith;
      size = λ e. (let m = h.size (omega arith) in let n = k.size (omega arith) in omega arith);
      number = λ e f. (
          let same : a.glue ≡ b.glue = omega arith in
          let next : b.glue ≡ c.glue = omega arith in
          let m = h.size same in
          let n = k.size next in
          let o = h.number same (omega arith) in
          let p = k.number next (omega arith) in
          omega arith);
    }

-- of two candidates one doesn't go before the other
both-before : (a b : Candidate) → goes_before a b ≡ true → goes_before b a ≡ true → ⊥
both-before a b h k = elim (cases_lt a.glue b.glue) [
  | inl less ↦ true_false (goes_before b a) k (test-from_IsNotBefore b a (record { glue = omega arith; size = λ e. absurd (omega arith); number = λ e f. absurd (omega arith) }))
  | inr most ↦ elim (cases_eq a.glue b.glue) [
    | inr ne ↦ true_false (goes_before a b) h (test-from_IsNotBefore a b (record { glue = most; size = λ e. absurd (ne e); number = λ e f. absurd (ne e) }))
    | inl same ↦ elim (cases_lt a.size b.size) [
      | inl less ↦ true_false (goes_before b a) k (test-from_IsNotBefore b a (record { glue = omega arith; size = λ e. omega arith; number = λ e f. absurd (omega arith) }))
      | inr large ↦ elim (cases_eq a.size b.size) [
        | inr ne ↦ true_false (goes_before a b) h (test-from_IsNotBefore a b (record { glue = most; size = λ e. large; number = λ e f. absurd (ne f) }))
        | inl size ↦ elim (cases_lt a.number b.number) [
          | inl less ↦ true_false (goes_before a b) h (test-from_IsNotBefore a b (record { glue = most; size = λ e. large; number = λ e f. omega arith }))
          | inr later ↦ true_false (goes_before b a) k (test-from_IsNotBefore b a (record { glue = omega arith; size = λ e. omega arith; number = λ e f. later }))
        ]
      ]
    ]
  ]
]

pub order : IsStrictWeakOrder goes_before
order = record {
  one_way = λ a b h. false_unless (goes_before b a) (λ t. both-before a b h t);
  chain = λ a b c h k. test-from_IsNotBefore a c (IsNotBefore-trans a b c (IsNotBefore-from_test a b h) (IsNotBefore-from_test b c k));
}

-- of two with different numbers, one goes before the other
pub goes_before-other : (a b : Candidate) → a.number ≢ b.number → goes_before b a ≡ false → goes_before a b ≡ true
goes_before-other a b ne h = go (goes_before a b) refl
  where
    apart : goes_before a b ≡ false → ⊥
    apart e =
        let l = IsNotBefore-from_test a b e in
        let m = IsNotBefore-from_test b a h in
        let g = l.glue in
        let k = m.glue in
        let same : a.glue ≡ b.glue = omega arith in
        let s = l.size same in
        let t = m.size (sym same) in
        let size : a.size ≡ b.size = omega arith in
        let u = l.number same size in
        let v = m.number (sym same) (sym size) in
        ne (omega arith)

    go : (t : Bool) → goes_before a b ≡ t → t ≡ true
    go true e = refl
    go false e = absurd (apart e)
