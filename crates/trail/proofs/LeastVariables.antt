-- The least of a bound and the variables of entries.
use Rattle.std.proofs.Common.{◌≡◌, ℕ, ◌+◌, ◌<◌, ◌≤◌, true, length, take, get_or, nat_eq, eqb-true, eq-eqb, min, refl, sym, subst, ◌∙◌, inl, inr, ◌⊎◌, arith}
use Rattle.std.proofs.lemmas.Bool.{cases_lt}
use Rattle.theory.specs.Literals.{has_var}
use Rattle.theory.specs.Trails.{Entry, Trail, literals}
use Rattle.theory.proofs.literals.LiteralLemmas.{or-cases, or-left, or-right}
use Rattle.trail.proofs.Tables.{has_var-take}

pub record IsLeastVar (bound : ℕ) (D : Trail) (m : ℕ) : Type 0 where
  pub most : m ≤ bound
  pub least : (v : ℕ) → has_var (literals D) v ≡ true → m ≤ v
  pub there : (m ≡ bound) ⊎ (has_var (literals D) m ≡ true)

-- one entry more
pub IsLeastVar-more : (bound : ℕ) (D : Trail) (i : ℕ) (e : Entry) (m : ℕ) → i < length D → IsLeastVar bound (take i D) m → IsLeastVar bound (take (i + 1) D) (min m (get_or D i e).lit.var)
IsLeastVar-more bound D i e m less s = record {
  most = let most = s.most in omega arith;
  least = λ v h. elim (or-cases (has_var (literals (take i D)) v) (nat_eq v w) (sym (has_var-take D i e v less) ∙ h)) [
    | inl a ↦ let low = s.least v a in omega arith
    | inr b ↦ let one : v ≡ w = eqb-true v w b in omega arith
  ];
  there = elim (cases_lt w m) [
    | inl below ↦ let same : w ≡ min m w = omega arith in inr (subst (λ v. has_var (literals (take (i + 1) D)) v ≡ true) same (has_var-take D i e w less ∙ or-right (has_var (literals (take i D)) w) (nat_eq w w) (eq-eqb w w refl)))
    | inr above ↦ let same : m ≡ min m w = omega arith in elim s.there [
      | inl b ↦ inl (sym same ∙ b)
      | inr h ↦ inr (subst (λ v. has_var (literals (take (i + 1) D)) v ≡ true) same (has_var-take D i e m less ∙ or-left (has_var (literals (take i D)) m) (nat_eq m w) h))
    ]
  ];
}
  where
    w : ℕ
    w = (get_or D i e).lit.var
