-- What the tests ask before a decision and before a clause is learnt.
use Rattle.std.proofs.Common.{◌≡◌, ℕ, Bool, true, false, not, ◌||◌, [], ◌∷◌, Some, is_some, option_map, refl, ap, sym, subst, ◌∙◌, nat_eq, eqb-true, inl, inr}
use Rattle.std.proofs.lemmas.List.Elements.{All-nil, All-cons}
use Rattle.theory.specs.Literals.{Literal, negated, same, has, has_var, IsVariable}
use Rattle.theory.specs.Truth.{IsOver}
use Rattle.theory.specs.Trails.{Entry, Trail, literals, level_at, current_level, entry_of}
use Rattle.theory.specs.Learnable.{IsLearnable}
use Rattle.theory.proofs.literals.LiteralLemmas.{same-eq, same-refl}
use Rattle.theory.proofs.literals.LiteralSets.{true_false, false_unless, has-head, has-tail, has_var-has}
use Rattle.trail.specs.Tables.{value_in}
use Rattle.trail.proofs.NextFree.{is_some-value_in}
use Rattle.trail.proofs.Values.{value-literal}

-- a variable without a value is free
pub value-free : (T : Trail) (v : ℕ) → is_some (value_in T v) ≡ false → has_var (literals T) v ≡ false
value-free T v h = sym (is_some-value_in T v) ∙ h

pub IsOver-one : (V : ℕ) (l : Literal) → IsVariable V l.var → IsOver V (l ∷ [])
IsOver-one V l h = All-cons (λ (k : Literal). IsVariable V k.var) l [] h (All-nil (λ (k : Literal). IsVariable V k.var))

pub IsOver-two : (V : ℕ) (l k : Literal) → IsVariable V l.var → IsVariable V k.var → IsOver V (l ∷ k ∷ [])
IsOver-two V l k h i = All-cons (λ (x : Literal). IsVariable V x.var) l (k ∷ []) h (IsOver-one V k i)

-- one free literal, at level 0
pub IsLearnable-one : (T : Trail) (l : Literal) → has_var (literals T) l.var ≡ false → current_level T ≡ 0 → IsLearnable T (l ∷ [])
IsLearnable-one T l free none = record {
  distinct = refl;
  free = l;
  unit = rw (free, same-refl l) refl;
  latest = inl none;
}

-- a literal that is false at the current level, and a free one
pub IsLearnable-two : (T : Trail) (l f : Literal) (e : Entry) → entry_of T l.var ≡ Some e → same e.lit (negated l) ≡ true → e.level ≡ current_level T
    → has_var (literals T) f.var ≡ false → IsLearnable T (l ∷ f ∷ [])
IsLearnable-two T l f e at one level free = record {
  distinct = rw apart refl;
  free = f;
  unit = rw (taken, free, there, same-refl f, or-any (same f l)) refl;
  latest = inr (l, has-head l (f ∷ []), other, ap level_at at ∙ level);
}
  where
    lit : e.lit ≡ negated l
    lit = same-eq e.lit (negated l) one

    there : has (literals T) (negated l) ≡ true
    there = value-literal T (negated l) (not l.positive) (ap (option_map (λ (x : Entry). x.lit.positive)) at ∙ ap (λ (x : Literal). Some x.positive) lit) refl

    taken : has_var (literals T) l.var ≡ true
    taken = has_var-has (literals T) (negated l) there

    differ : f.var ≡ l.var → ⊥
    differ v = true_false (has_var (literals T) l.var) taken (subst (λ v. has_var (literals T) v ≡ false) v free)

    apart : nat_eq l.var f.var ≡ false
    apart = false_unless (nat_eq l.var f.var) (λ t. differ (sym (eqb-true l.var f.var t)))

    other : same f l ≡ false
    other = false_unless (same f l) (λ t. differ (ap (λ (x : Literal). x.var) (same-eq f l t)))

    or-any : (b : Bool) → b || true ≡ true
    or-any true = refl
    or-any false = refl

-- the same, the free one first
pub IsLearnable-turned : (T : Trail) (f l : Literal) (e : Entry) → entry_of T l.var ≡ Some e → same e.lit (negated l) ≡ true → e.level ≡ current_level T
    → has_var (literals T) f.var ≡ false → IsLearnable T (f ∷ l ∷ [])
IsLearnable-turned T f l e at one level free = record {
  distinct = rw apart refl;
  free = f;
  unit = rw (taken, free, there, same-refl f, or-any (same f l)) refl;
  latest = inr (l, has-tail f l (l ∷ []) (has-head l []), other, ap level_at at ∙ level);
}
  where
    there : has (literals T) (negated l) ≡ true
    there = value-literal T (negated l) (not l.positive) (ap (option_map (λ (x : Entry). x.lit.positive)) at ∙ ap (λ (x : Literal). Some x.positive) (same-eq e.lit (negated l) one)) refl

    taken : has_var (literals T) l.var ≡ true
    taken = has_var-has (literals T) (negated l) there

    differ : f.var ≡ l.var → ⊥
    differ v = true_false (has_var (literals T) l.var) taken (subst (λ v. has_var (literals T) v ≡ false) v free)

    apart : nat_eq f.var l.var ≡ false
    apart = false_unless (nat_eq f.var l.var) (λ t. differ (eqb-true f.var l.var t))

    other : same f l ≡ false
    other = false_unless (same f l) (λ t. differ (ap (λ (x : Literal). x.var) (same-eq f l t)))

    or-any : (b : Bool) → b || true ≡ true
    or-any true = refl
    or-any false = refl

pub IsOver-three : (V : ℕ) (k l f : Literal) → IsVariable V k.var → IsVariable V l.var → IsVariable V f.var → IsOver V (k ∷ l ∷ f ∷ [])
IsOver-three V k l f h i j = All-cons (λ (x : Literal). IsVariable V x.var) k (l ∷ f ∷ []) h (IsOver-two V l f i j)

-- a false literal, one that is false at the current level, and a free one
pub IsLearnable-three : (T : Trail) (k l f : Literal) (d e : Entry) → entry_of T k.var ≡ Some d → same d.lit (negated k) ≡ true
    → entry_of T l.var ≡ Some e → same e.lit (negated l) ≡ true → e.level ≡ current_level T → nat_eq k.var l.var ≡ false
    → has_var (literals T) f.var ≡ false → IsLearnable T (k ∷ l ∷ f ∷ [])
IsLearnable-three T k l f d e at-k one-k at-l one-l level differ free = record {
  distinct = rw (differ, apart k there-k, apart l there-l) refl;
  free = f;
  unit = rw (taken k there-k, taken l there-l, free, there-k, there-l, same-refl f, or-any (same f k), or-any (same f l)) refl;
  latest = inr (l, has-tail k l (l ∷ f ∷ []) (has-head l (f ∷ [])), other, ap level_at at-l ∙ level);
}
  where
    there : (x : Literal) (y : Entry) → entry_of T x.var ≡ Some y → same y.lit (negated x) ≡ true → has (literals T) (negated x) ≡ true
    there x y at one = value-literal T (negated x) (not x.positive) (ap (option_map (λ (z : Entry). z.lit.positive)) at ∙ ap (λ (z : Literal). Some z.positive) (same-eq y.lit (negated x) one)) refl

    there-k : has (literals T) (negated k) ≡ true
    there-k = there k d at-k one-k

    there-l : has (literals T) (negated l) ≡ true
    there-l = there l e at-l one-l

    taken : (x : Literal) → has (literals T) (negated x) ≡ true → has_var (literals T) x.var ≡ true
    taken x h = has_var-has (literals T) (negated x) h

    distant : (x : Literal) → has (literals T) (negated x) ≡ true → f.var ≡ x.var → ⊥
    distant x h v = true_false (has_var (literals T) x.var) (taken x h) (subst (λ v. has_var (literals T) v ≡ false) v free)

    apart : (x : Literal) → has (literals T) (negated x) ≡ true → nat_eq x.var f.var ≡ false
    apart x h = false_unless (nat_eq x.var f.var) (λ t. distant x h (sym (eqb-true x.var f.var t)))

    other : same f l ≡ false
    other = false_unless (same f l) (λ t. distant l there-l (ap (λ (x : Literal). x.var) (same-eq f l t)))

    or-any : (b : Bool) → b || true ≡ true
    or-any true = refl
    or-any false = refl
