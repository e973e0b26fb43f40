-- The walk of analysis from a conflict above level 0: it leaves one literal of the current level.
use Rattle.std.proofs.Common.{◌≡◌, ℕ, ◌-◌, ◌<◌, ◌≤◌, Bool, true, false, not, ◌&&◌, List, [], ◌∷◌, ◌++◌, length, refl, ap, sym, subst, ◌∙◌, nat_eq, nat_le, eqb-true, eq-eqb, leb-true, leb-false, ◌⊎◌, inl, inr, Some, None, arith}
use Rattle.theory.specs.Literals.{Literal, Clause, negated, same, has, has_var, without}
use Rattle.theory.specs.Status.{is_false}
use Rattle.theory.specs.Trails.{Entry, Trail, literals, current_level, level_of, up_to}
use Rattle.theory.specs.Propagation.{clause_at, least_false}
use Rattle.theory.specs.Lawful.{IsReason, IsGrounded, IsLawful}
use Rattle.theory.specs.Learnable.{IsOpenBelow}
use Rattle.theory.specs.Learning.{with_literals, resolved, at_current_level, is_resolved_on, reason_used, walk, IsRising}
use Rattle.theory.proofs.literals.LiteralSets.{Refutes, true_false, other-same, same-other, has-tail, has-head, has_var-has, Refutes-from_is_false, has-with_literals, has-from_without, has-resolved_set, has-from_resolved}
use Rattle.theory.proofs.trails.LawfulTrails.{least_false-at, least_false-none}
use Rattle.theory.proofs.trails.TrailEntries.{literals-distinct}
use Rattle.theory.proofs.searching.Walks.{walk-all, at-place, entry-place, has-before, reason_used-resolved, reason_used-none, resolved-at_current, resolved-met, resolved-why, grounded-place, Refutes-others, Refutes-resolved, Refutes-begin}
use Rattle.theory.proofs.searching.EmptyLines.{push-cases, negation-of_entry}
use Rattle.theory.proofs.literals.RisingSets.{IsRising-filter, IsRising-with_literals, IsOneSigned, are_distinct-rising, PassesOnce, PassesOnce-count, another}
use Rattle.theory.proofs.trails.TrailLevels.{level_of-at, level_of-most, has-up_to, level_of-before}

-- the literal is of the current level
abbrev pub is_latest : Trail → Literal → Bool
is_latest T l = nat_eq (level_of T l) (current_level T)

-- each literal of the current level is of an entry before
abbrev pub AreBefore : Trail → Trail → Clause → Type 0
AreBefore T before S = (l : Literal) → has S l ≡ true → is_latest T l ≡ true → has_var (literals before) l.var ≡ true

-- the state of the walk behind the entries before: one literal of the current level is left, or all
-- that are there are of entries still to come
pub record Narrows (T before : Trail) (S : Clause) : Type 0 where
  pub refuted : Refutes (literals T) S
  pub rising : IsRising S
  pub latest : (l : Literal) × (has S l ≡ true) × (is_latest T l ≡ true)
  pub alone : PassesOnce (is_latest T) S ⊎ AreBefore T before S

one_signed : (K : List Clause) (T : Trail) → IsLawful K T → IsOneSigned (literals T)
one_signed K T lawful k l a b v = literals-distinct K T k l lawful a b v

-- the entry of a literal of the current level is of that level
entry_latest : (K : List Clause) (T before : Trail) (e : Entry) (es : Trail) (l : Literal) → IsLawful K T → T ≡ before ++ e ∷ es → is_latest T l ≡ true → e.lit.var ≡ l.var
    → e.level ≡ current_level T
entry_latest K T before e es l lawful place latest v =
    sym (level_of-at K T e l lawful (at-place T before e es place) v) ∙ eqb-true (level_of T l) (current_level T) latest

-- the entry's negation is of the current level, if the entry is
negation_latest : (K : List Clause) (T before : Trail) (e : Entry) (es : Trail) → IsLawful K T → T ≡ before ++ e ∷ es → e.level ≡ current_level T → is_latest T (negated e.lit) ≡ true
negation_latest K T before e es lawful place h =
    eq-eqb (level_of T (negated e.lit)) (current_level T) (level_of-at K T e (negated e.lit) lawful (at-place T before e es place) refl ∙ h)

-- where no literal of the current level is the entry's negation, all are of entries before it
before_entry : (K : List Clause) (T before : Trail) (e : Entry) (es : Trail) (S : Clause) → IsLawful K T → T ≡ before ++ e ∷ es → Refutes (literals T) S
    → AreBefore T (before ++ e ∷ []) S → (has S (negated e.lit) ≡ true → is_latest T (negated e.lit) ≡ true → ⊥) → AreBefore T before S
before_entry K T before e es S lawful place r all none l a v = elim (push-cases before e l.var (all l a v)) [
  | inl j ↦ j
  | inr j ↦ (
      let i : l ≡ negated e.lit = negation-of_entry K T e S l lawful (at-place T before e es place) r a j in
      absurd (none (subst (λ x. has S x ≡ true) i a) (subst (λ x. is_latest T x ≡ true) i v))
      )
]

-- an entry on whose reason isn't resolved
Narrows-pass : (K : List Clause) (T : Trail) (R : List Literal) (before : Trail) (e : Entry) (es : Trail) (S : Clause) → IsLawful K T → 1 ≤ current_level T → T ≡ before ++ e ∷ es
    → reason_used T R S e ≡ None → Narrows T (before ++ e ∷ []) S → Narrows T before S
Narrows-pass K T R before e es S lawful above place none s = record { refuted = s.refuted; rising = s.rising; latest = s.latest; alone = go s.alone }
  where
    Claim : Type 0
    Claim = PassesOnce (is_latest T) S ⊎ AreBefore T before S

    -- the entry that opens the current level is the first of it
    opens : AreBefore T (before ++ e ∷ []) S → e.level ≡ current_level T → e.reason ≡ None → PassesOnce (is_latest T) S
    opens all level bare k l a p b q = only k a p ∙ sym (only l b q)
      where
        grounded : IsGrounded K before e None
        grounded = subst (IsGrounded K before e) bare (entry-place K T before e es lawful place).grounded

        lower : IsGrounded K before e None → current_level before < current_level T
        lower (inl h) = let z = h.0 in absurd (omega arith)
        lower (inr h) = omega arith

        only : (l : Literal) → has S l ≡ true → is_latest T l ≡ true → l ≡ negated e.lit
        only l a p = elim (push-cases before e l.var (all l a p)) [
          | inl j ↦ (
              let low : level_of T l ≤ current_level before = level_of-before K T before (e ∷ es) l lawful place j in
              let high : level_of T l ≡ current_level T = eqb-true (level_of T l) (current_level T) p in
              let less = lower grounded in
              absurd (omega arith)
              )
          | inr j ↦ negation-of_entry K T e S l lawful (at-place T before e es place) s.refuted a j
        ]

    third : (b : Bool) → nat_le 2 (at_current_level T S) ≡ b → has S (negated e.lit) ≡ true → nat_eq e.level (current_level T) ≡ true → AreBefore T (before ++ e ∷ []) S → Claim
    third false two met level all = inl (PassesOnce-count (is_latest T) S two)
    third true two met level all =
        let resolves = resolved-at_current T R S e met level two in
        inl (opens all (eqb-true e.level (current_level T) level) (reason_used-none T R S e none resolves))

    second : (b : Bool) → nat_eq e.level (current_level T) ≡ b → has S (negated e.lit) ≡ true → AreBefore T (before ++ e ∷ []) S → Claim
    second true level met all = third (nat_le 2 (at_current_level T S)) refl met level all
    second false level met all = inr (before_entry K T before e es S lawful place s.refuted all (λ a v.
        true_false (nat_eq e.level (current_level T)) (eq-eqb e.level (current_level T) (entry_latest K T before e es (negated e.lit) lawful place v refl)) level))

    first : (b : Bool) → has S (negated e.lit) ≡ b → AreBefore T (before ++ e ∷ []) S → Claim
    first true met all = second (nat_eq e.level (current_level T)) refl met all
    first false met all = inr (before_entry K T before e es S lawful place s.refuted all (λ a v. true_false (has S (negated e.lit)) a met))

    go : PassesOnce (is_latest T) S ⊎ AreBefore T (before ++ e ∷ []) S → Claim
    go (inl one) = inl one
    go (inr all) = first (has S (negated e.lit)) refl all

-- an entry on whose reason is resolved
Narrows-resolve : (K : List Clause) (T : Trail) (R : List Literal) (before : Trail) (e : Entry) (es : Trail) (S : Clause) (n : ℕ) → IsLawful K T → 1 ≤ current_level T → T ≡ before ++ e ∷ es
    → reason_used T R S e ≡ Some n → Narrows T (before ++ e ∷ []) S → Narrows T before (resolved S e.lit (clause_at K n))
Narrows-resolve K T R before e es S n lawful above place used s = record {
  refuted = Refutes-resolved K T R before e es S n lawful place used s.refuted;
  rising = IsRising-with_literals (literals T) (without c e.lit) (without S (negated e.lit)) (one_signed K T lawful) (λ k a. has-before T before e es (negated k) place (before_it k a))
      (λ k a. s.refuted k (has-from_without S (negated e.lit) k a).0) (IsRising-filter (λ k. not (same (negated e.lit) k)) S s.rising);
  latest = (level_cases).0;
  alone = (level_cases).1;
}
  where
    c : Clause
    c = clause_at K n

    grounded : (e.level ≡ current_level before) × IsReason K (literals before) e.lit n
    grounded = grounded-place K T R before e es S n lawful place used

    before_it : Refutes (literals before) (without c e.lit)
    before_it = Refutes-others K (literals before) e.lit n grounded.1

    test : is_resolved_on T R S e ≡ true
    test = reason_used-resolved T R S e n used

    met : has S (negated e.lit) ≡ true
    met = resolved-met T R S e test

    Claim : Type 0
    Claim = ((l : Literal) × (has (resolved S e.lit c) l ≡ true) × (is_latest T l ≡ true)) × (PassesOnce (is_latest T) (resolved S e.lit c) ⊎ AreBefore T before (resolved S e.lit c))

    -- below the current level its literals stay as they are
    at_lower : e.level < current_level T → Claim
    at_lower lower = ((l, has-resolved_set S c e.lit l s.latest.1 (same-other (negated e.lit) l (λ i. other l s.latest.2 (ap (λ (x : Literal). x.var) i))), s.latest.2), go s.alone)
      where
        l : Literal
        l = s.latest.0

        other : (l : Literal) → is_latest T l ≡ true → e.lit.var ≡ l.var → ⊥
        other l p v = let level = entry_latest K T before e es l lawful place p v in absurd (omega arith)

        old : (l : Literal) → has (resolved S e.lit c) l ≡ true → is_latest T l ≡ true → has S l ≡ true
        old l a p = elim (has-from_resolved S c e.lit l a) [
          | inl i ↦ i.0
          | inr i ↦ (
              let low : level_of T l ≤ current_level before = level_of-before K T before (e ∷ es) l lawful place (has_var-has (literals before) (negated l) (before_it l i)) in
              let high : level_of T l ≡ current_level T = eqb-true (level_of T l) (current_level T) p in
              let here = grounded.0 in
              absurd (omega arith)
              )
        ]

        go : PassesOnce (is_latest T) S ⊎ AreBefore T (before ++ e ∷ []) S → PassesOnce (is_latest T) (resolved S e.lit c) ⊎ AreBefore T before (resolved S e.lit c)
        go (inl one) = inl (λ k l a p b q. one k l (old k a p) p (old l b q) q)
        go (inr all) = inr (λ l a p. before_entry K T before e es S lawful place s.refuted all (λ b q. other (negated e.lit) q refl) l (old l a p) p)

    -- at the current level another one is there
    at_current : e.level ≡ current_level T → 2 ≤ at_current_level T S → Claim
    at_current level two = ((more.0, has-resolved_set S c e.lit more.0 more.1 more.3, more.2), go s.alone)
      where
        more : (k : Literal) × (has S k ≡ true) × (is_latest T k ≡ true) × (same (negated e.lit) k ≡ false)
        more = another (is_latest T) S (negated e.lit) (are_distinct-rising S s.rising) two

        go : PassesOnce (is_latest T) S ⊎ AreBefore T (before ++ e ∷ []) S → PassesOnce (is_latest T) (resolved S e.lit c) ⊎ AreBefore T before (resolved S e.lit c)
        go (inl one) = absurd (other-same (negated e.lit) more.0 more.3 (one (negated e.lit) more.0 met (negation_latest K T before e es lawful place level) more.1 more.2))
        go (inr all) = inr (λ l a p. elim (has-from_resolved S c e.lit l a) [
          | inl i ↦ elim (push-cases before e l.var (all l i.0 p)) [
            | inl j ↦ j
            | inr j ↦ absurd (other-same (negated e.lit) l i.1 (sym (negation-of_entry K T e S l lawful (at-place T before e es place) s.refuted i.0 j)))
          ]
          | inr i ↦ has_var-has (literals before) (negated l) (before_it l i)
        ])

    level_cases : Claim
    level_cases = elim (resolved-why T R S e above test) [ inl lower ↦ at_lower lower | inr here ↦ at_current here.0 here.1 ]

-- where a clause isn't false, one of its literals isn't
not_false : (P : List Literal) (c : Clause) → is_false P c ≡ false → (l : Literal) × (has c l ≡ true) × (has P (negated l) ≡ false)
not_false P [] h = absurd (cc)
not_false P (k ∷ c) h = go (has P (negated k)) refl h (not_false P c)
  where
    Found : Clause → Type 0
    Found d = (l : Literal) × (has d l ≡ true) × (has P (negated l) ≡ false)

    go : (b : Bool) → has P (negated k) ≡ b → b && is_false P c ≡ false → (is_false P c ≡ false → Found c) → Found (k ∷ c)
    go false e t more = (k, has-head k c, e)
    go true e t more = let f = more t in (f.0, has-tail k f.0 c f.1, f.2)

-- a clause that is false now, and wasn't at the level below, has a literal of the current level
latest_false : (K : List Clause) (T : Trail) (n : ℕ) → IsLawful K T → IsOpenBelow K T → 1 ≤ current_level T → least_false (literals T) K ≡ Some n
    → (l : Literal) × (has (clause_at K n) l ≡ true) × (is_latest T l ≡ true)
latest_false K T n lawful open_below above h = (f.0, f.1, eq-eqb (level_of T f.0) (current_level T) (go (nat_le (level_of T f.0) below) refl))
  where
    below : ℕ
    below = current_level T - 1

    at : (1 ≤ n) × (n ≤ length K) × (is_false (literals T) (clause_at K n) ≡ true)
    at = least_false-at (literals T) K n h

    less : below < current_level T
    less = omega arith

    f : (l : Literal) × (has (clause_at K n) l ≡ true) × (has (literals (up_to T below)) (negated l) ≡ false)
    f = not_false (literals (up_to T below)) (clause_at K n) (least_false-none (literals (up_to T below)) K n (open_below below less) at.0 at.1)

    there : has (literals T) (negated f.0) ≡ true
    there = Refutes-conflict f.0 f.1
      where
        Refutes-conflict : Refutes (literals T) (clause_at K n)
        Refutes-conflict = Refutes-from_is_false (literals T) (clause_at K n) at.2

    go : (b : Bool) → nat_le (level_of T f.0) below ≡ b → level_of T f.0 ≡ current_level T
    go true t = true_false (has (literals (up_to T below)) (negated f.0)) (has-up_to K T below (negated f.0) lawful there (leb-true (level_of T f.0) below t)) f.2
    go false t =
        let most : level_of T f.0 ≤ current_level T = level_of-most K T (negated f.0) lawful there in
        let more : below < level_of T f.0 = leb-false (level_of T f.0) below t in
        omega arith

-- the set that the walk leaves
pub Narrows-walk : (R : List Literal) (K : List Clause) (T : Trail) (n : ℕ) → IsLawful K T → IsOpenBelow K T → 1 ≤ current_level T → least_false (literals T) K ≡ Some n
    → Narrows T [] (walk K T R T (with_literals (clause_at K n) []) (n ∷ [])).0
Narrows-walk R K T n lawful open_below above h =
    walk-all K T R (λ before w. Narrows T before w.0) (λ before e es w place u i. Narrows-pass K T R before e es w.0 lawful above place u i)
    (λ before e es w m place u i. Narrows-resolve K T R before e es w.0 m lawful above place u i) (with_literals (clause_at K n) []) (n ∷ []) start
  where
    clash : is_false (literals T) (clause_at K n) ≡ true
    clash = (least_false-at (literals T) K n h).2

    l : (l : Literal) × (has (clause_at K n) l ≡ true) × (is_latest T l ≡ true)
    l = latest_false K T n lawful open_below above h

    start : Narrows T T (with_literals (clause_at K n) [])
    start = record {
      refuted = Refutes-begin K T n clash;
      rising = IsRising-with_literals (literals T) (clause_at K n) [] (one_signed K T lawful) (Refutes-from_is_false (literals T) (clause_at K n) clash) (λ k a. absurd (cc)) tt;
      latest = (l.0, has-with_literals (clause_at K n) [] l.0 (inl l.1), l.2);
      alone = inr (λ k a p. has_var-has (literals T) (negated k) (Refutes-begin K T n clash k a));
    }
