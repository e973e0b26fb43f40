-- The clause learnt from a conflict above level 0: behind the trail to which the search goes back,
-- one of its literals is free.
use Rattle.std.proofs.Common.{◌≡◌, ℕ, max, ◌<◌, ◌≤◌, Bool, true, false, not, List, [], ◌∷◌, refl, ap, sym, ◌∙◌, nat_eq, nat_le, eqb-true, eq-eqb, leb-true, leb-false, is_some, ◌⊎◌, inl, inr, filter, Option, Some, None, arith, if◌then◌else◌}
use Rattle.theory.specs.Literals.{Literal, Clause, negated, same, has, has_var, are_distinct}
use Rattle.theory.specs.Trails.{Entry, Trail, literals, level_at, current_level, entry_of, level_of, is_given, up_to}
use Rattle.theory.specs.Propagation.{clause_at, least_false}
use Rattle.theory.specs.Lawful.{IsLawful}
use Rattle.theory.specs.Learnable.{IsOpenBelow, IsLearnable}
use Rattle.theory.specs.Learning.{with_literals, walk, is_of_cube, back_level, learn_removing}
use Rattle.theory.proofs.literals.LiteralLemmas.{and-left}
use Rattle.theory.proofs.literals.LiteralSets.{Refutes, true_false, false_unless, other-same, same-other, has-tail, has-head, has-cases, has-filter, has-from_filter}
use Rattle.theory.proofs.checker.Hints.{unit_literal-only}
use Rattle.theory.proofs.literals.RisingSets.{IsRising-filter, are_distinct-rising, PassesOnce}
use Rattle.theory.proofs.trails.TrailLevels.{level_of-most, has-up_to, has_var-up_to, level_of-up_to, current_level-up_to, current_level-reached}
use Rattle.theory.proofs.searching.NarrowedSets.{is_latest, AreBefore, Narrows, Narrows-walk}

-- the level to go back to
back_level-most : (T : Trail) (S : Clause) (l : Literal) → has S l ≡ true → is_latest T l ≡ false → level_of T l ≤ back_level T S
back_level-most T [] l a h = absurd (cc)
back_level-most T (k ∷ S) l a h = go (is_latest T k) refl (has-cases k l S a) (λ r. back_level-most T S l r h)
  where
    go : (b : Bool) → is_latest T k ≡ b → (l ≡ k) ⊎ (has S l ≡ true) → (has S l ≡ true → level_of T l ≤ back_level T S)
        → level_of T l ≤ (if b then back_level T S else max (level_of T k) (back_level T S))
    go true e (inl i) more = true_false (is_latest T k) e (ap (is_latest T) (sym i) ∙ h)
    go false e (inl i) more = let level : level_of T l ≡ level_of T k = ap (level_of T) i in omega arith
    go true e (inr r) more = more r
    go false e (inr r) more = let low = more r in omega arith

back_level-less : (T : Trail) (S : Clause) → 1 ≤ current_level T → ((l : Literal) → has S l ≡ true → level_of T l ≤ current_level T) → back_level T S < current_level T
back_level-less T [] above h = omega arith
back_level-less T (k ∷ S) above h = go (is_latest T k) refl (back_level-less T S above (λ l a. h l (has-tail k l S a)))
  where
    go : (b : Bool) → is_latest T k ≡ b → back_level T S < current_level T → (if b then back_level T S else max (level_of T k) (back_level T S)) < current_level T
    go true e more = more
    go false e more =
        let most = h k (has-head k S) in
        let differs : ¬ (level_of T k ≡ current_level T) = λ q. true_false (is_latest T k) (eq-eqb (level_of T k) (current_level T) q) e in
        omega arith

back_level-reached : (T : Trail) (S : Clause) → (back_level T S ≡ 0) ⊎ ((l : Literal) × (has S l ≡ true) × (is_latest T l ≡ false) × (level_of T l ≡ back_level T S))
back_level-reached T [] = inl refl
back_level-reached T (k ∷ S) = go (is_latest T k) refl (back_level-reached T S)
  where
    Reached : Clause → ℕ → Type 0
    Reached U b = (l : Literal) × (has U l ≡ true) × (is_latest T l ≡ false) × (level_of T l ≡ b)

    later : (b : ℕ) → back_level T S ≡ b → (back_level T S ≡ 0) ⊎ Reached S (back_level T S) → (b ≡ 0) ⊎ Reached (k ∷ S) b
    later b e (inl z) = inl (sym e ∙ z)
    later b e (inr r) = inr (r.0, has-tail k r.0 S r.1, r.2, r.3 ∙ e)

    greater : (t : Bool) → nat_le (level_of T k) (back_level T S) ≡ t → is_latest T k ≡ false → (back_level T S ≡ 0) ⊎ Reached S (back_level T S)
        → (max (level_of T k) (back_level T S) ≡ 0) ⊎ Reached (k ∷ S) (max (level_of T k) (back_level T S))
    greater true t e more = let low = leb-true (level_of T k) (back_level T S) t in later (max (level_of T k) (back_level T S)) (omega arith) more
    greater false t e more = let high = leb-false (level_of T k) (back_level T S) t in inr (k, has-head k S, e, omega arith)

    go : (b : Bool) → is_latest T k ≡ b → (back_level T S ≡ 0) ⊎ Reached S (back_level T S)
        → ((if b then back_level T S else max (level_of T k) (back_level T S)) ≡ 0) ⊎ Reached (k ∷ S) (if b then back_level T S else max (level_of T k) (back_level T S))
    go true e more = later (back_level T S) refl more
    go false e more = greater (nat_le (level_of T k) (back_level T S)) refl e more

-- a literal above level 0 is none of the cube's
not_of_cube : (T : Trail) (l : Literal) → 1 ≤ level_of T l → is_of_cube T l ≡ false
not_of_cube T l above = go (entry_of T l.var) refl
  where
    go : (o : Option Entry) → entry_of T l.var ≡ o → is_of_cube T l ≡ false
    go None e = ap is_given e
    go (Some f) e =
        let level : level_of T l ≡ f.level = ap level_at e in
        ap is_given e ∙ false_unless (is_given (Some f)) (λ t. let z : f.level ≡ 0 = eqb-true f.level 0 (and-left (nat_eq f.level 0) (not (is_some f.reason)) t) in absurd (omega arith))

-- what the learnt clause is on the trail of the conflict
record Narrowed (T : Trail) (c : Clause) : Type 0 where
  refuted : Refutes (literals T) c
  distinct : are_distinct c ≡ true
  latest : Literal
  holds : has c latest ≡ true
  is_it : level_of T latest ≡ current_level T
  only : (l : Literal) → has c l ≡ true → is_latest T l ≡ true → l ≡ latest

Narrowed-learn : (R : List Literal) (K : List Clause) (T : Trail) (n : ℕ) → IsLawful K T → IsOpenBelow K T → 1 ≤ current_level T → least_false (literals T) K ≡ Some n → Narrowed T (learn_removing R K T n).clause
Narrowed-learn R K T n lawful open_below above h = record {
  refuted = λ l a. s.refuted l (old l a);
  distinct = are_distinct-rising c (IsRising-filter (λ l. not (is_of_cube T l)) S s.rising);
  latest = s.latest.0;
  holds = has-filter (λ l. not (is_of_cube T l)) S s.latest.0 s.latest.1 (ap not (not_of_cube T s.latest.0 (omega (arith, level, above))));
  is_it = level;
  only = λ l a p. alone s.alone l (old l a) p;
}
  where
    S : Clause
    S = (walk K T R T (with_literals (clause_at K n) []) (n ∷ [])).0

    c : Clause
    c = filter (λ l. not (is_of_cube T l)) S

    s : Narrows T [] S
    s = Narrows-walk R K T n lawful open_below above h

    level : level_of T s.latest.0 ≡ current_level T
    level = eqb-true (level_of T s.latest.0) (current_level T) s.latest.2

    old : (l : Literal) → has c l ≡ true → has S l ≡ true
    old l a = (has-from_filter (λ l. not (is_of_cube T l)) S l a).0

    alone : PassesOnce (is_latest T) S ⊎ AreBefore T [] S → (l : Literal) → has S l ≡ true → is_latest T l ≡ true → l ≡ s.latest.0
    alone (inl one) l a p = one l s.latest.0 a p s.latest.1 s.latest.2
    alone (inr all) l a p = absurd (let none = all l a p in cc)

-- the level to go back to is below the current one
pub back_level-learn : (R : List Literal) (K : List Clause) (T : Trail) (n : ℕ) → IsLawful K T → IsOpenBelow K T → 1 ≤ current_level T → least_false (literals T) K ≡ Some n
    → back_level T (learn_removing R K T n).clause < current_level T
back_level-learn R K T n lawful open_below above h =
    let s = Narrowed-learn R K T n lawful open_below above h in
    back_level-less T (learn_removing R K T n).clause above (λ l a. level_of-most K T (negated l) lawful (s.refuted l a))

-- a literal of the clause is free on each trail below the current level
pub free-learn : (R : List Literal) (K : List Clause) (T : Trail) (n : ℕ) → IsLawful K T → IsOpenBelow K T → 1 ≤ current_level T → least_false (literals T) K ≡ Some n
    → (l : Literal) × (has (learn_removing R K T n).clause l ≡ true) × ((level : ℕ) → level < current_level T → has_var (literals (up_to T level)) l.var ≡ false)
free-learn R K T n lawful open_below above h =
    let s = Narrowed-learn R K T n lawful open_below above h in
    let level = s.is_it in
    (s.latest, s.holds, λ j less. has_var-up_to K T j s.latest lawful (omega arith))

pub current_level-learn : (R : List Literal) (K : List Clause) (T : Trail) (n : ℕ) → IsLawful K T → IsOpenBelow K T → 1 ≤ current_level T → least_false (literals T) K ≡ Some n
    → current_level (up_to T (back_level T (learn_removing R K T n).clause)) ≡ back_level T (learn_removing R K T n).clause
current_level-learn R K T n lawful open_below above h = go (back_level-reached T c)
  where
    c : Clause
    c = (learn_removing R K T n).clause

    go : (back_level T c ≡ 0) ⊎ ((l : Literal) × (has c l ≡ true) × (is_latest T l ≡ false) × (level_of T l ≡ back_level T c)) → current_level (up_to T (back_level T c)) ≡ back_level T c
    go (inl z) = let most = current_level-up_to T (back_level T c) in omega arith
    go (inr r) = current_level-reached K T (back_level T c) (negated r.0) lawful ((Narrowed-learn R K T n lawful open_below above h).refuted r.0 r.1) r.3

pub IsLearnable-learn : (R : List Literal) (K : List Clause) (T : Trail) (n : ℕ) → IsLawful K T → IsOpenBelow K T → 1 ≤ current_level T → least_false (literals T) K ≡ Some n
    → IsLearnable (up_to T (back_level T (learn_removing R K T n).clause)) (learn_removing R K T n).clause
IsLearnable-learn R K T n lawful open_below above h = record {
  distinct = s.distinct;
  free = s.latest;
  unit = unit_literal-only (literals (up_to T b)) c s.latest s.holds (has_var-up_to K T b s.latest lawful (omega (arith, s.is_it, less))) others;
  latest = go (back_level-reached T c);
}
  where
    c : Clause
    c = (learn_removing R K T n).clause

    b : ℕ
    b = back_level T c

    s : Narrowed T c
    s = Narrowed-learn R K T n lawful open_below above h

    less : b < current_level T
    less = back_level-learn R K T n lawful open_below above h

    reached : current_level (up_to T b) ≡ b
    reached = current_level-learn R K T n lawful open_below above h

    others : (k : Literal) → has c k ≡ true → same s.latest k ≡ false → has (literals (up_to T b)) (negated k) ≡ true
    others k a d =
        let lower : is_latest T k ≡ false = false_unless (is_latest T k) (λ t. other-same s.latest k d (sym (s.only k a t))) in
        has-up_to K T b (negated k) lawful (s.refuted k a) (back_level-most T c k a lower)

    go : (b ≡ 0) ⊎ ((l : Literal) × (has c l ≡ true) × (is_latest T l ≡ false) × (level_of T l ≡ b))
        → (current_level (up_to T b) ≡ 0) ⊎ ((l : Literal) × (has c l ≡ true) × (same s.latest l ≡ false) × (level_of (up_to T b) l ≡ current_level (up_to T b)))
    go (inl z) = inl (reached ∙ z)
    go (inr r) = inr (
      r.0,
      r.1,
      same-other s.latest r.0 (λ i. true_false (is_latest T r.0) (eq-eqb (level_of T r.0) (current_level T) (ap (level_of T) (sym i) ∙ s.is_it)) r.2),
      level_of-up_to K T b (negated r.0) lawful (s.refuted r.0 r.1) (let e = r.3 in omega arith) ∙ (r.3 ∙ sym reached),
    )
