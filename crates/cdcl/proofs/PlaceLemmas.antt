-- The entries of a lawful trail by their places.
use Rattle.std.proofs.Common.{◌≡◌, ℕ, zero, suc, ◌<◌, Bool, true, false, ◌&&◌, ◌||◌, List, [], ◌∷◌, ◌++◌, length, take, drop, get_or, Some, None, slice_get, refl, ap, sym, subst, ◌∙◌, nat_eq, nat_le, nat_lt, inl, inr, arith}
use Rattle.std.proofs.Math.Seq.{split_at, take-length}
use Rattle.theory.specs.Literals.{Literal, Clause, negated, has, has_var}
use Rattle.theory.specs.Trails.{Trail, Entry, literals, entry_of, current_level}
use Rattle.theory.specs.Lawful.{IsLawful}
use Rattle.theory.specs.Learning.{is_resolved_on, reason_used, at_current_level}
use Rattle.theory.proofs.literals.LiteralLemmas.{and-left, and-right}
use Rattle.theory.proofs.literals.LiteralSets.{true_false, false_unless, and-true, negated-negated, has-head, has-tail, has-cases, has_var-has}
use Rattle.theory.proofs.trails.TrailEntries.{entry_of-at}
use Rattle.theory.proofs.searching.Walks.{at-place, entry-place}
use Rattle.cdcl.specs.Marks.{is_open, is_resolvable}

pub placed-inside : (T : Trail) (q : ℕ) (e : Entry) → slice_get T q ≡ Some e → q < length T
placed-inside [] q e h = absurd (cc)
placed-inside (x ∷ T) zero e h = omega arith
placed-inside (x ∷ T) (suc q) e h = let r = placed-inside T q e h in omega arith

pub placed-is : (T : Trail) (q : ℕ) (e d : Entry) → slice_get T q ≡ Some e → e ≡ get_or T q d
placed-is [] q e d h = absurd (cc)
placed-is (x ∷ T) zero e d h = cc
placed-is (x ∷ T) (suc q) e d h = placed-is T q e d h

-- the entry read at a place; A is the trail as it was lent
pub entry-read : (T A : Trail) (q : ℕ) (r e : Entry) → A ≡ T → r ≡ get_or A q r → slice_get T q ≡ Some e → r ≡ e
entry-read T A q r e lent is at = is ∙ (ap (λ (U : Trail). get_or U q r) lent ∙ sym (placed-is T q e r at))

pub placed-there : (T : Trail) (q : ℕ) → q < length T → (e : Entry) × (slice_get T q ≡ Some e)
placed-there [] q h = absurd (omega (arith, h))
placed-there (x ∷ T) zero h = (x, refl)
placed-there (x ∷ T) (suc q) h = placed-there T q (omega arith)

pub place-split : (T : Trail) (q : ℕ) (e : Entry) → slice_get T q ≡ Some e → T ≡ take q T ++ e ∷ drop (suc q) T
place-split T q e h =
    split_at T q e (placed-inside T q e h) ∙ ap (λ x. take q T ++ x ∷ drop (suc q) T) (sym (placed-is T q e e h))

pub place-below : (T : Trail) (q bound : ℕ) (e : Entry) → slice_get T q ≡ Some e → q < bound → has (literals (take bound T)) e.lit ≡ true
place-below [] q bound e h less = absurd (cc)
place-below (x ∷ T) q zero e h less = absurd (omega (arith, less))
place-below (x ∷ T) zero (suc b) e h less =
    let one : x ≡ e = cc in
    subst (λ (y : Entry). has (x.lit ∷ literals (take b T)) y.lit ≡ true) one (has-head x.lit (literals (take b T)))
place-below (x ∷ T) (suc q) (suc b) e h less = has-tail x.lit e.lit (literals (take b T)) (place-below T q b e h (omega arith))

pub place-new : (K : List Clause) (T : Trail) (q : ℕ) (e : Entry) → IsLawful K T → slice_get T q ≡ Some e → has_var (literals (take q T)) e.lit.var ≡ false
place-new K T q e lawful h = (entry-place K T (take q T) e (drop (suc q) T) lawful (place-split T q e h)).is_new

-- a variable has one place
not-below : (K : List Clause) (T : Trail) (p q : ℕ) (e d : Entry) → IsLawful K T → slice_get T p ≡ Some e → slice_get T q ≡ Some d → e.lit.var ≡ d.lit.var → p < q → ⊥
not-below K T p q e d lawful h k v less =
    let there = has_var-has (literals (take q T)) e.lit (place-below T p q e h less) in
    true_false (has_var (literals (take q T)) d.lit.var) (subst (λ w. has_var (literals (take q T)) w ≡ true) v there) (place-new K T q d lawful k)

pub places-distinct : (K : List Clause) (T : Trail) (p q : ℕ) (e d : Entry) → IsLawful K T → slice_get T p ≡ Some e → slice_get T q ≡ Some d → e.lit.var ≡ d.lit.var → p ≡ q
places-distinct K T p q e d lawful h k v =
    let low : ¬ (p < q) = not-below K T p q e d lawful h k v in
    let high : ¬ (q < p) = not-below K T q p d e lawful k h (sym v) in
    omega (arith, low, high)

pub entry_of-placed : (K : List Clause) (T : Trail) (q : ℕ) (e : Entry) → IsLawful K T → slice_get T q ≡ Some e → entry_of T e.lit.var ≡ Some e
entry_of-placed K T q e lawful h = entry_of-at K T e lawful (at-place T (take q T) e (drop (suc q) T) (place-split T q e h))

-- the place of a literal
pub record Placed (T : Trail) (bound : ℕ) (l : Literal) : Type 0 where
  pub place : ℕ
  pub entry : Entry
  pub at : slice_get T place ≡ Some entry
  pub is : entry.lit ≡ l
  pub below : place < bound

pub placed : (T : Trail) (bound : ℕ) (l : Literal) → has (literals (take bound T)) l ≡ true → Placed T bound l
placed [] zero l h = absurd (cc)
placed [] (suc b) l h = absurd (cc)
placed (x ∷ T) zero l h = absurd (cc)
placed (x ∷ T) (suc b) l h = elim (has-cases x.lit l (literals (take b T)) h) [
  | inl i ↦ record { place = 0; entry = x; at = refl; is = sym i; below = omega arith }
  | inr r ↦ let p = placed T b l r in record { place = suc p.place; entry = p.entry; at = p.at; is = p.is; below = let less = p.below in omega arith }
]

-- the place that is found for the variable of a literal that is false below a bound
pub place-found : (K : List Clause) (T : Trail) (bound p : ℕ) (l : Literal) → IsLawful K T → has (literals (take bound T)) (negated l) ≡ true → slice_get T p ≡ entry_of T l.var
    → (e : Entry) × (slice_get T p ≡ Some e) × (negated e.lit ≡ l) × (p < bound)
place-found K T bound p l lawful h found =
    let f = placed T bound (negated l) h in
    let is = entry_of-placed K T f.place f.entry lawful f.at in
    let here : slice_get T p ≡ Some f.entry = found ∙ subst (λ (x : Literal). entry_of T x.var ≡ Some f.entry) f.is is in
    let one : p ≡ f.place = places-distinct K T p f.place f.entry f.entry lawful here f.at refl in
    let less = f.below in
    (f.entry, here, ap negated f.is ∙ negated-negated l, omega arith)

-- a literal that is false below a bound is false, and has an entry
pub false-below : (T : Trail) (bound : ℕ) (l : Literal) → has (literals (take bound T)) (negated l) ≡ true → has (literals T) (negated l) ≡ true
false-below T bound l h =
    let f = placed T bound (negated l) h in
    subst (λ (U : Trail). has (literals U) (negated l) ≡ true) (take-length T)
    (subst (λ (x : Literal). has (literals (take (length T) T)) x ≡ true) f.is (place-below T f.place (length T) f.entry f.at (placed-inside T f.place f.entry f.at)))

pub entry_of-false : (K : List Clause) (T : Trail) (bound : ℕ) (l : Literal) → IsLawful K T → has (literals (take bound T)) (negated l) ≡ true → (e : Entry) × (entry_of T l.var ≡ Some e)
entry_of-false K T bound l lawful h =
    let f = placed T bound (negated l) h in
    (f.entry, subst (λ (x : Literal). entry_of T x.var ≡ Some f.entry) f.is (entry_of-placed K T f.place f.entry lawful f.at))

-- a set isn't resolved on an entry that isn't open
pub reason_used-closed : (T : Trail) (R : List Literal) (S : Clause) (e : Entry) → is_open T R S (Some e) ≡ false → None ≡ reason_used T R S e
reason_used-closed T R S e h =
    let not_used : is_resolved_on T R S e ≡ false = false_unless (is_resolved_on T R S e) (λ t. true_false (is_open T R S (Some e)) (used t) h) in
    rw not_used refl
  where
    removed : Bool
    removed = has R (negated e.lit) && nat_lt e.level (current_level T)

    either : (a b c d : Bool) → a || (b || (c && d)) ≡ true → a || (b || c) ≡ true
    either true b c d k = refl
    either false true c d k = refl
    either false false c d k = and-left c d k

    used : is_resolved_on T R S e ≡ true → is_open T R S (Some e) ≡ true
    used t =
        let level = nat_eq e.level 0 || (removed || (nat_eq e.level (current_level T) && nat_le 2 (at_current_level T S))) in
        and-true (has_var S e.lit.var) (is_resolvable T R e) (has_var-has S (negated e.lit) (and-left (has S (negated e.lit)) level t))
        (either (nat_eq e.level 0) removed (nat_eq e.level (current_level T)) (nat_le 2 (at_current_level T S)) (and-right (has S (negated e.lit)) level t))
