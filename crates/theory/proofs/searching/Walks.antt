-- The walk over a trail from its end: what each of its steps keeps stands at its end.
use Rattle.std.proofs.Common.{◌≡◌, ℕ, ◌<◌, ◌≤◌, Bool, true, false, ◌&&◌, ◌||◌, List, [], ◌∷◌, ◌++◌, refl, ap, sym, subst, ◌∙◌, nat_eq, nat_le, nat_lt, eqb-true, leb-true, ltb-true, lt-ltb, ◌⊎◌, inl, inr, Option, Some, None, append_assoc, append-nil, arith, if◌then◌else◌}
use Rattle.theory.specs.Literals.{Literal, Clause, negated, has, without}
use Rattle.theory.specs.Status.{is_false}
use Rattle.theory.specs.Trails.{Entry, Trail, literals, current_level}
use Rattle.theory.specs.Propagation.{clause_at}
use Rattle.theory.specs.Lawful.{IsReason, IsGrounded, IsLawfulEntry, IsLawful}
use Rattle.theory.specs.Learning.{with_literals, resolved, at_current_level, is_resolved_on, reason_used, resolved_by, walk}
use Rattle.theory.proofs.literals.LiteralLemmas.{and-left, and-right, or-cases, or-left, or-right}
use Rattle.theory.proofs.literals.LiteralSets.{Refutes, and-true, has-append_left, Refutes-from_is_false, has-from_with_literals, has-from_resolved}
use Rattle.theory.proofs.trails.TrailEntries.{IsAt, literals-at, IsLawfulEntry-at}

-- from the set and hints that it begins with, what holds behind an entry comes to hold before it
pub walk-keeps : (K : List Clause) (T : Trail) (R : List Literal) (I : Trail → Clause × List ℕ → Type 0)
    → ((before : Trail) (e : Entry) (es : Trail) (w : Clause × List ℕ) → T ≡ before ++ e ∷ es → reason_used T R w.0 e ≡ None → I (before ++ e ∷ []) w → I before w)
    → ((before : Trail) (e : Entry) (es : Trail) (w : Clause × List ℕ) (n : ℕ) → T ≡ before ++ e ∷ es → reason_used T R w.0 e ≡ Some n → I (before ++ e ∷ []) w
    → I before (resolved w.0 e.lit (clause_at K n), n ∷ w.1))
    → (before es : Trail) (S : Clause) (hints : List ℕ) → T ≡ before ++ es → I T (S, hints) → I before (walk K T R es S hints)
walk-keeps K T R I pass resolve before [] S hints place start = subst (λ x. I x (S, hints)) (place ∙ append-nil before) start
walk-keeps K T R I pass resolve before (e ∷ es) S hints place start =
    go (reason_used T R w.0 e) refl (walk-keeps K T R I pass resolve (before ++ e ∷ []) es S hints (place ∙ sym (append_assoc before (e ∷ []) es)) start)
  where
    w : Clause × List ℕ
    w = walk K T R es S hints

    go : (r : Option ℕ) → reason_used T R w.0 e ≡ r → I (before ++ e ∷ []) w → I before (resolved_by K e w r)
    go None h i = pass before e es w place h i
    go (Some n) h i = resolve before e es w n place h i

-- the walk over the whole trail
pub walk-all : (K : List Clause) (T : Trail) (R : List Literal) (I : Trail → Clause × List ℕ → Type 0)
    → ((before : Trail) (e : Entry) (es : Trail) (w : Clause × List ℕ) → T ≡ before ++ e ∷ es → reason_used T R w.0 e ≡ None → I (before ++ e ∷ []) w → I before w)
    → ((before : Trail) (e : Entry) (es : Trail) (w : Clause × List ℕ) (n : ℕ) → T ≡ before ++ e ∷ es → reason_used T R w.0 e ≡ Some n → I (before ++ e ∷ []) w
    → I before (resolved w.0 e.lit (clause_at K n), n ∷ w.1))
    → (S : Clause) (hints : List ℕ) → I T (S, hints) → I [] (walk K T R T S hints)
walk-all K T R I pass resolve S hints start = walk-keeps K T R I pass resolve [] T S hints refl start

-- an entry of the walk stands on the trail
pub at-place : (T before : Trail) (e : Entry) (es : Trail) → T ≡ before ++ e ∷ es → IsAt T e
at-place T before e es h = record { before = before; behind = es; split = h }

pub entry-place : (K : List Clause) (T before : Trail) (e : Entry) (es : Trail) → IsLawful K T → T ≡ before ++ e ∷ es → IsLawfulEntry K before e
unfolding at-place
entry-place K T before e es lawful h = IsLawfulEntry-at K T e (at-place T before e es h) lawful

pub has-before : (T before : Trail) (e : Entry) (es : Trail) (l : Literal) → T ≡ before ++ e ∷ es → has (literals before) l ≡ true → has (literals T) l ≡ true
has-before T before e es l place h =
    let parts : literals T ≡ literals before ++ e.lit ∷ literals es = ap literals place ∙ literals-at before e es in
    subst (λ c. has c l ≡ true) (sym parts) (has-append_left (literals before) (e.lit ∷ literals es) l h)

pub reason_used-reason : (T : Trail) (R : List Literal) (S : Clause) (e : Entry) (n : ℕ) → reason_used T R S e ≡ Some n → e.reason ≡ Some n
reason_used-reason T R S e n h = go (is_resolved_on T R S e) h
  where
    go : (b : Bool) → (if b then e.reason else None) ≡ Some n → e.reason ≡ Some n
    go true k = k
    go false k = absurd (cc)

pub reason_used-resolved : (T : Trail) (R : List Literal) (S : Clause) (e : Entry) (n : ℕ) → reason_used T R S e ≡ Some n → is_resolved_on T R S e ≡ true
reason_used-resolved T R S e n h = go (is_resolved_on T R S e) h
  where
    go : (b : Bool) → (if b then e.reason else None) ≡ Some n → b ≡ true
    go true k = refl
    go false k = absurd (cc)

-- where no reason is used, there is none, or it isn't resolved on the entry
pub reason_used-none : (T : Trail) (R : List Literal) (S : Clause) (e : Entry) → reason_used T R S e ≡ None → is_resolved_on T R S e ≡ true → e.reason ≡ None
reason_used-none T R S e h r = go (is_resolved_on T R S e) r h
  where
    go : (b : Bool) → b ≡ true → (if b then e.reason else None) ≡ None → e.reason ≡ None
    go true k q = q
    go false k q = absurd (cc)

-- where the set has the entry's negation, it is resolved on the entry at level 0, and at the
-- current level where two literals of it are left
pub resolved-at_zero : (T : Trail) (R : List Literal) (S : Clause) (e : Entry) → has S (negated e.lit) ≡ true → nat_eq e.level 0 ≡ true → is_resolved_on T R S e ≡ true
resolved-at_zero T R S e met zeroth = and-true (has S (negated e.lit)) (nat_eq e.level 0 || why) met (or-left (nat_eq e.level 0) why zeroth)
  where
    why : Bool
    why = (has R (negated e.lit) && nat_lt e.level (current_level T)) || (nat_eq e.level (current_level T) && nat_le 2 (at_current_level T S))

pub resolved-at_current : (T : Trail) (R : List Literal) (S : Clause) (e : Entry) → has S (negated e.lit) ≡ true → nat_eq e.level (current_level T) ≡ true → nat_le 2 (at_current_level T S) ≡ true
    → is_resolved_on T R S e ≡ true
resolved-at_current T R S e met level two = and-true (has S (negated e.lit)) (nat_eq e.level 0 || (removed || latest)) met (or-right (nat_eq e.level 0) (removed || latest) (or-right removed latest both))
  where
    removed : Bool
    removed = has R (negated e.lit) && nat_lt e.level (current_level T)

    latest : Bool
    latest = nat_eq e.level (current_level T) && nat_le 2 (at_current_level T S)

    both : latest ≡ true
    both = and-true (nat_eq e.level (current_level T)) (nat_le 2 (at_current_level T S)) level two

-- and below the current level where its negation is removable
pub resolved-at_removable : (T : Trail) (R : List Literal) (S : Clause) (e : Entry) → has S (negated e.lit) ≡ true → has R (negated e.lit) ≡ true → e.level < current_level T → is_resolved_on T R S e ≡ true
resolved-at_removable T R S e met removable low = and-true (has S (negated e.lit)) (nat_eq e.level 0 || (removed || latest)) met (or-right (nat_eq e.level 0) (removed || latest) (or-left removed latest both))
  where
    removed : Bool
    removed = has R (negated e.lit) && nat_lt e.level (current_level T)

    latest : Bool
    latest = nat_eq e.level (current_level T) && nat_le 2 (at_current_level T S)

    both : removed ≡ true
    both = and-true (has R (negated e.lit)) (nat_lt e.level (current_level T)) removable (lt-ltb e.level (current_level T) low)

-- below the current level it is resolved for one of these two reasons
pub resolved-below : (T : Trail) (R : List Literal) (S : Clause) (e : Entry) → e.level < current_level T → is_resolved_on T R S e ≡ true → (e.level ≡ 0) ⊎ (has R (negated e.lit) ≡ true)
resolved-below T R S e low h = elim (or-cases (nat_eq e.level 0) (removed || latest) (and-right (has S (negated e.lit)) (nat_eq e.level 0 || (removed || latest)) h)) [
  | inl z ↦ inl (eqb-true e.level 0 z)
  | inr more ↦ elim (or-cases removed latest more) [
    | inl r ↦ inr (and-left (has R (negated e.lit)) (nat_lt e.level (current_level T)) r)
    | inr l ↦ (let level = eqb-true e.level (current_level T) (and-left (nat_eq e.level (current_level T)) (nat_le 2 (at_current_level T S)) l) in absurd (omega (arith, level, low)))
  ]
]
  where
    removed : Bool
    removed = has R (negated e.lit) && nat_lt e.level (current_level T)

    latest : Bool
    latest = nat_eq e.level (current_level T) && nat_le 2 (at_current_level T S)

-- where it is resolved on the entry, the set has the entry's negation
pub resolved-met : (T : Trail) (R : List Literal) (S : Clause) (e : Entry) → is_resolved_on T R S e ≡ true → has S (negated e.lit) ≡ true
resolved-met T R S e h = and-left (has S (negated e.lit)) _ h

-- and it is below the current level, or two literals of it are left
pub resolved-why : (T : Trail) (R : List Literal) (S : Clause) (e : Entry) → 1 ≤ current_level T → is_resolved_on T R S e ≡ true
    → (e.level < current_level T) ⊎ ((e.level ≡ current_level T) × (2 ≤ at_current_level T S))
resolved-why T R S e above h = elim (or-cases (nat_eq e.level 0) (removed || latest) (and-right (has S (negated e.lit)) (nat_eq e.level 0 || (removed || latest)) h)) [
  | inl z ↦ inl (let level = eqb-true e.level 0 z in omega (arith, level, above))
  | inr more ↦ elim (or-cases removed latest more) [
    | inl r ↦ inl (ltb-true e.level (current_level T) (and-right (has R (negated e.lit)) (nat_lt e.level (current_level T)) r))
    | inr l ↦ inr (
      eqb-true e.level (current_level T) (and-left (nat_eq e.level (current_level T)) (nat_le 2 (at_current_level T S)) l),
      leb-true 2 (at_current_level T S) (and-right (nat_eq e.level (current_level T)) (nat_le 2 (at_current_level T S)) l),
    )
  ]
]
  where
    removed : Bool
    removed = has R (negated e.lit) && nat_lt e.level (current_level T)

    latest : Bool
    latest = nat_eq e.level (current_level T) && nat_le 2 (at_current_level T S)

-- the reason that is used, and its other literals
pub grounded-place : (K : List Clause) (T : Trail) (R : List Literal) (before : Trail) (e : Entry) (es : Trail) (S : Clause) (n : ℕ) → IsLawful K T → T ≡ before ++ e ∷ es → reason_used T R S e ≡ Some n
    → (e.level ≡ current_level before) × IsReason K (literals before) e.lit n
grounded-place K T R before e es S n lawful place h = subst (IsGrounded K before e) (reason_used-reason T R S e n h) (entry-place K T before e es lawful place).grounded

pub Refutes-others : (K : List Clause) (P : List Literal) (l : Literal) (n : ℕ) → IsReason K P l n → Refutes P (without (clause_at K n) l)
Refutes-others K P l n r = Refutes-from_is_false P (without (clause_at K n) l) r.others

-- the set is false on the trail all along
pub Refutes-resolved : (K : List Clause) (T : Trail) (R : List Literal) (before : Trail) (e : Entry) (es : Trail) (S : Clause) (n : ℕ) → IsLawful K T → T ≡ before ++ e ∷ es → reason_used T R S e ≡ Some n
    → Refutes (literals T) S → Refutes (literals T) (resolved S e.lit (clause_at K n))
Refutes-resolved K T R before e es S n lawful place h r k a = elim (has-from_resolved S (clause_at K n) e.lit k a) [
  | inl i ↦ r k i.0
  | inr i ↦ has-before T before e es _ place (Refutes-others K (literals before) e.lit n (grounded-place K T R before e es S n lawful place h).1 k i)
]

pub Refutes-begin : (K : List Clause) (T : Trail) (n : ℕ) → is_false (literals T) (clause_at K n) ≡ true → Refutes (literals T) (with_literals (clause_at K n) [])
Refutes-begin K T n clash l a = elim (has-from_with_literals (clause_at K n) [] l a) [ inl i ↦ Refutes-from_is_false (literals T) (clause_at K n) clash l i | inr i ↦ absurd (cc) ]

pub Refutes-walk : (K : List Clause) (T : Trail) (R : List Literal) (S : Clause) (hints : List ℕ) → IsLawful K T → Refutes (literals T) S → Refutes (literals T) (walk K T R T S hints).0
Refutes-walk K T R S hints lawful r =
    walk-all K T R (λ before w. Refutes (literals T) w.0) (λ before e es w place h i. i) (λ before e es w n place h i. Refutes-resolved K T R before e es w.0 n lawful place h i) S hints r
