-- Resolution below the current level: what comes into the set is there already, or is of level 0 or
-- removable.
use Rattle.std.proofs.Common.{◌≡◌, ℕ, suc, ◌-◌, ◌<◌, ◌≤◌, Bool, true, false, ◌&&◌, List, [], ◌∷◌, ◌++◌, take, drop, slice_get, slice_set, slice_index_or, reverse, Option, Some, None, refl, ap, sym, subst, ◌∙◌, nat_eq, nat_lt, eqb-true, eq-eqb, ltb-true, ◌⊎◌, inl, inr, arith, IsPermutation}
use Rattle.theory.specs.Literals.{Literal, Clause, negated, same, has, has_var, without}
use Rattle.theory.specs.Trails.{Trail, Entry, literals, entry_of, level_of, level_at, current_level}
use Rattle.theory.specs.Propagation.{clause_at}
use Rattle.theory.specs.Lawful.{IsReason, IsGrounded, IsLawful}
use Rattle.theory.specs.Truth.{IsOver}
use Rattle.theory.specs.Learning.{with_literal, resolved_by, is_resolved_on, reason_used}
use Rattle.theory.specs.Removing.{first_walk}
use Rattle.theory.proofs.literals.LiteralLemmas.{and-left, and-right, or-cases, or-left, or-right}
use Rattle.theory.proofs.literals.LiteralSets.{true_false, false_unless, and-true, has-without, has-from_without, has-resolved_set, same-other, has_var-has, Refutes-from_is_false}
use Rattle.theory.proofs.searching.Walks.{entry-place}
use Rattle.theory.proofs.trails.TrailLevels.{level_of-before}
use Rattle.kernel.specs.State.{State}
use Rattle.kernel.proofs.Arranged.{has-permuted}
use Rattle.cdcl.specs.declared.analysis.marks.Marks.{Marks}
use Rattle.cdcl.specs.Marks.{IsSet, Resolves, is_open, is_resolvable, latest_from}
use Rattle.cdcl.specs.Removing.{removable_of, HasSettled, AreSettled, is_settled}
use Rattle.cdcl.proofs.PlaceLemmas.{place-found, place-new, place-split, entry_of-placed}
use Rattle.cdcl.proofs.Pending.{pending-pushed, lt-true}
use Rattle.cdcl.proofs.MarkedSets.{is_in, is_not_in, entry-false}
use Rattle.cdcl.proofs.JoinedSets.{IsSet-more, IsSet-less}
use Rattle.cdcl.proofs.CurrentWalks.{front-level, walk-front, up_to-short}
use Rattle.cdcl.proofs.WalkLemmas.{IsWalked, IsLookedAt, IsWalked-next, next-set}
use Rattle.cdcl.proofs.RemovableLiterals.{removable-reason}

-- a settled literal that isn't in the set may be resolved on, below the current level
settled-new : (k : State) (R : List Literal) (S : Clause) (e : Entry) (l : Literal) → 1 ≤ current_level k.trail → negated e.lit ≡ l → level_of k.trail l ≡ e.level → has S l ≡ false → is_settled k.trail R S l ≡ true
    → (is_resolvable k.trail R e ≡ true) × (nat_eq e.level (current_level k.trail) ≡ false)
settled-new k R S e l above is level out h =
    elim (or-cases (has S l) _ h) [
      | inl a ↦ true_false (has S l) a out
      | inr more ↦ elim (or-cases (nat_eq (level_of k.trail l) 0) _ more) [
        | inl z ↦ (
            let zeroth = sym level ∙ eqb-true (level_of k.trail l) 0 z in
            (or-left (nat_eq e.level 0) _ (eq-eqb e.level 0 zeroth), lower (omega (arith, zeroth, above))))
        | inr r ↦ (
            let less = ltb-true (level_of k.trail l) (current_level k.trail) (and-right (has R l) _ r) in
            let there = subst (λ (x : Literal). has R x ≡ true) (sym is) (and-left (has R l) _ r) in
            let below : nat_lt e.level (current_level k.trail) ≡ true = subst (λ n. nat_lt n (current_level k.trail) ≡ true) level (and-right (has R l) _ r) in (
              or-right (nat_eq e.level 0) _ (or-left (has R (negated e.lit) && nat_lt e.level (current_level k.trail)) _ (and-true (has R (negated e.lit)) (nat_lt e.level (current_level k.trail)) there below)),
              lower (omega (arith, less, level)),
            ))
      ]
    ]
  where
    lower : e.level < current_level k.trail → nat_eq e.level (current_level k.trail) ≡ false
    lower less = false_unless (nat_eq e.level (current_level k.trail)) (λ t. (let same_level = eqb-true e.level (current_level k.trail) t in omega (arith, less, same_level)))

-- a literal comes
pub IsSet-follows : (k : State) (R : List Literal) (S : Clause) (bound place : ℕ) (l : Literal) (old new : Marks) → IsLawful k.clauses k.trail → IsOver k.vars (literals k.trail) → 1 ≤ current_level k.trail
    → slice_get k.trail place ≡ entry_of k.trail l.var → has (literals (take bound k.trail)) (negated l) ≡ true → is_settled k.trail R S l ≡ true → slice_index_or old.marked.items l.var false ≡ false
    → new.marked.items ≡ slice_set old.marked.items l.var true → new.seen.items ≡ old.seen.items ++ l.var ∷ [] → new.current ≡ old.current → IsPermutation (place ∷ old.pending) new.pending
    → IsSet k R S bound old → IsSet k R (with_literal l S) bound new
IsSet-follows k R S bound place l old new lawful over above found f settled unmarked marked seen current moved h =
    let at = place-found k.clauses k.trail bound place l lawful f found in
    let e = at.0 in
    let there = entry_of-placed k.clauses k.trail place e lawful at.1 in
    let var : e.lit.var ≡ l.var = ap (λ (x : Literal). x.var) at.2 in
    let level : level_of k.trail l ≡ e.level = ap (λ v. level_at (entry_of k.trail v)) (sym var) ∙ ap level_at there in
    let new_one = settled-new k R S e l above at.2 level (is_not_in k S old.marked.items old.current l h.is unmarked) settled in
    subst (λ (x : Literal). IsSet k R (with_literal x S) bound new) at.2
    (IsSet-more k S bound place e old new lawful over at.1 at.3 (rw var unmarked) h (rw var marked) (rw var seen) (rw new_one.1 (current ∙ (omega arith)))
    (pending-pushed (is_resolvable k.trail R e) place old.pending new.pending new_one.0 moved))

-- more is in the set, so as much is settled
pub settled-more : (T : Trail) (R : List Literal) (S N : Clause) (l : Literal) → (has S l ≡ true → has N l ≡ true) → is_settled T R S l ≡ true → is_settled T R N l ≡ true
settled-more T R S N l more h = elim (or-cases (has S l) _ h) [ inl a ↦ or-left (has N l) _ (more a) | inr b ↦ or-right (has N l) _ b ]

-- the entry's negation is taken out
pub IsSet-taken : (k : State) (R : List Literal) (S : Clause) (bound : ℕ) (e : Entry) (old new : Marks) → IsLawful k.clauses k.trail → IsOver k.vars (literals k.trail) → e.level < current_level k.trail
    → slice_get k.trail bound ≡ Some e → has S (negated e.lit) ≡ true → new.marked.items ≡ slice_set old.marked.items e.lit.var false → new.current ≡ old.current → new.seen ≡ old.seen → new.pending ≡ old.pending
    → IsSet k R S bound old → IsSet k R (without S (negated e.lit)) bound new
IsSet-taken k R S bound e old new lawful over low at a marked current seen pending h =
    let other : nat_eq e.level (current_level k.trail) ≡ false = false_unless (nat_eq e.level (current_level k.trail)) (λ t. (let same_level = eqb-true e.level (current_level k.trail) t in omega (arith, low, same_level))) in
    IsSet-less k S bound e old new lawful over at a h marked (rw other (current ∙ (omega arith))) (rw seen refl) pending

-- what is open below the current level is resolved by the entry's reason
pub open-below : (k : State) (R : List Literal) (S : Clause) (bound : ℕ) (e : Entry) (m : Marks) → IsLawful k.clauses k.trail → e.level < current_level k.trail → slice_get k.trail bound ≡ Some e
    → is_open k.trail R S (Some e) ≡ true → IsSet k R S bound m → (has S (negated e.lit) ≡ true) × (e.reason ≡ reason_used k.trail R S e)
open-below k R S bound e m lawful low at o h = (it, rw used refl)
  where
    it : has S (negated e.lit) ≡ true
    it = is_in k S m.marked.items m.current (negated e.lit) lawful h.is (entry-false k.trail e (entry_of-placed k.clauses k.trail bound e lawful at))
        (h.is.marks e.lit.var ∙ and-left (has_var S e.lit.var) (is_resolvable k.trail R e) o)

    used : is_resolved_on k.trail R S e ≡ true
    used = and-true (has S (negated e.lit)) _ it (elim (or-cases (nat_eq e.level 0) _ (and-right (has_var S e.lit.var) (is_resolvable k.trail R e) o)) [
      | inl z ↦ or-left (nat_eq e.level 0) _ z
      | inr more ↦ elim (or-cases (has R (negated e.lit) && nat_lt e.level (current_level k.trail)) _ more) [
        | inl r ↦ or-right (nat_eq e.level 0) _ (or-left (has R (negated e.lit) && nat_lt e.level (current_level k.trail)) _ r)
        | inr c ↦ (let same_level = eqb-true e.level (current_level k.trail) c in absurd (omega (arith, low, same_level)))
      ]
    ])

-- the reason of an entry on the trail
pub entry-reason : (k : State) (bound : ℕ) (e : Entry) (n : ℕ) → IsLawful k.clauses k.trail → slice_get k.trail bound ≡ Some e → e.reason ≡ Some n → IsReason k.clauses (literals (take bound k.trail)) e.lit n
entry-reason k bound e n lawful at reason =
    (subst (IsGrounded k.clauses (take bound k.trail) e) reason (entry-place k.clauses k.trail (take bound k.trail) e (drop (suc bound) k.trail) lawful (place-split k.trail bound e at)).grounded).1

-- the literals of a reason, in another order
pub settled-arranged : (T : Trail) (R : List Literal) (S c d : Clause) (x : Literal) → IsPermutation c d → AreSettled T R S (without c x) → AreSettled T R S (without d x)
settled-arranged T R S c d x p h l a = let b = has-from_without d x l a in h l (has-without c x l (has-permuted c d l p ∙ b.0) b.1)

-- a literal that is false before an entry isn't the entry's negation
other-than : (K : List Clause) (T : Trail) (place : ℕ) (e : Entry) (l : Literal) → IsLawful K T → slice_get T place ≡ Some e → has (literals (take place T)) (negated l) ≡ true → same (negated e.lit) l ≡ false
other-than K T place e l lawful at f = same-other (negated e.lit) l (λ it. (
    let var : l.var ≡ e.lit.var = ap (λ (x : Literal). x.var) (sym it) in
    let there = has_var-has (literals (take place T)) (negated l) f in
    true_false (has_var (literals (take place T)) e.lit.var) (subst (λ v. has_var (literals (take place T)) v ≡ true) var there) (place-new K T place e lawful at)))

-- what is left of the walk, below the current level; of the set that it began with there is all that
-- is neither of level 0 nor removable
pub record IsBelow (k : State) (S : Clause) (n : ℕ) (m : Marks) (hints : List ℕ) : Type 0 where
  pub walked : IsWalked k (removable_of k S) n m hints
  pub low : walked.bound ≤ latest_from k.trail
  pub stays : (l : Literal) → has S l ≡ true → nat_eq (level_of k.trail l) 0 ≡ false → has (removable_of k S) l ≡ false → has walked.set l ≡ true

pub IsBelow-begin : (k : State) (n : ℕ) (m : Marks) (hints : List ℕ) → IsLawful k.clauses k.trail → 1 ≤ current_level k.trail
    → IsSet k (removable_of k (first_walk k.clauses k.trail n).0) (first_walk k.clauses k.trail n).0 (latest_from k.trail) m → reverse hints ≡ (first_walk k.clauses k.trail n).1
    → IsBelow k (first_walk k.clauses k.trail n).0 n m hints
IsBelow-begin k n m hints lawful above is first = record {
  walked = record {
    set = (first_walk k.clauses k.trail n).0;
    bound = latest_from k.trail;
    within = up_to-short k.trail (current_level k.trail - 1);
    is = is;
    rest = rw first (walk-front k.clauses k.trail lawful above (removable_of k (first_walk k.clauses k.trail n).0) n);
  };
  low = omega arith;
  stays = λ l a level kept. a;
}

-- the entry that is looked at
module _ (k : State) (S : Clause) (n place : ℕ) (e : Entry) (old new : Marks) (hints : List ℕ) (h : IsBelow k S n old hints) (lawful : IsLawful k.clauses k.trail) (above : 1 ≤ current_level k.trail)
    (d : IsLookedAt k (removable_of k S) n place e new hints) (set : d.set ≡ h.walked.set) (less : place < h.walked.bound) where
  pub below-lower : e.level < current_level k.trail
  below-lower = front-level k.clauses k.trail lawful above place e d.at (let low = h.low in omega (arith, low, less))

  -- why it is open
  opened : (e.level ≡ 0) ⊎ (has (removable_of k S) (negated e.lit) ≡ true)
  opened = elim (or-cases (nat_eq e.level 0) _ (and-right (has_var d.set e.lit.var) (is_resolvable k.trail (removable_of k S) e) d.is_open_there)) [
    | inl z ↦ inl (eqb-true e.level 0 z)
    | inr more ↦ elim (or-cases (has (removable_of k S) (negated e.lit) && nat_lt e.level (current_level k.trail)) _ more) [
      | inl r ↦ inr (and-left (has (removable_of k S) (negated e.lit)) _ r)
      | inr c ↦ (let same_level = eqb-true e.level (current_level k.trail) c in let low = below-lower in absurd (omega (arith, low, same_level)))
    ]
  ]

  module _ (m : ℕ) (reason : e.reason ≡ Some m) where
    reason_is : IsReason k.clauses (literals (take place k.trail)) e.lit m
    reason_is = entry-reason k place e m lawful d.at reason

    level_before : (l : Literal) → has (without (clause_at k.clauses m) e.lit) l ≡ true → level_of k.trail l ≤ e.level
    level_before l a =
        let f = Refutes-from_is_false (literals (take place k.trail)) (without (clause_at k.clauses m) e.lit) reason_is.others l a in
        let there = has_var-has (literals (take place k.trail)) (negated l) f in
        let most = level_of-before k.clauses k.trail (take place k.trail) (e ∷ drop (suc place) k.trail) l lawful (place-split k.trail place e d.at) there in
        let level = (subst (IsGrounded k.clauses (take place k.trail) e) reason (entry-place k.clauses k.trail (take place k.trail) e (drop (suc place) k.trail) lawful (place-split k.trail place e d.at)).grounded).0 in
        omega (arith, most, level)

    settled_zero : (l : Literal) → nat_eq (level_of k.trail l) 0 ≡ true → is_settled k.trail (removable_of k S) (without d.set (negated e.lit)) l ≡ true
    settled_zero l z = or-right (has (without d.set (negated e.lit)) l) _ (or-left (nat_eq (level_of k.trail l) 0) _ z)

    settled_removable : (l : Literal) → has (without (clause_at k.clauses m) e.lit) l ≡ true → has (removable_of k S) l ≡ true → is_settled k.trail (removable_of k S) (without d.set (negated e.lit)) l ≡ true
    settled_removable l a r =
        let most = level_before l a in
        let low = below-lower in
        or-right (has (without d.set (negated e.lit)) l) _ (or-right (nat_eq (level_of k.trail l) 0) _ (and-true (has (removable_of k S) l) _ r (lt-true (level_of k.trail l) (current_level k.trail) (omega (arith, most, low)))))

    settled_set : (l : Literal) → has (without (clause_at k.clauses m) e.lit) l ≡ true → has S l ≡ true → is_settled k.trail (removable_of k S) (without d.set (negated e.lit)) l ≡ true
    settled_set l a s = by_level (nat_eq (level_of k.trail l) 0) (has (removable_of k S) l) refl refl
      where
        by_level : (z r : Bool) → nat_eq (level_of k.trail l) 0 ≡ z → has (removable_of k S) l ≡ r → is_settled k.trail (removable_of k S) (without d.set (negated e.lit)) l ≡ true
        by_level true r i j = settled_zero l i
        by_level false true i j = settled_removable l a j
        by_level false false i j =
            let there : has d.set l ≡ true = rw set (h.stays l s i j) in
            let f = Refutes-from_is_false (literals (take place k.trail)) (without (clause_at k.clauses m) e.lit) reason_is.others l a in
            or-left (has (without d.set (negated e.lit)) l) _ (has-without d.set (negated e.lit) l there (other-than k.clauses k.trail place e l lawful d.at f))

    settled-all : AreSettled k.trail (removable_of k S) (without d.set (negated e.lit)) (without (clause_at k.clauses m) e.lit)
    settled-all l a = elim opened [
      | inl zeroth ↦ (let most = level_before l a in settled_zero l (eq-eqb (level_of k.trail l) 0 (let z : level_of k.trail l ≡ 0 = omega (arith, most, zeroth) in z)))
      | inr r ↦ (
          let by = removable-reason k.clauses k.trail S lawful (take place k.trail) e (drop (suc place) k.trail) (place-split k.trail place e d.at) r in
          let same_reason : Some by.number ≡ Some m = sym by.reason ∙ reason in
          let number : by.number ≡ m = cc in
          let covered = by.others l (subst (λ i. has (without (clause_at k.clauses i) e.lit) l ≡ true) (sym number) a) in
          elim (or-cases (nat_eq (level_of k.trail l) 0) _ covered) [
            | inl z ↦ settled_zero l z
            | inr more ↦ elim (or-cases (has S l) (has (removable_of k S) l) more) [ inl s ↦ settled_set l a s | inr t ↦ settled_removable l a t ]
          ])
    ]

  pub below-settled : HasSettled k (removable_of k S) d.set e
  below-settled m reason = settled-all m reason

  pub IsBelow-next : (last : Marks) (more : List ℕ) → Resolves k (removable_of k S) e d.set place hints last more → IsBelow k S n last more
  IsBelow-next last more r = record {
    walked = IsWalked-next k n place e new last hints more d r;
    low = let low = h.low in let bound = (next-set k n place e new last hints more d r).1 in omega (arith, low, less, bound);
    stays = λ l a level kept. subst (λ (N : Clause). has N l ≡ true) (sym (next-set k n place e new last hints more d r).0) (after (reason_used k.trail (removable_of k S) d.set e) l (rw set (h.stays l a level kept)) (same-other (negated e.lit) l (λ it. elim opened [
      | inl zeroth ↦ (
          let there = entry_of-placed k.clauses k.trail place e lawful d.at in
          let at_zero : level_of k.trail l ≡ 0 = ap (λ (x : Literal). level_of k.trail x) (sym it) ∙ (ap level_at there ∙ zeroth) in
          true_false (nat_eq (level_of k.trail l) 0) (eq-eqb (level_of k.trail l) 0 at_zero) level)
      | inr t ↦ true_false (has (removable_of k S) l) (subst (λ (x : Literal). has (removable_of k S) x ≡ true) it t) kept
    ])));
  }
    where
      after : (o : Option ℕ) (l : Literal) → has d.set l ≡ true → same (negated e.lit) l ≡ false → has (resolved_by k.clauses e (d.set, reverse hints) o).0 l ≡ true
      after None l a other = a
      after (Some m) l a other = has-resolved_set d.set (clause_at k.clauses m) e.lit l a other
