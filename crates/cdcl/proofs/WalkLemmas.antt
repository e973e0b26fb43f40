-- The walk of analysis over the places where the set may be resolved, from the end of the trail.
use Rattle.std.proofs.Common.{◌≡◌, ℕ, zero, suc, true, false, ◌+◌, ◌-◌, ◌<◌, ◌≤◌, ◌^◌, List, [], ◌∷◌, ◌++◌, length, take, drop, get_or, slice_get, Option, Some, None, refl, ap, sym, subst, ◌∙◌, reverse, arith, All, IsPermutation}
use Rattle.std.proofs.lemmas.List.{take_more, reverse-append}
use Rattle.theory.specs.Literals.{Literal, Clause, has_var, without}
use Rattle.theory.specs.Trails.{Trail, Entry, literals}
use Rattle.theory.specs.Status.{is_false}
use Rattle.theory.specs.Propagation.{clause_at}
use Rattle.theory.specs.Lawful.{IsLawful}
use Rattle.theory.specs.Truth.{IsOver}
use Rattle.theory.specs.Learning.{walk, resolved, resolved_by, reason_used, with_literals}
use Rattle.theory.proofs.literals.LiteralLemmas.{and-left}
use Rattle.theory.proofs.searching.Walks.{grounded-place}
use Rattle.kernel.specs.State.{State}
use Rattle.cdcl.specs.declared.analysis.marks.Marks.{Marks}
use Rattle.cdcl.specs.Marks.{IsSet, CanResolve, CanLookAt, Resolves, is_open, is_resolvable}
use Rattle.cdcl.proofs.PlaceLemmas.{placed-inside, placed-is, placed-there, entry-read, place-split, reason_used-closed}
use Rattle.cdcl.proofs.Pending.{IsTop, pending-top, pending-none, top_of, top-below}
use Rattle.cdcl.proofs.JoinedSets.{IsSet-top, IsSet-done}

-- the later entries first
walk-append : (K : List Clause) (T : Trail) (R : List Literal) (xs ys : Trail) (S : Clause) (hints : List ℕ) → walk K T R (xs ++ ys) S hints ≡ (let w = walk K T R ys S hints in walk K T R xs w.0 w.1)
walk-append K T R [] ys S hints = refl
walk-append K T R (e ∷ xs) ys S hints = ap (λ (w : Clause × List ℕ). resolved_by K e w (reason_used T R w.0 e)) (walk-append K T R xs ys S hints)

-- the last entry first
walk-last : (K : List Clause) (T : Trail) (R : List Literal) (U : Trail) (i : ℕ) (d : Entry) (S : Clause) (hints : List ℕ) → i < length U
    → walk K T R (take (i + 1) U) S hints ≡ (let w = resolved_by K (get_or U i d) (S, hints) (reason_used T R S (get_or U i d)) in walk K T R (take i U) w.0 w.1)
walk-last K T R U i d S hints inside =
    ap (λ (A : Trail). walk K T R A S hints) (take_more U i d inside) ∙ walk-append K T R (take i U) (get_or U i d ∷ []) S hints

-- the entry at a place, with what it makes of the set and the hints
walk-place : (K : List Clause) (T : Trail) (R : List Literal) (place : ℕ) (e : Entry) (S N : Clause) (hints more : List ℕ) (r : Option ℕ) → slice_get T place ≡ Some e
    → r ≡ reason_used T R S e → (N, more) ≡ resolved_by K e (S, hints) r → walk K T R (take (place + 1) T) S hints ≡ walk K T R (take place T) N more
walk-place K T R place e S N hints more r at used step =
    let is = placed-is T place e e at in
    let last = walk-last K T R T place e S hints (placed-inside T place e at) in
    (rw (← is) at last) ∙ sym (ap (λ (w : Clause × List ℕ). walk K T R (take place T) w.0 w.1) (rw (← used) step))

-- the places between are passed over
walk-between : (K : List Clause) (T : Trail) (R : List Literal) (n low high : ℕ) (S : Clause) (hints : List ℕ) → high ≡ n + low → high ≤ length T
    → ((q : ℕ) → low ≤ q → q < high → is_open T R S (slice_get T q) ≡ false) → walk K T R (take high T) S hints ≡ walk K T R (take low T) S hints
walk-between K T R zero low high S hints sum within closed = ap (λ i. walk K T R (take i T) S hints) (let same : high ≡ low = omega arith in same)
walk-between K T R (suc n) low high S hints sum within closed =
    let last : high ≡ (n + low) + 1 = omega arith in
    let entry = placed-there T (n + low) (omega arith) in
    let is_closed = subst (λ o. is_open T R S o ≡ false) entry.1 (closed (n + low) (omega arith) (omega arith)) in
    ap (λ i. walk K T R (take i T) S hints) last
    ∙ (walk-place K T R (n + low) entry.0 S S hints hints None entry.1 (reason_used-closed T R S entry.0 is_closed) refl
    ∙ walk-between K T R n low (n + low) S hints refl (omega arith) (λ q low_q high_q. closed q low_q (omega arith)))

-- a reason that is used is the number of a clause
pub reason-numbered : (K : List Clause) (T : Trail) (R : List Literal) (S : Clause) (place : ℕ) (e : Entry) (n : ℕ) → IsLawful K T → slice_get T place ≡ Some e → Some n ≡ reason_used T R S e
    → (1 ≤ n) × (n ≤ length K)
reason-numbered K T R S place e n lawful at used = (grounded-place K T R (take place T) e (drop (suc place) T) S n lawful (place-split T place e at) (sym used)).1.numbered

-- its other literals are false before the entry
pub others-false : (K : List Clause) (T : Trail) (R : List Literal) (S : Clause) (place : ℕ) (e : Entry) (n : ℕ) → IsLawful K T → slice_get T place ≡ Some e → Some n ≡ reason_used T R S e
    → is_false (literals (take place T)) (without (clause_at K n) e.lit) ≡ true
others-false K T R S place e n lawful at used = (grounded-place K T R (take place T) e (drop (suc place) T) S n lawful (place-split T place e at) (sym used)).1.others

-- the walk from the conflict with the clause of number n
abbrev pub whole_walk : State → List Literal → ℕ → Clause × List ℕ
whole_walk k R n = walk k.clauses k.trail R k.trail (with_literals (clause_at k.clauses n) []) (n ∷ [])

-- what is left of the walk gives what the walk from the conflict of number n gives
pub record IsWalked (k : State) (R : List Literal) (n : ℕ) (m : Marks) (hints : List ℕ) : Type 0 where
  pub set : Clause
  pub bound : ℕ
  pub within : bound ≤ length k.trail
  pub is : IsSet k R set bound m
  pub rest : walk k.clauses k.trail R (take bound k.trail) set (reverse hints) ≡ whole_walk k R n

-- the same, where the entry at a place is looked at
pub record IsLookedAt (k : State) (R : List Literal) (n place : ℕ) (e : Entry) (m : Marks) (hints : List ℕ) : Type 0 where
  pub set : Clause
  pub at : slice_get k.trail place ≡ Some e
  pub is_open_there : is_open k.trail R set (Some e) ≡ true
  pub is : IsSet k R set place m
  pub rest : walk k.clauses k.trail R (take (place + 1) k.trail) set (reverse hints) ≡ whole_walk k R n

-- the greatest place comes
top : {R : List Literal} (k : State) (n place : ℕ) (m : Marks) (hints places : List ℕ) → (h : IsWalked k R n m hints) → IsPermutation m.pending (place ∷ places) → All (λ q. q ≤ place) places
    → IsTop k.trail R h.set h.bound place places
top {R} k n place m hints places h moved greatest = pending-top k.trail R h.set h.bound place m.pending places h.is.pending moved greatest

pub top-inside : {R : List Literal} (k : State) (n place : ℕ) (m : Marks) (hints places : List ℕ) → IsWalked k R n m hints → IsPermutation m.pending (place ∷ places)
    → All (λ q. q ≤ place) places → place < length k.trail
top-inside {R} k n place m hints places h moved greatest =
    let below = (top k n place m hints places h moved greatest).below in
    let within = h.within in
    omega arith

-- its entry is read; A is the trail as it was lent
pub IsWalked-popped : {R : List Literal} (k : State) (n place : ℕ) (e : Entry) (A : Trail) (old new : Marks) (hints : List ℕ) → IsWalked k R n old hints → A ≡ k.trail → e ≡ get_or A place e
    → new.marked ≡ old.marked → new.current ≡ old.current → new.seen ≡ old.seen
    → IsPermutation old.pending (place ∷ new.pending) → All (λ q. q ≤ place) new.pending
    → IsLookedAt k R n place e new hints
IsWalked-popped {R} k n place e A old new hints h lent read marked current seen moved greatest =
    let t = top k n place old hints new.pending h moved greatest in
    let below = t.below in
    let within = h.within in
    let found = placed-there k.trail place (omega arith) in
    let at : slice_get k.trail place ≡ Some e = subst (λ x. slice_get k.trail place ≡ Some x) (sym (entry-read k.trail A place e found.0 lent read found.1)) found.1 in
    let n_between : h.bound ≡ (h.bound - (place + 1)) + (place + 1) = omega arith in
    record {
      set = h.set;
      at = at;
      is_open_there = subst (λ o. is_open k.trail R h.set o ≡ true) at t.is_open_there;
      is = IsSet-top k h.set h.bound place old new h.is marked current seen t;
      rest =
          sym (walk-between k.clauses k.trail R (h.bound - (place + 1)) (place + 1) h.bound h.set (reverse hints) n_between within
          (λ q low high. t.between q (omega (arith, low)) high)) ∙ h.rest;
    }

-- the set stays, and the place is below what was looked at
pub popped-set : {R : List Literal} (k : State) (n place : ℕ) (e : Entry) (A : Trail) (old new : Marks) (hints : List ℕ) (h : IsWalked k R n old hints) (lent : A ≡ k.trail) (read : e ≡ get_or A place e)
    (marked : new.marked ≡ old.marked) (current : new.current ≡ old.current) (seen : new.seen ≡ old.seen) (moved : IsPermutation old.pending (place ∷ new.pending)) (greatest : All (λ q. q ≤ place) new.pending)
    → ((IsWalked-popped k n place e A old new hints h lent read marked current seen moved greatest).set ≡ h.set) × (place < h.bound)
unfolding IsWalked-popped
popped-set {R} k n place e A old new hints h lent read marked current seen moved greatest = (refl, (top k n place old hints new.pending h moved greatest).below)

pub CanLookAt-looked_at : (k : State) (n place : ℕ) (e : Entry) (m : Marks) (hints : List ℕ) → IsLawful k.clauses k.trail → IsOver k.vars (literals k.trail) → k.vars < 2 ^ 32
    → IsLookedAt k [] n place e m hints → CanLookAt k e m
CanLookAt-looked_at k n place e m hints lawful over few h = record {
  joins = record {
    lawful = lawful;
    over = over;
    few = few;
    set = h.set;
    bound = place;
    is = h.is;
    below = refl;
  };
  at = h.at;
  is_open_there = h.is_open_there;
}

-- what is asked where the set is resolved on the entry
pub CanResolve-used : (k : State) (number : ℕ) (e : Entry) (m : Marks) → (h : CanLookAt k e m) → Some number ≡ reason_used k.trail [] h.joins.set e
    → CanResolve k e (without (clause_at k.clauses number) e.lit) m
CanResolve-used k number e m h used = record {
  joins = record {
    lawful = h.joins.lawful;
    over = h.joins.over;
    few = h.joins.few;
    set = h.joins.set;
    bound = h.joins.bound;
    is = h.joins.is;
    below = others-false k.clauses k.trail [] h.joins.set h.joins.bound e number h.joins.lawful h.at used;
  };
  at = h.at;
  is_in = and-left (has_var h.joins.set e.lit.var) (is_resolvable k.trail [] e) h.is_open_there;
}

reverse-push : (ns : List ℕ) (n : ℕ) → reverse (ns ++ n ∷ []) ≡ n ∷ reverse ns
reverse-push ns n = reverse-append ns (n ∷ [])

-- an entry on which the set is resolved, and one that is passed
pub Resolves-used : {R : List Literal} (k : State) (number : ℕ) (e : Entry) (S : Clause) (bound : ℕ) (hints more : List ℕ) (m : Marks) → Some number ≡ reason_used k.trail R S e
    → IsSet k R (resolved S e.lit (clause_at k.clauses number)) bound m → more ≡ hints ++ number ∷ [] → Resolves k R e S bound hints m more
Resolves-used {R} k number e S bound hints more m used is push = record {
  is = rw (← used) is;
  hints_are = rw (← used, push) (reverse-push hints number);
}

pub Resolves-passed : {R : List Literal} (k : State) (e : Entry) (S : Clause) (bound : ℕ) (hints : List ℕ) (m : Marks) → None ≡ reason_used k.trail R S e → IsSet k R S bound m → Resolves k R e S bound hints m hints
Resolves-passed {R} k e S bound hints m used is = record { is = rw (← used) is; hints_are = rw (← used) refl }

-- the walk goes on from the entry
pub IsWalked-next : {R : List Literal} (k : State) (n place : ℕ) (e : Entry) (old new : Marks) (hints more : List ℕ) → (h : IsLookedAt k R n place e old hints) → Resolves k R e h.set place hints new more
    → IsWalked k R n new more
IsWalked-next {R} k n place e old new hints more h r = record {
  set = (resolved_by k.clauses e (h.set, reverse hints) (reason_used k.trail R h.set e)).0;
  bound = place;
  within = let inside = placed-inside k.trail place e h.at in omega arith;
  is = r.is;
  rest =
      rw r.hints_are (sym (walk-place k.clauses k.trail R place e h.set (resolved_by k.clauses e (h.set, reverse hints) (reason_used k.trail R h.set e)).0 (reverse hints)
      (resolved_by k.clauses e (h.set, reverse hints) (reason_used k.trail R h.set e)).1 (reason_used k.trail R h.set e) h.at refl refl) ∙ h.rest);
}

-- its set and bound
pub next-set : {R : List Literal} (k : State) (n place : ℕ) (e : Entry) (old new : Marks) (hints more : List ℕ) (h : IsLookedAt k R n place e old hints) (r : Resolves k R e h.set place hints new more)
    → ((IsWalked-next k n place e old new hints more h r).set ≡ (resolved_by k.clauses e (h.set, reverse hints) (reason_used k.trail R h.set e)).0) × ((IsWalked-next k n place e old new hints more h r).bound ≡ place)
unfolding IsWalked-next
next-set {R} k n place e old new hints more h r = (refl, refl)

-- the places that wait are below it
pub Resolves-below : {R : List Literal} (k : State) (e : Entry) (S : Clause) (place : ℕ) (before hints : List ℕ) (m : Marks) → Resolves k R e S place before m hints → top_of m.pending ≤ place
Resolves-below {R} k e S place before hints m r =
    top-below k.trail R (resolved_by k.clauses e (S, reverse before) (reason_used k.trail R S e)).0 place m.pending r.is.pending

-- no place waits any more
walked : {R : List Literal} (k : State) (n : ℕ) (m : Marks) (hints : List ℕ) → (h : IsWalked k R n m hints) → m.pending ≡ []
    → (h.set, reverse hints) ≡ whole_walk k R n
walked {R} k n m hints h none =
    let pending = rw none at h.is.pending in
    let all : h.bound ≡ h.bound + 0 = omega arith in
    sym (walk-between k.clauses k.trail R h.bound 0 h.bound h.set (reverse hints) all h.within (λ q low high. pending-none k.trail R h.set h.bound q pending high)) ∙ h.rest

pub IsWalked-set : {R : List Literal} (k : State) (n : ℕ) (m : Marks) (hints : List ℕ) → IsWalked k R n m hints → m.pending ≡ []
    → IsSet k R (whole_walk k R n).0 0 m
IsWalked-set {R} k n m hints h none =
    subst (λ (w : Clause × List ℕ). IsSet k R w.0 0 m) (walked k n m hints h none) (IsSet-done k h.set h.bound m none h.is)

pub IsWalked-hints : {R : List Literal} (k : State) (n : ℕ) (m : Marks) (hints : List ℕ) → IsWalked k R n m hints → m.pending ≡ []
    → reverse hints ≡ (whole_walk k R n).1
IsWalked-hints {R} k n m hints h none = ap (λ (w : Clause × List ℕ). w.1) (walked k n m hints h none)
