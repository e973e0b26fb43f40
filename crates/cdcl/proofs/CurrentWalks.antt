-- The walk over the entries of the current level, which stand at the trail's end: what was walked
-- so far, and where it ends.
use Rattle.std.proofs.Common.{◌≡◌, ℕ, zero, suc, true, false, ◌&&◌, ◌+◌, ◌-◌, ◌<◌, ◌≤◌, ◌^◌, List, [], ◌∷◌, ◌++◌, length, take, drop, slice_get, get_or, Some, Bool, refl, ap, sym, subst, ◌∙◌, reverse, arith, cond, nat_lt, nat_le, leb-true, ltb-true, ltb-false, All, IsPermutation, inl, inr}
use Rattle.theory.specs.Literals.{Literal, Clause}
use Rattle.theory.specs.Trails.{Trail, Entry, literals, current_level, up_to}
use Rattle.theory.specs.Propagation.{clause_at}
use Rattle.theory.specs.Lawful.{IsLawful}
use Rattle.theory.specs.Truth.{IsOver}
use Rattle.theory.specs.Learning.{walk, resolved_by, reason_used, with_literals}
use Rattle.theory.specs.Removing.{latest, first_walk}
use Rattle.theory.proofs.literals.LiteralLemmas.{true_or_false}
use Rattle.theory.proofs.trails.TrailEntries.{level-at}
use Rattle.theory.proofs.searching.WalkParts.{AreOfLevel, walk-append, walk-latest, split-latest}
use Rattle.theory.proofs.searching.Walks.{at-place}
use Rattle.kernel.specs.State.{State}
use Rattle.cdcl.specs.declared.analysis.marks.Marks.{Marks}
use Rattle.cdcl.specs.Marks.{IsSet, ArePending, CanLookAt, Resolves, is_open, latest_from}
use Rattle.cdcl.proofs.PlaceLemmas.{placed-inside, placed-there, entry-read, place-split, reason_used-closed}
use Rattle.cdcl.proofs.Pending.{IsTop, times-pushed, times-popped, pending-top, pending-none}
use Rattle.cdcl.proofs.JoinedSets.{IsSet-top}

-- the entries from a place on
drop-suc : (T : Trail) (q : ℕ) (e : Entry) → slice_get T q ≡ Some e → drop q T ≡ e ∷ drop (suc q) T
drop-suc [] q e h = absurd (cc)
drop-suc (x ∷ T) zero e h = let one : x ≡ e = cc in ap (λ (y : Entry). y ∷ T) one
drop-suc (x ∷ T) (suc q) e h = drop-suc T q e h

drop-at : (T : Trail) (q : ℕ) (e : Entry) → slice_get T q ≡ Some e → drop q T ≡ e ∷ drop (q + 1) T
drop-at T q e h = drop-suc T q e h ∙ ap (λ i. e ∷ drop i T) (let one : suc q ≡ q + 1 = omega arith in one)

drop-behind : (A B : Trail) → drop (length A) (A ++ B) ≡ B
drop-behind [] B = refl
drop-behind (x ∷ A) B = drop-behind A B

take-front : (A B : Trail) → take (length A) (A ++ B) ≡ A
take-front [] B = refl
take-front (x ∷ A) B = ap (λ (U : Trail). x ∷ U) (take-front A B)

drop-all : (T : Trail) → drop (length T) T ≡ []
drop-all [] = refl
drop-all (x ∷ T) = drop-all T

-- an entry behind a front, and one in it
behind-front : (c : ℕ) (A B : Trail) (q : ℕ) (e : Entry) → AreOfLevel c B → slice_get (A ++ B) q ≡ Some e → length A ≤ q → e.level ≡ c
behind-front c [] [] q e h at low = absurd (cc)
behind-front c [] (b ∷ B) zero e h at low = let one : b ≡ e = cc in subst (λ (x : Entry). x.level ≡ c) one h.0
behind-front c [] (b ∷ B) (suc q) e h at low = behind-front c [] B q e h.1 at (omega arith)
behind-front c (a ∷ A) B zero e h at low = absurd (omega (arith, low))
behind-front c (a ∷ A) B (suc q) e h at low = behind-front c A B q e h at (omega (arith, low))

up_to-low : (T : Trail) (b q : ℕ) (e : Entry) → slice_get (up_to T b) q ≡ Some e → e.level ≤ b
up_to-low [] b q e h = absurd (cc)
up_to-low (x ∷ T) b q e h = go (nat_le x.level b) refl q h (λ p k. up_to-low T b p e k)
  where
    go : (t : Bool) → nat_le x.level b ≡ t → (q : ℕ) → slice_get (cond t (x ∷ up_to T b) (up_to T b)) q ≡ Some e → ((p : ℕ) → slice_get (up_to T b) p ≡ Some e → e.level ≤ b) → e.level ≤ b
    go true t zero k more = let one : x ≡ e = cc in subst (λ (y : Entry). y.level ≤ b) one (leb-true x.level b t)
    go true t (suc p) k more = more p k
    go false t p k more = more p k

in-front : (A B : Trail) (q : ℕ) (e : Entry) → slice_get (A ++ B) q ≡ Some e → q < length A → slice_get A q ≡ Some e
in-front [] B q e h less = absurd (omega (arith, less))
in-front (a ∷ A) B zero e h less = h
in-front (a ∷ A) B (suc q) e h less = in-front A B q e h (omega (arith, less))

-- the trail, parted where the current level begins
module _ (K : List Clause) (T : Trail) (lawful : IsLawful K T) (above : 1 ≤ current_level T) where
  parts : (T ≡ up_to T (current_level T - 1) ++ latest T) × AreOfLevel (current_level T) (latest T)
  parts = split-latest K [] T (current_level T) lawful refl above

  pub drop-latest : drop (latest_from T) T ≡ latest T
  drop-latest = ap (drop (latest_from T)) parts.0 ∙ drop-behind (up_to T (current_level T - 1)) (latest T)

  pub latest-level : (q : ℕ) (e : Entry) → slice_get T q ≡ Some e → latest_from T ≤ q → e.level ≡ current_level T
  latest-level q e at low =
      behind-front (current_level T) (up_to T (current_level T - 1)) (latest T) q e parts.1 (subst (λ (U : Trail). slice_get U q ≡ Some e) parts.0 at) low

  pub latest-place : (q : ℕ) (e : Entry) → slice_get T q ≡ Some e → e.level ≡ current_level T → latest_from T ≤ q
  latest-place q e at level =
      elim (true_or_false (nat_lt q (latest_from T))) [
        | inl t ↦ (
            let less = ltb-true q (latest_from T) t in
            let front = in-front (up_to T (current_level T - 1)) (latest T) q e (subst (λ (U : Trail). slice_get U q ≡ Some e) parts.0 at) less in
            let low = up_to-low T (current_level T - 1) q e front in
            absurd (omega (arith, low, level, above)))
        | inr f ↦ ltb-false q (latest_from T) f
      ]

  pub front-level : (q : ℕ) (e : Entry) → slice_get T q ≡ Some e → q < latest_from T → e.level < current_level T
  front-level q e at less =
      let front = in-front (up_to T (current_level T - 1)) (latest T) q e (subst (λ (U : Trail). slice_get U q ≡ Some e) parts.0 at) less in
      let low = up_to-low T (current_level T - 1) q e front in
      omega (arith, low, above)

  -- the walk over the whole trail goes on from the walk over the current level
  pub walk-front : (R : List Literal) (n : ℕ) → walk K T R (take (latest_from T) T) (first_walk K T n).0 (first_walk K T n).1 ≡ walk K T R T (with_literals (clause_at K n) []) (n ∷ [])
  walk-front R n =
      ap (λ (U : Trail). walk K T R U (first_walk K T n).0 (first_walk K T n).1) (ap (take (latest_from T)) parts.0 ∙ take-front (up_to T (current_level T - 1)) (latest T))
      ∙ (ap (λ (w : Clause × List ℕ). walk K T R (up_to T (current_level T - 1)) w.0 w.1) (sym (walk-latest K T R (latest T) (with_literals (clause_at K n) []) (n ∷ []) parts.1))
      ∙ (sym (walk-append K T R (up_to T (current_level T - 1)) (latest T) (with_literals (clause_at K n) []) (n ∷ []))
      ∙ ap (λ (U : Trail). walk K T R U (with_literals (clause_at K n) []) (n ∷ [])) (sym parts.0)))

-- the entries between are passed over
walk-passed : (K : List Clause) (T : Trail) (R : List Literal) (n low high : ℕ) (S0 S : Clause) (first hints : List ℕ) → high ≡ n + low → high ≤ length T
    → ((q : ℕ) → low ≤ q → q < high → is_open T R S (slice_get T q) ≡ false) → walk K T R (drop high T) S0 first ≡ (S, hints)
    → walk K T R (drop low T) S0 first ≡ (S, hints)
walk-passed K T R zero low high S0 S first hints sum within closed h =
    let same : high ≡ low = omega arith in
    subst (λ i. walk K T R (drop i T) S0 first ≡ (S, hints)) same h
walk-passed K T R (suc n) low high S0 S first hints sum within closed h =
    let found = placed-there T low (omega arith) in
    let more = walk-passed K T R n (low + 1) high S0 S first hints (omega arith) within (λ q l g. closed q (omega (arith, l)) g) h in
    let not_open = subst (λ o. is_open T R S o ≡ false) found.1 (closed low (omega arith) (omega arith)) in
    let unused = reason_used-closed T R S found.0 not_open in
    ap (λ (U : Trail). walk K T R U S0 first) (drop-at T low found.0 found.1)
    ∙ (ap (λ (w : Clause × List ℕ). resolved_by K found.0 w (reason_used T R w.0 found.0)) more ∙ ap (resolved_by K found.0 (S, hints)) (sym unused))

-- nothing waits between two bounds
pub pending-lower : (T : Trail) (R : List Literal) (S : Clause) (low high : ℕ) (places : List ℕ) → low ≤ high → ((q : ℕ) → low ≤ q → q < high → is_open T R S (slice_get T q) ≡ false)
    → ArePending T R S high places → ArePending T R S low places
pending-lower T R S low high places less closed h q = h q ∙ go (nat_lt q low) (nat_lt q high) refl refl
  where
    go : (a b : Bool) → nat_lt q low ≡ a → nat_lt q high ≡ b → ◌≡◌ {A = ℕ} (cond (b && is_open T R S (slice_get T q)) 1 0) (cond (a && is_open T R S (slice_get T q)) 1 0)
    go true true i j = refl
    go true false i j = let a = ltb-true q low i in let b = ltb-false q high j in absurd (omega (arith, a, b, less))
    go false true i j = let a = ltb-false q low i in let b = ltb-true q high j in ap (λ x. cond x 1 0) (closed q (omega (arith, a)) (omega (arith, b)))
    go false false i j = refl

pub IsSet-lower : {R : List Literal} (k : State) (S : Clause) (low high : ℕ) (m : Marks) → low ≤ high → ((q : ℕ) → low ≤ q → q < high → is_open k.trail R S (slice_get k.trail q) ≡ false)
    → IsSet k R S high m → IsSet k R S low m
IsSet-lower {R} k S low high m less closed h = record { is = h.is; seen = h.seen; pending = pending-lower k.trail R S low high m.pending less closed h.pending }

-- what was walked of the current level
pub record IsWalkedSoFar (k : State) (n : ℕ) (m : Marks) (hints : List ℕ) : Type 0 where
  pub set : Clause
  pub bound : ℕ
  pub within : bound ≤ length k.trail
  pub low : latest_from k.trail ≤ bound
  pub is : IsSet k [] set bound m
  pub so_far : walk k.clauses k.trail [] (drop bound k.trail) (with_literals (clause_at k.clauses n) []) (n ∷ []) ≡ (set, reverse hints)

-- the same, where the entry at a place is looked at
pub record IsLookedAtSoFar (k : State) (n place : ℕ) (e : Entry) (m : Marks) (hints : List ℕ) : Type 0 where
  pub set : Clause
  pub at : slice_get k.trail place ≡ Some e
  pub is_open_there : is_open k.trail [] set (Some e) ≡ true
  pub is : IsSet k [] set place m
  pub so_far : walk k.clauses k.trail [] (drop (place + 1) k.trail) (with_literals (clause_at k.clauses n) []) (n ∷ []) ≡ (set, reverse hints)

pub up_to-short : (T : Trail) (b : ℕ) → length (up_to T b) ≤ length T
up_to-short [] b = omega arith
up_to-short (x ∷ T) b = go (nat_le x.level b) (up_to-short T b)
  where
    go : (t : Bool) → length (up_to T b) ≤ length T → length (cond t (x ∷ up_to T b) (up_to T b)) ≤ suc (length T)
    go true h = omega (arith, h)
    go false h = omega (arith, h)

pub IsWalkedSoFar-begin : (k : State) (n : ℕ) (m : Marks) (hints : List ℕ) → hints ≡ n ∷ [] → IsSet k [] (with_literals (clause_at k.clauses n) []) (length k.trail) m → IsWalkedSoFar k n m hints
IsWalkedSoFar-begin k n m hints first is = record {
  set = with_literals (clause_at k.clauses n) [];
  bound = length k.trail;
  within = omega arith;
  low = up_to-short k.trail (current_level k.trail - 1);
  is = is;
  so_far = rw first (ap (λ (U : Trail). walk k.clauses k.trail [] U (with_literals (clause_at k.clauses n) []) (n ∷ [])) (drop-all k.trail));
}

-- the greatest place that waits is on the trail
pub top-inside : (k : State) (n place : ℕ) (m : Marks) (hints places : List ℕ) → IsWalkedSoFar k n m hints → IsPermutation m.pending (place ∷ places) → All (λ q. q ≤ place) places → place < length k.trail
top-inside k n place m hints places h moved greatest =
    let below = (pending-top k.trail [] h.set h.bound place m.pending places h.is.pending moved greatest).below in
    let within = h.within in
    omega arith

module _ (k : State) (n place : ℕ) (e : Entry) (A : Trail) (old new : Marks) (hints : List ℕ) (h : IsWalkedSoFar k n old hints) (lent : A ≡ k.trail) (read : e ≡ get_or A place e)
    (marked : new.marked ≡ old.marked) (current : new.current ≡ old.current) (seen : new.seen ≡ old.seen)
    (moved : IsPermutation old.pending (place ∷ new.pending)) (greatest : All (λ q. q ≤ place) new.pending) where
  top : IsTop k.trail [] h.set h.bound place new.pending
  top = pending-top k.trail [] h.set h.bound place old.pending new.pending h.is.pending moved greatest

  pub popped-at : slice_get k.trail place ≡ Some e
  popped-at =
      let found = placed-there k.trail place (top-inside k n place old hints new.pending h moved greatest) in
      subst (λ x. slice_get k.trail place ≡ Some x) (sym (entry-read k.trail A place e found.0 lent read found.1)) found.1

  -- its entry is looked at
  pub IsWalkedSoFar-popped : IsLookedAtSoFar k n place e new hints
  IsWalkedSoFar-popped =
      let below = top.below in
      let between : h.bound ≡ (h.bound - (place + 1)) + (place + 1) = omega arith in
      record {
        set = h.set;
        at = popped-at;
        is_open_there = subst (λ o. is_open k.trail [] h.set o ≡ true) popped-at top.is_open_there;
        is = IsSet-top k h.set h.bound place old new h.is marked current seen top;
        so_far = walk-passed k.clauses k.trail [] (h.bound - (place + 1)) (place + 1) h.bound (with_literals (clause_at k.clauses n) []) h.set (n ∷ []) (reverse hints) between h.within
            (λ q low high. top.between q (omega (arith, low)) high) h.so_far;
      }

  -- it is put back
  pub IsWalkedSoFar-put_back : (last : Marks) → last.marked ≡ new.marked → last.current ≡ new.current → last.seen ≡ new.seen → IsPermutation (place ∷ new.pending) last.pending → IsSet k [] h.set h.bound last
  IsWalkedSoFar-put_back last m c s back = record {
    is = rw (m, c, marked, current) h.is.is;
    seen = rw (s, seen) h.is.seen;
    pending = λ q. (let out = times-popped q place old.pending new.pending moved in let again = times-pushed q place new.pending last.pending back in let was = h.is.pending q in (omega (arith, out, again) ∙ was));
  }

  -- behind it nothing is open
  pub popped-closed : place < latest_from k.trail → (q : ℕ) → latest_from k.trail ≤ q → q < h.bound → is_open k.trail [] h.set (slice_get k.trail q) ≡ false
  popped-closed less q low high = top.between q (omega (arith, low, less)) high

-- the entry below the current level is below all of that
pub low-place : (k : State) (place : ℕ) (e : Entry) → IsLawful k.clauses k.trail → 1 ≤ current_level k.trail → slice_get k.trail place ≡ Some e → e.level < current_level k.trail → place < latest_from k.trail
low-place k place e lawful above at low =
    elim (true_or_false (nat_lt place (latest_from k.trail))) [
      | inl t ↦ ltb-true place (latest_from k.trail) t
      | inr f ↦ (let level = latest-level k.clauses k.trail lawful above place e at (ltb-false place (latest_from k.trail) f) in absurd (omega (arith, level, low)))
    ]

pub high-place : (k : State) (place : ℕ) (e : Entry) → IsLawful k.clauses k.trail → 1 ≤ current_level k.trail → slice_get k.trail place ≡ Some e → ¬ (e.level < current_level k.trail) → latest_from k.trail ≤ place
high-place k place e lawful above at high =
    let most = level-at k.clauses k.trail e lawful (at-place k.trail (take place k.trail) e (drop (suc place) k.trail) (place-split k.trail place e at)) in
    latest-place k.clauses k.trail lawful above place e at (omega (arith, most, high))

-- what it asks to look at the entry
pub CanLookAt-so_far : (k : State) (n place : ℕ) (e : Entry) (m : Marks) (hints : List ℕ) → IsLawful k.clauses k.trail → IsOver k.vars (literals k.trail) → k.vars < 2 ^ 32
    → IsLookedAtSoFar k n place e m hints → CanLookAt k e m
CanLookAt-so_far k n place e m hints lawful over few h = record {
  joins = record {
    lawful = lawful;
    over = over;
    few = few;
    set = h.set;
    bound = place;
    is = h.is;
    below = refl;
  };
  at = h.at;
  is_open_there = h.is_open_there;
}

-- the walk goes on from the entry
pub IsWalkedSoFar-next : (k : State) (n place : ℕ) (e : Entry) (old new : Marks) (hints more : List ℕ) → (h : IsLookedAtSoFar k n place e old hints) → latest_from k.trail ≤ place
    → Resolves k [] e h.set place hints new more → IsWalkedSoFar k n new more
IsWalkedSoFar-next k n place e old new hints more h low r = record {
  set = (resolved_by k.clauses e (h.set, reverse hints) (reason_used k.trail [] h.set e)).0;
  bound = place;
  within = let inside = placed-inside k.trail place e h.at in omega arith;
  low = low;
  is = r.is;
  so_far =
      ap (λ (U : Trail). walk k.clauses k.trail [] U (with_literals (clause_at k.clauses n) []) (n ∷ [])) (drop-at k.trail place e h.at)
      ∙ (ap (λ (w : Clause × List ℕ). resolved_by k.clauses e w (reason_used k.trail [] w.0 e)) h.so_far
      ∙ (rw r.hints_are refl));
}

-- where nothing of the current level is open any more, the walk over it has ended
pub walked-current : (k : State) (n : ℕ) (m : Marks) (hints : List ℕ) → (h : IsWalkedSoFar k n m hints) → IsLawful k.clauses k.trail → 1 ≤ current_level k.trail
    → ((q : ℕ) → latest_from k.trail ≤ q → q < h.bound → is_open k.trail [] h.set (slice_get k.trail q) ≡ false)
    → first_walk k.clauses k.trail n ≡ (h.set, reverse hints)
walked-current k n m hints h lawful above closed =
    let low = h.low in
    ap (λ (U : Trail). walk k.clauses k.trail [] U (with_literals (clause_at k.clauses n) []) (n ∷ [])) (sym (drop-latest k.clauses k.trail lawful above))
    ∙ walk-passed k.clauses k.trail [] (h.bound - latest_from k.trail) (latest_from k.trail) h.bound (with_literals (clause_at k.clauses n) []) h.set (n ∷ []) (reverse hints) (omega (arith, low)) h.within closed h.so_far

pub walked-set : (k : State) (n : ℕ) (old m : Marks) (hints : List ℕ) → (h : IsWalkedSoFar k n old hints) → IsLawful k.clauses k.trail → 1 ≤ current_level k.trail
    → ((q : ℕ) → latest_from k.trail ≤ q → q < h.bound → is_open k.trail [] h.set (slice_get k.trail q) ≡ false)
    → IsSet k [] h.set h.bound m → IsSet k [] (first_walk k.clauses k.trail n).0 (latest_from k.trail) m
walked-set k n old m hints h lawful above closed is =
    subst (λ (w : Clause × List ℕ). IsSet k [] w.0 (latest_from k.trail) m) (sym (walked-current k n old hints h lawful above closed)) (IsSet-lower k h.set (latest_from k.trail) h.bound m h.low closed is)

pub walked-hints : (k : State) (n : ℕ) (old : Marks) (hints : List ℕ) → (h : IsWalkedSoFar k n old hints) → IsLawful k.clauses k.trail → 1 ≤ current_level k.trail
    → ((q : ℕ) → latest_from k.trail ≤ q → q < h.bound → is_open k.trail [] h.set (slice_get k.trail q) ≡ false)
    → reverse hints ≡ (first_walk k.clauses k.trail n).1
walked-hints k n old hints h lawful above closed = sym (ap (λ (w : Clause × List ℕ). w.1) (walked-current k n old hints h lawful above closed))

-- nothing waits
pub none-closed : (k : State) (S : Clause) (bound : ℕ) (m : Marks) → m.pending ≡ [] → IsSet k [] S bound m → (q : ℕ) → latest_from k.trail ≤ q → q < bound → is_open k.trail [] S (slice_get k.trail q) ≡ false
none-closed k S bound m none h q low high = pending-none k.trail [] S bound q (rw none at h.pending) high
