-- Sets in marks with the places that wait: a literal comes, the place looked at is taken, another
-- is looked at.
use Rattle.std.proofs.Common.{◌≡◌, ℕ, ◌+◌, ◌-◌, ◌<◌, ◌≤◌, Bool, true, false, ◌&&◌, ◌||◌, List, [], ◌∷◌, ◌++◌, length, filter, take, Some, slice_get, slice_set, slice_index_or, refl, ap, sym, subst, ◌∙◌, nat_eq, eqb-true, eq-eqb, arith, cond, count_by, IsPermutation}
use Rattle.std.specs.List.{list_any}
use Rattle.std.proofs.lemmas.List.Elements.{All-push}
use Rattle.std.proofs.lemmas.List.Folds.{list_any-append}
use Rattle.std.proofs.lemmas.List.Sorted.{All-permutation, list_any-IsPermutation}
use Rattle.std.proofs.Math.Seq.{take-length}
use Rattle.theory.specs.Literals.{Literal, Clause, negated, has, has_var, without}
use Rattle.theory.specs.Trails.{Trail, Entry, literals, level_of, level_at, current_level}
use Rattle.theory.specs.Status.{is_false}
use Rattle.theory.specs.Truth.{IsOver}
use Rattle.theory.specs.Lawful.{IsLawful}
use Rattle.theory.specs.Learning.{with_literal}
use Rattle.theory.proofs.literals.LiteralSets.{Refutes-from_is_false}
use Rattle.theory.proofs.literals.OverVariables.{AreOver-from_IsOver}
use Rattle.kernel.specs.State.{State}
use Rattle.cdcl.specs.declared.analysis.marks.Marks.{Marks}
use Rattle.cdcl.specs.Marks.{AreSeen, IsSet, IsClear, CanJoin, CanResolve, is_resolvable}
use Rattle.cdcl.proofs.PlaceLemmas.{entry_of-placed}
use Rattle.cdcl.proofs.Pending.{IsTop, pending-more, pending-less, pending-empty, pending-done}
use Rattle.cdcl.proofs.SeenVariables.{AreSeen-marked}
use Rattle.cdcl.proofs.SetLemmas.{has_var-with_literal, has_var-from_without, with_literal-there}
use Rattle.cdcl.proofs.MarkedSets.{is_in, inside, entry-false, IsMarked-more, IsMarked-less, IsMarked-none}

-- one variable more is seen
AreSeen-more : (vars : ℕ) (S : Clause) (l : Literal) (seen more : List ℕ) → l.var ≤ vars → AreSeen vars S seen → more ≡ seen ++ l.var ∷ [] → AreSeen vars (with_literal l S) more
AreSeen-more vars S l seen more most h push = record {
  within = rw push (All-push (λ v. v ≤ vars) seen l.var h.within most);
  all = λ v a. rw (push, list_any-append) (go v (nat_eq v l.var) refl (sym (has_var-with_literal l S v) ∙ a));
}
  where
    or-true : (b : Bool) → b || true ≡ true
    or-true true = refl
    or-true false = refl

    go : (v : ℕ) (b : Bool) → nat_eq v l.var ≡ b → nat_eq v l.var || has_var S v ≡ true → list_any (λ w. nat_eq w v) seen || (nat_eq l.var v || false) ≡ true
    go v true e a = rw (eq-eqb l.var v (sym (eqb-true v l.var e))) (or-true (list_any (λ w. nat_eq w v) seen))
    go v false e a = rw (h.all v (rw e at a)) refl

AreSeen-less : (vars : ℕ) (S : Clause) (l : Literal) (seen : List ℕ) → AreSeen vars S seen → AreSeen vars (without S l) seen
AreSeen-less vars S l seen h = record { within = h.within; all = λ v a. h.all v (has_var-from_without l S v a) }

-- the negation of the literal at a place is put in, which wasn't there
pub IsSet-more : {R : List Literal} (k : State) (S : Clause) (bound place : ℕ) (e : Entry) (old new : Marks) → IsLawful k.clauses k.trail → IsOver k.vars (literals k.trail)
    → slice_get k.trail place ≡ Some e → place < bound → slice_index_or old.marked.items e.lit.var false ≡ false → IsSet k R S bound old
    → new.marked.items ≡ slice_set old.marked.items e.lit.var true → new.seen.items ≡ old.seen.items ++ e.lit.var ∷ []
    → new.current ≡ cond (nat_eq e.level (current_level k.trail)) 1 0 + old.current
    → ((q : ℕ) → count_by (λ p. nat_eq p q) new.pending ≡ cond (is_resolvable k.trail R e && nat_eq place q) 1 0 + count_by (λ p. nat_eq p q) old.pending)
    → IsSet k R (with_literal (negated e.lit) S) bound new
IsSet-more {R} k S bound place e old new lawful over at below is_new h marked seen current pending =
    let there = entry_of-placed k.clauses k.trail place e lawful at in
    let f = entry-false k.trail e there in
    let here = AreOver-from_IsOver k.vars (literals k.trail) over (negated (negated e.lit)) f in
    let level : level_of k.trail (negated e.lit) ≡ e.level = ap level_at there in
    record {
      is = IsMarked-more k S old.marked.items new.marked.items old.current new.current (negated e.lit) lawful h.is f is_new
          (inside k old.marked.items (negated e.lit) over h.is.long f) marked (rw level current);
      seen = AreSeen-more k.vars S (negated e.lit) old.seen.items new.seen.items here.1 h.seen seen;
      pending = pending-more k.clauses k.trail R S bound place e old.pending new.pending lawful at below (sym (h.is.marks e.lit.var) ∙ is_new) h.pending pending;
    }

-- a literal that is in already
pub IsSet-there : {R : List Literal} (k : State) (S : Clause) (bound : ℕ) (l : Literal) (m : Marks) → IsLawful k.clauses k.trail → has (literals k.trail) (negated l) ≡ true
    → slice_index_or m.marked.items l.var false ≡ true → IsSet k R S bound m → IsSet k R (with_literal l S) bound m
IsSet-there {R} k S bound l m lawful f e h =
    subst (λ U. IsSet k R U bound m) (sym (with_literal-there l S h.is.rising (is_in k S m.marked.items m.current l lawful h.is f e))) h

-- the negation of the literal looked at last is taken out
pub IsSet-less : {R : List Literal} (k : State) (S : Clause) (bound : ℕ) (e : Entry) (old new : Marks) → IsLawful k.clauses k.trail → IsOver k.vars (literals k.trail)
    → slice_get k.trail bound ≡ Some e → has S (negated e.lit) ≡ true → IsSet k R S bound old
    → new.marked.items ≡ slice_set old.marked.items e.lit.var false → new.current ≡ old.current - cond (nat_eq e.level (current_level k.trail)) 1 0
    → new.seen.items ≡ old.seen.items → new.pending ≡ old.pending → IsSet k R (without S (negated e.lit)) bound new
IsSet-less {R} k S bound e old new lawful over at a h marked current seen pending =
    let there = entry_of-placed k.clauses k.trail bound e lawful at in
    let level : level_of k.trail (negated e.lit) ≡ e.level = ap level_at there in
    record {
      is = IsMarked-less k S old.marked.items new.marked.items old.current new.current (negated e.lit) lawful h.is a
          (inside k old.marked.items (negated e.lit) over h.is.long (entry-false k.trail e there)) marked (rw level current);
      seen = rw seen (AreSeen-less k.vars S (negated e.lit) old.seen.items h.seen);
      pending = rw pending (pending-less k.clauses k.trail R S bound e old.pending lawful at h.pending);
    }

-- the greatest place is looked at
pub IsSet-top : {R : List Literal} (k : State) (S : Clause) (bound place : ℕ) (old new : Marks) → IsSet k R S bound old → new.marked ≡ old.marked → new.current ≡ old.current → new.seen ≡ old.seen
    → IsTop k.trail R S bound place new.pending → IsSet k R S place new
IsSet-top {R} k S bound place old new h marked current seen top = record {
  is = rw (marked, current) h.is;
  seen = rw seen h.seen;
  pending = top.pending;
}

-- all places were looked at
pub IsSet-done : {R : List Literal} (k : State) (S : Clause) (bound : ℕ) (m : Marks) → m.pending ≡ [] → IsSet k R S bound m → IsSet k R S 0 m
IsSet-done {R} k S bound m none h = record {
  is = h.is;
  seen = h.seen;
  pending = rw none (pending-done k.trail R S);
}

-- room without a mark
pub IsSet-clear : {R : List Literal} (k : State) (bound : ℕ) (m : Marks) → k.vars < length m.marked.items → IsClear m → IsSet k R [] bound m
IsSet-clear {R} k bound m long h = record {
  is = IsMarked-none k m.marked.items m.current long h.none h.zero;
  seen = record { within = rw h.unseen (λ i d inside. absurd (omega (arith, inside))); all = λ v a. absurd (cc) };
  pending = rw h.done (pending-empty k.trail R bound);
}

-- what a call for one literal of the clause asks, once the marks stand for more
pub CanJoin-one : (k : State) (c : Clause) (l : Literal) (old new : Marks) → (h : CanJoin k c old) → has c l ≡ true → {U : Clause} → IsSet k [] U h.bound new → CanJoin k (l ∷ []) new
CanJoin-one k c l old new h a {U} is = record {
  lawful = h.lawful;
  over = h.over;
  few = h.few;
  set = U;
  bound = h.bound;
  is = is;
  below = rw (Refutes-from_is_false (literals (take h.bound k.trail)) c h.below l a) refl;
}

pub CanResolve-none : (k : State) (e : Entry) (c : Clause) (m : Marks) → CanResolve k e c m → CanResolve k e [] m
CanResolve-none k e c m h = record {
  joins = record {
    lawful = h.joins.lawful;
    over = h.joins.over;
    few = h.joins.few;
    set = h.joins.set;
    bound = h.joins.bound;
    is = h.joins.is;
    below = refl;
  };
  at = h.at;
  is_in = h.is_in;
}

pub CanJoin-taken : (k : State) (e : Entry) (c : Clause) (old new : Marks) → (h : CanResolve k e c old) → IsSet k [] (without h.joins.set (negated e.lit)) h.joins.bound new → CanJoin k c new
CanJoin-taken k e c old new h is = record {
  lawful = h.joins.lawful;
  over = h.joins.over;
  few = h.joins.few;
  set = without h.joins.set (negated e.lit);
  bound = h.joins.bound;
  is = is;
  below = h.joins.below;
}

-- a clause that is false is false below the end
pub false-whole : (T : Trail) (c : Clause) → is_false (literals T) c ≡ true → is_false (literals (take (length T) T)) c ≡ true
false-whole T c h = subst (λ (U : Trail). is_false (literals U) c ≡ true) (sym (take-length T)) h

-- the variables seen, in more room
pub IsSet-moved : {R : List Literal} (k : State) (S : Clause) (bound : ℕ) (old new : Marks) → new.marked ≡ old.marked → new.current ≡ old.current → new.pending ≡ old.pending
    → new.seen.items ≡ old.seen.items → IsSet k R S bound old → IsSet k R S bound new
IsSet-moved {R} k S bound old new marked current pending seen h = record { is = rw (marked, current) h.is; seen = rw seen h.seen; pending = rw pending h.pending }

-- the variables seen, in another order
pub IsSet-sorted : {R : List Literal} (k : State) (S : Clause) (bound : ℕ) (old new : Marks) → new.marked ≡ old.marked → new.current ≡ old.current → new.pending ≡ old.pending
    → IsPermutation old.seen.items new.seen.items → IsSet k R S bound old → IsSet k R S bound new
IsSet-sorted {R} k S bound old new marked current pending moved h = record {
  is = rw (marked, current) h.is;
  seen = record {
    within = All-permutation (λ v. v ≤ k.vars) old.seen.items new.seen.items moved h.seen.within;
    all = λ v a. sym (list_any-IsPermutation (λ w. nat_eq w v) old.seen.items new.seen.items moved) ∙ h.seen.all v a;
  };
  pending = rw pending h.pending;
}

-- those of the variables seen that are marked
pub IsSet-marked : {R : List Literal} (k : State) (S : Clause) (bound : ℕ) (old new : Marks) → new.marked ≡ old.marked → new.current ≡ old.current → new.pending ≡ old.pending
    → new.seen.items ≡ filter (λ v. slice_index_or old.marked.items v false) old.seen.items → IsSet k R S bound old → IsSet k R S bound new
IsSet-marked {R} k S bound old new marked current pending kept h = record {
  is = rw (marked, current) h.is;
  seen = AreSeen-marked k S old.marked.items old.current old.seen.items new.seen.items h.is kept h.seen;
  pending = rw pending h.pending;
}

-- no places in the place of none
pub IsSet-empty : {R : List Literal} (k : State) (S : Clause) (bound : ℕ) (old new : Marks) → new.marked ≡ old.marked → new.current ≡ old.current → new.seen ≡ old.seen
    → old.pending ≡ [] → new.pending ≡ [] → IsSet k R S bound old → IsSet k R S bound new
IsSet-empty {R} k S bound old new marked current seen none empty h = record {
  is = rw (marked, current) h.is;
  seen = rw seen h.seen;
  pending = rw empty (rw none at h.pending);
}
