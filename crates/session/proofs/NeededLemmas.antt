-- Back over a lawful trail: what an entry needs is the other literals of its reason. Here m gives
-- truth values under which the clauses and the trail's cube are true.
use Rattle.std.proofs.Common.{◌≡◌, ℕ, suc, ◌+◌, ◌<◌, ◌≤◌, Bool, true, false, not, List, [], ◌∷◌, ◌++◌, length, take, drop, get_or, slice_get, slice_index_or, slice_set, refl, ap, sym, subst, ◌∙◌, ◌⊎◌, inl, inr, Option, Some, None, is_some, nat_eq, eq-eqb, All, arith}
use Rattle.std.specs.List.Sorted.{IsPermutation}
use Rattle.std.proofs.Math.Seq.{take-length}
use Rattle.std.proofs.lemmas.List.{take_more, get_or-set_other}
use Rattle.std.proofs.lemmas.List.Elements.{All-push, All-nil, All-cons}
use Rattle.std.proofs.lemmas.List.Sorted.{list_any-IsPermutation}
use Rattle.theory.specs.Literals.{Literal, Clause, has, has_var, negated, same, without}
use Rattle.theory.specs.Truth.{AreTrue, IsOver, is_true, is_true_clause, are_true}
use Rattle.theory.specs.Trails.{Entry, Trail, literals, is_given}
use Rattle.theory.specs.Propagation.{clause_at}
use Rattle.theory.specs.Lawful.{IsLawful, IsLawfulEntry, IsGrounded, IsReason, cube_of}
use Rattle.theory.proofs.literals.LiteralLemmas.{or-cases, not_true, is_true-negated, same-eq}
use Rattle.theory.proofs.literals.LiteralSets.{true_false, and-true, has-cases, has-append_cases, has-append_right, has-head, has_var-has, has-without, Refutes-from_is_false}
use Rattle.theory.proofs.literals.ClauseLemmas.{clause_at-true}
use Rattle.theory.proofs.literals.TrueClauses.{AreTrue-has}
use Rattle.theory.proofs.literals.OverVariables.{clause_at-over, IsOver-from_AreOver}
use Rattle.theory.proofs.trails.TrailLists.{literals-append}
use Rattle.theory.proofs.trails.TrailEntries.{IsAt, entry_of-at, has-cube_of, has-literals_at}
use Rattle.theory.proofs.searching.Walks.{at-place, entry-place}
use Rattle.cdcl.proofs.PlaceLemmas.{placed-there, placed-is, place-split}
use Rattle.session.specs.Needing.{IsDecided, IsNeeded, AreMarkedTrue, IsWalked}

-- a true clause whose other literals are false has this one true
pub clause-forces : (m : ℕ → Bool) (l : Literal) (c : Clause) → ((k : Literal) → has c k ≡ true → same l k ≡ false → is_true m k ≡ false) → is_true_clause m c ≡ true → is_true m l ≡ true
clause-forces m l [] f h = absurd (cc)
clause-forces m l (k ∷ c) f h = elim (or-cases (is_true m k) (is_true_clause m c) h) [
  | inl here ↦ go (same l k) refl here
  | inr more ↦ clause-forces m l c (λ x a s. f x (tail x a) s) more
]
  where
    tail : (x : Literal) → has c x ≡ true → has (k ∷ c) x ≡ true
    tail x a = has-append_right (k ∷ []) c x a

    go : (b : Bool) → same l k ≡ b → is_true m k ≡ true → is_true m l ≡ true
    go true e t = ap (is_true m) (same-eq l k e) ∙ t
    go false e t = true_false (is_true m k) t (f k (has-head k c) e)

AreTrue-last : (m : ℕ → Bool) (P : List Literal) (l : Literal) → AreTrue m (P ++ l ∷ []) → AreTrue m P × (is_true m l ≡ true)
AreTrue-last m [] l h = (tt, h.0)
AreTrue-last m (k ∷ P) l h = let r = AreTrue-last m P l h.1 in ((h.0, r.0), r.1)

-- before the first step, the literal's own variable is marked
pub IsWalked-first : (K : List Clause) (T : Trail) (failed : Literal) (marked : List Bool) → has (literals T) (negated failed) ≡ true → slice_index_or marked failed.var false ≡ true
    → IsWalked K T failed (length T) marked (failed ∷ [])
IsWalked-first K T failed marked there mark = record {
  part = All-cons (λ l. (l ≡ failed) ⊎ IsDecided T l) failed [] (inl refl) (All-nil (λ l. (l ≡ failed) ⊎ IsDecided T l));
  refuted = λ m a q core all.
      let wrong : is_true m (negated failed) ≡ true = all (negated failed) (subst (λ (U : Trail). has (literals U) (negated failed) ≡ true) (sym (take-length T)) there) mark in
      true_false (is_true m (negated failed)) wrong (is_true-negated m failed ∙ ap not core.0);
}

-- at the end no entry is left
pub IsNeeded-walked : (K : List Clause) (T : Trail) (failed : Literal) (marked : List Bool) (core : List Literal) → IsWalked K T failed 0 marked core → IsNeeded K T failed core
IsNeeded-walked K T failed marked core w = record {
  part = w.part;
  refuted = λ m a q t. w.refuted m a q t (λ l there mark. absurd (let none : has [] l ≡ true = there in cc));
}

-- the place before an entry
pub split-at : (T : Trail) (n : ℕ) (e : Entry) → n < length T → e ≡ get_or T n e → take (n + 1) T ≡ take n T ++ e ∷ []
split-at T n e inside is = take_more T n e inside ∙ ap (λ (x : Entry). take n T ++ x ∷ []) (sym is)

-- a literal of the entries up to the next place is the entry's, or stands before it
pub more-cases : (T : Trail) (n : ℕ) (e : Entry) (l : Literal) → n < length T → e ≡ get_or T n e → has (literals (take (n + 1) T)) l ≡ true → (l ≡ e.lit) ⊎ (has (literals (take n T)) l ≡ true)
more-cases T n e l inside is h =
    elim (has-append_cases (literals (take n T)) (e.lit ∷ []) l (subst (λ P. has P l ≡ true) (ap literals (split-at T n e inside is) ∙ literals-append (take n T) (e ∷ [])) h)) [
      | inl before ↦ inr before
      | inr here ↦ elim (has-cases e.lit l [] here) [ inl one ↦ inl one | inr none ↦ absurd (cc) ]
    ]

-- the entry at a place
module _ (K : List Clause) (T : Trail) (n : ℕ) (e : Entry) (lawful : IsLawful K T) (inside : n < length T) (is : e ≡ get_or T n e) where
  placed : slice_get T n ≡ Some e
  placed = let there = placed-there T n inside in there.1 ∙ ap Some (placed-is T n there.0 e there.1 ∙ sym is)

  split : T ≡ take n T ++ e ∷ drop (suc n) T
  split = place-split T n e placed

  entry : IsLawfulEntry K (take n T) e
  entry = entry-place K T (take n T) e (drop (suc n) T) lawful split

  -- what stands before it is of other variables
  apart : (l : Literal) → has (literals (take n T)) l ≡ true → l.var ≡ e.lit.var → ⊥
  apart l h same = true_false (has_var (literals (take n T)) e.lit.var) (subst (λ v. has_var (literals (take n T)) v ≡ true) same (has_var-has (literals (take n T)) l h)) entry.is_new

  -- a mark that isn't its own stays
  still : (l : Literal) (marked : List Bool) → has (literals (take n T)) l ≡ true → slice_index_or marked l.var false ≡ true → slice_index_or (slice_set marked e.lit.var false) l.var false ≡ true
  still l marked there mark = get_or-set_other marked e.lit.var l.var false false (apart l there) ∙ mark

  -- where the entry's literal is true once the marked ones before it are, the step before it is as
  -- the step behind it
  back : (failed : Literal) (marked after : List Bool) (core : List Literal) (m : ℕ → Bool) → IsWalked K T failed (n + 1) marked core → are_true m K ≡ true → AreTrue m (cube_of T) → AreTrue m core
      → ((l : Literal) → has (literals (take n T)) l ≡ true → slice_index_or marked l.var false ≡ true → slice_index_or after l.var false ≡ true)
      → (slice_index_or marked e.lit.var false ≡ true → is_true m e.lit ≡ true) → AreMarkedTrue m after (take n T) → ⊥
  back failed marked after core m w a q t kept here all = w.refuted m a q t (λ l there mark. go l mark (more-cases T n e l inside is there))
    where
      go : (l : Literal) → slice_index_or marked l.var false ≡ true → (l ≡ e.lit) ⊎ (has (literals (take n T)) l ≡ true) → is_true m l ≡ true
      go l mark (inl one) = subst (λ x. is_true m x ≡ true) (sym one) (here (subst (λ (x : Literal). slice_index_or marked x.var false ≡ true) one mark))
      go l mark (inr before) = all l before (kept l before mark)

  -- an entry that isn't marked
  pub IsWalked-pass : (failed : Literal) (marked : List Bool) (core : List Literal) → IsWalked K T failed (n + 1) marked core → slice_index_or marked e.lit.var false ≡ false → IsWalked K T failed n marked core
  IsWalked-pass failed marked core w unmarked = record {
    part = w.part;
    refuted = λ m a q t all. back failed marked marked core m w a q t (λ l there mark. mark) (λ mark. true_false (slice_index_or marked e.lit.var false) mark unmarked) all;
  }

  -- a marked one with a reason, whose other literals are marked in its place
  pub IsWalked-reason : (failed : Literal) (marked after : List Bool) (core : List Literal) (r : ℕ) (c : Clause) → IsWalked K T failed (n + 1) marked core → e.reason ≡ Some r → IsPermutation (clause_at K r) c
      → ((k : Literal) → has c k ≡ true → same e.lit k ≡ false → slice_index_or after k.var false ≡ true)
      → ((v : ℕ) → slice_index_or (slice_set marked e.lit.var false) v false ≡ true → slice_index_or after v false ≡ true) → IsWalked K T failed n after core
  IsWalked-reason failed marked after core r c w reason permuted others more = record {
    part = w.part;
    refuted = λ m a q t all. back failed marked after core m w a q t (λ l there mark. more l.var (still l marked there mark)) (λ mark. forced m a all) all;
  }
    where
      why : IsReason K (literals (take n T)) e.lit r
      why = (subst (λ o. IsGrounded K (take n T) e o) reason entry.grounded).1

      forced : (m : ℕ → Bool) → are_true m K ≡ true → AreMarkedTrue m after (take n T) → is_true m e.lit ≡ true
      forced m a all = clause-forces m e.lit (clause_at K r) untrue (clause_at-true m K r a why.numbered.0 why.numbered.1)
        where
          untrue : (k : Literal) → has (clause_at K r) k ≡ true → same e.lit k ≡ false → is_true m k ≡ false
          untrue k holds other =
              let there : has (literals (take n T)) (negated k) ≡ true = Refutes-from_is_false (literals (take n T)) (without (clause_at K r) e.lit) why.others k (has-without (clause_at K r) e.lit k holds other) in
              let marks : slice_index_or after k.var false ≡ true = others k (sym (list_any-IsPermutation (same k) (clause_at K r) c permuted) ∙ holds) other in
              let opposite : is_true m (negated k) ≡ true = all (negated k) there marks in
              not_true (is_true m k) (sym (is_true-negated m k) ∙ opposite)

  -- a marked decision
  pub IsWalked-decision : (failed : Literal) (marked : List Bool) (core : List Literal) → IsWalked K T failed (n + 1) marked core → e.reason ≡ None → 1 ≤ e.level
      → IsWalked K T failed n (slice_set marked e.lit.var false) (core ++ e.lit ∷ [])
  IsWalked-decision failed marked core w reason above = record {
    part = All-push (λ l. (l ≡ failed) ⊎ IsDecided T l) core e.lit w.part (inr (e, record { before = take n T; behind = drop (suc n) T; place = split; above = above; reason = reason }, refl));
    refuted = λ m a q t all.
        let parts = AreTrue-last m core e.lit t in
        back failed marked (slice_set marked e.lit.var false) core m w a q parts.0 (λ l there mark. still l marked there mark) (λ mark. parts.1) all;
  }

  -- a marked entry of level 0 without a reason
  pub IsWalked-given : (failed : Literal) (marked : List Bool) (core : List Literal) → IsWalked K T failed (n + 1) marked core → e.reason ≡ None → e.level ≤ 0 → IsWalked K T failed n (slice_set marked e.lit.var false) core
  IsWalked-given failed marked core w reason low = record {
    part = w.part;
    refuted = λ m a q t all. back failed marked (slice_set marked e.lit.var false) core m w a q t (λ l there mark. still l marked there mark) (λ mark. AreTrue-has m (cube_of T) e.lit q given) all;
  }
    where
      at : IsAt T e
      at = at-place T (take n T) e (drop (suc n) T) split

      is_it : is_given (Some e) ≡ true
      is_it = let zero_level : e.level ≡ 0 = omega arith in and-true (nat_eq e.level 0) (not (is_some e.reason)) (eq-eqb e.level 0 zero_level) (ap (λ (o : Option ℕ). not (is_some o)) reason)

      given : has (cube_of T) e.lit ≡ true
      given = has-cube_of K T e.lit lawful (has-literals_at T e at) (ap is_given (entry_of-at K T e lawful at) ∙ is_it)

  -- the reason's number is that of a clause
  pub reason-numbered : (r : ℕ) → e.reason ≡ Some r → (1 ≤ r) × (r ≤ length K)
  reason-numbered r reason = (subst (λ o. IsGrounded K (take n T) e o) reason entry.grounded).1.numbered

-- the literals of a clause, in any order
pub within-arranged : (V : ℕ) (K : List Clause) (r : ℕ) (c : Clause) → All (IsOver V) K → 1 ≤ r → r ≤ length K → IsPermutation (clause_at K r) c → IsOver V c
within-arranged V K r c over one end permuted = IsOver-from_AreOver V c (λ l a. clause_at-over V K r over one end l (list_any-IsPermutation (same l) (clause_at K r) c permuted ∙ a))
