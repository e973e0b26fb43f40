-- The literals of a clause, each once, and a kernel that learns it.
use Rattle.std.proofs.Common.{◌≡◌, ℕ, zero, suc, ◌+◌, ◌-◌, ◌<◌, ◌≤◌, Bool, true, false, not, ◌&&◌, ◌||◌, List, [], ◌∷◌, ◌++◌, length, take, get_or, slice_get, refl, ap, sym, subst, ◌∙◌, inl, inr, Some, None, nat_eq, eqb-true, arith}
use Rattle.std.specs.List.{list_all, list_any}
use Rattle.std.proofs.Math.Seq.{take-length}
use Rattle.std.proofs.lemmas.List.{take_more, take_all, map-append}
use Rattle.theory.specs.Literals.{Literal, Clause, same, has, has_var, has_both_signs, negated, negations, are_distinct}
use Rattle.theory.specs.Truth.{IsOver, is_true, is_true_clause, are_true}
use Rattle.theory.specs.Reading.{large, max_vars}
use Rattle.theory.specs.Status.{others_false}
use Rattle.theory.specs.Trails.{Trail, literals, cube_trail}
use Rattle.theory.specs.Learnable.{IsLearnable}
use Rattle.theory.proofs.literals.LiteralLemmas.{and-left, and-right, or-cases, or-left, or-right, not_true, same-refl}
use Rattle.theory.proofs.literals.LiteralSets.{true_false, and-true, or-none, false_unless, has-cases, has-head, has-tail, has-append_left, has-append_right, has-append_cases, has_var-has, has-negations}
use Rattle.theory.proofs.literals.TrueClauses.{has-true, some_sign}
use Rattle.theory.proofs.literals.ClauseWalks.{has-before}
use Rattle.theory.proofs.literals.OverVariables.{AreOver-negations, AreOver-from_IsOver, IsOver-from_AreOver}
use Rattle.theory.proofs.trails.TrailLists.{literals-cube}
use Rattle.theory.proofs.searching.OpenTrails.{current_level-cube_trail}
use Rattle.theory.proofs.searching.ReplayedLines.{are_true-push}
use Rattle.kernel.proofs.LeastClauses.{unit_literal-is}
use Rattle.kernel.specs.State.{State}
use Rattle.cdcl.specs.Taught.{Taught}
use Rattle.session.specs.declared.search.Search.{Search}
use Rattle.session.specs.Choosing.{HasChoice}
use Rattle.session.specs.Loading.{IsMeant, IsLoaded, IsGathered, IsAttached, IsSameKernel}
use Rattle.session.proofs.LoadedLemmas.{take-next}

-- nothing yet
pub IsGathered-first : (lits : Clause) (T : Trail) → T ≡ [] → lits ≡ [] → IsGathered [] lits T
IsGathered-first lits T none empty = record {
  held = none ∙ ap cube_trail (sym empty);
  within = λ k a. absurd (let b : has [] k ≡ true = ap (λ x. has x k) (sym empty) ∙ a in cc);
  covers = λ k a. absurd (cc);
}

pub held-lits : (p lits : Clause) (T : Trail) → IsGathered p lits T → literals T ≡ lits
held-lits p lits T h = ap literals h.held ∙ literals-cube lits

-- a literal that came before
pub IsGathered-old : (p lits : Clause) (T : Trail) (l : Literal) → has (literals T) l ≡ true → IsGathered p lits T → IsGathered (p ++ l ∷ []) lits T
IsGathered-old p lits T l there h = record {
  held = h.held;
  within = λ k a. has-append_left p (l ∷ []) k (h.within k a);
  covers = λ k a. elim (has-append_cases p (l ∷ []) k a) [
    | inl b ↦ h.covers k b
    | inr b ↦ elim (has-cases l k [] b) [
      | inl one ↦ subst (λ x. has lits x ≡ true) (sym one) (subst (λ P. has P l ≡ true) (held-lits p lits T h) there)
      | inr none ↦ absurd (cc)
    ]
  ];
}

-- one of another variable
pub IsGathered-new : (p lits : Clause) (T : Trail) (l : Literal) → IsGathered p lits T → IsGathered (p ++ l ∷ []) (lits ++ l ∷ []) (T ++ record { lit = l; reason = None; level = 0 } ∷ [])
IsGathered-new p lits T l h = record {
  held = ap (λ (x : Trail). x ++ record { lit = l; reason = None; level = 0 } ∷ []) h.held ∙ sym (map-append (λ (k : Literal). record { lit = k; reason = None; level = 0 }) lits (l ∷ []));
  within = λ k a. elim (has-append_cases lits (l ∷ []) k a) [ inl b ↦ has-append_left p (l ∷ []) k (h.within k b) | inr b ↦ has-append_right p (l ∷ []) k b ];
  covers = λ k a. elim (has-append_cases p (l ∷ []) k a) [ inl b ↦ has-append_left lits (l ∷ []) k (h.covers k b) | inr b ↦ has-append_right lits (l ∷ []) k b ];
}

-- one whose negation came before
pub both-signs : (c p lits : Clause) (T : Trail) (l : Literal) → has (literals T) (negated l) ≡ true → has c l ≡ true → ((k : Literal) → has p k ≡ true → has c k ≡ true) → IsGathered p lits T → has_both_signs c ≡ true
both-signs c p lits T l there holds part h = go c holds
  where
    opposite : has c (negated l) ≡ true
    opposite = part (negated l) (h.within (negated l) (subst (λ P. has P (negated l) ≡ true) (held-lits p lits T h) there))

    go : (d : Clause) → has d l ≡ true → list_any (λ k. has c (negated k)) d ≡ true
    go [] a = absurd (cc)
    go (k ∷ d) a = elim (has-cases k l d a) [
      | inl one ↦ or-left (has c (negated k)) (list_any (λ x. has c (negated x)) d) (subst (λ x. has c (negated x) ≡ true) one opposite)
      | inr rest ↦ or-right (has c (negated k)) (list_any (λ x. has c (negated x)) d) (go d rest)
    ]

-- a true clause has a true literal
true-literal : (m : ℕ → Bool) (c : Clause) → is_true_clause m c ≡ true → (l : Literal) × (has c l ≡ true) × (is_true m l ≡ true)
true-literal m [] h = absurd (cc)
true-literal m (l ∷ c) h = elim (or-cases (is_true m l) (is_true_clause m c) h) [
  | inl here ↦ (l, has-head l c, here)
  | inr more ↦ let r = true-literal m c more in (r.0, has-tail l r.0 c r.1, r.2)
]

-- the gathered literals are true where the clause is
pub gathered-true : (m : ℕ → Bool) (c lits : Clause) (T : Trail) → IsGathered c lits T → is_true_clause m lits ≡ is_true_clause m c
gathered-true m c lits T h = go (is_true_clause m lits) (is_true_clause m c) refl refl
  where
    go : (a b : Bool) → is_true_clause m lits ≡ a → is_true_clause m c ≡ b → a ≡ b
    go true true p q = refl
    go false false p q = refl
    go true false p q = let l = true-literal m lits p in true_false (is_true_clause m c) (has-true m c l.0 (h.within l.0 l.1) l.2) q
    go false true p q = let l = true-literal m c q in true_false (is_true_clause m lits) (has-true m lits l.0 (h.covers l.0 l.1) l.2) p

pub are_true-push_is : (m : ℕ → Bool) (K : List Clause) (c : Clause) → are_true m (K ++ c ∷ []) ≡ (are_true m K && is_true_clause m c)
are_true-push_is m [] c = go (is_true_clause m c)
  where
    go : (b : Bool) → b && true ≡ b
    go true = refl
    go false = refl
are_true-push_is m (d ∷ K) c = ap (λ b. is_true_clause m d && b) (are_true-push_is m K c) ∙ go (is_true_clause m d)
  where
    go : (b : Bool) → b && (are_true m K && is_true_clause m c) ≡ (b && are_true m K) && is_true_clause m c
    go true = refl
    go false = refl

pub always-true : (m : ℕ → Bool) (K : List Clause) (c : Clause) → has_both_signs c ≡ true → are_true m K ≡ (are_true m K && is_true_clause m c)
always-true m K c both = go (are_true m K) ∙ ap (λ b. are_true m K && b) (sym (some_sign m c c (λ l a. a) both))
  where
    go : (b : Bool) → b ≡ b && true
    go true = refl
    go false = refl

-- distinct variables
has_var-negations : (c : Clause) (v : ℕ) → has_var (negations c) v ≡ has_var c v
has_var-negations [] v = refl
has_var-negations (l ∷ c) v = ap (λ b. nat_eq v l.var || b) (has_var-negations c v)

pub distinct-at : (c : Clause) (i : ℕ) (l : Literal) → are_distinct c ≡ true → i < length c → l ≡ get_or c i l → has_var (take i c) l.var ≡ false
distinct-at [] i l d less is = absurd (omega arith)
distinct-at (k ∷ c) zero l d less is = refl
distinct-at (k ∷ c) (suc i) l d less is =
    or-none (nat_eq l.var k.var) (has_var (take i c) l.var)
    (false_unless (nat_eq l.var k.var) (λ t. true_false (has_var c k.var) (subst (λ v. has_var c v ≡ true) (eqb-true l.var k.var t) (has_var-has c l (there c i less is))) (not_true (has_var c k.var) (and-left (not (has_var c k.var)) (are_distinct c) d))))
    (distinct-at c i l (and-right (not (has_var c k.var)) (are_distinct c) d) (omega arith) is)
  where
    there : (e : Clause) (j : ℕ) → suc j < length (k ∷ e) → l ≡ get_or e j l → has e l ≡ true
    there [] j h at = absurd (omega arith)
    there (x ∷ e) zero h at = subst (λ y. has (y ∷ e) l ≡ true) at (has-head l e)
    there (x ∷ e) (suc j) h at = has-tail x l e (there e j (omega arith) at)

pub negation-new : (c : Clause) (i : ℕ) (l : Literal) (Q : List Literal) → are_distinct c ≡ true → i < length c → l ≡ get_or c i l → Q ≡ negations (take i c) → has_var Q l.var ≡ false
negation-new c i l Q d less is q = subst (λ P. has_var P l.var ≡ false) (sym q) (has_var-negations (take i c) l.var ∙ distinct-at c i l d less is)

pub negations-more : (c : Clause) (i : ℕ) (l : Literal) (Q R : List Literal) → i < length c → l ≡ get_or c i l → Q ≡ negations (take i c) → R ≡ Q ++ negated l ∷ [] → R ≡ negations (take (i + 1) c)
negations-more c i l Q R less is q r = r ∙ (ap (λ (x : List Literal). x ++ negated l ∷ []) q ∙ (sym (map-append negated (take i c) (l ∷ [])) ∙ ap negations (ap (λ (x : Literal). take i c ++ x ∷ []) is ∙ sym (take_more c i l less))))

-- a clause whose literals but the last are false on the trail may be learnt
list_all-each : (p : Literal → Bool) (c : Clause) → ((k : Literal) → has c k ≡ true → p k ≡ true) → list_all p c ≡ true
list_all-each p [] f = refl
list_all-each p (k ∷ c) f = and-true (p k) (list_all p c) (f k (has-head k c)) (list_all-each p c (λ x a. f x (has-tail k x c a)))

IsLearnable-last : (c : Clause) (l : Literal) → are_distinct (c ++ l ∷ []) ≡ true → has_var c l.var ≡ false → IsLearnable (cube_trail (negations c)) (c ++ l ∷ [])
IsLearnable-last c l distinct free = record {
  distinct = distinct;
  free = l;
  unit = unit_literal-is (literals (cube_trail (negations c))) (c ++ l ∷ []) l (has-append_right c (l ∷ []) l (has-head l []))
      (subst (λ P. has_var P l.var ≡ false) (sym (literals-cube (negations c))) (has_var-negations c l.var ∙ free)) (subst (λ P. others_false P (c ++ l ∷ []) l ≡ true) (sym (literals-cube (negations c))) others);
  latest = inl (current_level-cube_trail (negations c));
}
  where
    others : others_false (negations c) (c ++ l ∷ []) l ≡ true
    others = list_all-each (λ k. same l k || has (negations c) (negated k)) (c ++ l ∷ []) (λ k a. elim (has-append_cases c (l ∷ []) k a) [
      | inl b ↦ or-right (same l k) (has (negations c) (negated k)) (has-negations c k b)
      | inr b ↦ elim (has-cases l k [] b) [ inl one ↦ or-left (same l k) (has (negations c) (negated k)) (subst (λ x. same l x ≡ true) (sym one) (same-refl l)) | inr none ↦ absurd (cc) ]
    ])

pub IsLearnable-but_last : (lits : Clause) → 1 ≤ length lits → are_distinct lits ≡ true → IsLearnable (cube_trail (negations (take (length lits - 1) lits))) lits
IsLearnable-but_last [] some distinct = absurd (omega arith)
IsLearnable-but_last (k ∷ c) some distinct =
    let lits : Clause = k ∷ c in
    let n : ℕ = length lits - 1 in
    let l : Literal = get_or lits n k in
    let less : n < length lits = omega arith in
    let same_there : l ≡ get_or lits n l = at lits n k less in
    let whole : take n lits ++ l ∷ [] ≡ lits = sym (take_more lits n k less) ∙ (ap (λ i. take i lits) (let e : n + 1 ≡ length lits = omega arith in e) ∙ take-length lits) in
    subst (IsLearnable (cube_trail (negations (take n lits)))) whole (IsLearnable-last (take n lits) l (subst (λ x. are_distinct x ≡ true) (sym whole) distinct) (distinct-at lits n l distinct less same_there))
  where
    at : (e : Clause) (i : ℕ) (d : Literal) → i < length e → get_or e i d ≡ get_or e i (get_or e i d)
    at [] i d h = absurd (omega arith)
    at (x ∷ e) zero d h = refl
    at (x ∷ e) (suc i) d h = at e i d (omega arith)

-- the clauses of a formula, one after the other
pub IsAttached-first : (K old : List Clause) (from : ℕ) → IsAttached K from from old old
IsAttached-first K old from = record { follows = λ m a b. b; before = λ m a. a; covers = λ m a b. b }

-- each clause of some is true
at-true : (m : ℕ → Bool) (K : List Clause) (i : ℕ) (c : Clause) → slice_get K i ≡ Some c → are_true m K ≡ true → is_true_clause m c ≡ true
at-true m [] i c h a = absurd (cc)
at-true m (d ∷ K) zero c h a = let one : d ≡ c = cc in subst (λ x. is_true_clause m x ≡ true) one (and-left (is_true_clause m d) (are_true m K) a)
at-true m (d ∷ K) (suc i) c h a = at-true m K i c h (and-right (is_true_clause m d) (are_true m K) a)

pub IsAttached-more : (K old C D : List Clause) (from place : ℕ) (c : Clause) → slice_get K place ≡ Some c → ((m : ℕ → Bool) → are_true m D ≡ (are_true m C && is_true_clause m c)) → IsAttached K from place old C → IsAttached K from (place + 1) old D
IsAttached-more K old C D from place c at is h = record {
  follows = λ m a b. is m ∙ and-true (are_true m C) (is_true_clause m c) (h.follows m a b) (at-true m K place c at a);
  before = λ m a. h.before m (and-left (are_true m C) (is_true_clause m c) (sym (is m) ∙ a));
  covers = λ m a b. subst (λ x. are_true m x ≡ true) (sym (take-next K place c at)) (are_true-push m (take place K) c (h.covers m (and-left (are_true m C) (is_true_clause m c) (sym (is m) ∙ a)) b) (and-right (are_true m C) (is_true_clause m c) (sym (is m) ∙ a)));
}

pub IsAttached-none : (K old C : List Clause) (from place : ℕ) → IsAttached K from place old C → IsAttached K from from old C
IsAttached-none K old C from place h = record { follows = h.follows; before = h.before; covers = λ m a b. b }

-- all of them
pub IsAttached-all : (K old C : List Clause) (from place : ℕ) → length K ≤ place → IsAttached K from place old C → IsAttached K from (length K) old C
IsAttached-all K old C from place past h = record {
  follows = h.follows;
  before = h.before;
  covers = λ m a b. subst (λ x. are_true m x ≡ true) (take_all place K past ∙ sym (take-length K)) (h.covers m a b);
}

-- what is gathered of a clause that has a literal
pub gathered-some : (c lits : Clause) (T : Trail) → 1 ≤ length c → IsGathered c lits T → 1 ≤ length lits
gathered-some [] lits T some h = absurd (omega arith)
gathered-some (k ∷ c) [] T some h = absurd (let none = h.covers k (has-head k c) in cc)
gathered-some (k ∷ c) (l ∷ lits) T some h = omega arith

-- it is over the variables that the trail is over
pub over-gathered : (V W : ℕ) (c lits d : Clause) (T : Trail) → IsOver W (literals T) → W ≡ V → IsGathered c lits T → lits ≡ d → IsOver V d
over-gathered V W c lits d T over w h e = subst (IsOver V) (held-lits c lits T h ∙ e) (subst (λ v. IsOver v (literals T)) w over)

-- the negations of some literals of a clause
pub over-but_last : (V : ℕ) (lits : Clause) (n : ℕ) → IsOver V lits → IsOver V (negations (take n lits))
over-but_last V lits n over = IsOver-from_AreOver V (negations (take n lits)) (AreOver-negations V (take n lits) (λ l a. AreOver-from_IsOver V lits over l (has-before lits n l a)))

-- the search has the clauses up to a place, once they were put into its kernel
pub IsLoaded-attached : (K : List Clause) (loaded place : ℕ) (s t : Search) (k : State) → IsLoaded K (take loaded K) s → IsAttached K loaded place s.kernel.clauses k.clauses → IsSameKernel s.kernel k
    → t.kernel ≡ k → t.facts ≡ s.facts → t.lessons ≡ s.lessons → t.choice ≡ s.choice → t.marked ≡ s.marked → IsLoaded K (take place K) t
IsLoaded-attached K loaded place s t k h attached same kernel facts lessons choice marked = record {
  fit = record {
    memory = ap (λ (x : State). x.out_of_memory) kernel ∙ same.memory;
    order = ap (λ (x : State). x.order) kernel ∙ (same.order ∙ h.fit.order);
    few = subst (λ v. v ≤ max_vars large) (sym vars) h.fit.few;
    lessons = ap (λ (x : Taught). x.vars) lessons ∙ (h.fit.lessons ∙ sym vars);
    choice = subst (λ v. HasChoice v t.choice) (sym vars) (subst (HasChoice s.kernel.vars) (sym choice) h.fit.choice);
    marked = rw marked (h.fit.marked ∙ ap (λ v. v + 1) (sym vars));
    facts = subst (λ v. IsOver v t.facts) (sym vars) (subst (IsOver s.kernel.vars) (sym facts) h.fit.facts);
  };
  meant = subst (λ (x : State). IsMeant K (take place K) x.clauses t.facts) (sym kernel) (subst (IsMeant K (take place K) k.clauses) (sym facts) (record {
    clauses = λ m a. attached.follows m a (h.meant.clauses m a);
    facts = h.meant.facts;
    covers = λ m a q. attached.covers m a (h.meant.covers m (attached.before m a) q);
  }));
}
  where
    vars : t.kernel.vars ≡ s.kernel.vars
    vars = ap (λ (x : State). x.vars) kernel ∙ same.vars

pub IsLoaded-all_attached : (K : List Clause) (loaded : ℕ) (s t : Search) (k : State) → IsLoaded K (take loaded K) s → IsAttached K loaded (length K) s.kernel.clauses k.clauses → IsSameKernel s.kernel k
    → t.kernel ≡ k → t.facts ≡ s.facts → t.lessons ≡ s.lessons → t.choice ≡ s.choice → t.marked ≡ s.marked → IsLoaded K K t
IsLoaded-all_attached K loaded s t k h attached same kernel facts lessons choice marked = subst (λ x. IsLoaded K x t) (take-length K) (IsLoaded-attached K loaded (length K) s t k h attached same kernel facts lessons choice marked)

-- the steps of the walk; l is the literal at the place i
pub next : (c lits : Clause) (T : Trail) (i : ℕ) (l : Literal) → i < length c → l ≡ get_or c i l → IsGathered (take i c ++ l ∷ []) lits T → IsGathered (take (i + 1) c) lits T
next c lits T i l less e h = subst (λ x. IsGathered x lits T) (ap (λ k. take i c ++ k ∷ []) e ∙ sym (take_more c i l less)) h
