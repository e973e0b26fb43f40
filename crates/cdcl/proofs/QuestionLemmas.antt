-- Questions for removable literals: what is reached, what is closed, and what that says.
use Rattle.std.proofs.Common.{◌≡◌, ℕ, zero, suc, ◌+◌, ◌<◌, ◌≤◌, Bool, true, false, ◌||◌, List, [], ◌∷◌, ◌++◌, length, take, drop, get_or, slice_index_or, Some, None, refl, ap, sym, subst, ◌∙◌, nat_eq, eq-eqb, eqb-true, ◌⊎◌, inl, inr, arith, All, IsPermutation, length-append, slice_get}
use Rattle.std.proofs.lemmas.Bool.{cases_lt}
use Rattle.std.proofs.Math.ListN.{get_or-append}
use Rattle.std.proofs.Math.Seq.{get_or-append_seam}
use Rattle.std.proofs.lemmas.List.Folds.{list_any-append}
use Rattle.std.proofs.lemmas.List.{take_more, take_all}
use Rattle.std.proofs.lemmas.List.Elements.{All-push}
use Rattle.theory.specs.Literals.{Literal, Clause, negated, same, has, has_var, without}
use Rattle.theory.specs.Trails.{Trail, Entry, literals, entry_of, level_of, level_at, current_level}
use Rattle.theory.specs.Propagation.{clause_at}
use Rattle.theory.specs.Lawful.{IsReason, IsGrounded, IsLawful}
use Rattle.theory.specs.Truth.{IsOver}
use Rattle.theory.proofs.literals.OverVariables.{AreOver-from_IsOver, clause_at-over}
use Rattle.theory.proofs.literals.LiteralLemmas.{or-cases, or-left, or-right, same-eq}
use Rattle.theory.proofs.literals.LiteralSets.{true_false, false_unless, negated-negated, has_var-has, has-cases, has-append_cases, has-from_without, has-without, Refutes-from_is_false}
use Rattle.theory.proofs.trails.TrailLevels.{level_of-before}
use Rattle.theory.proofs.searching.Walks.{entry-place}
use Rattle.kernel.specs.State.{State}
use Rattle.kernel.proofs.Arranged.{has-permuted}
use Rattle.cdcl.specs.declared.analysis.minimize.Minimizer.{Minimizer}
use Rattle.cdcl.specs.Marks.{IsMarked}
use Rattle.cdcl.specs.Numbers.{NumberSet, is_one_of}
use Rattle.cdcl.specs.Removing.{removable_of, IsBetween, IsKnown, IsClosed, HasParent, IsAsking, HasRoomFor, IsReasonOf, IsAnswered, Reaches, KnowsStill, reason_at, is_covered_by}
use Rattle.cdcl.proofs.MarkedSets.{is_in, is_not_in}
use Rattle.cdcl.proofs.NumberSets.{index_of}
use Rattle.cdcl.proofs.PlaceLemmas.{place-split, placed, placed-inside, places-distinct, false-below}
use Rattle.cdcl.proofs.RemovableLiterals.{is_covered_in, IsRemovableBy, removable-reason, reason-removable, var-removable, placed-entry}
use Rattle.cdcl.proofs.TrailValues.{entry_of-there}

-- the reason of a variable between, at its place
record IsReasoned (k : State) (v : ℕ) (b : IsBetween k v) : Type 0 where
  place : ℕ
  at : slice_get k.trail place ≡ Some b.entry
  is_var : b.entry.lit.var ≡ v
  level : b.entry.level ≡ current_level (take place k.trail)
  reason : IsReason k.clauses (literals (take place k.trail)) b.entry.lit b.number

reasoned : (k : State) (v : ℕ) (b : IsBetween k v) → IsLawful k.clauses k.trail → IsReasoned k v b
reasoned k v b lawful =
    let p = placed-entry k.clauses k.trail v b.entry lawful b.there in
    let lawful_entry = entry-place k.clauses k.trail (take p.0 k.trail) b.entry (drop (suc p.0) k.trail) lawful (place-split k.trail p.0 b.entry p.1) in
    let grounded = subst (IsGrounded k.clauses (take p.0 k.trail) b.entry) b.reason lawful_entry.grounded in
    record { place = p.0; at = p.1; is_var = p.2; level = grounded.0; reason = grounded.1 }

-- another literal of the reason is false before
other-false : (k : State) (v : ℕ) (b : IsBetween k v) (r : IsReasoned k v b) (l : Literal) → has (without (clause_at k.clauses b.number) b.entry.lit) l ≡ true → has (literals (take r.place k.trail)) (negated l) ≡ true
other-false k v b r l a = Refutes-from_is_false (literals (take r.place k.trail)) (without (clause_at k.clauses b.number) b.entry.lit) r.reason.others l a

-- and of no greater level
pub other-lower : (k : State) (v : ℕ) (b : IsBetween k v) (l : Literal) → IsLawful k.clauses k.trail → has (without (clause_at k.clauses b.number) b.entry.lit) l ≡ true → level_of k.trail l < current_level k.trail
other-lower k v b l lawful a =
    let r = reasoned k v b lawful in
    let there = has_var-has (literals (take r.place k.trail)) (negated l) (other-false k v b r l a) in
    let low = level_of-before k.clauses k.trail (take r.place k.trail) (b.entry ∷ drop (suc r.place) k.trail) l lawful (place-split k.trail r.place b.entry r.at) there in
    let level = r.level in
    let lower = b.lower in
    omega (arith, low, level, lower)

-- a variable is removable by its reason
pub between-removable : (k : State) (S : Clause) (v : ℕ) (b : IsBetween k v) → IsLawful k.clauses k.trail
    → ((l : Literal) → has (without (clause_at k.clauses b.number) b.entry.lit) l ≡ true → is_covered_in k.trail S (removable_of k S) l ≡ true) → has_var (removable_of k S) v ≡ true
between-removable k S v b lawful others =
    let r = reasoned k v b lawful in
    let h = reason-removable k.clauses k.trail S lawful (take r.place k.trail) b.entry (drop (suc r.place) k.trail) (place-split k.trail r.place b.entry r.at)
    (record { number = b.number; reason = b.reason; above = b.above; lower = b.lower; others = others }) in
    subst (λ w. has_var (removable_of k S) w ≡ true) r.is_var (has_var-has (removable_of k S) (negated b.entry.lit) h)

pub removable-between : (k : State) (S : Clause) (v : ℕ) (e : Entry) → IsLawful k.clauses k.trail → entry_of k.trail v ≡ Some e → has_var (removable_of k S) v ≡ true → IsRemovableBy k.clauses k.trail S e
removable-between k S v e lawful there h =
    let p = placed-entry k.clauses k.trail v e lawful there in
    let on = (entry_of-there k.trail v e there).1 in
    removable-reason k.clauses k.trail S lawful (take p.0 k.trail) e (drop (suc p.0) k.trail) (place-split k.trail p.0 e p.1)
    (var-removable k.clauses k.trail S e lawful on (subst (λ w. has_var (removable_of k S) w ≡ true) (sym p.2) h))

-- a false literal is in the set where it is marked, and removable where its variable is
covered-literal : (k : State) (S : Clause) (marked : List Bool) (n : ℕ) (l : Literal) → IsLawful k.clauses k.trail → IsMarked k S marked n → has (literals k.trail) (negated l) ≡ true
    → (nat_eq (level_of k.trail l) 0 ≡ true) ⊎ ((slice_index_or marked l.var false ≡ true) ⊎ (has_var (removable_of k S) l.var ≡ true)) → is_covered_in k.trail S (removable_of k S) l ≡ true
covered-literal k S marked n l lawful m f (inl z) = or-left (nat_eq (level_of k.trail l) 0) (has S l || has (removable_of k S) l) z
covered-literal k S marked n l lawful m f (inr (inl s)) =
    or-right (nat_eq (level_of k.trail l) 0) (has S l || has (removable_of k S) l) (or-left (has S l) (has (removable_of k S) l) (is_in k S marked n l lawful m f s))
covered-literal k S marked n l lawful m f (inr (inr r)) =
    or-right (nat_eq (level_of k.trail l) 0) (has S l || has (removable_of k S) l) (or-right (has S l) (has (removable_of k S) l) it)
  where
    it : has (removable_of k S) l ≡ true
    it = subst (λ (x : Literal). has (removable_of k S) x ≡ true) (negated-negated l) (var-removable k.clauses k.trail S (record { lit = negated l; reason = None; level = 0 }) lawful f r)

-- where one literal of its reason isn't covered, a variable isn't removable
pub uncovered-kept : (k : State) (S : Clause) (marked : List Bool) (n : ℕ) (v : ℕ) (b : IsBetween k v) (l : Literal) → IsLawful k.clauses k.trail → IsMarked k S marked n
    → has (without (clause_at k.clauses b.number) b.entry.lit) l ≡ true → nat_eq (level_of k.trail l) 0 ≡ false → slice_index_or marked l.var false ≡ false
    → has_var (removable_of k S) l.var ≡ false → has_var (removable_of k S) v ≡ false
uncovered-kept k S marked n v b l lawful m a level unmarked kept = false_unless (has_var (removable_of k S) v) (λ h. not_covered (removable-between k S v b.entry lawful b.there h))
  where
    not_covered : IsRemovableBy k.clauses k.trail S b.entry → ⊥
    not_covered h =
        let reason : Some h.number ≡ Some b.number = sym h.reason ∙ b.reason in
        let number : h.number ≡ b.number = cc in
        let all = h.others l (subst (λ i. has (without (clause_at k.clauses i) b.entry.lit) l ≡ true) (sym number) a) in
        elim (or-cases (nat_eq (level_of k.trail l) 0) (has S l || has (removable_of k S) l) all) [
          | inl z ↦ true_false (nat_eq (level_of k.trail l) 0) z level
          | inr more ↦ elim (or-cases (has S l) (has (removable_of k S) l) more) [
            | inl s ↦ true_false (has S l) s (is_not_in k S marked n l m unmarked)
            | inr r ↦ true_false (has_var (removable_of k S) l.var) (has_var-has (removable_of k S) l r) kept
          ]
        ]

-- nor where it has no reason
pub reasonless-kept : (k : State) (S : Clause) (v : ℕ) (e : Entry) → IsLawful k.clauses k.trail → entry_of k.trail v ≡ Some e → e.reason ≡ None → has_var (removable_of k S) v ≡ false
reasonless-kept k S v e lawful there none = false_unless (has_var (removable_of k S) v) (λ h. (let r = removable-between k S v e lawful there h in let clash : None ≡ Some r.number = sym none ∙ r.reason in absurd (cc)))

-- more is reached, so more is covered
covered-by-more : (T : Trail) (marked : List Bool) (a b : Minimizer) (l : Literal) → b.removable ≡ a.removable → (is_one_of a.reached.numbers l.var ≡ true → is_one_of b.reached.numbers l.var ≡ true)
    → is_covered_by T marked a l ≡ true → is_covered_by T marked b l ≡ true
covered-by-more T marked a b l same more h = rw same (elim (or-cases zeroth _ h) [
  | inl z ↦ or-left zeroth (mark || (known || is_one_of b.reached.numbers l.var)) z
  | inr x ↦ or-right zeroth (mark || (known || is_one_of b.reached.numbers l.var)) (elim (or-cases mark _ x) [
    | inl m ↦ or-left mark (known || is_one_of b.reached.numbers l.var) m
    | inr y ↦ or-right mark (known || is_one_of b.reached.numbers l.var) (elim (or-cases known (is_one_of a.reached.numbers l.var) y) [
      | inl r ↦ or-left known (is_one_of b.reached.numbers l.var) r
      | inr r ↦ or-right known (is_one_of b.reached.numbers l.var) (more r)
    ])
  ])
])
  where
    zeroth : Bool
    zeroth = nat_eq (level_of T l) 0

    mark : Bool
    mark = slice_index_or marked l.var false

    known : Bool
    known = is_one_of a.removable.numbers l.var

-- one variable more is reached, by the reason of the one at a place
pub record IsReachedBy (at v : ℕ) (a b : Minimizer) : Type 0 where
  pub reached : b.reached.numbers ≡ a.reached.numbers ++ v ∷ []
  pub parents : b.parents.items ≡ a.parents.items ++ at ∷ []
  pub removable : b.removable ≡ a.removable
  pub kept : b.kept ≡ a.kept
  pub bound : b.reached.bound ≡ a.reached.bound

module _ (at v : ℕ) (a b : Minimizer) (h : IsReachedBy at v a b) where
  reached-before : (i : ℕ) → i < length a.reached.numbers → get_or b.reached.numbers i 0 ≡ get_or a.reached.numbers i 0
  reached-before i less = ap (λ (xs : List ℕ). get_or xs i 0) h.reached ∙ get_or-append a.reached.numbers (v ∷ []) 0 i less

  reached-last : get_or b.reached.numbers (length a.reached.numbers) 0 ≡ v
  reached-last = ap (λ (xs : List ℕ). get_or xs (length a.reached.numbers) 0) h.reached ∙ get_or-append_seam a.reached.numbers v [] 0

  reached-more : (w : ℕ) → is_one_of a.reached.numbers w ≡ true → is_one_of b.reached.numbers w ≡ true
  reached-more w t = rw h.reached (list_any-append (nat_eq w) a.reached.numbers (v ∷ []) ∙ or-left (is_one_of a.reached.numbers w) _ t)

  reached-there : is_one_of b.reached.numbers v ≡ true
  reached-there = rw h.reached (list_any-append (nat_eq v) a.reached.numbers (v ∷ []) ∙ or-right (is_one_of a.reached.numbers v) _ (or-left (nat_eq v v) false (eq-eqb v v refl)))

  pub Reaches-reached : Reaches a b
  Reaches-reached = record { many = let long = ap length h.reached ∙ length-append a.reached.numbers (v ∷ []) in omega (arith, long); same = reached-before; bound = h.bound }

-- what is closed stays so
closed-more : (k : State) (marked : List Bool) (a b : Minimizer) (v : ℕ) → b.removable ≡ a.removable → ((w : ℕ) → is_one_of a.reached.numbers w ≡ true → is_one_of b.reached.numbers w ≡ true)
    → IsClosed k marked a v → IsClosed k marked b v
closed-more k marked a b v same more h = record { between = h.between; others = λ l t. covered-by-more k.trail marked a b l same (more l.var) (h.others l t) }

-- a literal that isn't covered is reached
pub IsAsking-reached : (k : State) (S : Clause) (marked : List Bool) (n at : ℕ) (a b : Minimizer) (r : IsBetween k (get_or a.reached.numbers at 0)) (l : Literal) → IsLawful k.clauses k.trail → IsMarked k S marked n
    → at < length a.reached.numbers → has (without (clause_at k.clauses r.number) r.entry.lit) l ≡ true → nat_eq (level_of k.trail l) 0 ≡ false → slice_index_or marked l.var false ≡ false
    → IsBetween k l.var → IsReachedBy at l.var a b → IsAsking k S marked a at → IsAsking k S marked b at
IsAsking-reached k S marked n at a b r l lawful m inside other level unmarked between h q = record {
  known = record { removable = rw h.removable q.known.removable; kept = rw h.kept q.known.kept };
  between = rw h.reached (All-push (IsBetween k) a.reached.numbers l.var q.between between);
  closed = λ i less. rw (reached-before at l.var a b h i (omega (arith, less, inside))) (closed-more k marked a b (get_or a.reached.numbers i 0) h.removable (reached-more at l.var a b h) (q.closed i less));
  parents_many = let many = q.parents_many in let one = ap length h.parents ∙ length-append a.parents.items (at ∷ []) in let two = ap length h.reached ∙ length-append a.reached.numbers (l.var ∷ []) in omega (arith, many, one, two);
  parents = λ i one less. go i one less (cases_lt i (length a.reached.numbers));
}
  where
    many : length a.parents.items ≡ length a.reached.numbers
    many = q.parents_many

    old-parent : (i : ℕ) → i < length a.reached.numbers → get_or b.parents.items i 0 ≡ get_or a.parents.items i 0
    old-parent i less = ap (λ (xs : List ℕ). get_or xs i 0) h.parents ∙ get_or-append a.parents.items (at ∷ []) 0 i (omega (arith, less, many))

    new-parent : get_or b.parents.items (length a.reached.numbers) 0 ≡ at
    new-parent = ap (λ i. get_or b.parents.items i 0) (sym many) ∙ (ap (λ (xs : List ℕ). get_or xs (length a.parents.items) 0) h.parents ∙ get_or-append_seam a.parents.items at [] 0)

    long : length b.reached.numbers ≡ length a.reached.numbers + 1
    long = ap length h.reached ∙ length-append a.reached.numbers (l.var ∷ [])

    go : (i : ℕ) → 1 ≤ i → i < length b.reached.numbers → (i < length a.reached.numbers) ⊎ (length a.reached.numbers ≤ i) → HasParent k S b i
    go i one less (inl low) =
        let was = q.parents i one low in
        let parent = old-parent i low in
        let before = was.before in
        let here = reached-before at l.var a b h i low in
        let there = reached-before at l.var a b h (get_or a.parents.items i 0) (omega (arith, before, low)) in
        record { before = omega (arith, parent, before); kept = λ t. rw (parent, there) (was.kept (rw here at t)) }
    go i one less (inr high) =
        let last : i ≡ length a.reached.numbers = omega (arith, less, high, long) in
        let parent : get_or b.parents.items i 0 ≡ at = ap (λ j. get_or b.parents.items j 0) last ∙ new-parent in
        let here : get_or b.reached.numbers i 0 ≡ l.var = ap (λ j. get_or b.reached.numbers j 0) last ∙ reached-last at l.var a b h in
        let there = reached-before at l.var a b h at inside in
        record {
          before = omega (arith, parent, last, inside);
          kept = λ t. rw (parent, there) (uncovered-kept k S marked n (get_or a.reached.numbers at 0) r l lawful m other level unmarked (rw here at t));
        }

-- another literal than the entry's own
pub other-literal : (k : State) (v : ℕ) (b : IsBetween k v) (c : Clause) (reached : List ℕ) (l : Literal) → IsPermutation (clause_at k.clauses b.number) c → is_one_of reached v ≡ true → has c l ≡ true
    → is_one_of reached l.var ≡ false → has (without (clause_at k.clauses b.number) b.entry.lit) l ≡ true
other-literal k v b c reached l p there a new =
    has-without (clause_at k.clauses b.number) b.entry.lit l (has-permuted (clause_at k.clauses b.number) c l p ∙ a)
    (false_unless (same b.entry.lit l) (λ t. (
    let it : b.entry.lit ≡ l = same-eq b.entry.lit l t in
    let var : l.var ≡ v = ap (λ (x : Literal). x.var) (sym it) ∙ (entry_of-there k.trail v b.entry b.there).0 in
    true_false (is_one_of reached l.var) (ap (is_one_of reached) var ∙ there) new)))

-- one more is closed
pub IsAsking-closed : (k : State) (S : Clause) (marked : List Bool) (at : ℕ) (a : Minimizer) (c : Clause) → at < length a.reached.numbers → IsReasonOf k (get_or a.reached.numbers at 0) c
    → ((l : Literal) → has c l ≡ true → is_covered_by k.trail marked a l ≡ true) → IsAsking k S marked a at → IsAsking k S marked a (at + 1)
IsAsking-closed k S marked at a c inside r covered q = record {
  known = q.known;
  between = q.between;
  closed = λ i less. go i less (cases_lt i at);
  parents_many = q.parents_many;
  parents = q.parents;
}
  where
    here : IsClosed k marked a (get_or a.reached.numbers at 0)
    here = record {
      between = r.between;
      others = λ l t. covered l (sym (has-permuted (clause_at k.clauses r.between.number) c l r.permuted) ∙ (has-from_without (clause_at k.clauses r.between.number) r.between.entry.lit l t).0);
    }

    go : (i : ℕ) → i < at + 1 → (i < at) ⊎ (at ≤ i) → IsClosed k marked a (get_or a.reached.numbers i 0)
    go i less (inl low) = q.closed i low
    go i less (inr high) = let same : i ≡ at = omega (arith, less, high) in subst (λ j. IsClosed k marked a (get_or a.reached.numbers j 0)) (sym same) here

-- where all that was reached is closed, it is removable: what comes first on the trail first
pub closed-removable : (k : State) (S : Clause) (marked : List Bool) (n : ℕ) (a : Minimizer) → IsLawful k.clauses k.trail → IsMarked k S marked n → IsAsking k S marked a (length a.reached.numbers)
    → (v : ℕ) → is_one_of a.reached.numbers v ≡ true → has_var (removable_of k S) v ≡ true
closed-removable k S marked n a lawful m q v t = below (length k.trail) v t (λ e p at var. placed-inside k.trail p e at)
  where
    closed : (v : ℕ) → is_one_of a.reached.numbers v ≡ true → IsClosed k marked a v
    closed v t = let at = index_of a.reached.numbers v t in subst (IsClosed k marked a) at.2 (q.closed at.0 at.1)

    -- a literal of the reason, where those reached that come before are removable
    covered : (v : ℕ) (c : IsClosed k marked a v) (r : IsReasoned k v c.between) (l : Literal) → has (without (clause_at k.clauses c.between.number) c.between.entry.lit) l ≡ true
        → (is_one_of a.reached.numbers l.var ≡ true → has_var (removable_of k S) l.var ≡ true) → is_covered_in k.trail S (removable_of k S) l ≡ true
    covered v c r l o more = covered-literal k S marked n l lawful m (false-below k.trail r.place l (other-false k v c.between r l o)) (elim (or-cases (nat_eq (level_of k.trail l) 0) _ (c.others l o)) [
      | inl z ↦ inl z
      | inr x ↦ inr (elim (or-cases (slice_index_or marked l.var false) _ x) [
        | inl y ↦ inl y
        | inr y ↦ inr (elim (or-cases (is_one_of a.removable.numbers l.var) (is_one_of a.reached.numbers l.var) y) [ inl w ↦ q.known.removable l.var w | inr w ↦ more w ])
      ])
    ])

    below : (bound v : ℕ) → is_one_of a.reached.numbers v ≡ true → ((e : Entry) → (p : ℕ) → slice_get k.trail p ≡ Some e → e.lit.var ≡ v → p < bound) → has_var (removable_of k S) v ≡ true
    below zero v t less =
        let c = closed v t in
        let r = reasoned k v c.between lawful in
        let none : r.place < 0 = less c.between.entry r.place r.at r.is_var in
        absurd (omega (arith, none))
    below (suc bound) v t less =
        let c = closed v t in
        let r = reasoned k v c.between lawful in
        let first : r.place < suc bound = less c.between.entry r.place r.at r.is_var in
        between-removable k S v c.between lawful (λ l o. covered v c r l o (λ w. below bound l.var w (λ e p at var. (
        let f = placed k.trail r.place (negated l) (other-false k v c.between r l o) in
        let var_is : e.lit.var ≡ f.entry.lit.var = var ∙ ap (λ (x : Literal). x.var) (sym f.is) in
        let one = places-distinct k.clauses k.trail p f.place e f.entry lawful at f.at var_is in
        let before = f.below in
        omega (arith, one, before, first)))))

-- a literal of a reason is over the variables
pub reason-variable : (k : State) (v : ℕ) (c : Clause) (l : Literal) → IsLawful k.clauses k.trail → All (IsOver k.vars) k.clauses → IsReasonOf k v c → has c l ≡ true → l.var ≤ k.vars
reason-variable k v c l lawful over r a =
    let numbered = (reasoned k v r.between lawful).reason.numbered in
    (clause_at-over k.vars k.clauses r.between.number over numbered.0 numbered.1 l (has-permuted (clause_at k.clauses r.between.number) c l r.permuted ∙ a)).1

-- a literal that isn't known, of a variable between
pub between-literal : (k : State) (v : ℕ) (b : IsBetween k v) (l : Literal) (e : Entry) (n : ℕ) → IsLawful k.clauses k.trail → has (without (clause_at k.clauses b.number) b.entry.lit) l ≡ true
    → entry_of k.trail l.var ≡ Some e → 1 ≤ e.level → e.reason ≡ Some n → IsBetween k l.var
between-literal k v b l e n lawful a there above reason = record {
  entry = e;
  there = there;
  above = above;
  lower = let low = other-lower k v b l lawful a in let level : level_of k.trail l ≡ e.level = ap level_at there in omega (arith, low, level);
  number = n;
  reason = reason;
}

pub one_of-at : (xs : List ℕ) (i : ℕ) → i < length xs → is_one_of xs (get_or xs i 0) ≡ true
one_of-at [] i less = absurd (omega (arith, less))
one_of-at (x ∷ xs) zero less = or-left (nat_eq x x) (is_one_of xs x) (eq-eqb x x refl)
one_of-at (x ∷ xs) (suc i) less = or-right (nat_eq (get_or xs i 0) x) (is_one_of xs (get_or xs i 0)) (one_of-at xs i (omega (arith, less)))

-- the literals up to a place, and the one there
pub has-take : (c : Clause) (i : ℕ) (d k : Literal) → i < length c → has (take (i + 1) c) k ≡ true → (has (take i c) k ≡ true) ⊎ (k ≡ get_or c i d)
has-take c i d k less a = elim (has-append_cases (take i c) (get_or c i d ∷ []) k (subst (λ (x : Clause). has x k ≡ true) (take_more c i d less) a)) [
  | inl h ↦ inl h
  | inr h ↦ elim (has-cases (get_or c i d) k [] h) [ inl e ↦ inr e | inr z ↦ absurd (cc) ]
]

pub Reaches-trans : (a b c : Minimizer) → Reaches a b → Reaches b c → Reaches a c
Reaches-trans a b c h g = record {
  many = let one = h.many in let two = g.many in omega (arith, one, two);
  same = λ i less. (let one = h.many in g.same i (omega (arith, one, less)) ∙ h.same i less);
  bound = g.bound ∙ h.bound;
}

-- what is known of a question goes on with a literal that is covered, and with one that is reached
pub record GoesThrough (k : State) (marked : List Bool) (n at i : ℕ) (c : Clause) (old now : Minimizer) : Type 0 where
  pub asking : (S : Clause) → IsMarked k S marked n → IsAsking k S marked old at → IsAsking k S marked now at
  pub covered : (l : Literal) → has (take i c) l ≡ true → is_covered_by k.trail marked now l ≡ true
  pub reaches : Reaches old now
  pub known : KnowsStill old now
  pub room : HasRoomFor k.vars now

pub GoesThrough-covered : (k : State) (marked : List Bool) (n at i : ℕ) (c : Clause) (old now : Minimizer) (l : Literal) → i < length c → l ≡ get_or c i l → is_covered_by k.trail marked now l ≡ true
    → GoesThrough k marked n at i c old now → GoesThrough k marked n at (i + 1) c old now
GoesThrough-covered k marked n at i c old now l less is covered h = record {
  asking = h.asking;
  covered = λ x a. elim (has-take c i l x less a) [ inl before ↦ h.covered x before | inr e ↦ subst (λ (y : Literal). is_covered_by k.trail marked now y ≡ true) (sym (e ∙ sym is)) covered ];
  reaches = h.reaches;
  known = h.known;
  room = h.room;
}

pub GoesThrough-reached : (k : State) (marked : List Bool) (n at i : ℕ) (c : Clause) (old now next : Minimizer) (l : Literal) (e : Entry) (m : ℕ) → IsLawful k.clauses k.trail → at < length old.reached.numbers
    → IsReasonOf k (get_or old.reached.numbers at 0) c → i < length c → l ≡ get_or c i l → has c l ≡ true → is_one_of now.reached.numbers l.var ≡ false → nat_eq (level_of k.trail l) 0 ≡ false
    → slice_index_or marked l.var false ≡ false → entry_of k.trail l.var ≡ Some e → 1 ≤ e.level → e.reason ≡ Some m → IsReachedBy at l.var now next
    → GoesThrough k marked n at i c old now → GoesThrough k marked n at (i + 1) c old next
GoesThrough-reached k marked n at i c old now next l e m lawful inside reason less is a new level unmarked there above by r h = record {
  asking = λ S w q. IsAsking-reached k S marked n at now next here.between l lawful w inside_now other level unmarked between r (h.asking S w q);
  covered = λ x b. elim (has-take c i l x less b) [
    | inl before ↦ covered-by-more k.trail marked now next x r.removable (reached-more at l.var now next r x.var) (h.covered x before)
    | inr same_literal ↦ subst (λ (y : Literal). is_covered_by k.trail marked next y ≡ true) (sym (same_literal ∙ sym is)) own
  ];
  reaches = Reaches-trans old now next h.reaches (Reaches-reached at l.var now next r);
  known = λ v t. rw (r.removable, r.kept) (h.known v t);
  room = record {
    reached = let room = h.room.reached in let bound = r.bound in omega (arith, room, bound);
    removable = ap (λ (s : NumberSet). s.bound) r.removable ∙ (h.room.removable ∙ sym r.bound);
    kept = ap (λ (s : NumberSet). s.bound) r.kept ∙ (h.room.kept ∙ sym r.bound);
  };
}
  where
    inside_now : at < length now.reached.numbers
    inside_now = let many = h.reaches.many in omega (arith, many, inside)

    here : IsReasonOf k (get_or now.reached.numbers at 0) c
    here = subst (λ v. IsReasonOf k v c) (sym (h.reaches.same at inside)) reason

    other : has (without (clause_at k.clauses here.between.number) here.between.entry.lit) l ≡ true
    other = other-literal k (get_or now.reached.numbers at 0) here.between c now.reached.numbers l here.permuted (one_of-at now.reached.numbers at inside_now) a new

    between : IsBetween k l.var
    between = between-literal k (get_or now.reached.numbers at 0) here.between l e m lawful other there above by

    own : is_covered_by k.trail marked next l ≡ true
    own =
        let in_reached = or-right (is_one_of next.removable.numbers l.var) (is_one_of next.reached.numbers l.var) (reached-there at l.var now next r) in
        or-right (nat_eq (level_of k.trail l) 0) _ (or-right (slice_index_or marked l.var false) _ in_reached)

-- a literal that isn't removable
pub GoesThrough-kept : (k : State) (S : Clause) (marked : List Bool) (n at i : ℕ) (c : Clause) (old now : Minimizer) (l : Literal) → IsLawful k.clauses k.trail → IsMarked k S marked n → at < length old.reached.numbers
    → IsReasonOf k (get_or old.reached.numbers at 0) c → has c l ≡ true → is_one_of now.reached.numbers l.var ≡ false → nat_eq (level_of k.trail l) 0 ≡ false → slice_index_or marked l.var false ≡ false
    → (is_one_of now.kept.numbers l.var ≡ true) ⊎ ((e : Entry) × (entry_of k.trail l.var ≡ Some e) × (e.reason ≡ None)) → GoesThrough k marked n at i c old now → IsAsking k S marked old at
    → IsAnswered k S marked at false now
GoesThrough-kept k S marked n at i c old now l lawful w inside reason a new level unmarked why h q = (
  asking,
  uncovered-kept k S marked n (get_or now.reached.numbers at 0) here.between l lawful w other level unmarked (kept why),
)
  where
    asking : IsAsking k S marked now at
    asking = h.asking S w q

    inside_now : at < length now.reached.numbers
    inside_now = let many = h.reaches.many in omega (arith, many, inside)

    here : IsReasonOf k (get_or now.reached.numbers at 0) c
    here = subst (λ v. IsReasonOf k v c) (sym (h.reaches.same at inside)) reason

    other : has (without (clause_at k.clauses here.between.number) here.between.entry.lit) l ≡ true
    other = other-literal k (get_or now.reached.numbers at 0) here.between c now.reached.numbers l here.permuted (one_of-at now.reached.numbers at inside_now) a new

    kept : (is_one_of now.kept.numbers l.var ≡ true) ⊎ ((e : Entry) × (entry_of k.trail l.var ≡ Some e) × (e.reason ≡ None)) → has_var (removable_of k S) l.var ≡ false
    kept (inl t) = asking.known.kept l.var t
    kept (inr r) = reasonless-kept k S l.var r.0 lawful r.1 r.2

-- all literals are covered
pub GoesThrough-all : (k : State) (S : Clause) (marked : List Bool) (n at i : ℕ) (c : Clause) (old now : Minimizer) → IsMarked k S marked n → at < length old.reached.numbers
    → IsReasonOf k (get_or old.reached.numbers at 0) c → length c ≤ i → GoesThrough k marked n at i c old now → IsAsking k S marked old at → IsAnswered k S marked at true now
GoesThrough-all k S marked n at i c old now w inside reason end h q =
    IsAsking-closed k S marked at now c (let many = h.reaches.many in omega (arith, many, inside)) (subst (λ v. IsReasonOf k v c) (sym (h.reaches.same at inside)) reason)
    (λ l a. h.covered l (subst (λ (x : Clause). has x l ≡ true) (sym (take_all i c (omega (arith, end)))) a)) (h.asking S w q)

-- the reason that is read is that of the variable
reason-read : (k : State) (v : ℕ) (b : IsBetween k v) (n : ℕ) → Some n ≡ reason_at (entry_of k.trail v) → n ≡ b.number
reason-read k v b n h =
    let it : Some n ≡ Some b.number = h ∙ (ap reason_at b.there ∙ b.reason) in
    cc

pub between-numbered : (k : State) (v : ℕ) (b : IsBetween k v) (n : ℕ) → IsLawful k.clauses k.trail → Some n ≡ reason_at (entry_of k.trail v) → (1 ≤ n) × (n ≤ length k.clauses)
between-numbered k v b n lawful h = rw (reason-read k v b n h) (reasoned k v b lawful).reason.numbered

pub IsReasonOf-arranged : (k : State) (v : ℕ) (b : IsBetween k v) (n : ℕ) (c : Clause) → Some n ≡ reason_at (entry_of k.trail v) → IsPermutation (clause_at k.clauses n) c → IsReasonOf k v c
IsReasonOf-arranged k v b n c h p = record { between = b; permuted = subst (λ m. IsPermutation (clause_at k.clauses m) c) (reason-read k v b n h) p }

-- a question that is refused
pub IsKnown-refused : (k : State) (S : Clause) (marked : List Bool) (at : ℕ) (old new : Minimizer) → IsAnswered k S marked at false old → new.removable ≡ old.removable
    → ((p : ℕ → Bool) → p (get_or old.reached.numbers at 0) ≡ false → ((i : ℕ) → 1 ≤ i → i < length old.reached.numbers → p (get_or old.reached.numbers i 0) ≡ false → p (get_or old.reached.numbers (get_or old.parents.items i 0) 0) ≡ false)
    → ((v : ℕ) → is_one_of old.kept.numbers v ≡ true → p v ≡ false) → (v : ℕ) → is_one_of new.kept.numbers v ≡ true → p v ≡ false) → IsKnown k S new
IsKnown-refused k S marked at old new h removable kept = record {
  removable = rw removable h.0.known.removable;
  kept = kept (has_var (removable_of k S)) h.1 (λ i one less. (h.0.parents i one less).kept) h.0.known.kept;
}

-- a question that is accepted
pub IsKnown-accepted : (k : State) (S : Clause) (marked : List Bool) (n at : ℕ) (old new : Minimizer) → IsLawful k.clauses k.trail → IsMarked k S marked n → IsAsking k S marked old at → length old.reached.numbers ≤ at
    → at ≤ length old.reached.numbers → new.kept ≡ old.kept → ((v : ℕ) → is_one_of new.removable.numbers v ≡ (is_one_of old.reached.numbers v || is_one_of old.removable.numbers v)) → IsKnown k S new
IsKnown-accepted k S marked n at old new lawful w h end most kept removable = record {
  removable = λ v t. elim (or-cases (is_one_of old.reached.numbers v) (is_one_of old.removable.numbers v) (sym (removable v) ∙ t)) [
    | inl r ↦ closed-removable k S marked n old lawful w (subst (λ i. IsAsking k S marked old i) (let same : at ≡ length old.reached.numbers = omega (arith, end, most) in same) h) v r
    | inr r ↦ h.known.removable v r
  ];
  kept = rw kept h.known.kept;
}

-- a variable between is one of the variables
pub between-variable : (k : State) (v : ℕ) → IsBetween k v → IsOver k.vars (literals k.trail) → v ≤ k.vars
between-variable k v b over =
    let there = entry_of-there k.trail v b.entry b.there in
    let most = (AreOver-from_IsOver k.vars (literals k.trail) over b.entry.lit there.1).1 in
    let is = there.0 in
    omega (arith, most, is)

-- the numbers up to a place, and the one there
pub one_of-take : (xs : List ℕ) (i d v : ℕ) → i < length xs → is_one_of (take (i + 1) xs) v ≡ true → (is_one_of (take i xs) v ≡ true) ⊎ (v ≡ get_or xs i d)
one_of-take xs i d v less h =
    elim (or-cases (is_one_of (take i xs) v) (is_one_of (get_or xs i d ∷ []) v) (sym (list_any-append (nat_eq v) (take i xs) (get_or xs i d ∷ [])) ∙ (ap (λ (ys : List ℕ). is_one_of ys v) (sym (take_more xs i d less)) ∙ h))) [
      | inl b ↦ inl b
      | inr e ↦ elim (or-cases (nat_eq v (get_or xs i d)) false e) [ inl q ↦ inr (eqb-true v (get_or xs i d) q) | inr z ↦ absurd (cc) ]
    ]
