-- The changes by which a variable is eliminated are fit, whichever variable it is: each resolvent's
-- line passes, and what is left implies all resolvents.
use Rattle.std.proofs.Common.{◌≡◌, ℕ, ◌+◌, ◌<◌, ◌≤◌, Bool, true, false, not, ◌&&◌, ◌||◌, List, [], ◌∷◌, ◌++◌, map, refl, ap, sym, subst, ◌∙◌, ◌⊎◌, inl, inr, Contains, nat_eq, eqb-true, Some, is_some, arith, flat_map, if◌then◌else◌}
use Rattle.std.specs.List.{list_any, list_all}
use Rattle.theory.specs.Literals.{Literal, Clause, IsVariable, negated, negations, positive, negative, same, has, has_var, has_both_signs, without}
use Rattle.theory.specs.Truth.{Formula, IsFormula, IsOver}
use Rattle.theory.specs.Learning.{Line}
use Rattle.theory.specs.Checking.{Numbered, numbered_from, clause_of, without_number, take_hints}
use Rattle.theory.specs.Deletions.{is_among, without_numbers}
use Rattle.theory.specs.Simplifying.{unsimplified, AreNumbered, resolvent, Simplified, Change, adds, drops, eliminates, clauses_in, having, changed, changed_by, is_implied, AreResolved, IsEliminable, IsAddable, AreFit}
use Rattle.theory.specs.Eliminating.{clause_there, numbers_of, holders, units_of, first_or, left_sides, right_sides, resolvent_line, resolvent_lines, gone_with, elimination, tidying, IsTidy}
use Rattle.theory.proofs.literals.LiteralLemmas.{and-left, and-right, or-left, or-right, not_true, true_or_false}
use Rattle.theory.proofs.literals.LiteralSets.{or-none, true_false, false_unless, has-append_left, has-append_right, has-append_cases, has-from_without, has-with_literals, has-from_with_literals, has_var-none, has_var-has, same_variable, other-same, list_all-has}
use Rattle.theory.proofs.literals.OverVariables.{AreOver-from_IsOver, IsOver-from_AreOver}
use Rattle.theory.proofs.literals.Membership.{All-at, Contains-here, Contains-there, Contains-cases, Contains-none, Contains-map, map-Contains, Contains-flat_map, flat_map-Contains}
use Rattle.theory.proofs.checker.Hints.{list_all-from}
use Rattle.theory.proofs.checker.LeftHints.{found}
use Rattle.theory.proofs.checker.FewerClauses.{deleted-there}
use Rattle.theory.proofs.simplifying.ListTests.{all-from, any-from, filter-has, has-filter_of}
use Rattle.theory.proofs.simplifying.Elimination.{entry-there, without_numbers-has, without_numbers-of}
use Rattle.theory.proofs.simplifying.Simplifications.{AreNumbered-formula, simplification-begins, AreNumbered-all, AreNumbered-changed, clause_of-there}
use Rattle.theory.proofs.simplifying.Resolvents.{resolvent-addable, implied-more}
use Rattle.theory.proofs.simplifying.NumberedClauses.{among-Contains, Contains-among, are_different-numbers_of, numbers_of-has, has-numbers_of, there-of, clause_there-is}

-- a line that follows from two clauses of s by the variable x
pub record IsOfTwo (V x : ℕ) (s : Simplified) (line : Line) : Type 0 where
  pub i : ℕ
  pub j : ℕ
  pub c : Clause
  pub d : Clause
  pub hints : line.hints ≡ i ∷ j ∷ []
  pub first : clause_of s.clauses i ≡ Some c
  pub second : clause_of s.clauses j ≡ Some d
  pub holds : has c (positive x) ≡ true
  pub all : list_all (has line.clause) (resolvent (positive x) c d) ≡ true
  pub lacks : has_var line.clause x ≡ false
  pub one_sign : has_both_signs line.clause ≡ false
  pub over : IsOver V line.clause

-- t has the clauses of s, and more behind them
pub record IsMore (s t : Simplified) : Type 0 where
  pub kept : (n : ℕ) → n ≤ s.last → clause_of t.clauses n ≡ clause_of s.clauses n
  pub longer : s.last ≤ t.last

IsMore-added : (s t : Simplified) (line : Line) → IsMore s t → IsMore s (changed t (adds line))
IsMore-added s t line h = record {
  kept = λ n l. (let long = h.longer in
      let other : nat_eq (t.last + 1) n ≡ false = false_unless (nat_eq (t.last + 1) n) (λ q. let e : t.last + 1 ≡ n = eqb-true (t.last + 1) n q in omega arith) in
      ap (λ b. if b then Some line.clause else clause_of t.clauses n) other ∙ h.kept n l);
  longer = let long = h.longer in omega arith;
}

IsAddable-of_two : (V x : ℕ) (s t : Simplified) (line : Line) → AreNumbered s.last s.clauses → IsMore s t → IsOfTwo V x s line → IsAddable V t.clauses line
IsAddable-of_two V x s t line numbered more two =
    let fit = resolvent-addable V t.clauses (positive x) two.c two.d line.clause two.i two.j (at two.i two.c two.first) (at two.j two.d two.second) two.holds two.all two.lacks two.one_sign two.over in
    record {
      passes = ap (take_hints t.clauses (negations line.clause)) two.hints ∙ fit.passes;
      one_sign = two.one_sign;
      over = two.over;
    }
  where
    at : (n : ℕ) (c : Clause) → clause_of s.clauses n ≡ Some c → clause_of t.clauses n ≡ Some c
    at n c e = more.kept n (numbered.within n c e).1 ∙ e

-- such lines are added one after the other
all-added : (V x : ℕ) (s t : Simplified) (ls : List Line) → AreNumbered s.last s.clauses → IsMore s t → ((line : Line) → Contains ls line → IsOfTwo V x s line)
    → AreFit V t (map adds ls) × IsMore s (changed_by t (map adds ls))
all-added V x s t [] numbered more two = (tt, more)
all-added V x s t (line ∷ ls) numbered more two =
    let rest = all-added V x s (changed t (adds line)) ls numbered (IsMore-added s t line more) (λ k c. two k (Contains-there line ls k c)) in
    ((IsAddable-of_two V x s t line numbered more (two line (Contains-here line ls)), rest.0), rest.1)

pub AreFit-append : (V : ℕ) (s : Simplified) (xs ys : List Change) → AreFit V s xs → AreFit V (changed_by s xs) ys → AreFit V s (xs ++ ys)
AreFit-append V s [] ys h k = k
AreFit-append V s (c ∷ xs) ys h k = (h.0, AreFit-append V (changed s c) xs ys h.1 k)

pub changed_by-append : (s : Simplified) (xs ys : List Change) → changed_by s (xs ++ ys) ≡ changed_by (changed_by s xs) ys
changed_by-append s [] ys = refl
changed_by-append s (c ∷ xs) ys = changed_by-append (changed s c) xs ys

-- what is there then was there, or is a line's clause
added-of : (t : Simplified) (ls : List Line) (e : ℕ × Clause) → Contains (changed_by t (map adds ls)).clauses e → Contains t.clauses e ⊎ ((line : Line) × Contains ls line × (e.1 ≡ line.clause))
added-of t [] e c = inl c
added-of t (line ∷ ls) e c = elim (added-of (changed t (adds line)) ls e c) [
  | inl old ↦ elim (Contains-cases (t.last + 1, line.clause) t.clauses e old) [
    | inl i ↦ inr (line, Contains-here line ls, ap (λ (x : ℕ × Clause). x.1) (sym i))
    | inr r ↦ inl r
  ]
  | inr new ↦ inr (new.0, Contains-there line ls new.0 new.1, new.2)
]

added-keep : (t : Simplified) (ls : List Line) (e : ℕ × Clause) → Contains t.clauses e → Contains (changed_by t (map adds ls)).clauses e
added-keep t [] e c = c
added-keep t (line ∷ ls) e c = added-keep (changed t (adds line)) ls e (Contains-there (t.last + 1, line.clause) t.clauses e c)

added-there : (t : Simplified) (ls : List Line) (line : Line) → Contains ls line → (n : ℕ) × Contains (changed_by t (map adds ls)).clauses (n, line.clause) × (t.last < n)
added-there t [] line c = absurd (Contains-none line c)
added-there t (k ∷ ls) line c = go (Contains-cases k ls line c) (added-there (changed t (adds k)) ls line)
  where
    go : (k ≡ line) ⊎ Contains ls line
        → (Contains ls line → (n : ℕ) × Contains (changed_by (changed t (adds k)) (map adds ls)).clauses (n, line.clause) × (t.last + 1 < n))
        → (n : ℕ) × Contains (changed_by t (map adds (k ∷ ls))).clauses (n, line.clause) × (t.last < n)
    go (inl e) more = (
      t.last + 1,
      added-keep (changed t (adds k)) ls (t.last + 1, line.clause) (subst (λ (z : Line). Contains (changed t (adds k)).clauses (t.last + 1, z.clause)) e (Contains-here (t.last + 1, k.clause) t.clauses)),
      omega arith,
    )
    go (inr r) more = let m = more r in let low = m.2 in (m.0, m.1, omega arith)

-- who is resolved with whom
sides-holders : (l : Literal) (s : Simplified) (all : List ℕ) (n : ℕ) → Contains (first_or (units_of l s) all) n → (Contains (units_of l s) n) ⊎ Contains all n
sides-holders l s all n c = go (units_of l s) c
  where
    go : (us : List ℕ) → Contains (first_or us all) n → Contains us n ⊎ Contains all n
    go [] k = inr k
    go (u ∷ us) k = inl (elim (Contains-cases u [] n k) [ inl e ↦ subst (λ z. Contains (z ∷ us) n) (sym e) (Contains-here n us) | inr none ↦ absurd (Contains-none n none) ])

unit-holds : (l : Literal) (s : Simplified) (n : ℕ) → Contains (units_of l s) n → Contains (holders l s) n
unit-holds l s n c =
    let it = has-numbers_of (λ c. has c l && list_all (same l) c) s n c in
    numbers_of-has (λ c. has c l) s n it.0 it.1 (and-left (has (clause_there s n) l) (list_all (same l) (clause_there s n)) it.2)

first_or-holds : (l : Literal) (s : Simplified) (n : ℕ) → Contains (first_or (units_of l s) (holders l s)) n → Contains (holders l s) n
first_or-holds l s n c = elim (sides-holders l s (holders l s) n c) [ inl u ↦ unit-holds l s n u | inr h ↦ h ]

left-holds : (x : ℕ) (s : Simplified) (n : ℕ) → Contains (left_sides x s) n → Contains (holders (positive x) s) n
left-holds x s n c = first_or-holds (positive x) s n c

right-holds : (x : ℕ) (s : Simplified) (n : ℕ) → Contains (right_sides x s) n → Contains (holders (negative x) s) n
right-holds x s n c = go (units_of (positive x) s) c
  where
    go : (us : List ℕ) → Contains (elim us [ [] ↦ first_or (units_of (negative x) s) (holders (negative x) s) | u ∷ us ↦ holders (negative x) s ]) n → Contains (holders (negative x) s) n
    go [] k = first_or-holds (negative x) s n k
    go (u ∷ us) k = k

-- a unit clause has nothing but its literal
unit-alone : (l : Literal) (s : Simplified) (n : ℕ) (k : Literal) → Contains (units_of l s) n → has (without (clause_there s n) l) k ≡ true → ⊥
unit-alone l s n k c a =
    let it = has-numbers_of (λ c. has c l && list_all (same l) c) s n c in
    let w = has-from_without (clause_there s n) l k a in
    true_false (same l k) (list_all-has (same l) (clause_there s n) k (and-right (has (clause_there s n) l) (list_all (same l) (clause_there s n)) it.2) w.0) w.1

-- for each pair there is one that is resolved, whose resolvent has no other literals
pub record IsCovered (x : ℕ) (s : Simplified) (i j : ℕ) : Type 0 where
  pub left : ℕ
  pub right : ℕ
  pub in_left : Contains (left_sides x s) left
  pub in_right : Contains (right_sides x s) right
  pub fewer : (k : Literal) → has (resolvent (positive x) (clause_there s left) (clause_there s right)) k ≡ true
      → has (resolvent (positive x) (clause_there s i) (clause_there s j)) k ≡ true

covered : (x : ℕ) (s : Simplified) (i j : ℕ) → Contains (holders (positive x) s) i → Contains (holders (negative x) s) j → IsCovered x s i j
covered x s i j a b = go (units_of (positive x) s) refl
  where
    rights : List ℕ → List ℕ
    rights us = elim us [ [] ↦ first_or (units_of (negative x) s) (holders (negative x) s) | u ∷ us ↦ holders (negative x) s ]

    lefts : List ℕ → List ℕ
    lefts us = first_or us (holders (positive x) s)

    none : units_of (positive x) s ≡ [] → (us : List ℕ) → units_of (negative x) s ≡ us → IsCovered x s i j
    none e [] f = record {
      left = i;
      right = j;
      in_left = subst (λ us. Contains (lefts us) i) (sym e) a;
      in_right = subst (λ us. Contains (rights us) j) (sym e) (subst (λ us. Contains (first_or us (holders (negative x) s)) j) (sym f) b);
      fewer = λ k h. h;
    }
    none e (u ∷ us) f = record {
      left = i;
      right = u;
      in_left = subst (λ us. Contains (lefts us) i) (sym e) a;
      in_right = subst (λ us. Contains (rights us) u) (sym e) (subst (λ us. Contains (first_or us (holders (negative x) s)) u) (sym f) (Contains-here u []));
      fewer = λ k h. (elim (has-append_cases (without (clause_there s i) (positive x)) (without (clause_there s u) (negative x)) k h) [
        | inl l ↦ has-append_left (without (clause_there s i) (positive x)) (without (clause_there s j) (negative x)) k l
        | inr r ↦ absurd (unit-alone (negative x) s u k (subst (λ us. Contains us u) (sym f) (Contains-here u us)) r)
      ]);
    }

    go : (us : List ℕ) → units_of (positive x) s ≡ us → IsCovered x s i j
    go [] e = none e (units_of (negative x) s) refl
    go (u ∷ us) e = record {
      left = u;
      right = j;
      in_left = subst (λ us. Contains (lefts us) u) (sym e) (Contains-here u []);
      in_right = subst (λ us. Contains (rights us) j) (sym e) b;
      fewer = λ k h. (elim (has-append_cases (without (clause_there s u) (positive x)) (without (clause_there s j) (negative x)) k h) [
        | inl l ↦ absurd (unit-alone (positive x) s u k (subst (λ us. Contains us u) (sym e) (Contains-here u us)) l)
        | inr r ↦ has-append_right (without (clause_there s i) (positive x)) (without (clause_there s j) (negative x)) k r
      ]);
    }

-- a clause without a variable in both signs
apart : (c : Clause) (l : Literal) → has_both_signs c ≡ false → has c l ≡ true → has c (negated l) ≡ true → ⊥
apart c l h a b = true_false (has_both_signs c) (found c c l a b) h

-- a clause with a literal of x lacks it, but for the literal
lacks-rest : (c : Clause) (l k : Literal) → has_both_signs c ≡ false → has c l ≡ true → has (without c l) k ≡ true → k.var ≡ l.var → ⊥
lacks-rest c l k one a b v = go (same_variable k l v)
  where
    it : (has c k ≡ true) × (same l k ≡ false)
    it = has-from_without c l k b

    go : (k ≡ l) ⊎ (k ≡ negated l) → ⊥
    go (inl e) = other-same l k it.1 (sym e)
    go (inr e) = apart c l one a (subst (λ z. has c z ≡ true) e it.0)

-- each of the lines is of two clauses that are there
line-of_two : (V x : ℕ) (s : Simplified) (i j : ℕ) → IsTidy V s → Contains (holders (positive x) s) i → Contains (holders (negative x) s) j
    → has_both_signs (resolvent_line x s i j).clause ≡ false → IsOfTwo V x s (resolvent_line x s i j)
line-of_two V x s i j tidy a b one = record {
  i = i;
  j = j;
  c = c;
  d = d;
  hints = refl;
  first = first;
  second = second;
  holds = left.2;
  all = list_all-from (has r) (resolvent (positive x) c d) (λ l h. has-with_literals (resolvent (positive x) c d) [] l (inl h));
  lacks = has_var-none r x lacks;
  one_sign = one;
  over = IsOver-from_AreOver V r over;
}
  where
    c : Clause
    c = clause_there s i

    d : Clause
    d = clause_there s j

    r : Clause
    r = (resolvent_line x s i j).clause

    left : (1 ≤ i) × (i ≤ s.last) × (has c (positive x) ≡ true)
    left = has-numbers_of (λ c. has c (positive x)) s i a

    right : (1 ≤ j) × (j ≤ s.last) × (has d (negative x) ≡ true)
    right = has-numbers_of (λ c. has c (negative x)) s j b

    first : clause_of s.clauses i ≡ Some c
    first = there-of (λ c. has c (positive x)) s i refl left.2

    second : clause_of s.clauses j ≡ Some d
    second = there-of (λ c. has c (negative x)) s j refl right.2

    from : (k : Literal) → has r k ≡ true → (has (without c (positive x)) k ≡ true) ⊎ (has (without d (negative x)) k ≡ true)
    from k h = elim (has-from_with_literals (resolvent (positive x) c d) [] k h) [
      | inl m ↦ has-append_cases (without c (positive x)) (without d (negative x)) k m
      | inr none ↦ absurd (cc)
    ]

    lacks : (k : Literal) → has r k ≡ true → k.var ≡ x → ⊥
    lacks k h v = elim (from k h) [
      | inl m ↦ lacks-rest c (positive x) k (tidy.one_sign (i, c) (clause_of-there s.clauses i c first)) left.2 m v
      | inr m ↦ lacks-rest d (negative x) k (tidy.one_sign (j, d) (clause_of-there s.clauses j d second)) right.2 m v
    ]

    over : (k : Literal) → has r k ≡ true → IsVariable V k.var
    over k h = elim (from k h) [
      | inl m ↦ AreOver-from_IsOver V c (tidy.over (i, c) (clause_of-there s.clauses i c first)) k (has-from_without c (positive x) k m).0
      | inr m ↦ AreOver-from_IsOver V d (tidy.over (j, d) (clause_of-there s.clauses j d second)) k (has-from_without d (negative x) k m).0
    ]

lines-of_two : (V x : ℕ) (s : Simplified) (line : Line) → IsTidy V s → Contains (resolvent_lines x s) line → IsOfTwo V x s line
lines-of_two V x s line tidy c = go (flat_map-Contains (λ i. map (resolvent_line x s i) (right_sides x s)) (left_sides x s) line it.0)
  where
    it : Contains (flat_map (λ i. map (resolvent_line x s i) (right_sides x s)) (left_sides x s)) line × (not (has_both_signs line.clause) ≡ true)
    it = has-filter_of (λ line. not (has_both_signs line.clause)) (flat_map (λ i. map (resolvent_line x s i) (right_sides x s)) (left_sides x s)) line c

    pair : (i : ℕ) → Contains (left_sides x s) i → (j : ℕ) × Contains (right_sides x s) j × (resolvent_line x s i j ≡ line) → IsOfTwo V x s line
    pair i a m = subst (IsOfTwo V x s) m.2 (line-of_two V x s i m.0 tidy (left-holds x s i a) (right-holds x s m.0 m.1)
        (ap (λ (z : Line). has_both_signs z.clause) m.2 ∙ not_true (has_both_signs line.clause) it.1))

    go : (i : ℕ) × Contains (left_sides x s) i × Contains (map (resolvent_line x s i) (right_sides x s)) line → IsOfTwo V x s line
    go m = pair m.0 m.1 (map-Contains (resolvent_line x s m.0) (right_sides x s) line m.2)

-- what stays has none of the numbers
without_numbers-not : (K : Numbered) (ns : List ℕ) (e : ℕ × Clause) → Contains (without_numbers K ns) e → is_among e.0 ns ≡ false
without_numbers-not K [] e c = refl
without_numbers-not K (n ∷ ns) e c =
    let here = has-filter_of (λ e. not (nat_eq e.0 n)) K e (without_numbers-of (without_number K n) ns e c) in
    or-none (nat_eq e.0 n) (is_among e.0 ns) (not_true (nat_eq e.0 n) here.1) (without_numbers-not (without_number K n) ns e c)

-- what the lines leave
abbrev pub with_lines : ℕ → Simplified → Simplified
with_lines x s = changed_by s (map adds (resolvent_lines x s))

lines-more : (V x : ℕ) (s : Simplified) → IsTidy V s → AreFit V s (map adds (resolvent_lines x s)) × IsMore s (with_lines x s)
lines-more V x s tidy = all-added V x s s (resolvent_lines x s) tidy.numbered (record { kept = λ n l. refl; longer = omega arith }) (λ line c. lines-of_two V x s line tidy c)

-- a clause of s with x is one of those that go
with-gone : (V x : ℕ) (s : Simplified) (e : ℕ × Clause) → IsTidy V s → Contains s.clauses e → has_var e.1 x ≡ true → is_among e.0 (gone_with x s) ≡ true
with-gone V x s e tidy c h =
    let at : clause_of s.clauses e.0 ≡ Some e.1 = tidy.numbered.alone e c in
    let w = tidy.numbered.within e.0 e.1 at in
    Contains-among e.0 (gone_with x s) (numbers_of-has (λ c. has_var c x) s e.0 w.0 w.1 (ap (λ d. has_var d x) (clause_there-is s e.0 e.1 at) ∙ h))

-- a number that goes is that of a clause of s with x
of-gone : (x : ℕ) (s : Simplified) (n : ℕ) → is_among n (gone_with x s) ≡ true → (n ≤ s.last) × (clause_of s.clauses n ≡ Some (clause_there s n)) × (has_var (clause_there s n) x ≡ true)
of-gone x s n a =
    let it = has-numbers_of (λ c. has_var c x) s n (among-Contains n (gone_with x s) a) in
    (it.1, there-of (λ c. has_var c x) s n refl it.2, it.2)

-- a clause that the lines leave, and that has x, was there before
was-there : (V x : ℕ) (s : Simplified) (e : ℕ × Clause) → IsTidy V s → Contains (with_lines x s).clauses e → has_var e.1 x ≡ true → Contains s.clauses e
was-there V x s e tidy c h = elim (added-of s (resolvent_lines x s) e c) [
  | inl old ↦ old
  | inr new ↦ true_false (has_var e.1 x) h (ap (λ d. has_var d x) new.2 ∙ (lines-of_two V x s new.0 tidy new.1).lacks)
]

-- with these lines the variable is eliminable
pub eliminable : (V x : ℕ) (s : Simplified) → IsTidy V s → IsEliminable (with_lines x s).clauses x (gone_with x s)
eliminable V x s tidy = record { there = deleted-there t.clauses ns (are_different-numbers_of (λ c. has_var c x) s) there; have_it = all-from keeps t.clauses have; lack_it = lack; resolved = resolved }
  where
    t : Simplified
    t = with_lines x s

    ns : List ℕ
    ns = gone_with x s

    L : Numbered
    L = without_numbers t.clauses ns

    keeps : ℕ × Clause → Bool
    keeps e = not (is_among e.0 ns) || has_var e.1 x

    more : IsMore s t
    more = (lines-more V x s tidy).1

    numbered : AreNumbered t.last t.clauses
    numbered = AreNumbered-all s (map adds (resolvent_lines x s)) tidy.numbered

    there : (n : ℕ) → is_among n ns ≡ true → is_some (clause_of t.clauses n) ≡ true
    there n a = let g = of-gone x s n a in ap is_some (more.kept n g.0 ∙ g.1)

    have : (e : ℕ × Clause) → Contains t.clauses e → keeps e ≡ true
    have e c = elim (true_or_false (is_among e.0 ns)) [
      | inl a ↦ or-right (not (is_among e.0 ns)) (has_var e.1 x) (
          let g = of-gone x s e.0 a in
          let here : clause_of t.clauses e.0 ≡ Some e.1 = numbered.alone e c in
          let same : clause_there s e.0 ≡ e.1 = clause_there-is s e.0 e.1 (sym (more.kept e.0 g.0) ∙ here) in
          ap (λ d. has_var d x) (sym same) ∙ g.2)
      | inr a ↦ or-left (not (is_among e.0 ns)) (has_var e.1 x) (ap not a)
    ]

    lack-one : (e : ℕ × Clause) → Contains L e → has_var e.1 x ≡ false
    lack-one e c = false_unless (has_var e.1 x) (λ h. true_false (is_among e.0 ns)
        (with-gone V x s e tidy (was-there V x s e tidy (without_numbers-of t.clauses ns e c) h) h) (without_numbers-not t.clauses ns e c))

    lack : list_all (λ c. not (has_var c x)) (clauses_in L) ≡ true
    lack = all-from (λ c. not (has_var c x)) (clauses_in L) (λ c a. (let f = map-Contains (λ e. e.1) L c a in ap (λ d. not (has_var d x)) (sym f.2) ∙ ap not (lack-one f.0 f.1)))

    -- a clause with the literal is that of a holder
    holder : (l : Literal) (c : Clause) → l.var ≡ x → Contains (having l t.clauses) c → (n : ℕ) × Contains (holders l s) n × (clause_there s n ≡ c)
    holder l c v a =
        let h = has-filter_of (λ c. has c l) (clauses_in t.clauses) c a in
        let f = map-Contains (λ e. e.1) t.clauses c h.0 in
        let has_it : has f.0.1 l ≡ true = ap (λ d. has d l) f.2 ∙ h.1 in
        let old = was-there V x s f.0 tidy f.1 (subst (λ y. has_var f.0.1 y ≡ true) v (has_var-has f.0.1 l has_it)) in
        let at : clause_of s.clauses f.0.0 ≡ Some f.0.1 = tidy.numbered.alone f.0 old in
        let w = tidy.numbered.within f.0.0 f.0.1 at in
        let is = clause_there-is s f.0.0 f.0.1 at in
        (f.0.0, numbers_of-has (λ c. has c l) s f.0.0 w.0 w.1 (ap (λ d. has d l) is ∙ has_it), is ∙ f.2)

    -- what is left implies the resolvent of a line
    line-implied : (i j : ℕ) → Contains (left_sides x s) i → Contains (right_sides x s) j → is_implied L (resolvent_line x s i j).clause ≡ true
    line-implied i j a b = go (true_or_false (has_both_signs r))
      where
        line : Line
        line = resolvent_line x s i j

        r : Clause
        r = line.clause

        go : (has_both_signs r ≡ true) ⊎ (has_both_signs r ≡ false) → is_implied L r ≡ true
        go (inl both) = or-left (has_both_signs r) (list_any (λ d. list_all (has r) d) (clauses_in L)) both
        go (inr one) =
            let pairs = flat_map (λ i. map (resolvent_line x s i) (right_sides x s)) (left_sides x s) in
            let among : Contains (resolvent_lines x s) line = filter-has (λ line. not (has_both_signs line.clause)) pairs line
            (Contains-flat_map (λ i. map (resolvent_line x s i) (right_sides x s)) (left_sides x s) i line a (Contains-map (resolvent_line x s i) (right_sides x s) j b)) (ap not one) in
            let new = added-there s (resolvent_lines x s) line among in
            let low = new.2 in
            let stays : is_among new.0 ns ≡ false = false_unless (is_among new.0 ns) (λ q. (let g = of-gone x s new.0 q in let high = g.0 in omega arith)) in
            or-right (has_both_signs r) (list_any (λ d. list_all (has r) d) (clauses_in L))
            (any-from (λ d. list_all (has r) d) (clauses_in L) r (entry-there L (new.0, r) (without_numbers-has t.clauses ns (new.0, r) new.1 stays)) (list_all-from (has r) r (λ l h. h)))

    pair : (c d : Clause) → (i : ℕ) × Contains (holders (positive x) s) i × (clause_there s i ≡ c) → (j : ℕ) × Contains (holders (negative x) s) j × (clause_there s j ≡ d)
        → is_implied L (resolvent (positive x) c d) ≡ true
    pair c d f g =
        let cover = covered x s f.0 g.0 f.1 g.1 in
        let low = resolvent (positive x) (clause_there s cover.left) (clause_there s cover.right) in
        let small : is_implied L (resolvent (positive x) (clause_there s f.0) (clause_there s g.0)) ≡ true
        = implied-more L (resolvent_line x s cover.left cover.right).clause (resolvent (positive x) (clause_there s f.0) (clause_there s g.0))
        (λ l h. cover.fewer l (elim (has-from_with_literals low [] l h) [ inl m ↦ m | inr none ↦ absurd (cc) ]))
        (line-implied cover.left cover.right cover.in_left cover.in_right) in
        subst (λ z. is_implied L (resolvent (positive x) z d) ≡ true) f.2 (subst (λ z. is_implied L (resolvent (positive x) (clause_there s f.0) z) ≡ true) g.2 small)

    resolved : AreResolved L t.clauses x
    resolved = all-from (λ c. list_all (λ d. is_implied L (resolvent (positive x) c d)) (having (negative x) t.clauses)) (having (positive x) t.clauses) (λ c a.
        all-from (λ d. is_implied L (resolvent (positive x) c d)) (having (negative x) t.clauses) (λ d b.
        pair c d (holder (positive x) c refl a) (holder (negative x) d refl b)))

-- The changes that eliminate a variable are fit, and leave clauses that are as tidy.
pub elimination-fit : (V x : ℕ) (s : Simplified) → IsTidy V s → AreFit V s (elimination x s)
elimination-fit V x s tidy =
    AreFit-append V s (map adds (resolvent_lines x s)) (eliminates x (gone_with x s) ∷ []) (lines-more V x s tidy).0 (eliminable V x s tidy, tt)

pub elimination-tidy : (V x : ℕ) (s : Simplified) → IsTidy V s → IsTidy V (changed_by s (elimination x s))
elimination-tidy V x s tidy = subst (IsTidy V) (sym (changed_by-append s (map adds (resolvent_lines x s)) (eliminates x (gone_with x s) ∷ []))) (record {
  numbered = AreNumbered-changed (with_lines x s) (eliminates x (gone_with x s)) (AreNumbered-all s (map adds (resolvent_lines x s)) tidy.numbered);
  one_sign = λ e c. (elim (from e c) [ inl old ↦ tidy.one_sign e old | inr new ↦ ap has_both_signs new.2 ∙ (lines-of_two V x s new.0 tidy new.1).one_sign ]);
  over = λ e c. (elim (from e c) [ inl old ↦ tidy.over e old | inr new ↦ subst (IsOver V) (sym new.2) (lines-of_two V x s new.0 tidy new.1).over ]);
})
  where
    from : (e : ℕ × Clause) → Contains (without_numbers (with_lines x s).clauses (gone_with x s)) e → Contains s.clauses e ⊎ ((line : Line) × Contains (resolvent_lines x s) line × (e.1 ≡ line.clause))
    from e c = added-of s (resolvent_lines x s) e (without_numbers-of (with_lines x s).clauses (gone_with x s) e c)

-- And so does dropping the clauses with both signs of a variable, whatever there was.
pub tidying-fit : (V : ℕ) (s : Simplified) → AreNumbered s.last s.clauses → AreFit V s (tidying s)
tidying-fit V s numbered = ((deleted-there s.clauses ns (are_different-numbers_of has_both_signs s) there, all-from keeps s.clauses each), tt)
  where
    ns : List ℕ
    ns = numbers_of has_both_signs s

    L : Numbered
    L = without_numbers s.clauses ns

    keeps : ℕ × Clause → Bool
    keeps e = not (is_among e.0 ns) || is_implied L e.1

    both : (n : ℕ) → is_among n ns ≡ true → has_both_signs (clause_there s n) ≡ true
    both n a = (has-numbers_of has_both_signs s n (among-Contains n ns a)).2

    there : (n : ℕ) → is_among n ns ≡ true → is_some (clause_of s.clauses n) ≡ true
    there n a = ap is_some (there-of has_both_signs s n refl (both n a))

    each : (e : ℕ × Clause) → Contains s.clauses e → keeps e ≡ true
    each e c = elim (true_or_false (is_among e.0 ns)) [
      | inl a ↦ or-right (not (is_among e.0 ns)) (is_implied L e.1) (or-left (has_both_signs e.1) (list_any (λ d. list_all (has e.1) d) (clauses_in L))
          (ap has_both_signs (sym (clause_there-is s e.0 e.1 (numbered.alone e c))) ∙ both e.0 a))
      | inr a ↦ or-left (not (is_among e.0 ns)) (is_implied L e.1) (ap not a)
    ]

pub tidying-tidy : (V : ℕ) (s : Simplified) → AreNumbered s.last s.clauses → ((e : ℕ × Clause) → Contains s.clauses e → IsOver V e.1) → IsTidy V (changed_by s (tidying s))
tidying-tidy V s numbered over = record {
  numbered = AreNumbered-changed s (drops ns) numbered;
  one_sign = λ e c. false_unless (has_both_signs e.1) (λ h. true_false (is_among e.0 ns) (named e (without_numbers-of s.clauses ns e c) h) (without_numbers-not s.clauses ns e c));
  over = λ e c. over e (without_numbers-of s.clauses ns e c);
}
  where
    ns : List ℕ
    ns = numbers_of has_both_signs s

    named : (e : ℕ × Clause) → Contains s.clauses e → has_both_signs e.1 ≡ true → is_among e.0 ns ≡ true
    named e c h =
        let at : clause_of s.clauses e.0 ≡ Some e.1 = numbered.alone e c in
        let w = numbered.within e.0 e.1 at in
        Contains-among e.0 ns (numbers_of-has has_both_signs s e.0 w.0 w.1 (ap has_both_signs (clause_there-is s e.0 e.1 at) ∙ h))

-- a formula without them
pub formula-tidy : (F : Formula) → IsFormula F → AreFit F.vars (unsimplified F) (tidying (unsimplified F)) × IsTidy F.vars (changed_by (unsimplified F) (tidying (unsimplified F)))
formula-tidy F formed = (tidying-fit F.vars (unsimplified F) (AreNumbered-formula F.clauses), tidying-tidy F.vars (unsimplified F) (AreNumbered-formula F.clauses) over)
  where
    over : (e : ℕ × Clause) → Contains (numbered_from 1 F.clauses) e → IsOver F.vars e.1
    over e c = All-at (IsOver F.vars) (clauses_in (numbered_from 1 F.clauses)) e.1 (simplification-begins F formed).over (entry-there (numbered_from 1 F.clauses) e c)
