-- An elimination adds at most as many clauses as it drops.
use Rattle.std.proofs.Common.{◌≡◌, ℕ, suc, ◌+◌, ◌*◌, ◌≤◌, Bool, true, false, not, ◌&&◌, ◌||◌, List, [], ◌∷◌, ◌++◌, map, filter, length, length-append, refl, ap, sym, subst, ◌∙◌, inl, inr, cond, Contains, nat_eq, nat_le, leb-true, Some, None, is_some, flat_map, arith, if◌then◌else◌}
use Rattle.std.specs.List.{list_all, sum_by}
use Rattle.std.proofs.lemmas.List.{length-map}
use Rattle.theory.specs.Literals.{Literal, Clause, positive, negative, has, has_var, has_both_signs}
use Rattle.theory.specs.Truth.{Formula, IsFormula}
use Rattle.theory.specs.Learning.{Line}
use Rattle.theory.specs.Checking.{Numbered, numbered_from, clause_of, without_number, deleted}
use Rattle.theory.specs.Deletions.{without_numbers}
use Rattle.theory.specs.Proofs.{numbers_from}
use Rattle.theory.specs.Simplifying.{Simplified, unsimplified, Change, adds, eliminates, changed, changed_by, clauses_in, simplified}
use Rattle.theory.specs.Eliminating.{clause_there, numbers_of, holders, is_alone, units_of, first_or, left_sides, right_sides, resolvent_line, resolvent_lines, gone_with, elimination, tidying, IsTidy}
use Rattle.theory.specs.Trying.{most_literals, effort, size, Trial, has_unit, is_worth, changes_of, tried, Tries, rests, tries, first_trial, IsSimplification}
use Rattle.theory.proofs.literals.LiteralLemmas.{and-left, or-cases}
use Rattle.theory.proofs.literals.LiteralSets.{true_false, has_var-has}
use Rattle.theory.proofs.literals.Membership.{Contains-here, Contains-there, Contains-none, map-Contains}
use Rattle.theory.proofs.checker.LeftHints.{found}
use Rattle.theory.proofs.simplifying.ListTests.{any-at}
use Rattle.theory.proofs.simplifying.Simplifications.{clause_of-there}
use Rattle.theory.proofs.simplifying.NumberedClauses.{numbers_of-has, there-of, clause_there-is}
use Rattle.theory.proofs.simplifying.Trials.{changes-fit}
use Rattle.theory.proofs.simplifying.Eliminations.{eliminable, with_lines, changed_by-append, formula-tidy}

-- what a filter leaves
filter-fewer : {X : Type 0} (p : X → Bool) (xs : List X) → length (filter p xs) ≤ length xs
filter-fewer p [] = omega arith
filter-fewer p (x ∷ xs) = go (p x) (filter-fewer p xs)
  where
    go : (b : Bool) → length (filter p xs) ≤ length xs → length (cond b (x ∷ filter p xs) (filter p xs)) ≤ suc (length xs)
    go true more = omega arith
    go false more = omega arith

-- two tests that no element passes both of, and a third that is passed with each
two-fewer : {X : Type 0} (p q r : X → Bool) (xs : List X) → ((x : X) → Contains xs x → p x ≡ true → r x ≡ true) → ((x : X) → Contains xs x → q x ≡ true → r x ≡ true)
    → ((x : X) → Contains xs x → p x ≡ true → q x ≡ true → ⊥) → length (filter p xs) + length (filter q xs) ≤ length (filter r xs)
two-fewer p q r [] f g apart = omega arith
two-fewer p q r (x ∷ xs) f g apart =
    go (p x) refl (q x) refl (r x) refl (two-fewer p q r xs (λ y c. f y (Contains-there x xs y c)) (λ y c. g y (Contains-there x xs y c)) (λ y c. apart y (Contains-there x xs y c)))
  where
    go : (a : Bool) → p x ≡ a → (b : Bool) → q x ≡ b → (d : Bool) → r x ≡ d → length (filter p xs) + length (filter q xs) ≤ length (filter r xs)
        → length (cond a (x ∷ filter p xs) (filter p xs)) + length (cond b (x ∷ filter q xs) (filter q xs)) ≤ length (cond d (x ∷ filter r xs) (filter r xs))
    go true e true h d i more = absurd (apart x (Contains-here x xs) e h)
    go true e false h true i more = omega arith
    go true e false h false i more = true_false (r x) (f x (Contains-here x xs) e) i
    go false e true h true i more = omega arith
    go false e true h false i more = true_false (r x) (g x (Contains-here x xs) h) i
    go false e false h true i more = omega arith
    go false e false h false i more = more

-- the clauses of numbers that are there, deleted
without-fewer : (K : Numbered) (n : ℕ) → is_some (clause_of K n) ≡ true → length (without_number K n) + 1 ≤ length K
without-fewer [] n h = absurd (cc)
without-fewer (e ∷ K) n h = go (nat_eq e.0 n) refl h (without-fewer K n)
  where
    go : (b : Bool) → nat_eq e.0 n ≡ b → is_some (if b then Some e.1 else clause_of K n) ≡ true → (is_some (clause_of K n) ≡ true → length (without_number K n) + 1 ≤ length K)
        → length (cond (not b) (e ∷ without_number K n) (without_number K n)) + 1 ≤ suc (length K)
    go true i k more = let few = filter-fewer (λ e. not (nat_eq e.0 n)) K in omega arith
    go false i k more = let one = more k in omega arith

deleted-fewer : (K L : Numbered) (ns : List ℕ) → deleted K ns ≡ Some L → length L + length ns ≤ length K
deleted-fewer K L [] h = let same : K ≡ L = cc in let many = ap (λ (M : Numbered). length M) same in omega (arith, many)
deleted-fewer K L (n ∷ ns) h = go (is_some (clause_of K n)) refl h (deleted-fewer (without_number K n) L ns)
  where
    go : (b : Bool) → is_some (clause_of K n) ≡ b → (if b then deleted (without_number K n) ns else None) ≡ Some L
        → (deleted (without_number K n) ns ≡ Some L → length L + length ns ≤ length (without_number K n)) → length L + suc (length ns) ≤ length K
    go true t k more = let one = without-fewer K n t in let rest = more k in omega arith
    go false t k more = absurd (cc)

-- lines add a clause each
length-added : (t : Simplified) (ls : List Line) → length (changed_by t (map adds ls)).clauses ≡ length t.clauses + length ls
length-added t [] = omega arith
length-added t (line ∷ ls) = length-added (changed t (adds line)) ls ∙ omega arith

-- as many pairs as the sides give
length-pairs : (f : ℕ → ℕ → Line) (xs ys : List ℕ) → length (flat_map (λ i. map (f i) ys) xs) ≡ length xs * length ys
length-pairs f [] ys = omega arith
length-pairs f (x ∷ xs) ys =
    let here = length-map ys (f x) in
    let more = length-pairs f xs ys in
    let both = length-append (map (f x) ys) (flat_map (λ i. map (f i) ys) xs) in
    both ∙ (ap (λ k. k + length (flat_map (λ i. map (f i) ys) xs)) here ∙ (ap (λ k. length ys + k) more ∙ sym (suc-times (length xs) (length ys))))
  where
    suc-times : (a b : ℕ) → suc a * b ≡ b + a * b
    suc-times a b = grind arith

lines-few : (x : ℕ) (s : Simplified) → length (resolvent_lines x s) ≤ length (left_sides x s) * length (right_sides x s)
lines-few x s =
    let all = flat_map (λ i. map (resolvent_line x s i) (right_sides x s)) (left_sides x s) in
    let few = filter-fewer (λ line. not (has_both_signs line.clause)) all in
    let many : length all ≡ length (left_sides x s) * length (right_sides x s) = length-pairs (resolvent_line x s) (left_sides x s) (right_sides x s) in
    omega (arith, few, many)

-- the clauses with x and those with its negation are among those that go
sides-gone : (V x : ℕ) (s : Simplified) → IsTidy V s → length (holders (positive x) s) + length (holders (negative x) s) ≤ length (gone_with x s)
sides-gone V x s tidy =
    two-fewer (λ n. has (clause_there s n) (positive x)) (λ n. has (clause_there s n) (negative x)) (λ n. has_var (clause_there s n) x) (numbers_from 1 s.last)
    (λ n c h. has_var-has (clause_there s n) (positive x) h) (λ n c h. has_var-has (clause_there s n) (negative x) h)
    (λ n c h k. true_false (has_both_signs (clause_there s n)) (found (clause_there s n) (clause_there s n) (positive x) h k)
    (tidy.one_sign (n, clause_there s n) (clause_of-there s.clauses n (clause_there s n) (there-of (λ c. has c (positive x)) s n refl h))))

-- where x has a unit clause, it is among those of its literal or of its negation
unit-found : (V x : ℕ) (s : Simplified) → IsTidy V s → has_unit x s ≡ true → units_of (positive x) s ≡ [] → units_of (negative x) s ≡ [] → ⊥
unit-found V x s tidy h none none_too = go (any-at (λ c. is_alone (positive x) c || is_alone (negative x) c) (clauses_in s.clauses) h)
  where
    at : (l : Literal) (e : ℕ × Clause) → Contains s.clauses e → is_alone l e.1 ≡ true → units_of l s ≡ [] → ⊥
    at l e c alone empty =
        let here : clause_of s.clauses e.0 ≡ Some e.1 = tidy.numbered.alone e c in
        let w = tidy.numbered.within e.0 e.1 here in
        Contains-none e.0 (subst (λ ns. Contains ns e.0) empty (numbers_of-has (is_alone l) s e.0 w.0 w.1 (ap (is_alone l) (clause_there-is s e.0 e.1 here) ∙ alone)))

    entry : (c : Clause) → is_alone (positive x) c || is_alone (negative x) c ≡ true → (e : ℕ × Clause) × Contains s.clauses e × (e.1 ≡ c) → ⊥
    entry c t f = elim (or-cases (is_alone (positive x) c) (is_alone (negative x) c) t) [
      | inl a ↦ at (positive x) f.0 f.1 (ap (is_alone (positive x)) f.2 ∙ a) none
      | inr a ↦ at (negative x) f.0 f.1 (ap (is_alone (negative x)) f.2 ∙ a) none_too
    ]

    go : (c : Clause) × Contains (clauses_in s.clauses) c × (is_alone (positive x) c || is_alone (negative x) c ≡ true) → ⊥
    go one = entry one.0 one.2 (map-Contains (λ e. e.1) s.clauses one.0 one.1)

-- a variable that is eliminated has no more lines than clauses
worth-few : (V x : ℕ) (s : Simplified) → IsTidy V s → is_worth x s ≡ true
    → length (resolvent_lines x s) ≤ length (holders (positive x) s) + length (holders (negative x) s)
worth-few V x s tidy h = go (has_unit x s) refl h
  where
    rest : Bool
    rest = list_all (λ line. nat_le (length line.clause) most_literals) (resolvent_lines x s)

    few : length (resolvent_lines x s) ≤ length (left_sides x s) * length (right_sides x s)
    few = lines-few x s

    rights : List ℕ → List ℕ
    rights us = elim us [ [] ↦ first_or (units_of (negative x) s) (holders (negative x) s) | u ∷ us ↦ holders (negative x) s ]

    units : (us : List ℕ) → units_of (positive x) s ≡ us → (vs : List ℕ) → units_of (negative x) s ≡ vs → has_unit x s ≡ true
        → length (resolvent_lines x s) ≤ length (holders (positive x) s) + length (holders (negative x) s)
    units (u ∷ us) e vs f t =
        let left : length (left_sides x s) ≡ 1 = ap (λ us. length (first_or us (holders (positive x) s))) e in
        let right : length (right_sides x s) ≡ length (holders (negative x) s) = ap (λ us. length (rights us)) e in
        let many : length (left_sides x s) * length (right_sides x s) ≡ length (holders (negative x) s) = ap (λ k. k * length (right_sides x s)) left ∙ (once (length (right_sides x s)) ∙ right) in
        let bound = few in
        omega (arith, bound, many)
      where
        once : (a : ℕ) → 1 * a ≡ a
        once a = grind arith
    units [] e (v ∷ vs) f t =
        let left : length (left_sides x s) ≡ length (holders (positive x) s) = ap (λ us. length (first_or us (holders (positive x) s))) e in
        let right : length (right_sides x s) ≡ 1 = ap (λ us. length (rights us)) e ∙ ap (λ vs. length (first_or vs (holders (negative x) s))) f in
        let many : length (left_sides x s) * length (right_sides x s) ≡ length (holders (positive x) s) = ap (λ k. length (left_sides x s) * k) right ∙ (once (length (left_sides x s)) ∙ left) in
        let bound = few in
        omega (arith, bound, many)
      where
        once : (a : ℕ) → a * 1 ≡ a
        once a = grind arith
    units [] e [] f t = absurd (unit-found V x s tidy t e f)

    go : (b : Bool) → has_unit x s ≡ b → b || (nat_le (length (resolvent_lines x s)) (length (holders (positive x) s) + length (holders (negative x) s)) && rest) ≡ true
        → length (resolvent_lines x s) ≤ length (holders (positive x) s) + length (holders (negative x) s)
    go true e k = units (units_of (positive x) s) refl (units_of (negative x) s) refl e
    go false e k = leb-true (length (resolvent_lines x s)) (length (holders (positive x) s) + length (holders (negative x) s))
        (and-left (nat_le (length (resolvent_lines x s)) (length (holders (positive x) s) + length (holders (negative x) s))) rest k)

-- A try leaves no more clauses than there were.
pub try-few : (V x : ℕ) (s : Simplified) → IsTidy V s → length (changed_by s (changes_of x s)).clauses ≤ length s.clauses
try-few V x s tidy = go (is_worth x s) refl
  where
    worth : is_worth x s ≡ true → length (changed_by s (elimination x s)).clauses ≤ length s.clauses
    worth h =
        let lines = worth-few V x s tidy h in
        let gone = sides-gone V x s tidy in
        let added = length-added s (resolvent_lines x s) in
        let left = deleted-fewer (with_lines x s).clauses (without_numbers (with_lines x s).clauses (gone_with x s)) (gone_with x s) (eliminable V x s tidy).there in
        let same : length (changed_by s (elimination x s)).clauses ≡ length (without_numbers (with_lines x s).clauses (gone_with x s))
        = ap (λ (t : Simplified). length t.clauses) (changed_by-append s (map adds (resolvent_lines x s)) (eliminates x (gone_with x s) ∷ [])) in
        omega (arith, lines, gone, added, left, same)

    go : (b : Bool) → is_worth x s ≡ b → length (changed_by s (if b then elimination x s else [])).clauses ≤ length s.clauses
    go true e = worth e
    go false e = omega arith

Tries-few : (V most : ℕ) (t : Trial) (cs : List Change) → IsTidy V t.state → Tries V most t cs → length (changed_by t.state cs).clauses ≤ length t.state.clauses
Tries-few V most t cs tidy (rests h) = omega arith
Tries-few V most t cs tidy (tries {cs = es} x h more) =
    let here = try-few V x t.state tidy in
    let next = Tries-few V most (tried V x t) es (changes-fit V x t.state tidy).1 more in
    let same : length (changed_by t.state (changes_of x t.state ++ es)).clauses ≡ length (changed_by (tried V x t).state es).clauses
    = ap (λ (u : Simplified). length u.clauses) (changed_by-append t.state (changes_of x t.state) es) in
    omega (arith, here, next, same)

length-numbered : (n : ℕ) (K : List Clause) → length (numbered_from n K) ≡ length K
length-numbered n [] = refl
length-numbered n (c ∷ K) = ap suc (length-numbered (n + 1) K)

-- So a simplification leaves no more clauses than the formula has.
pub simplification-few : (F : Formula) (cs : List Change) → IsFormula F → IsSimplification F cs → length (simplified F cs).clauses ≤ length F.clauses
simplification-few F cs formed h =
    let begun = formula-tidy F formed in
    let first = unsimplified F in
    let all = length-numbered 1 F.clauses in
    let tidied = deleted-fewer first.clauses (changed_by first (tidying first)).clauses (numbers_of has_both_signs first) begun.0.0.0 in
    let tried_all = Tries-few F.vars (effort * sum_by size F.clauses) (first_trial F) h.0 begun.1 h.2 in
    let same : length (simplified F cs).clauses ≡ length (changed_by (changed_by first (tidying first)) h.0).clauses
    = ap (λ ds. length (changed_by first ds).clauses) h.1 ∙ ap (λ (u : Simplified). length u.clauses) (changed_by-append first (tidying first) h.0) in
    omega (arith, all, tidied, tried_all, same)
