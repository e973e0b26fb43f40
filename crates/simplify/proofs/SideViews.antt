-- Which clauses are resolved, and what their resolvents are, by the entries and by the definitions.
use Rattle.std.proofs.Common.{◌≡◌, ℕ, ◌+◌, ◌≤◌, nat_le, Bool, true, false, not, ◌&&◌, ◌||◌, List, [], ◌∷◌, ◌++◌, map, filter, length, refl, ap, ap₂, sym, subst, ◌∙◌, inl, inr, Contains, Option, None, Some, if◌then◌else◌}
use Rattle.std.specs.List.{list_all, sum_by, flat_map, fold}
use Rattle.std.specs.Option.{unwrap_or}
use Rattle.std.proofs.lemmas.List.Elements.{filter-append}
use Rattle.theory.specs.Literals.{Literal, Clause, positive, negative, same, has, has_both_signs}
use Rattle.theory.specs.Learning.{Line}
use Rattle.theory.specs.Checking.{clause_of}
use Rattle.theory.specs.Simplifying.{Simplified, AreNumbered, resolvent}
use Rattle.theory.specs.Eliminating.{IsTidy, clause_there, numbers_of, holders, units_of, is_alone, first_or, left_sides, right_sides, resolvent_line, resolvent_lines}
use Rattle.theory.specs.Trying.{size, has_unit, is_worth, looked_at, most_literals}
use Rattle.theory.proofs.literals.Membership.{Contains-here, Contains-there, Contains-cases, Contains-none}
use Rattle.theory.proofs.literals.LiteralLemmas.{and-left}
use Rattle.theory.proofs.simplifying.NumberedClauses.{has-numbers_of}
use Rattle.theory.proofs.simplifying.Simplifications.{clause_of-there}
use Rattle.simplify.specs.Entries.{set, there, holding, units_in}
use Rattle.simplify.specs.Stored.{stored}
use Rattle.simplify.specs.Resolving.{line_of, lines_of_pairs, literals_of_pairs}
use Rattle.simplify.specs.Tried.{left_in, right_in, lines_in, is_worth_in}
use Rattle.simplify.proofs.LiteralSets.{has_both_signs-set, has_both_signs-resolvent, set-resolvent}
use Rattle.simplify.proofs.DistinctLiterals.{length-set_of}
use Rattle.simplify.proofs.EntryNumbers.{there-stored}
use Rattle.simplify.proofs.EntryViews.{holding-stored, units-stored, unit-stored}

pub left-stored : (s : Simplified) (x : ℕ) → left_in x (stored s) ≡ left_sides x s
left-stored s x = ap₂ first_or (units-stored s (positive x)) (holding-stored s (positive x))

pub right-stored : (s : Simplified) (x : ℕ) → right_in x (stored s) ≡ right_sides x s
right-stored s x =
    ap (λ (us : List ℕ). elim us [ [] ↦ first_or (units_in (negative x) (stored s)) (holding (negative x) (stored s)) | n ∷ ns ↦ holding (negative x) (stored s) ]) (units-stored s (positive x))
    ∙ ap₂ (λ (vs hs : List ℕ). elim (units_of (positive x) s) [ [] ↦ first_or vs hs | n ∷ ns ↦ hs ]) (units-stored s (negative x)) (holding-stored s (negative x))

-- the numbers of the sides are those of clauses
abbrev pub IsGiven : Simplified → ℕ → Type 0
IsGiven s n = (1 ≤ n) × (n ≤ s.last)

of-numbers : (p : Clause → Bool) (s : Simplified) (n : ℕ) → Contains (numbers_of p s) n → IsGiven s n
of-numbers p s n c = let w = has-numbers_of p s n c in (w.0, w.1)

of-first : (P : ℕ → Type 0) (us all : List ℕ) → ((n : ℕ) → Contains us n → P n) → ((n : ℕ) → Contains all n → P n) → (n : ℕ) → Contains (first_or us all) n → P n
of-first P [] all h k n c = k n c
of-first P (u ∷ us) all h k n c = elim (Contains-cases u [] n c) [ inl e ↦ subst P e (h u (Contains-here u us)) | inr none ↦ absurd (Contains-none n none) ]

module _ (s : Simplified) (x : ℕ) (P : ℕ → Type 0) where
  left-all : ((n : ℕ) → Contains (units_of (positive x) s) n → P n) → ((n : ℕ) → Contains (holders (positive x) s) n → P n) → (n : ℕ) → Contains (left_sides x s) n → P n
  left-all h k = of-first P (units_of (positive x) s) (holders (positive x) s) h k

  right-all : ((n : ℕ) → Contains (units_of (negative x) s) n → P n) → ((n : ℕ) → Contains (holders (negative x) s) n → P n) → (n : ℕ) → Contains (right_sides x s) n → P n
  right-all h k n = go (units_of (positive x) s)
    where
      go : (us : List ℕ) → Contains (elim us [ [] ↦ first_or (units_of (negative x) s) (holders (negative x) s) | u ∷ rest ↦ holders (negative x) s ]) n → P n
      go [] c = of-first P (units_of (negative x) s) (holders (negative x) s) h k n c
      go (u ∷ us) c = k n c

pub left-given : (s : Simplified) (x n : ℕ) → Contains (left_sides x s) n → IsGiven s n
left-given s x = left-all s x (IsGiven s) (of-numbers (is_alone (positive x)) s) (of-numbers (λ c. has c (positive x)) s)

pub right-given : (s : Simplified) (x n : ℕ) → Contains (right_sides x s) n → IsGiven s n
right-given s x = right-all s x (IsGiven s) (of-numbers (is_alone (negative x)) s) (of-numbers (λ c. has c (negative x)) s)

-- and these clauses have the literal
abbrev HasIt : Simplified → Literal → ℕ → Type 0
HasIt s l n = has (clause_there s n) l ≡ true

alone-has : (s : Simplified) (l : Literal) (n : ℕ) → Contains (units_of l s) n → HasIt s l n
alone-has s l n c = and-left (has (clause_there s n) l) (list_all (same l) (clause_there s n)) (has-numbers_of (is_alone l) s n c).2

pub left-has : (s : Simplified) (x n : ℕ) → Contains (left_sides x s) n → has (clause_there s n) (positive x) ≡ true
left-has s x = left-all s x (HasIt s (positive x)) (alone-has s (positive x)) (λ n c. (has-numbers_of (λ d. has d (positive x)) s n c).2)

pub right-has : (s : Simplified) (x n : ℕ) → Contains (right_sides x s) n → has (clause_there s n) (negative x) ≡ true
right-has s x = right-all s x (HasIt s (negative x)) (alone-has s (negative x)) (λ n c. (has-numbers_of (λ d. has d (negative x)) s n c).2)

-- a line without both signs of a variable
abbrev passes_line : Line → Bool
passes_line line = not (has_both_signs line.clause)

filter-lines : (f g : ℕ → Line) (js : List ℕ) → ((j : ℕ) → Contains js j → passes_line (f j) ≡ passes_line (g j)) → ((j : ℕ) → Contains js j → passes_line (g j) ≡ true → f j ≡ g j)
    → filter passes_line (map f js) ≡ filter passes_line (map g js)
filter-lines f g [] h k = refl
filter-lines f g (j ∷ js) h k = go (passes_line (g j)) refl (filter-lines f g js (λ i c. h i (Contains-there j js i c)) (λ i c. k i (Contains-there j js i c)))
  where
    go : (b : Bool) → passes_line (g j) ≡ b → filter passes_line (map f js) ≡ filter passes_line (map g js) → filter passes_line (map f (j ∷ js)) ≡ filter passes_line (map g (j ∷ js))
    go true e more =
        ap (λ b. if b then f j ∷ filter passes_line (map f js) else filter passes_line (map f js)) (h j (Contains-here j js) ∙ e)
        ∙ (ap₂ (λ l ls. l ∷ ls) (k j (Contains-here j js) e) more
        ∙ ap (λ b. if b then g j ∷ filter passes_line (map g js) else filter passes_line (map g js)) (sym e))
    go false e more =
        ap (λ b. if b then f j ∷ filter passes_line (map f js) else filter passes_line (map f js)) (h j (Contains-here j js) ∙ e)
        ∙ (more ∙ ap (λ b. if b then g j ∷ filter passes_line (map g js) else filter passes_line (map g js)) (sym e))

filter-pairs : (f g : ℕ → ℕ → Line) (is js : List ℕ) → ((i j : ℕ) → Contains is i → Contains js j → passes_line (f i j) ≡ passes_line (g i j)) → ((i j : ℕ) → Contains is i → Contains js j → passes_line (g i j) ≡ true → f i j ≡ g i j)
    → filter passes_line (flat_map (λ i. map (f i) js) is) ≡ filter passes_line (flat_map (λ i. map (g i) js) is)
filter-pairs f g [] js h k = refl
filter-pairs f g (i ∷ is) js h k =
    filter-append passes_line (map (f i) js) (flat_map (λ i. map (f i) js) is)
    ∙ (ap₂ (λ (a b : List Line). a ++ b)
    (filter-lines (f i) (g i) js (λ j c. h i j (Contains-here i is) c) (λ j c. k i j (Contains-here i is) c))
    (filter-pairs f g is js (λ n j c. h n j (Contains-there i is n c)) (λ n j c. k n j (Contains-there i is n c)))
    ∙ sym (filter-append passes_line (map (g i) js) (flat_map (λ i. map (g i) js) is)))

module _ (s : Simplified) (x : ℕ) where
  resolvent-there : (i j : ℕ) → IsGiven s i → IsGiven s j → set (resolvent (positive x) (there (stored s) i) (there (stored s) j)) ≡ set (resolvent (positive x) (set (clause_there s i)) (set (clause_there s j)))
  resolvent-there i j a b = ap₂ (λ (c d : Clause). set (resolvent (positive x) c d)) (there-stored s i a.0 a.1) (there-stored s j b.0 b.1)

  same-signs : (i j : ℕ) → IsGiven s i → IsGiven s j → passes_line (line_of x (stored s) i j) ≡ passes_line (resolvent_line x s i j)
  same-signs i j a b = ap not
      (ap has_both_signs (resolvent-there i j a b)
      ∙ (has_both_signs-resolvent (positive x) (clause_there s i) (clause_there s j)
      ∙ sym (has_both_signs-set (resolvent (positive x) (clause_there s i) (clause_there s j)))))

  not-both : (b : Bool) → not b ≡ true → b ≡ false
  not-both true h = absurd (cc)
  not-both false h = refl

  same-line : (i j : ℕ) → IsGiven s i → IsGiven s j → passes_line (resolvent_line x s i j) ≡ true → line_of x (stored s) i j ≡ resolvent_line x s i j
  same-line i j a b h = ap (λ (c : Clause). record { clause = c; hints = i ∷ j ∷ []; forgets = [] })
      (resolvent-there i j a b
      ∙ set-resolvent (positive x) (clause_there s i) (clause_there s j)
      (sym (has_both_signs-set (resolvent (positive x) (clause_there s i) (clause_there s j))) ∙ not-both (has_both_signs (set (resolvent (positive x) (clause_there s i) (clause_there s j)))) h))

  pub lines-stored : lines_in x (stored s) ≡ resolvent_lines x s
  lines-stored =
      ap₂ (λ (is js : List ℕ). lines_of_pairs x (stored s) is js) (left-stored s x) (right-stored s x)
      ∙ filter-pairs (line_of x (stored s)) (resolvent_line x s) (left_sides x s) (right_sides x s)
      (λ i j c d. same-signs i j (left-given s x i c) (right-given s x j d))
      (λ i j c d. same-line i j (left-given s x i c) (right-given s x j d))

fold-alike : (f g : ℕ → ℕ) (is : List ℕ) (a : ℕ) → ((i : ℕ) → Contains is i → f i ≡ g i) → fold (λ a i. a + f i) a is ≡ fold (λ a i. a + g i) a is
fold-alike f g [] a h = refl
fold-alike f g (i ∷ is) a h =
    ap (λ k. fold (λ a i. a + f i) (a + k) is) (h i (Contains-here i is))
    ∙ fold-alike f g is (a + g i) (λ j c. h j (Contains-there i is j c))

sum_by-alike : (f g : ℕ → ℕ) (is : List ℕ) → ((i : ℕ) → Contains is i → f i ≡ g i) → sum_by f is ≡ sum_by g is
sum_by-alike f g is h = fold-alike f g is 0 h

one_sign-there : (V : ℕ) (s : Simplified) (n : ℕ) → IsTidy V s → has_both_signs (clause_there s n) ≡ false
one_sign-there V s n tidy = go (clause_of s.clauses n) refl
  where
    go : (o : Option Clause) → clause_of s.clauses n ≡ o → has_both_signs (unwrap_or o []) ≡ false
    go None e = refl
    go (Some c) e = tidy.one_sign (n, c) (clause_of-there s.clauses n c e)

pub work-stored : (V : ℕ) (s : Simplified) (x : ℕ) → IsTidy V s → literals_of_pairs (stored s) (left_in x (stored s)) (right_in x (stored s)) ≡ looked_at x s
work-stored V s x tidy =
    ap₂ (λ (is js : List ℕ). literals_of_pairs (stored s) is js) (left-stored s x) (right-stored s x)
    ∙ sum_by-alike (λ i. sum_by (λ j. length (there (stored s) i) + length (there (stored s) j)) (right_sides x s))
    (λ i. sum_by (λ j. size (clause_there s i) + size (clause_there s j)) (right_sides x s)) (left_sides x s)
    (λ i c. sum_by-alike (λ j. length (there (stored s) i) + length (there (stored s) j)) (λ j. size (clause_there s i) + size (clause_there s j)) (right_sides x s)
    (λ j d. ap₂ (λ a b. a + b) (long i (left-given s x i c)) (long j (right-given s x j d))))
  where
    long : (n : ℕ) → IsGiven s n → length (there (stored s) n) ≡ size (clause_there s n)
    long n w = ap (λ (c : Clause). length c) (there-stored s n w.0 w.1) ∙ length-set_of (clause_there s n) (one_sign-there V s n tidy)

pub worth-stored : (s : Simplified) (x : ℕ) → AreNumbered s.last s.clauses → is_worth_in x (stored s) ≡ is_worth x s
worth-stored s x numbered =
    ap₂ (λ (b : Bool) (ls : List Line). b || (nat_le (length ls) (length (holding (positive x) (stored s)) + length (holding (negative x) (stored s))) && list_all (λ line. nat_le (length line.clause) most_literals) ls)) (unit-stored s x numbered) (lines-stored s x)
    ∙ ap₂ (λ (ps qs : List ℕ). has_unit x s || (nat_le (length (resolvent_lines x s)) (length ps + length qs) && list_all (λ line. nat_le (length line.clause) most_literals) (resolvent_lines x s))) (holding-stored s (positive x)) (holding-stored s (negative x))
