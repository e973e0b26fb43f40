-- Where clauses come and go, the weights of variables that none of them has stay.
use Rattle.std.proofs.Common.{◌≡◌, ℕ, zero, suc, ◌+◌, ◌-◌, ◌*◌, ◌<◌, ◌≤◌, Bool, true, false, ◌||◌, List, [], ◌∷◌, ◌++◌, map, length, refl, ap, ap₂, sym, ◌∙◌, Option, Some, None, All, slice_set, arith, if◌then◌else◌}
use Rattle.std.specs.List.{list_any}
use Rattle.std.specs.Option.{unwrap_or}
use Rattle.std.proofs.lemmas.List.Elements.{All-nil, All-cons, All-head, All-tail, All-weaker}
use Rattle.theory.specs.Literals.{Clause, positive, negative, has, has_var}
use Rattle.theory.specs.Learning.{Line}
use Rattle.theory.specs.Eliminating.{is_alone}
use Rattle.theory.proofs.literals.LiteralSets.{false_unless, true_false, has_var-has}
use Rattle.theory.proofs.literals.LiteralLemmas.{and-left}
use Rattle.simplify.specs.Entries.{Entries, there, entry_at, passes, numbers_in, is_unit_of, has_unit_in, holding, weight_in}
use Rattle.simplify.specs.Stored.{with_clauses, without_entries}
use Rattle.simplify.proofs.EntryNumbers.{at_place}

-- a test that none of the clauses passes which come or go passes as often as before
numbers-more : (p : Clause → Bool) (n : ℕ) (K : Entries) (lines : List Line) → All (λ (l : Line). p l.clause ≡ false) lines → numbers_in p n (with_clauses K lines) ≡ numbers_in p n K
numbers-more p n [] [] h = refl
numbers-more p n [] (line ∷ lines) h =
    ap (λ b. if b then n ∷ numbers_in p (n + 1) (with_clauses [] lines) else numbers_in p (n + 1) (with_clauses [] lines)) (All-head (λ (l : Line). p l.clause ≡ false) line lines h)
    ∙ numbers-more p (n + 1) [] lines (All-tail (λ (l : Line). p l.clause ≡ false) line lines h)
numbers-more p n (e ∷ K) lines h = ap (λ (ms : List ℕ). if passes p e then n ∷ ms else ms) (numbers-more p (n + 1) K lines h)

any-more : (p : Clause → Bool) (K : Entries) (lines : List Line) → All (λ (l : Line). p l.clause ≡ false) lines → list_any (passes p) (with_clauses K lines) ≡ list_any (passes p) K
any-more p [] [] h = refl
any-more p [] (line ∷ lines) h =
    ap (λ b. b || list_any (passes p) (with_clauses [] lines)) (All-head (λ (l : Line). p l.clause ≡ false) line lines h)
    ∙ any-more p [] lines (All-tail (λ (l : Line). p l.clause ≡ false) line lines h)
any-more p (e ∷ K) lines h = ap (λ b. passes p e || b) (any-more p K lines h)

numbers-less : (p : Clause → Bool) (n : ℕ) (K : Entries) (i : ℕ) → passes p (at_place K i) ≡ false → numbers_in p n (slice_set K i None) ≡ numbers_in p n K
numbers-less p n [] i h = refl
numbers-less p n (e ∷ K) zero h = ap (λ b. if b then n ∷ numbers_in p (n + 1) K else numbers_in p (n + 1) K) (sym h)
numbers-less p n (e ∷ K) (suc i) h = ap (λ (ms : List ℕ). if passes p e then n ∷ ms else ms) (numbers-less p (n + 1) K i h)

any-less : (p : Clause → Bool) (K : Entries) (i : ℕ) → passes p (at_place K i) ≡ false → list_any (passes p) (slice_set K i None) ≡ list_any (passes p) K
any-less p [] i h = refl
any-less p (e ∷ K) zero h = ap (λ b. b || list_any (passes p) K) (sym h)
any-less p (e ∷ K) (suc i) h = ap (λ b. passes p e || b) (any-less p K i h)

stays-false : (p : Clause → Bool) (K : Entries) (i j : ℕ) → passes p (at_place K j) ≡ false → passes p (at_place (slice_set K i None) j) ≡ false
stays-false p [] i j h = h
stays-false p (e ∷ K) zero zero h = refl
stays-false p (e ∷ K) zero (suc j) h = h
stays-false p (e ∷ K) (suc i) zero h = h
stays-false p (e ∷ K) (suc i) (suc j) h = stays-false p K i j h

numbers-without : (p : Clause → Bool) (n : ℕ) (K : Entries) (ns : List ℕ) → All (λ m. passes p (entry_at K m) ≡ false) ns → numbers_in p n (without_entries K ns) ≡ numbers_in p n K
numbers-without p n K [] h = refl
numbers-without p n K (m ∷ ns) h =
    numbers-without p n (slice_set K (m - 1) None) ns (All-weaker (λ k. passes p (entry_at K k) ≡ false) (λ k. passes p (entry_at (slice_set K (m - 1) None) k) ≡ false) (λ k e. stays-false p K (m - 1) (k - 1) e) ns (All-tail (λ k. passes p (entry_at K k) ≡ false) m ns h))
    ∙ numbers-less p n K (m - 1) (All-head (λ k. passes p (entry_at K k) ≡ false) m ns h)

any-without : (p : Clause → Bool) (K : Entries) (ns : List ℕ) → All (λ m. passes p (entry_at K m) ≡ false) ns → list_any (passes p) (without_entries K ns) ≡ list_any (passes p) K
any-without p K [] h = refl
any-without p K (m ∷ ns) h =
    any-without p (slice_set K (m - 1) None) ns (All-weaker (λ k. passes p (entry_at K k) ≡ false) (λ k. passes p (entry_at (slice_set K (m - 1) None) k) ≡ false) (λ k e. stays-false p K (m - 1) (k - 1) e) ns (All-tail (λ k. passes p (entry_at K k) ≡ false) m ns h))
    ∙ any-less p K (m - 1) (All-head (λ k. passes p (entry_at K k) ≡ false) m ns h)

at-more : (K : Entries) (L : Entries) (i : ℕ) → i < length K → at_place (K ++ L) i ≡ at_place K i
at-more [] L i h = absurd (omega arith)
at-more (e ∷ K) L zero h = refl
at-more (e ∷ K) L (suc i) h = at-more K L i (omega arith)

-- a test that passes nothing without y
abbrev Asks : ℕ → (Clause → Bool) → Type 0
Asks y p = (c : Clause) → has_var c y ≡ false → p c ≡ false

asks-positive : (y : ℕ) (b : Bool) → Asks y (λ c. has c (record { var = y; positive = b }))
asks-positive y b c none = false_unless (has c (record { var = y; positive = b })) (λ t. true_false (has_var c y) (has_var-has c (record { var = y; positive = b }) t) none)

asks-alone : (y : ℕ) (b : Bool) (c : Clause) → has_var c y ≡ false → is_alone (record { var = y; positive = b }) c ≡ false
asks-alone y b c none = false_unless (is_alone (record { var = y; positive = b }) c) (λ t. true_false (has c (record { var = y; positive = b })) (and-left (has c (record { var = y; positive = b })) _ t) (asks-positive y b c none))

asks-unit : (y : ℕ) → Asks y (is_unit_of y)
asks-unit y c none = ap₂ (λ a b. a || b) (asks-alone y true c none) (asks-alone y false c none)

-- what comes and goes lacks y
pub record AreWithout (K : Entries) (lines : List Line) (ns : List ℕ) (y : ℕ) : Type 0 where
  pub come : All (λ (l : Line). has_var l.clause y ≡ false) lines
  pub within : All (λ n. (1 ≤ n) × (n ≤ length K)) ns
  pub go : All (λ n. has_var (there K n) y ≡ false) ns

module _ (K : Entries) (lines : List Line) (ns : List ℕ) (y : ℕ) (h : AreWithout K lines ns y) where
  come-false : (p : Clause → Bool) → Asks y p → All (λ (l : Line). p l.clause ≡ false) lines
  come-false p asks = All-weaker (λ (l : Line). has_var l.clause y ≡ false) (λ (l : Line). p l.clause ≡ false) (λ l e. asks l.clause e) lines h.come

  entry-false : (p : Clause → Bool) → Asks y p → (o : Option Clause) → has_var (unwrap_or o []) y ≡ false → passes p o ≡ false
  entry-false p asks None e = refl
  entry-false p asks (Some c) e = asks c e

  go-false : (p : Clause → Bool) → Asks y p → (ms : List ℕ) → All (λ n. (1 ≤ n) × (n ≤ length K)) ms → All (λ n. has_var (there K n) y ≡ false) ms → All (λ n. passes p (entry_at (with_clauses K lines) n) ≡ false) ms
  go-false p asks ms low e = All-both ms low e
    where
      All-both : (ks : List ℕ) → All (λ n. (1 ≤ n) × (n ≤ length K)) ks → All (λ n. has_var (there K n) y ≡ false) ks → All (λ n. passes p (entry_at (with_clauses K lines) n) ≡ false) ks
      All-both [] a b = All-nil (λ n. passes p (entry_at (with_clauses K lines) n) ≡ false)
      All-both (k ∷ ks) a b =
          let w = All-head (λ n. (1 ≤ n) × (n ≤ length K)) k ks a in
          let low_k = w.0 in
          let high_k = w.1 in
          All-cons (λ n. passes p (entry_at (with_clauses K lines) n) ≡ false) k ks
          (ap (passes p) (at-more K (map (λ (l : Line). Some l.clause) lines) (k - 1) (omega arith)) ∙ entry-false p asks (entry_at K k) (All-head (λ n. has_var (there K n) y ≡ false) k ks b))
          (All-both ks (All-tail (λ n. (1 ≤ n) × (n ≤ length K)) k ks a) (All-tail (λ n. has_var (there K n) y ≡ false) k ks b))

  numbers-kept : (p : Clause → Bool) → Asks y p → numbers_in p 1 (without_entries (with_clauses K lines) ns) ≡ numbers_in p 1 K
  numbers-kept p asks = numbers-without p 1 (with_clauses K lines) ns (go-false p asks ns h.within h.go) ∙ numbers-more p 1 K lines (come-false p asks)

  unit-kept : has_unit_in y (without_entries (with_clauses K lines) ns) ≡ has_unit_in y K
  unit-kept = any-without (is_unit_of y) (with_clauses K lines) ns (go-false (is_unit_of y) (asks-unit y) ns h.within h.go) ∙ any-more (is_unit_of y) K lines (come-false (is_unit_of y) (asks-unit y))

  pub weight-kept : weight_in (without_entries (with_clauses K lines) ns) y ≡ weight_in K y
  weight-kept =
      ap (λ b. if b then 0 else length (holding (positive y) (without_entries (with_clauses K lines) ns)) * length (holding (negative y) (without_entries (with_clauses K lines) ns))) unit-kept
      ∙ ap₂ (λ (ps qs : List ℕ). if has_unit_in y K then 0 else length ps * length qs) (numbers-kept (λ c. has c (positive y)) (asks-positive y true)) (numbers-kept (λ c. has c (negative y)) (asks-positive y false))
