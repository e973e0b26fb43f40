-- The variables that a conflict has seen, as a list.
use Rattle.std.proofs.Common.{◌≡◌, ℕ, suc, zero, ◌<◌, ◌≤◌, Bool, true, false, ◌||◌, List, [], ◌∷◌, length, slice_index, count_by, cond, refl, ap, sym, subst, nat_eq, nat_lt, eq-eqb, Option, Some, None, All, arith}
use Rattle.std.specs.List.{list_any}
use Rattle.std.proofs.lemmas.List.Elements.{All-nil, All-cons}
use Rattle.theory.specs.Literals.{Clause, IsVariable, has_var}
use Rattle.theory.specs.Truth.{IsOver}
use Rattle.theory.specs.Plans.{Constants}
use Rattle.theory.specs.Modes.{Mode}
use Rattle.theory.specs.Trails.{Trail, Entry, literals, entry_of, level_at}
use Rattle.theory.specs.Propagation.{clause_at}
use Rattle.theory.specs.Scores.{Scores, is_seen, scores_after}
use Rattle.theory.proofs.literals.LiteralLemmas.{and-left}
use Rattle.theory.proofs.literals.OverVariables.{AreOver-from_IsOver}
use Rattle.heuristics.specs.Rankings.{AreDistinct}
use Rattle.cdcl.specs.Numbers.{is_one_of, StandOnce}
use Rattle.cdcl.proofs.NumberSets.{count-cons, one-counted}
use Rattle.cdcl.proofs.TrailValues.{entry_of-there}

-- each is a variable
pub seen-variable : (V : ℕ) (K : List Clause) (T : Trail) (numbers : List ℕ) (v : ℕ) → IsOver V (literals T) → is_seen K T numbers v ≡ true → IsVariable V v
seen-variable V K T numbers v over h = go (entry_of T v) refl (and-left (nat_lt 0 (level_at (entry_of T v))) (list_any (λ n. has_var (clause_at K n) v) numbers) h)
  where
    go : (o : Option Entry) → entry_of T v ≡ o → nat_lt 0 (level_at o) ≡ true → IsVariable V v
    go None e q = absurd (cc)
    go (Some d) e q = let there = entry_of-there T v d e in subst (IsVariable V) there.0 (AreOver-from_IsOver V (literals T) over d.lit there.1)

-- what stands in a list of numbers is one of them
pub one-at : (xs : List ℕ) (i : ℕ) → i < length xs → is_one_of xs (slice_index xs i) ≡ true
one-at [] i h = absurd (omega arith)
one-at (x ∷ xs) zero h = ap (λ b. b || is_one_of xs x) (eq-eqb x x refl)
one-at (x ∷ xs) (suc i) h = rw (one-at xs i (omega arith)) (or_true (nat_eq (slice_index xs i) x))
  where
    or_true : (b : Bool) → (b || true) ≡ true
    or_true true = refl
    or_true false = refl

pub All-one_of : (P : ℕ → Type 0) (xs : List ℕ) → ((n : ℕ) → is_one_of xs n ≡ true → P n) → All P xs
All-one_of P [] t = All-nil P
All-one_of P (y ∷ ys) t = All-cons P y ys (t y (ap (λ b. b || is_one_of ys y) (eq-eqb y y refl))) (All-one_of P ys (λ n k. t n (later n k)))
  where
    later : (n : ℕ) → is_one_of ys n ≡ true → (nat_eq n y || is_one_of ys n) ≡ true
    later n k = rw k (or_true (nat_eq n y))
      where
        or_true : (b : Bool) → (b || true) ≡ true
        or_true true = refl
        or_true false = refl

-- a number that stands at two places is counted twice
counted-twice : (xs : List ℕ) (i j n : ℕ) → i < j → j < length xs → slice_index xs i ≡ n → slice_index xs j ≡ n → 2 ≤ count_by (nat_eq n) xs
counted-twice [] i j n less inside one two = absurd (omega arith)
counted-twice (x ∷ xs) i zero n less inside one two = absurd (omega arith)
counted-twice (x ∷ xs) zero (suc j) n less inside one two =
    let sum = count-cons (nat_eq n) x xs in
    let here : ◌≡◌ {A = ℕ} (cond (nat_eq n x) 1 0) 1 = ap (λ b. cond b 1 0) (eq-eqb n x (sym one)) in
    let rest = one-counted n xs (subst (λ k. is_one_of xs k ≡ true) two (one-at xs j (omega arith))) in
    omega (arith, sum, here, rest)
counted-twice (x ∷ xs) (suc i) (suc j) n less inside one two = let sum = count-cons (nat_eq n) x xs in let rest = counted-twice xs i j n (omega arith) (omega arith) one two in omega (arith, sum, rest)

pub AreDistinct-once : (xs : List ℕ) → StandOnce xs → AreDistinct xs
AreDistinct-once xs once i j less inside same =
    let twice = counted-twice xs i j (slice_index xs j) less inside same refl in
    let most = once (slice_index xs j) in
    omega (arith, twice, most)

-- the same variables gain
pub scores_after-same : (c : Constants) (mode : Mode) (V : ℕ) (f g : ℕ → Bool) (s : Scores) → ((v : ℕ) → f v ≡ g v) → scores_after c mode V f s ≡ scores_after c mode V g s
scores_after-same c mode V f g s h = ap (λ (seen : ℕ → Bool). scores_after c mode V seen s) (λ i v. h v i)
