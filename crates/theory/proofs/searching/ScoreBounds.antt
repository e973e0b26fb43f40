-- Scores and their step stay below bounds.
use Rattle.std.proofs.Common.{◌≡◌, ℕ, zero, suc, ◌+◌, ◌-◌, ◌*◌, ◌/◌, ◌<◌, ◌≤◌, Bool, true, false, List, [], ◌∷◌, map, refl, ap, sym, ◌∙◌, nat_le, leb-true, leb-false, slice_index_or, arith, All, if◌then◌else◌}
use Rattle.std.proofs.lemmas.List.Elements.{All-nil, All-cons, All-head, All-tail, All-map, All-weaker}
use Rattle.std.proofs.Math.Nat.{div-le_self, div-le_of_le-mul, le-div_iff_mul-le, lt-div-mul-add, lt-mul-div-succ, mul_assoc, mul-div-le, mul-le-mul_left, mul-le-mul_right}
use Rattle.theory.specs.Plans.{Constants}
use Rattle.theory.specs.Modes.{Mode}
use Rattle.theory.specs.Trails.{variables}
use Rattle.theory.specs.Scores.{Scores, score_of, growth, gained, divided, scores_after}

abbrev AreAtMost : ℕ → List ℕ → Type 0
AreAtMost b xs = All (λ x. x ≤ b) xs

at-most : (b : ℕ) (xs : List ℕ) (i : ℕ) → AreAtMost b xs → slice_index_or xs i 0 ≤ b
at-most b [] i h = omega arith
at-most b (x ∷ xs) zero h = All-head (λ y. y ≤ b) x xs h
at-most b (x ∷ xs) (suc i) h = at-most b xs i (All-tail (λ y. y ≤ b) x xs h)

all-of : (P : ℕ → Type 0) (xs : List ℕ) → ((x : ℕ) → P x) → All P xs
all-of P [] f = All-nil P
all-of P (x ∷ xs) f = All-cons P x xs (f x) (all-of P xs f)

pub gained-most : (c : Constants) (mode : Mode) (V : ℕ) (seen : ℕ → Bool) (s : Scores) (b : ℕ) → AreAtMost b s.scores → AreAtMost (b + s.step) (gained c mode V seen s).scores
gained-most c mode V seen s b h = All-map (λ x. x ≤ b + s.step) (λ v. score_of s v + (if seen v then s.step else 0)) (variables V) (all-of _ (variables V) each)
  where
    each : (v : ℕ) → score_of s v + (if seen v then s.step else 0) ≤ b + s.step
    each v = let low = at-most b s.scores (v - 1) h in go (seen v) low
      where
        go : (t : Bool) → score_of s v ≤ b → score_of s v + (if t then s.step else 0) ≤ b + s.step
        go true low = omega arith
        go false low = omega arith

quotients-most : (b d : ℕ) (xs : List ℕ) → AreAtMost b xs → AreAtMost b (map (λ x. x / d) xs)
quotients-most b d [] h = h
quotients-most b d (x ∷ xs) h =
    let less = div-le_self x d in
    let most = All-head (λ y. y ≤ b) x xs h in
    All-cons (λ y. y ≤ b) (x / d) (map (λ y. y / d) xs) (omega (arith, less, most)) (quotients-most b d xs (All-tail (λ y. y ≤ b) x xs h))

divided-most : (c : Constants) (s : Scores) (b : ℕ) → AreAtMost b s.scores → AreAtMost b (divided c s).scores
divided-most c s b h = go (nat_le c.greatest_step s.step)
  where
    go : (t : Bool) → AreAtMost b (if t then record { scores = map (λ x. x / c.divisor) s.scores; step = s.step / c.divisor } else s).scores
    go true = quotients-most b c.divisor s.scores h
    go false = h

pub scores-most : (c : Constants) (mode : Mode) (V : ℕ) (seen : ℕ → Bool) (s : Scores) (b : ℕ) → AreAtMost b s.scores → AreAtMost (b + s.step) (scores_after c mode V seen s).scores
scores-most c mode V seen s b h = divided-most c (gained c mode V seen s) (b + s.step) (gained-most c mode V seen s b h)

-- a step is less than twice the greatest one, and is below it once it is divided
pub step-gained : (c : Constants) (mode : Mode) (V : ℕ) (seen : ℕ → Bool) (s : Scores) → s.step < c.greatest_step → (gained c mode V seen s).step < 2 * c.greatest_step
step-gained c mode V seen s h = let more = div-le_self s.step (growth c mode) in omega (arith, h, more)

pub step-after : (c : Constants) (mode : Mode) (V : ℕ) (seen : ℕ → Bool) (s : Scores) → 2 ≤ c.divisor → s.step < c.greatest_step → (scores_after c mode V seen s).step < c.greatest_step
step-after c mode V seen s two h = go (nat_le c.greatest_step t.step) refl
  where
    t : Scores
    t = gained c mode V seen s

    go : (b : Bool) → nat_le c.greatest_step t.step ≡ b → (if b then record { scores = map (λ x. x / c.divisor) t.scores; step = t.step / c.divisor } else t).step < c.greatest_step
    go false e = leb-false c.greatest_step t.step e
    go true e =
        let most : t.step < 2 * c.greatest_step = step-gained c mode V seen s h in
        let whole : c.divisor * (t.step / c.divisor) ≤ t.step = mul-div-le t.step c.divisor in
        let twice : 2 * (t.step / c.divisor) ≤ c.divisor * (t.step / c.divisor) = mul-le-mul_right (t.step / c.divisor) two in
        omega (arith, most, whole, twice)

-- a score is at most 32 times one more than the step
abbrev pub bound : ℕ → ℕ
bound step = 32 * (step + 1)

at-most-more : (b d : ℕ) (xs : List ℕ) → b ≤ d → AreAtMost b xs → AreAtMost d xs
at-most-more b d xs low h = All-weaker (λ x. x ≤ b) (λ x. x ≤ d) (λ x l. omega (arith, low, l)) xs h

-- where a step grows by a twentieth or more
grows-enough : (step g : ℕ) → 1 ≤ g → g ≤ 20 → 64 ≤ step → step ≤ 32 * (step / g)
grows-enough step g one twenty least =
    let q = step / g in
    let whole : step < q * g + g = lt-div-mul-add {a = step} {b = g} one in
    let most : q * g ≤ q * 20 = mul-le-mul_left q twenty in
    omega (arith, whole, most, twenty, least)

quotient-bound : (x step d : ℕ) → 1 ≤ d → x ≤ bound step → x / d ≤ bound (step / d)
quotient-bound x step d one h =
    let k = step / d + 1 in
    let whole : step < d * k = lt-mul-div-succ step {b = d} one in
    let turned : d * (32 * k) ≡ 32 * (d * k) = sym (mul_assoc d 32 k) ∙ (ap (λ y. y * k) (swapped d) ∙ mul_assoc 32 d k) in
    div-le_of_le-mul d (omega (arith, h, whole, turned))
  where
    swapped : (n : ℕ) → n * 32 ≡ 32 * n
    swapped n = omega arith

quotients-bound : (step d : ℕ) (xs : List ℕ) → 1 ≤ d → AreAtMost (bound step) xs → AreAtMost (bound (step / d)) (map (λ x. x / d) xs)
quotients-bound step d [] one h = All-nil (λ x. x ≤ bound (step / d))
quotients-bound step d (x ∷ xs) one h =
    All-cons (λ y. y ≤ bound (step / d)) (x / d) (map (λ y. y / d) xs) (quotient-bound x step d one (All-head (λ y. y ≤ bound step) x xs h))
    (quotients-bound step d xs one (All-tail (λ y. y ≤ bound step) x xs h))

pub scores-bound : (c : Constants) (mode : Mode) (V : ℕ) (seen : ℕ → Bool) (s : Scores) → 1 ≤ growth c mode → growth c mode ≤ 20 → 1 ≤ c.divisor → 64 ≤ s.step
    → AreAtMost (32 * (s.step + 1)) s.scores → AreAtMost (32 * ((scores_after c mode V seen s).step + 1)) (scores_after c mode V seen s).scores
scores-bound c mode V seen s one twenty some least h = go (nat_le c.greatest_step t.step)
  where
    t : Scores
    t = gained c mode V seen s

    grown : AreAtMost (bound t.step) t.scores
    grown =
        let enough = grows-enough s.step (growth c mode) one twenty least in
        at-most-more (bound s.step + s.step) (bound t.step) t.scores (omega (arith, enough)) (gained-most c mode V seen s (bound s.step) h)

    go : (b : Bool) → AreAtMost (32 * ((if b then record { scores = map (λ x. x / c.divisor) t.scores; step = t.step / c.divisor } else t).step + 1))
        (if b then record { scores = map (λ x. x / c.divisor) t.scores; step = t.step / c.divisor } else t).scores
    go true = quotients-bound t.step c.divisor t.scores some grown
    go false = grown

-- a step isn't less than the first one
pub step-stays : (c : Constants) (mode : Mode) (V : ℕ) (seen : ℕ → Bool) (s : Scores) (m : ℕ) → 1 ≤ c.divisor → m * c.divisor ≤ c.greatest_step → m ≤ s.step → m ≤ (scores_after c mode V seen s).step
step-stays c mode V seen s m some room h = go (nat_le c.greatest_step t.step) refl
  where
    t : Scores
    t = gained c mode V seen s

    go : (b : Bool) → nat_le c.greatest_step t.step ≡ b → m ≤ (if b then record { scores = map (λ x. x / c.divisor) t.scores; step = t.step / c.divisor } else t).step
    go false e = omega (arith, h)
    go true e =
        let most : c.greatest_step ≤ t.step = leb-true c.greatest_step t.step e in
        (le-div_iff_mul-le {k = c.divisor} {x = m} {y = t.step} some).1 (omega (arith, room, most))
