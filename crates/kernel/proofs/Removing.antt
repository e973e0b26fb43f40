-- What is left of a list without what stands at a place.
use Rattle.std.proofs.Common.{◌≡◌, ◌≢◌, ℕ, zero, suc, ◌-◌, ◌<◌, ◌≤◌, List, [], ◌∷◌, ◌++◌, length, get_or, map, refl, ap, sym, ◌∙◌, ◌⊎◌, inl, inr, arith}
use Rattle.std.proofs.lemmas.Bool.{cases_lt}
use Rattle.std.specs.List.{Contains}
use Rattle.kernel.specs.Watching.{At, without_nth}
use Rattle.kernel.proofs.Places.{At-one}

pub length-without : {X : Type 0} (xs : List X) (j : ℕ) → j < length xs → length (without_nth xs j) ≡ length xs - 1
length-without [] j h = absurd (omega (arith, h))
length-without (x ∷ xs) zero h = let z : length xs ≡ length (x ∷ xs) - 1 = omega arith in z
length-without (x ∷ xs) (suc j) h =
    let low : j < length xs = omega (arith, h) in
    let rest : length (without_nth xs j) ≡ length xs - 1 = length-without xs j low in
    let z : length (x ∷ without_nth xs j) ≡ length (x ∷ xs) - 1 = omega (arith, rest, low) in z

-- before the place each stands where it stood
without-before : {X : Type 0} (xs : List X) (j q : ℕ) (d : X) → q < j → get_or (without_nth xs j) q d ≡ get_or xs q d
without-before [] j q d h = refl
without-before (x ∷ xs) zero q d h = absurd (omega (arith, h))
without-before (x ∷ xs) (suc j) zero d h = refl
without-before (x ∷ xs) (suc j) (suc q) d h = without-before xs j q d (omega (arith, h))

-- and from there on one place further to the front
without-behind : {X : Type 0} (xs : List X) (j q : ℕ) (d : X) → j ≤ q → get_or (without_nth xs j) q d ≡ get_or xs (suc q) d
without-behind [] j q d h = refl
without-behind (x ∷ xs) zero q d h = refl
without-behind (x ∷ xs) (suc j) zero d h = absurd (omega (arith, h))
without-behind (x ∷ xs) (suc j) (suc q) d h = without-behind xs j q d (omega (arith, h))

-- what stands behind a front of so many goes
pub without-first-behind : {X : Type 0} (xs ys : List X) (y : X) (j : ℕ) → length xs ≡ j → without_nth (xs ++ y ∷ ys) j ≡ xs ++ ys
without-first-behind [] ys y zero h = refl
without-first-behind [] ys y (suc j) h = absurd (omega (arith, h))
without-first-behind (x ∷ xs) ys y zero h = absurd (omega (arith, h))
without-first-behind (x ∷ xs) ys y (suc j) h = ap (λ zs. x ∷ zs) (without-first-behind xs ys y j (omega (arith, h)))

pub map-without : {X Y : Type 0} (f : X → Y) (xs : List X) (j : ℕ) → map f (without_nth xs j) ≡ without_nth (map f xs) j
map-without f [] j = refl
map-without f (x ∷ xs) zero = refl
map-without f (x ∷ xs) (suc j) = ap (λ ys. f x ∷ ys) (map-without f xs j)

-- where an element stood before
pub without-from : {X : Type 0} (xs : List X) (j q : ℕ) (x : X) → j < length xs → At (without_nth xs j) q x → (p : ℕ) × At xs p x × (p ≢ j) × ((q < j) × (p ≡ q) ⊎ (j ≤ q) × (p ≡ suc q))
without-from xs j q x inside (here, read) = go (cases_lt q j)
  where
    size : length (without_nth xs j) ≡ length xs - 1
    size = length-without xs j inside

    go : (q < j) ⊎ (j ≤ q) → (p : ℕ) × At xs p x × (p ≢ j) × ((q < j) × (p ≡ q) ⊎ (j ≤ q) × (p ≡ suc q))
    go (inl h) = (q, (omega (arith, here, size), sym (without-before xs j q x h) ∙ read), (λ e. omega (arith, e, h)), inl (h, refl))
    go (inr h) = (suc q, (omega (arith, here, size), sym (without-behind xs j q x h) ∙ read), (λ e. omega (arith, e, h)), inr (h, refl))

-- where one stands that isn't taken out
pub without-place : (xs : List ℕ) (j p n : ℕ) → j < length xs → p < length xs → p ≢ j → get_or xs p n ≡ n
    → (q : ℕ) × (q < length (without_nth xs j)) × (get_or (without_nth xs j) q n ≡ n) × (j ≤ p → j ≤ q)
without-place xs j p n inside here other read = go (cases_lt p j)
  where
    size : length (without_nth xs j) ≡ length xs - 1
    size = length-without xs j inside

    go : (p < j) ⊎ (j ≤ p) → (q : ℕ) × (q < length (without_nth xs j)) × (get_or (without_nth xs j) q n ≡ n) × (j ≤ p → j ≤ q)
    go (inl h) = (p, omega (arith, size, inside, h), without-before xs j p n h ∙ read, (λ k. k))
    go (inr h) =
        let back : suc (p - 1) ≡ p = omega (arith, h, other) in
        let low : j ≤ p - 1 = omega (arith, h, other) in
        (p - 1, omega (arith, size, here, h, other), without-behind xs j (p - 1) n low ∙ ap (λ k. get_or xs k n) back ∙ read, (λ k. low))

-- what is left was there
pub Contains-of_without : (xs : List ℕ) (j n : ℕ) → j < length xs → Contains (without_nth xs j) n → Contains xs n
Contains-of_without xs j n inside (q, here, read) = let r = without-from xs j q n inside (here, read) in (r.0, r.1.0, r.1.1)

-- the same, of one that is not the one taken out
pub Contains-without : (xs : List ℕ) (j n m : ℕ) → At xs j n → m ≢ n → Contains xs m → Contains (without_nth xs j) m
Contains-without xs j n m at ne (p, here, read) =
    let other : p ≢ j = λ e. ne (At-one xs j m n (rw (← e) here, rw (← e) read) at) in
    let q = without-place xs j p m at.0 here other read in
    (q.0, q.1, q.2)

-- what stands once is gone when it is taken out
pub without-gone : (xs : List ℕ) (j n : ℕ) → At xs j n → ((a b : ℕ) → At xs a n → At xs b n → a ≡ b) → Contains (without_nth xs j) n → ⊥
without-gone xs j n at once (q, here, read) =
    let r = without-from xs j q n at.0 (here, read) in
    r.2 (once r.0 j r.1 at)

-- what stands once still does
pub without-once : (xs : List ℕ) (j n : ℕ) → j < length xs → ((a b : ℕ) → At xs a n → At xs b n → a ≡ b) → (a b : ℕ) → At (without_nth xs j) a n → At (without_nth xs j) b n → a ≡ b
without-once xs j n inside once a b x y =
    let p = without-from xs j a n inside x in
    let q = without-from xs j b n inside y in
    go p.0 q.0 (once p.0 q.0 p.1 q.1) p.3 q.3
  where
    go : (p q : ℕ) → p ≡ q → ((a < j) × (p ≡ a) ⊎ (j ≤ a) × (p ≡ suc a)) → ((b < j) × (q ≡ b) ⊎ (j ≤ b) × (q ≡ suc b)) → a ≡ b
    go p q e (inl (f, g)) (inl (h, i)) = omega (arith, e, g, i)
    go p q e (inl (f, g)) (inr (h, i)) = absurd (omega (arith, e, f, g, h, i))
    go p q e (inr (f, g)) (inl (h, i)) = absurd (omega (arith, e, f, g, h, i))
    go p q e (inr (f, g)) (inr (h, i)) = omega (arith, e, g, i)
