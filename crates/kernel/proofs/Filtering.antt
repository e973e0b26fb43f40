-- What a test leaves of a list, by places.
use Rattle.std.proofs.Common.{◌≡◌, ℕ, zero, suc, ◌<◌, Bool, true, false, List, [], ◌∷◌, length, map, filter, get_or, refl, ap, sym, subst, ◌∙◌, arith, cond}
use Rattle.std.specs.List.{Contains}
use Rattle.kernel.specs.Watching.{At}

At-next : {X : Type 0} (y : X) (xs : List X) (i : ℕ) (x : X) → At xs i x → At (y ∷ xs) (suc i) x
At-next y xs i x a = ((let z : suc i < length (y ∷ xs) = omega (arith, a.0) in z), a.1)

At-tail : {X : Type 0} (y : X) (xs : List X) (i : ℕ) (x : X) → At (y ∷ xs) (suc i) x → At xs i x
At-tail y xs i x a = ((let z : i < length xs = omega (arith, a.0) in z), a.1)

-- an element that is left passes the test, and stood in the list
pub At-filter : {X : Type 0} (p : X → Bool) (xs : List X) (i : ℕ) (x : X) → At (filter p xs) i x → (p x ≡ true) × ((k : ℕ) × At xs k x)
At-filter p [] i x a = absurd (omega (arith, a.0))
At-filter {X} p (y ∷ xs) i x a = go (p y) refl i a (λ j h. At-filter p xs j x h)
  where
    further : (p x ≡ true) × ((k : ℕ) × At xs k x) → (p x ≡ true) × ((k : ℕ) × At (y ∷ xs) k x)
    further r = (r.0, (suc r.1.0, At-next y xs r.1.0 x r.1.1))

    go : (b : Bool) → p y ≡ b → (j : ℕ) → At (cond b (y ∷ filter p xs) (filter p xs)) j x → ((j : ℕ) → At (filter p xs) j x → (p x ≡ true) × ((k : ℕ) × At xs k x)) → (p x ≡ true) × ((k : ℕ) × At (y ∷ xs) k x)
    go false e j h more = further (more j h)
    go true e zero h more = (subst (λ (z : X). p z ≡ true) h.1 e, (0, ((let z : 0 < length (y ∷ xs) = omega arith in z), h.1)))
    go true e (suc j) h more = further (more j (At-tail y (filter p xs) j x h))

pub Contains-of_filter : {X : Type 0} (p : X → Bool) (xs : List X) (x : X) → Contains (filter p xs) x → (p x ≡ true) × Contains xs x
Contains-of_filter p xs x (i, inside, read) = let r = At-filter p xs i x (inside, read) in (r.0, (r.1.0, r.1.1.0, r.1.1.1))

-- one that passes is left
pub Contains-filter : {X : Type 0} (p : X → Bool) (xs : List X) (x : X) → p x ≡ true → Contains xs x → Contains (filter p xs) x
Contains-filter p [] x h (k, inside, read) = absurd (omega (arith, inside))
Contains-filter {X} p (y ∷ xs) x h (k, inside, read) = go (p y) refl k inside read (λ c. Contains-filter p xs x h c)
  where
    go : (b : Bool) → p y ≡ b → (j : ℕ) → j < length (y ∷ xs) → get_or (y ∷ xs) j x ≡ x → (Contains xs x → Contains (filter p xs) x) → Contains (cond b (y ∷ filter p xs) (filter p xs)) x
    go false e zero i r more = absurd (let f : true ≡ false = sym h ∙ (ap p (sym r) ∙ e) in cc)
    go true e zero i r more = (0, (let z : 0 < length (y ∷ filter p xs) = omega arith in z), r)
    go false e (suc j) i r more = more (j, (let z : j < length xs = omega (arith, i) in z), r)
    go true e (suc j) i r more =
        let c = more (j, (let z : j < length xs = omega (arith, i) in z), r) in
        (suc c.0, (let z : suc c.0 < length (y ∷ filter p xs) = omega (arith, c.1) in z), c.2)

-- what stands once in the list stands once in what is left
pub once-filter : {X : Type 0} (p : X → Bool) (xs : List X) (x : X) → ((i j : ℕ) → At xs i x → At xs j x → i ≡ j) → (i j : ℕ) → At (filter p xs) i x → At (filter p xs) j x → i ≡ j
once-filter p [] x once i j a b = absurd (omega (arith, a.0))
once-filter {X} p (y ∷ xs) x once i j a b =
    go (p y) i j a b (λ i j a b. once-filter p xs x (λ k m c d. let e : suc k ≡ suc m = once (suc k) (suc m) (At-next y xs k x c) (At-next y xs m x d) in omega (arith, e)) i j a b)
  where
    twice : y ≡ x → (j : ℕ) → At (filter p xs) j x → ⊥
    twice e j h =
        let r = At-filter p xs j x h in
        let f : 0 ≡ suc r.1.0 = once 0 (suc r.1.0) ((let z : 0 < length (y ∷ xs) = omega arith in z), e) (At-next y xs r.1.0 x r.1.1) in
        omega (arith, f)

    go : (b : Bool) (i j : ℕ) → At (cond b (y ∷ filter p xs) (filter p xs)) i x → At (cond b (y ∷ filter p xs) (filter p xs)) j x → ((i j : ℕ) → At (filter p xs) i x → At (filter p xs) j x → i ≡ j) → i ≡ j
    go false i j a b rest = rest i j a b
    go true zero zero a b rest = refl
    go true zero (suc j) a b rest = absurd (twice a.1 j (At-tail y (filter p xs) j x b))
    go true (suc i) zero a b rest = absurd (twice b.1 i (At-tail y (filter p xs) i x a))
    go true (suc i) (suc j) a b rest = ap suc (rest i j (At-tail y (filter p xs) i x a) (At-tail y (filter p xs) j x b))

-- a test of what is made of the elements
pub filter-map : {X Y : Type 0} (f : X → Y) (p : Y → Bool) (xs : List X) → filter p (map f xs) ≡ map f (filter (λ x. p (f x)) xs)
filter-map f p [] = refl
filter-map {X} {Y} f p (x ∷ xs) = go (p (f x)) (filter-map f p xs)
  where
    go : (b : Bool) → filter p (map f xs) ≡ map f (filter (λ x. p (f x)) xs) → cond b (f x ∷ filter p (map f xs)) (filter p (map f xs)) ≡ map f (cond b (x ∷ filter (λ x. p (f x)) xs) (filter (λ x. p (f x)) xs))
    go true e = ap (λ (ys : List Y). f x ∷ ys) e
    go false e = e
