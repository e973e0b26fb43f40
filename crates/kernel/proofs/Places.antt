-- Elements at places.
use Rattle.std.proofs.Common.{◌≡◌, ◌≢◌, ℕ, zero, suc, ◌+◌, ◌-◌, ◌<◌, ◌≤◌, List, [], ◌∷◌, ◌++◌, length, get_or, set, refl, sym, ◌∙◌, ◌⊎◌, inl, inr, arith}
use Rattle.std.proofs.lemmas.List.{get_or_default, get_or-set_same, get_or-set_other, length-set, get_or_append_left, get_or_push, length_push, get_or-take, length-take-le}
use Rattle.std.proofs.lemmas.Bool.{cases_eq, cases_lt}
use Rattle.std.specs.List.{Contains, swap_remove}
use Rattle.kernel.specs.Watching.{At}

pub At-one : {X : Type 0} (xs : List X) (n : ℕ) (x y : X) → At xs n x → At xs n y → x ≡ y
At-one xs n x y a b = sym a.1 ∙ get_or_default xs n x y a.0 ∙ b.1

pub At-get : {X : Type 0} (xs : List X) (n : ℕ) (d : X) → n < length xs → At xs n (get_or xs n d)
At-get xs n d h = (h, get_or_default xs n (get_or xs n d) d h)

pub At-set : {X : Type 0} (xs : List X) (i : ℕ) (v : X) (n : ℕ) (x : X) → At (set xs i v) n x → ((n ≡ i) × (x ≡ v)) ⊎ ((n ≢ i) × At xs n x)
At-set xs i v n x a = go (cases_eq n i)
  where
    within : n < length xs
    within = omega (arith, length-set xs i v, a.0)

    go : (n ≡ i) ⊎ (n ≢ i) → ((n ≡ i) × (x ≡ v)) ⊎ ((n ≢ i) × At xs n x)
    go (inl e) =
        let here : i < length xs = omega (arith, e, within) in
        let value : get_or (set xs i v) n x ≡ v = rw e (get_or-set_same xs i v x here) in
        inl (e, sym a.1 ∙ value)
    go (inr e) = inr (e, (within, sym (get_or-set_other xs i n v x e) ∙ a.1))

pub At-push : {X : Type 0} (xs : List X) (v : X) (n : ℕ) (x : X) → At (xs ++ v ∷ []) n x → At xs n x ⊎ ((n ≡ length xs) × (x ≡ v))
At-push xs v n x a = go (cases_lt n (length xs))
  where
    bound : n < length xs + 1
    bound = omega (arith, length_push xs v, a.0)

    go : (n < length xs) ⊎ (length xs ≤ n) → At xs n x ⊎ ((n ≡ length xs) × (x ≡ v))
    go (inl h) = inl (h, sym (get_or_append_left xs (v ∷ []) x n h) ∙ a.1)
    go (inr h) =
        let e : n ≡ length xs = omega (arith, h, bound) in
        inr (e, sym a.1 ∙ get_or_push xs v x n (sym e))

-- what stands behind a front of so many
pub At-behind : {X : Type 0} (xs ys : List X) (y : X) (n : ℕ) → length xs ≡ n → At (xs ++ y ∷ ys) n y
At-behind [] ys y zero h = (omega arith, refl)
At-behind [] ys y (suc n) h = absurd (omega (arith, h))
At-behind (x ∷ xs) ys y zero h = absurd (omega (arith, h))
At-behind (x ∷ xs) ys y (suc n) h = let r = At-behind xs ys y n (omega (arith, h)) in (omega (arith, r.0), r.1)

-- where an element stands once another one is taken out and the last one put in its place
swap_remove-place : (xs : List ℕ) (j d p n : ℕ) → j < length xs → p < length xs → p ≢ j → get_or xs p n ≡ n
    → (q : ℕ) × (q < length (swap_remove xs j d)) × (get_or (swap_remove xs j d) q n ≡ n) × (j ≤ p → j ≤ q)
swap_remove-place xs j d p n inside here other read = go (cases_eq p (length xs - 1))
  where
    moved : List ℕ
    moved = set xs j (get_or xs (length xs - 1) d)

    same_length : length (set xs j (get_or xs (length xs - 1) d)) ≡ length xs
    same_length = length-set xs j (get_or xs (length xs - 1) d)

    size : length (swap_remove xs j d) ≡ length xs - 1
    size = length-take-le (length xs - 1) (set xs j (get_or xs (length xs - 1) d)) (omega (arith, same_length))

    go : (p ≡ length xs - 1) ⊎ (p ≢ length xs - 1) → (q : ℕ) × (q < length (swap_remove xs j d)) × (get_or (swap_remove xs j d) q n ≡ n) × (j ≤ p → j ≤ q)
    go (inl e) =
        let below : j < length xs - 1 = omega (arith, e, other, inside) in
        let taken : get_or (swap_remove xs j d) j n ≡ get_or (set xs j (get_or xs (length xs - 1) d)) j n = get_or-take (length xs - 1) (set xs j (get_or xs (length xs - 1) d)) j n below in
        let put : get_or (set xs j (get_or xs (length xs - 1) d)) j n ≡ get_or xs (length xs - 1) d = get_or-set_same xs j (get_or xs (length xs - 1) d) n inside in
        let last : get_or xs (length xs - 1) d ≡ get_or xs p n = rw (← e) (get_or_default xs p d n here) in
        (j, omega (arith, size, below), taken ∙ put ∙ last ∙ read, (λ h. let z : j ≤ j = omega arith in z))
    go (inr e) =
        let below : p < length xs - 1 = omega (arith, e, here) in
        let taken : get_or (swap_remove xs j d) p n ≡ get_or (set xs j (get_or xs (length xs - 1) d)) p n = get_or-take (length xs - 1) (set xs j (get_or xs (length xs - 1) d)) p n below in
        let kept : get_or (set xs j (get_or xs (length xs - 1) d)) p n ≡ get_or xs p n = get_or-set_other xs j p (get_or xs (length xs - 1) d) n other in
        (p, omega (arith, size, below), taken ∙ kept ∙ read, (λ h. h))

-- one that is not the one taken out is still there
pub Contains-swap_remove : (xs : List ℕ) (j d n m : ℕ) → At xs j n → m ≢ n → Contains xs m → Contains (swap_remove xs j d) m
Contains-swap_remove xs j d n m at ne (p, here, read) =
    let other : p ≢ j = λ e. ne (At-one xs j m n (rw (← e) here, rw (← e) read) at) in
    let q = swap_remove-place xs j d p m at.0 here other read in
    (q.0, q.1, q.2)

-- where an element stood before one was taken out
swap_remove-from : (xs : List ℕ) (j d q n : ℕ) → j < length xs → At (swap_remove xs j d) q n → (p : ℕ) × At xs p n × (p ≢ j) × ((q ≡ j) × (p ≡ length xs - 1) ⊎ (q ≢ j) × (p ≡ q))
swap_remove-from xs j d q n inside (here, read) = go (cases_eq q j)
  where
    same_length : length (set xs j (get_or xs (length xs - 1) d)) ≡ length xs
    same_length = length-set xs j (get_or xs (length xs - 1) d)

    size : length (swap_remove xs j d) ≡ length xs - 1
    size = length-take-le (length xs - 1) (set xs j (get_or xs (length xs - 1) d)) (omega (arith, same_length))

    below : q < length xs - 1
    below = omega (arith, size, here)

    taken : get_or (swap_remove xs j d) q n ≡ get_or (set xs j (get_or xs (length xs - 1) d)) q n
    taken = get_or-take (length xs - 1) (set xs j (get_or xs (length xs - 1) d)) q n below

    go : (q ≡ j) ⊎ (q ≢ j) → (p : ℕ) × At xs p n × (p ≢ j) × ((q ≡ j) × (p ≡ length xs - 1) ⊎ (q ≢ j) × (p ≡ q))
    go (inl e) =
        let put : get_or (set xs j (get_or xs (length xs - 1) d)) q n ≡ get_or xs (length xs - 1) d = rw e (get_or-set_same xs j (get_or xs (length xs - 1) d) n inside) in
        let last : length xs - 1 < length xs = omega (arith, below) in
        let other : length xs - 1 ≢ j = λ f. omega (arith, f, e, below) in
        (length xs - 1, (last, get_or_default xs (length xs - 1) n d last ∙ sym put ∙ sym taken ∙ read), other, inl (e, refl))
    go (inr e) =
        let kept : get_or (set xs j (get_or xs (length xs - 1) d)) q n ≡ get_or xs q n = get_or-set_other xs j q (get_or xs (length xs - 1) d) n e in
        let low : q < length xs = omega (arith, below) in
        (q, (low, sym kept ∙ sym taken ∙ read), e, inr (e, refl))

-- what stands once still does
pub swap_remove-once : (xs : List ℕ) (j d n : ℕ) → j < length xs → ((a b : ℕ) → At xs a n → At xs b n → a ≡ b) → (a b : ℕ) → At (swap_remove xs j d) a n → At (swap_remove xs j d) b n → a ≡ b
swap_remove-once xs j d n inside once a b x y =
    let p = swap_remove-from xs j d a n inside x in
    let q = swap_remove-from xs j d b n inside y in
    go p.0 q.0 (once p.0 q.0 p.1 q.1) p.3 q.3
  where
    size : length (swap_remove xs j d) ≡ length xs - 1
    size = length-take-le (length xs - 1) (set xs j (get_or xs (length xs - 1) d)) (omega (arith, length-set xs j (get_or xs (length xs - 1) d)))

    go : (p q : ℕ) → p ≡ q → ((a ≡ j) × (p ≡ length xs - 1) ⊎ (a ≢ j) × (p ≡ a)) → ((b ≡ j) × (q ≡ length xs - 1) ⊎ (b ≢ j) × (q ≡ b)) → a ≡ b
    go p q e (inl (f, g)) (inl (h, i)) = f ∙ sym h
    go p q e (inl (f, g)) (inr (h, i)) = absurd (omega (arith, e, g, i, y.0, size))
    go p q e (inr (f, g)) (inl (h, i)) = absurd (omega (arith, e, g, i, x.0, size))
    go p q e (inr (f, g)) (inr (h, i)) = sym g ∙ e ∙ i
