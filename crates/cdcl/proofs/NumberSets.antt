-- Sets of numbers, kept as flags beside their list.
use Rattle.std.proofs.Common.{◌≡◌, ℕ, inl, inr, ◌+◌, ◌<◌, ◌≤◌, Bool, true, false, ◌||◌, List, [], ◌∷◌, ◌++◌, length, count_by, get_or, zero, suc, refl, ap, ap₂, sym, ◌⊎◌, nat_le, le-leb, leb-true, ◌∙◌, cond, nat_eq, eqb-true, eq-eqb, slice_index_or, if◌then◌else◌, All, arith}
use Rattle.std.proofs.lemmas.Bool.{cases_lt, cases_eq}
use Rattle.std.proofs.lemmas.List.Sums.{sum_by-cons, sum_by_push}
use Rattle.std.proofs.lemmas.List.{get_or_past}
use Rattle.std.proofs.lemmas.List.Elements.{All-nil, All-cons}
use Rattle.theory.proofs.literals.LiteralLemmas.{or-right}
use Rattle.theory.proofs.literals.LiteralSets.{true_false, false_unless}
use Rattle.cdcl.specs.Numbers.{AreFlagged, is_one_of, AreWith, StandOnce}

pub count-cons : {X : Type 0} (p : X → Bool) (x : X) (xs : List X) → count_by p (x ∷ xs) ≡ cond (p x) 1 0 + count_by p xs
count-cons p x xs = sum_by-cons (λ y. cond (p y) 1 0) x xs

-- a number that stands there is counted, and only such a one
pub one-counted : (n : ℕ) (xs : List ℕ) → is_one_of xs n ≡ true → 1 ≤ count_by (nat_eq n) xs
one-counted n [] h = absurd (cc)
one-counted n (x ∷ xs) h = rw (count-cons (nat_eq n) x xs) (go (nat_eq n x) h (one-counted n xs))
  where
    go : (b : Bool) → (b || is_one_of xs n) ≡ true → (is_one_of xs n ≡ true → 1 ≤ count_by (nat_eq n) xs) → 1 ≤ cond b 1 0 + count_by (nat_eq n) xs
    go true q more = omega arith
    go false q more = let m = more q in omega arith

pub none-counted : (n : ℕ) (xs : List ℕ) → is_one_of xs n ≡ false → count_by (nat_eq n) xs ≡ 0
none-counted n [] h = refl
none-counted n (x ∷ xs) h = count-cons (nat_eq n) x xs ∙ go (nat_eq n x) h (none-counted n xs)
  where
    go : (b : Bool) → (b || is_one_of xs n) ≡ false → (is_one_of xs n ≡ false → count_by (nat_eq n) xs ≡ 0) → cond b 1 0 + count_by (nat_eq n) xs ≡ 0
    go true q more = absurd (cc)
    go false q more = let m = more q in omega arith

-- the flag says whether a number is one of them
pub flag-says : (flags : List Bool) (xs : List ℕ) (n : ℕ) → AreFlagged flags xs → slice_index_or flags n false ≡ is_one_of xs n
flag-says flags xs n h = go (slice_index_or flags n false) (is_one_of xs n) refl refl
  where
    go : (b c : Bool) → slice_index_or flags n false ≡ b → is_one_of xs n ≡ c → b ≡ c
    go true true p q = refl
    go false false p q = refl
    go true false p q = let count : count_by (nat_eq n) xs ≡ 1 = h n ∙ ap (λ b. if b then 1 else 0) p in let none = none-counted n xs q in absurd (omega arith)
    go false true p q = let count : count_by (nat_eq n) xs ≡ 0 = h n ∙ ap (λ b. if b then 1 else 0) p in let one = one-counted n xs q in absurd (omega arith)

pub count-push : (n x : ℕ) (xs : List ℕ) → count_by (nat_eq n) (xs ++ x ∷ []) ≡ count_by (nat_eq n) xs + (if nat_eq n x then 1 else 0)
count-push n x xs = sum_by_push (λ y. cond (nat_eq n y) 1 0) xs x

-- one that is in stays in
pub AreWith-there : (flags : List Bool) (xs : List ℕ) (x : ℕ) → AreFlagged flags xs → slice_index_or flags x false ≡ true → AreWith x xs xs
AreWith-there flags xs x h there n = go (nat_eq n x) refl
  where
    go : (b : Bool) → nat_eq n x ≡ b → is_one_of xs n ≡ (b || is_one_of xs n)
    go true q = sym (flag-says flags xs n h) ∙ (ap (λ k. slice_index_or flags k false) (eqb-true n x q) ∙ there)
    go false q = refl

-- what is said of the list
pub StandOnce-flagged : (flags : List Bool) (xs : List ℕ) → AreFlagged flags xs → StandOnce xs
StandOnce-flagged flags xs h n = go (slice_index_or flags n false) (h n)
  where
    go : (b : Bool) → count_by (nat_eq n) xs ≡ (if b then 1 else 0) → count_by (nat_eq n) xs ≤ 1
    go true q = omega arith
    go false q = omega arith

pub inside-flagged : (flags : List Bool) (xs : List ℕ) → AreFlagged flags xs → All (λ n. n < length flags) xs
inside-flagged flags xs h = all xs (λ n t. inside n t)
  where
    inside : (n : ℕ) → is_one_of xs n ≡ true → n < length flags
    inside n t =
        let set : slice_index_or flags n false ≡ true = flag-says flags xs n h ∙ t in
        elim (cases_lt n (length flags)) [
          | inl less ↦ less
          | inr more ↦ true_false (slice_index_or flags n false) set (get_or_past flags n false more)
        ]

    all : (ys : List ℕ) → ((n : ℕ) → is_one_of ys n ≡ true → n < length flags) → All (λ n. n < length flags) ys
    all [] t = All-nil (λ n. n < length flags)
    all (y ∷ ys) t = All-cons (λ n. n < length flags) y ys (t y (here y)) (all ys (λ n k. t n (later n k)))
      where
        here : (y : ℕ) → (nat_eq y y || is_one_of ys y) ≡ true
        here y = ap (λ b. b || is_one_of ys y) (eq-eqb y y refl)

        later : (n : ℕ) → is_one_of ys n ≡ true → (nat_eq n y || is_one_of ys n) ≡ true
        later n k = rw k (or_true (nat_eq n y))
          where
            or_true : (b : Bool) → (b || true) ≡ true
            or_true true = refl
            or_true false = refl

-- all flags are set back
pub unset-all : (flags : List Bool) → ((n : ℕ) → slice_index_or flags n false ≡ false) → AreFlagged flags []
unset-all flags h n = rw (h n) refl

-- where a number stands
pub index_of : (xs : List ℕ) (n : ℕ) → is_one_of xs n ≡ true → (i : ℕ) × (i < length xs) × (get_or xs i 0 ≡ n)
index_of [] n h = absurd (cc)
index_of (x ∷ xs) n h = go (nat_eq n x) refl h (index_of xs n)
  where
    go : (b : Bool) → nat_eq n x ≡ b → (b || is_one_of xs n) ≡ true → (is_one_of xs n ≡ true → (i : ℕ) × (i < length xs) × (get_or xs i 0 ≡ n)) → (i : ℕ) × (i < suc (length xs)) × (get_or (x ∷ xs) i 0 ≡ n)
    go true e k more = (0, omega arith, sym (eqb-true n x e))
    go false e k more = let at = more k in (suc at.0, (let less = at.1 in omega (arith, less)), at.2)

count-same : (p q : ℕ → Bool) (xs : List ℕ) → ((x : ℕ) → p x ≡ q x) → count_by p xs ≡ count_by q xs
count-same p q [] h = refl
count-same p q (x ∷ xs) h = count-cons p x xs ∙ (ap₂ (λ b n. cond b 1 0 + n) (h x) (count-same p q xs h) ∙ sym (count-cons q x xs))

-- one number more
pub count-more : (V : ℕ) (xs : List ℕ) → count_by (λ x. nat_le x (suc V)) xs ≡ count_by (λ x. nat_le x V) xs + count_by (nat_eq (suc V)) xs
count-more V [] = refl
count-more V (x ∷ xs) =
    let rest = count-more V xs in
    let here = one (cases_lt x (suc V)) in
    let a = count-cons (λ x. nat_le x (suc V)) x xs in
    let b = count-cons (λ x. nat_le x V) x xs in
    let c = count-cons (nat_eq (suc V)) x xs in
    omega (arith, rest, here, a, b, c)
  where
    one : (x < suc V) ⊎ (suc V ≤ x) → cond (nat_le x (suc V)) 1 0 ≡ cond (nat_le x V) 1 0 + cond (nat_eq (suc V) x) 1 0
    one (inl less) =
        let a : nat_le x (suc V) ≡ true = le-leb x (suc V) (omega arith) in
        let b : nat_le x V ≡ true = le-leb x V (omega arith) in
        let c : nat_eq (suc V) x ≡ false = false_unless (nat_eq (suc V) x) (λ t. let e = eqb-true (suc V) x t in absurd (omega arith)) in
        rw (a, b, c) refl
    one (inr more) = elim (cases_eq x (suc V)) [
      | inl same ↦
          let a : nat_le x (suc V) ≡ true = le-leb x (suc V) (omega arith) in
          let b : nat_le x V ≡ false = false_unless (nat_le x V) (λ t. let e = leb-true x V t in absurd (omega arith)) in
          let c : nat_eq (suc V) x ≡ true = eq-eqb (suc V) x (sym same) in
          rw (a, b, c) refl
      | inr other ↦
          let a : nat_le x (suc V) ≡ false = false_unless (nat_le x (suc V)) (λ t. let e = leb-true x (suc V) t in other (omega arith)) in
          let b : nat_le x V ≡ false = false_unless (nat_le x V) (λ t. let e = leb-true x V t in absurd (omega arith)) in
          let c : nat_eq (suc V) x ≡ false = false_unless (nat_eq (suc V) x) (λ t. other (sym (eqb-true (suc V) x t))) in
          rw (a, b, c) refl
    ]

count-few : (V : ℕ) (xs : List ℕ) → StandOnce xs → count_by (λ x. nat_le x V) xs ≤ suc V
count-few zero xs once = let same = count-same (λ x. nat_le x 0) (nat_eq 0) xs least in let one = once 0 in omega (arith, same, one)
  where
    least : (x : ℕ) → nat_le x 0 ≡ nat_eq 0 x
    least zero = refl
    least (suc x) =
        let a : nat_le (suc x) 0 ≡ false = false_unless (nat_le (suc x) 0) (λ t. (let most = leb-true (suc x) 0 t in omega (arith, most))) in
        let b : nat_eq 0 (suc x) ≡ false = false_unless (nat_eq 0 (suc x)) (λ t. (let same = eqb-true 0 (suc x) t in omega (arith, same))) in
        a ∙ sym b
count-few (suc V) xs once = let more = count-more V xs in let few = count-few V xs once in let one = once (suc V) in omega (arith, more, few, one)

count-all : (p : ℕ → Bool) (xs : List ℕ) → ((n : ℕ) → is_one_of xs n ≡ true → p n ≡ true) → count_by p xs ≡ length xs
count-all p [] h = refl
count-all p (x ∷ xs) h = count-cons p x xs ∙ (let here : ◌≡◌ {A = ℕ} (cond (p x) 1 0) 1 = ap (λ b. cond b 1 0) (h x (rw (eq-eqb x x refl) refl)) in let rest = count-all p xs (λ n t. h n (or-right (nat_eq n x) (is_one_of xs n) t)) in omega (arith, here, rest))

-- numbers that stand once, all below a bound, are no more than it
pub once-few : (xs : List ℕ) (bound : ℕ) → StandOnce xs → All (λ n. n < bound) xs → length xs ≤ bound
once-few [] zero once inside = omega arith
once-few (x ∷ xs) zero once inside = let none : x < 0 = inside 0 0 (omega arith) in absurd (omega (arith, none))
once-few xs (suc V) once inside =
    let all = count-all (λ x. nat_le x V) xs (λ n t. (let at = index_of xs n t in let less : get_or xs at.0 0 < suc V = inside at.0 0 at.1 in le-leb n V (let is = at.2 in omega (arith, less, is)))) in
    let few = count-few V xs once in
    omega (arith, all, few)
