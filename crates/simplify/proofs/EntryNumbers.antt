-- What the entries of a simplification's clauses say of them.
use Rattle.std.proofs.Common.{◌≡◌, ℕ, zero, suc, ◌+◌, ◌-◌, ◌<◌, ◌≤◌, Bool, true, false, List, [], ◌∷◌, map, filter, length, refl, ap, sym, ◌∙◌, ◌⊎◌, inl, inr, Option, Some, None, Contains, slice_get, arith, if◌then◌else◌}
use Rattle.std.specs.List.{list_any}
use Rattle.std.specs.Option.{unwrap_or, option_map}
use Rattle.theory.specs.Literals.{Clause}
use Rattle.theory.specs.Checking.{clause_of}
use Rattle.theory.specs.Proofs.{numbers_from}
use Rattle.theory.specs.Simplifying.{Simplified, AreNumbered, clauses_in}
use Rattle.theory.specs.Eliminating.{clause_there, numbers_of}
use Rattle.theory.proofs.literals.Membership.{Contains-here, Contains-there, Contains-cases, Contains-none, Contains-map, map-Contains}
use Rattle.theory.proofs.simplifying.ListTests.{any-at, any-from}
use Rattle.theory.proofs.simplifying.Elimination.{entry-there}
use Rattle.theory.proofs.simplifying.Simplifications.{clause_of-there}
use Rattle.theory.proofs.simplifying.SimplifiedModels.{numbers_from-has}
use Rattle.simplify.specs.Entries.{Entries, set, entry_at, there, passes, numbers_in}
use Rattle.simplify.specs.Stored.{entry_in, stored}

pub filter-alike : {X : Type 0} (p q : X → Bool) (xs : List X) → ((x : X) → Contains xs x → p x ≡ q x) → filter p xs ≡ filter q xs
filter-alike p q [] h = refl
filter-alike {X} p q (x ∷ xs) h =
    ap (λ b. if b then x ∷ filter p xs else filter p xs) (h x (Contains-here x xs))
    ∙ ap (λ (ys : List X). if q x then x ∷ ys else ys) (filter-alike p q xs (λ y c. h y (Contains-there x xs y c)))

pub map-alike : {X Y : Type 0} (f g : X → Y) (xs : List X) → ((x : X) → Contains xs x → f x ≡ g x) → map f xs ≡ map g xs
map-alike f g [] h = refl
map-alike f g (x ∷ xs) h = ap (λ y. y ∷ map f xs) (h x (Contains-here x xs)) ∙ ap (λ ys. g x ∷ ys) (map-alike f g xs (λ y c. h y (Contains-there x xs y c)))

pub numbers-within : (n count k : ℕ) → Contains (numbers_from n count) k → (n ≤ k) × (k < n + count)
numbers-within n zero k c = absurd (Contains-none k c)
numbers-within n (suc count) k c = go (Contains-cases n (numbers_from (n + 1) count) k c) (numbers-within (n + 1) count k)
  where
    go : (n ≡ k) ⊎ Contains (numbers_from (n + 1) count) k → (Contains (numbers_from (n + 1) count) k → (n + 1 ≤ k) × (k < n + 1 + count)) → (n ≤ k) × (k < n + suc count)
    go (inl e) more = (omega arith, omega arith)
    go (inr r) more = let low = (more r).0 in let high = (more r).1 in (omega arith, omega arith)

pub both-ways : (a b : Bool) → (a ≡ true → b ≡ true) → (b ≡ true → a ≡ true) → a ≡ b
both-ways true b f g = sym (f refl)
both-ways false true f g = g refl
both-ways false false f g = refl

-- a test of the clauses as they are kept, and one of the clauses, say the same
pub record AreAlike (s : Simplified) (p q : Clause → Bool) : Type 0 where
  pub none : q [] ≡ false
  pub same : (n : ℕ) (c : Clause) → clause_of s.clauses n ≡ Some c → p (set c) ≡ q c

pub passes-there : (s : Simplified) (p q : Clause → Bool) (n : ℕ) → AreAlike s p q → passes p (entry_in s n) ≡ q (clause_there s n)
passes-there s p q n h = go (clause_of s.clauses n) refl
  where
    go : (o : Option Clause) → clause_of s.clauses n ≡ o → passes p (option_map set o) ≡ q (unwrap_or o [])
    go None e = sym h.none
    go (Some c) e = h.same n c e

pub numbers-mapped : (p : Clause → Bool) (f : ℕ → Option Clause) (n count : ℕ) → numbers_in p n (map f (numbers_from n count)) ≡ filter (λ m. passes p (f m)) (numbers_from n count)
numbers-mapped p f n zero = refl
numbers-mapped p f n (suc count) = ap (λ (ms : List ℕ). if passes p (f n) then n ∷ ms else ms) (numbers-mapped p f (n + 1) count)

-- so those that pass have the same numbers
pub numbers-stored : (s : Simplified) (p q : Clause → Bool) → AreAlike s p q → numbers_in p 1 (stored s) ≡ numbers_of q s
numbers-stored s p q h = numbers-mapped p (entry_in s) 1 s.last ∙ filter-alike (λ n. passes p (entry_in s n)) (λ n. q (clause_there s n)) (numbers_from 1 s.last) (λ n c. passes-there s p q n h)

-- and some entry passes where some clause does
pub any-stored : (s : Simplified) (p q : Clause → Bool) → ((n : ℕ) (c : Clause) → clause_of s.clauses n ≡ Some c → p (set c) ≡ q c) → AreNumbered s.last s.clauses → list_any (passes p) (stored s) ≡ list_any q (clauses_in s.clauses)
any-stored s p q same numbered = both-ways (list_any (passes p) (stored s)) (list_any q (clauses_in s.clauses)) to from
  where
    at : (n : ℕ) (o : Option Clause) → clause_of s.clauses n ≡ o → passes p (option_map set o) ≡ true → list_any q (clauses_in s.clauses) ≡ true
    at n None e t = absurd (cc)
    at n (Some c) e t = any-from q (clauses_in s.clauses) c (entry-there s.clauses (n, c) (clause_of-there s.clauses n c e)) (sym (same n c e) ∙ t)

    to : list_any (passes p) (stored s) ≡ true → list_any q (clauses_in s.clauses) ≡ true
    to t =
        let one = any-at (passes p) (stored s) t in
        let number = map-Contains (entry_in s) (numbers_from 1 s.last) one.0 one.1 in
        at number.0 (clause_of s.clauses number.0) refl (ap (passes p) number.2 ∙ one.2)

    from : list_any q (clauses_in s.clauses) ≡ true → list_any (passes p) (stored s) ≡ true
    from t =
        let one = any-at q (clauses_in s.clauses) t in
        let e = map-Contains (λ (e : ℕ × Clause). e.1) s.clauses one.0 one.1 in
        let is = numbered.alone e.0 e.1 in
        let w = numbered.within e.0.0 e.0.1 is in
        let high = w.1 in
        any-from (passes p) (stored s) (entry_in s e.0.0) (Contains-map (entry_in s) (numbers_from 1 s.last) e.0.0 (numbers_from-has 1 s.last e.0.0 w.0 (omega arith)))
        (ap (λ o. passes p (option_map set o)) is ∙ (same e.0.0 e.0.1 is ∙ (ap q e.2 ∙ one.2)))

pub length-numbers : (n count : ℕ) → length (numbers_from n count) ≡ count
length-numbers n zero = refl
length-numbers n (suc count) = ap (λ k. suc k) (length-numbers (n + 1) count)

pub length-mapped : {X Y : Type 0} (f : X → Y) (xs : List X) → length (map f xs) ≡ length xs
length-mapped f [] = refl
length-mapped f (x ∷ xs) = ap (λ k. suc k) (length-mapped f xs)

pub length-stored : (s : Simplified) → length (stored s) ≡ s.last
length-stored s = length-mapped (entry_in s) (numbers_from 1 s.last) ∙ length-numbers 1 s.last

-- the entry of a number
get-mapped : {X : Type 0} (f : ℕ → X) (n count i : ℕ) → i < count → slice_get (map f (numbers_from n count)) i ≡ Some (f (n + i))
get-mapped f n zero i below = absurd (omega arith)
get-mapped f n (suc count) zero below = ap (λ k. Some (f k)) (omega arith)
get-mapped f n (suc count) (suc i) below = get-mapped f (n + 1) count i (omega arith) ∙ ap (λ k. Some (f k)) (omega arith)

pub entry-stored : (s : Simplified) (n : ℕ) → 1 ≤ n → n ≤ s.last → entry_at (stored s) n ≡ entry_in s n
entry-stored s n low high = ap (λ o. unwrap_or o None) (get-mapped (entry_in s) 1 s.last (n - 1) (omega arith)) ∙ ap (entry_in s) (omega arith)

pub there-stored : (s : Simplified) (n : ℕ) → 1 ≤ n → n ≤ s.last → there (stored s) n ≡ set (clause_there s n)
there-stored s n low high = ap (λ o. unwrap_or o []) (entry-stored s n low high) ∙ go (clause_of s.clauses n)
  where
    go : (o : Option Clause) → unwrap_or (option_map set o) [] ≡ set (unwrap_or o [])
    go None = refl
    go (Some c) = refl

-- the entry at a place, counted from 0
abbrev pub at_place : Entries → ℕ → Option Clause
at_place K i = unwrap_or (slice_get K i) None

-- the numbers of those that pass are within their range, and the entries there pass
abbrev pub IsNumber : (Clause → Bool) → ℕ → Entries → ℕ → Type 0
IsNumber p n K m = (n ≤ m) × (m < n + length K) × (passes p (at_place K (m - n)) ≡ true)

pub numbers-at : (p : Clause → Bool) (n : ℕ) (K : Entries) (m : ℕ) → Contains (numbers_in p n K) m → IsNumber p n K m
numbers-at p n [] m c = absurd (Contains-none m c)
numbers-at p n (e ∷ K) m c = go (passes p e) refl c (numbers-at p (n + 1) K m)
  where
    later : IsNumber p (n + 1) K m → IsNumber p n (e ∷ K) m
    later h = let low = h.0 in let high = h.1 in (omega arith, omega arith, go_at (m - n) (omega arith) h.2)
      where
        go_at : (i : ℕ) → i ≡ suc (m - (n + 1)) → passes p (at_place K (m - (n + 1))) ≡ true → passes p (at_place (e ∷ K) i) ≡ true
        go_at i same t = ap (λ k. passes p (at_place (e ∷ K) k)) same ∙ t

    first : (m ≡ n) → passes p e ≡ true → IsNumber p n (e ∷ K) m
    first i t = (omega arith, omega arith, ap (λ k. passes p (at_place (e ∷ K) k)) (the_place i) ∙ t)
      where
        the_place : (m ≡ n) → m - n ≡ 0
        the_place i = omega arith

    go : (b : Bool) → passes p e ≡ b → Contains (if b then n ∷ numbers_in p (n + 1) K else numbers_in p (n + 1) K) m → (Contains (numbers_in p (n + 1) K) m → IsNumber p (n + 1) K m) → IsNumber p n (e ∷ K) m
    go true t k more = elim (Contains-cases n (numbers_in p (n + 1) K) m k) [ inl i ↦ first (sym i) t | inr r ↦ later (more r) ]
    go false t k more = later (more k)

-- those that pass a narrower test are some of them
pub numbers-narrower : (p q : Clause → Bool) (n : ℕ) (K : Entries) → ((c : Clause) → q c ≡ true → p c ≡ true) → numbers_in q n K ≡ filter (λ m. passes q (at_place K (m - n))) (numbers_in p n K)
numbers-narrower p q n [] h = refl
numbers-narrower p q n (e ∷ K) h = go e (numbers-narrower p q (n + 1) K h)
  where
    test : Option Clause → ℕ → Bool
    test o m = passes q (at_place (o ∷ K) (m - n))

    shifted : (o : Option Clause) (m : ℕ) → Contains (numbers_in p (n + 1) K) m → passes q (at_place K (m - (n + 1))) ≡ passes q (at_place (o ∷ K) (m - n))
    shifted o m c = let low = (numbers-at p (n + 1) K m c).0 in ap (λ k. passes q (at_place (o ∷ K) k)) (there_is low)
      where
        there_is : n + 1 ≤ m → suc (m - (n + 1)) ≡ m - n
        there_is l = omega arith

    rest : (o : Option Clause) → filter (λ m. passes q (at_place K (m - (n + 1)))) (numbers_in p (n + 1) K) ≡ filter (λ m. passes q (at_place (o ∷ K) (m - n))) (numbers_in p (n + 1) K)
    rest o = filter-alike (λ m. passes q (at_place K (m - (n + 1)))) (λ m. passes q (at_place (o ∷ K) (m - n))) (numbers_in p (n + 1) K) (shifted o)

    zero_is : n - n ≡ 0
    zero_is = omega arith

    here : (o : Option Clause) → passes q (at_place (o ∷ K) (n - n)) ≡ passes q o
    here o = ap (λ k. passes q (at_place (o ∷ K) k)) zero_is

    go : (o : Option Clause) → numbers_in q (n + 1) K ≡ filter (λ m. passes q (at_place K (m - (n + 1)))) (numbers_in p (n + 1) K)
        → numbers_in q n (o ∷ K) ≡ filter (λ m. passes q (at_place (o ∷ K) (m - n))) (numbers_in p n (o ∷ K))
    go None more = more ∙ rest None
    go (Some c) more = by (p c) refl (q c) refl
      where
        by : (a : Bool) → p c ≡ a → (b : Bool) → q c ≡ b → (if b then n ∷ numbers_in q (n + 1) K else numbers_in q (n + 1) K)
            ≡ filter (λ m. passes q (at_place (Some c ∷ K) (m - n))) (if a then n ∷ numbers_in p (n + 1) K else numbers_in p (n + 1) K)
        by true i b j = ap (λ (ms : List ℕ). if b then n ∷ ms else ms) (more ∙ rest (Some c)) ∙ ap (λ d. if d then n ∷ filter (test (Some c)) (numbers_in p (n + 1) K) else filter (test (Some c)) (numbers_in p (n + 1) K)) (sym j ∙ sym (here (Some c)))
        by false i true j = absurd (let yes = h c j in cc)
        by false i false j = more ∙ rest (Some c)
