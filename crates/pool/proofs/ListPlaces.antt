-- Lists by place: what stands where after a change.
use Rattle.std.proofs.Common.{◌≡◌, ◌≢◌, ◌⊎◌, inl, inr, ℕ, zero, suc, ◌<◌, ◌≤◌, List, [], ◌∷◌, ◌++◌, length, map, set, get_or, take, drop, Some, sym, refl, ap, ⊎_elim, arith}
use Rattle.std.specs.Prelude.{slice_get}

pub slice_get_set : {A : Type 0} (l : List A) (i j : ℕ) (a b : A) → slice_get (set l i a) j ≡ Some b → ((j ≡ i) × (a ≡ b)) ⊎ ((j ≢ i) × (slice_get l j ≡ Some b))
slice_get_set [] i j a b e = absurd (cc)
slice_get_set (x ∷ xs) zero zero a b e = inl (refl, cc)
slice_get_set (x ∷ xs) zero (suc j) a b e = inr ((λ h. omega arith), e)
slice_get_set (x ∷ xs) (suc i) zero a b e = inr ((λ h. omega arith), e)
slice_get_set (x ∷ xs) (suc i) (suc j) a b e = ⊎_elim (λ (t : (j ≡ i) × (a ≡ b)). inl (ap suc t.0, t.1)) (λ (t : (j ≢ i) × (slice_get xs j ≡ Some b)). inr ((λ h. t.0 (omega arith)), t.1)) (slice_get_set xs i j a b e)

pub map_at : {A B : Type 0} (f : A → B) (l : List A) (i : ℕ) (a : A) (d : B) → slice_get l i ≡ Some a → get_or (map f l) i d ≡ f a
map_at f [] i a d e = absurd (cc)
map_at f (x ∷ xs) zero a d e = ap f (cc)
map_at f (x ∷ xs) (suc i) a d e = map_at f xs i a d e

-- one at the end of a list
pub slice_get_snoc : {A : Type 0} (l : List A) (a b : A) (k : ℕ) → slice_get (l ++ a ∷ []) k ≡ Some b → (slice_get l k ≡ Some b) ⊎ ((k ≡ length l) × (a ≡ b))
slice_get_snoc [] a b zero e = inr (refl, cc)
slice_get_snoc [] a b (suc k) e = absurd (cc)
slice_get_snoc (x ∷ xs) a b zero e = inl e
slice_get_snoc (x ∷ xs) a b (suc k) e = ⊎_elim inl (λ (p : (k ≡ length xs) × (a ≡ b)). inr (ap suc p.0, p.1)) (slice_get_snoc xs a b k e)

-- the first of what is left of a list
pub first_left : {A : Type 0} (start : List A) (h : ℕ) (x : A) → h < length start → x ≡ get_or (drop h start) 0 x → slice_get start h ≡ Some x
first_left [] h x lt e = absurd (omega arith)
first_left (a ∷ l) zero x lt e = ap Some (sym e)
first_left (a ∷ l) (suc h) x lt e = first_left l h x (omega arith) e

pub rest_left : {A : Type 0} (start : List A) (h : ℕ) → drop 1 (drop h start) ≡ drop (suc h) start
rest_left [] zero = refl
rest_left [] (suc h) = refl
rest_left (a ∷ l) zero = refl
rest_left (a ∷ l) (suc h) = rest_left l h

pub get_or_past : {A : Type 0} (l : List A) (i : ℕ) (d : A) → length l ≤ i → get_or l i d ≡ d
get_or_past [] i d le = refl
get_or_past (x ∷ xs) zero d le = absurd (omega arith)
get_or_past (x ∷ xs) (suc i) d le = get_or_past xs i d (omega arith)

pub slice_get_some : {A : Type 0} (l : List A) (i : ℕ) → i < length l → (a : A) × (slice_get l i ≡ Some a)
slice_get_some [] i h = absurd (omega arith)
slice_get_some (x ∷ xs) zero h = (x, refl)
slice_get_some (x ∷ xs) (suc i) h = slice_get_some xs i (omega arith)

-- without the place p, the others are still there
pub slice_get_removed : {A : Type 0} (l : List A) (p j : ℕ) (a : A) → slice_get l j ≡ Some a → j ≢ p → (i : ℕ) × (slice_get (take p l ++ drop (suc p) l) i ≡ Some a)
slice_get_removed [] p j a e n = absurd (cc)
slice_get_removed (x ∷ xs) zero zero a e n = absurd (n refl)
slice_get_removed (x ∷ xs) zero (suc j) a e n = (j, e)
slice_get_removed (x ∷ xs) (suc p) zero a e n = (0, e)
slice_get_removed (x ∷ xs) (suc p) (suc j) a e n = let r = slice_get_removed xs p j a e (λ q. n (ap suc q)) in (suc r.0, r.1)

-- and all that are there were there
pub slice_get_was : {A : Type 0} (l : List A) (p i : ℕ) (a : A) → slice_get (take p l ++ drop (suc p) l) i ≡ Some a → (j : ℕ) × (slice_get l j ≡ Some a)
slice_get_was [] zero i a e = (i, e)
slice_get_was [] (suc p) i a e = (i, e)
slice_get_was (x ∷ xs) zero i a e = (suc i, e)
slice_get_was (x ∷ xs) (suc p) zero a e = (0, e)
slice_get_was (x ∷ xs) (suc p) (suc i) a e = let r = slice_get_was xs p i a e in (suc r.0, r.1)

-- two lists with the same at each place are one
pub same_places : {A : Type 0} (l m : List A) → length l ≡ length m → ((i : ℕ) (a : A) → slice_get m i ≡ Some a → slice_get l i ≡ Some a) → l ≡ m
same_places [] [] len f = refl
same_places [] (y ∷ m) len f = absurd (omega arith)
same_places (x ∷ l) [] len f = absurd (omega arith)
same_places {A} (x ∷ l) (y ∷ m) len f = let same : x ≡ y = some_is x y (f 0 y refl) in λ i. same i ∷ same_places l m (omega arith) (λ k a e. f (suc k) a e) i
  where
    some_is : (s t : A) → Some s ≡ Some t → s ≡ t
    some_is s t e = cc

pub set_here : {A : Type 0} (l : List A) (i : ℕ) (a : A) → i < length l → slice_get (set l i a) i ≡ Some a
set_here [] i a h = absurd (omega arith)
set_here (x ∷ xs) zero a h = refl
set_here (x ∷ xs) (suc i) a h = set_here xs i a (omega arith)

pub set_else : {A : Type 0} (l : List A) (i j : ℕ) (a : A) → j ≢ i → slice_get (set l i a) j ≡ slice_get l j
set_else [] i j a n = refl
set_else (x ∷ xs) zero zero a n = absurd (n refl)
set_else (x ∷ xs) zero (suc j) a n = refl
set_else (x ∷ xs) (suc i) zero a n = refl
set_else (x ∷ xs) (suc i) (suc j) a n = set_else xs i j a (λ e. n (ap suc e))

pub at_front : {A : Type 0} (l m : List A) (k : ℕ) (a : A) → slice_get l k ≡ Some a → slice_get (l ++ m) k ≡ Some a
at_front [] m k a e = absurd (cc)
at_front (x ∷ xs) m zero a e = e
at_front (x ∷ xs) m (suc k) a e = at_front xs m k a e

pub at_end : {A : Type 0} (l : List A) (a : A) (k : ℕ) → k ≡ length l → slice_get (l ++ a ∷ []) k ≡ Some a
at_end [] a zero e = refl
at_end [] a (suc k) e = absurd (omega arith)
at_end (x ∷ xs) a zero e = absurd (omega arith)
at_end (x ∷ xs) a (suc k) e = at_end xs a k (omega arith)

pub slice_get_map : {A B : Type 0} (f : A → B) (l : List A) (i : ℕ) (a : A) → slice_get l i ≡ Some a → slice_get (map f l) i ≡ Some (f a)
slice_get_map f [] i a e = absurd (cc)
slice_get_map f (x ∷ xs) zero a e = let same : x ≡ a = cc in ap (λ (y : _). Some (f y)) same
slice_get_map f (x ∷ xs) (suc i) a e = slice_get_map f xs i a e

pub slice_get_unmap : {A B : Type 0} (f : A → B) (l : List A) (i : ℕ) (b : B) → slice_get (map f l) i ≡ Some b → (a : A) × (slice_get l i ≡ Some a) × (f a ≡ b)
slice_get_unmap f [] i b e = absurd (cc)
slice_get_unmap f (x ∷ xs) zero b e = (x, refl, cc)
slice_get_unmap f (x ∷ xs) (suc i) b e = slice_get_unmap f xs i b e
