-- Clauses as they are kept, of which those that were forgotten have no literals.
use Rattle.std.proofs.Common.{◌≡◌, ℕ, zero, suc, ◌+◌, ◌<◌, ◌≤◌, Bool, true, false, inl, inr, List, [], ◌∷◌, ◌++◌, length, take, get_or, set, min, Some, slice_get, nat_eq, eqb-true, refl, ap, sym, subst, ◌∙◌, arith, if◌then◌else◌}
use Rattle.std.proofs.lemmas.Bool.{cases_lt}
use Rattle.std.proofs.lemmas.List.{length-map}
use Rattle.theory.specs.Literals.{Clause}
use Rattle.theory.specs.Forgetting.{forgotten, forget}
use Rattle.kernel.specs.Watching.{At}
use Rattle.kernel.specs.Forgetting.{Tells}
use Rattle.kernel.specs.Shown.{whole, shown, emptied}
use Rattle.kernel.proofs.LiteralFacts.{true_false}

-- no clause from a place on is empty
abbrev pub NoneEmpty : ℕ → List Clause → Type 0
NoneEmpty first K = (n : ℕ) → first ≤ n → At K n [] → ⊥

pub shown-none : (first : ℕ) → shown first [] ≡ []
shown-none zero = refl
shown-none (suc first) = refl

pub length-shown : (first : ℕ) (K : List Clause) → length (shown first K) ≡ length K
length-shown zero K = length-map K whole
length-shown (suc first) [] = refl
length-shown (suc first) (c ∷ K) = ap suc (length-shown first K)

-- one more
pub shown-push : (first : ℕ) (K : List Clause) (c : Clause) → (c ≡ [] → length K < first) → shown first (K ++ c ∷ []) ≡ shown first K ++ c ∷ []
shown-push zero [] [] h = absurd (let z = h refl in omega (arith, z))
shown-push zero [] (l ∷ c) h = refl
shown-push zero (d ∷ K) c h = ap (λ (ks : List Clause). whole d ∷ ks) (shown-push zero K c (λ e. absurd (let z = h e in omega (arith, z))))
shown-push (suc first) [] c h = ap (λ (ks : List Clause). c ∷ ks) (shown-none first)
shown-push (suc first) (d ∷ K) c h = ap (λ (ks : List Clause). d ∷ ks) (shown-push first K c (λ e. let z = h e in omega (arith, z)))

pub shown-take : (first n : ℕ) (K : List Clause) → shown first (take n K) ≡ take n (shown first K)
shown-take first zero K = shown-none first
shown-take zero (suc n) [] = refl
shown-take (suc first) (suc n) [] = refl
shown-take zero (suc n) (d ∷ K) = ap (λ (ks : List Clause). whole d ∷ ks) (shown-take zero n K)
shown-take (suc first) (suc n) (d ∷ K) = ap (λ (ks : List Clause). d ∷ ks) (shown-take first n K)

-- a clause of which nothing is kept
pub shown-forgotten : (first n : ℕ) (K : List Clause) → first ≤ n → slice_get K n ≡ Some [] → slice_get (shown first K) n ≡ Some forgotten
shown-forgotten first n [] low h = absurd (cc)
shown-forgotten zero zero (c ∷ K) low h = go c h
  where
    go : (c : Clause) → Some c ≡ Some [] → Some (whole c) ≡ Some forgotten
    go [] e = refl
    go (l ∷ c) e = absurd (cc)
shown-forgotten zero (suc n) (c ∷ K) low h = shown-forgotten zero n K (omega arith) h
shown-forgotten (suc first) zero (c ∷ K) low h = absurd (omega (arith, low))
shown-forgotten (suc first) (suc n) (c ∷ K) low h = shown-forgotten first n K (omega (arith, low)) h

-- one of which all is kept
pub shown-kept : (first n : ℕ) (K : List Clause) (c : Clause) → (c ≡ [] → n < first) → slice_get K n ≡ Some c → slice_get (shown first K) n ≡ Some c
shown-kept first n [] c low h = absurd (cc)
shown-kept zero zero (d ∷ K) c low h = go d c h low
  where
    go : (d c : Clause) → Some d ≡ Some c → (c ≡ [] → 0 < 0) → Some (whole d) ≡ Some c
    go [] [] e f = absurd (let z = f refl in omega (arith, z))
    go [] (l ∷ c) e f = absurd (cc)
    go (l ∷ d) c e f = e
shown-kept zero (suc n) (d ∷ K) c low h = shown-kept zero n K c (λ e. absurd (let z = low e in omega (arith, z))) h
shown-kept (suc first) zero (d ∷ K) c low h = h
shown-kept (suc first) (suc n) (d ∷ K) c low h = shown-kept first n K c (λ e. let z = low e in omega (arith, z)) h

-- of a clause of more than two literals all is kept
pub shown-long : (first n : ℕ) (K : List Clause) (c : Clause) → At (shown first K) n c → 2 < length c → At K n c
shown-long first n K c at long = (subst (λ m. n < m) (length-shown first K) at.0, go first n K at.0 at.1)
  where
    one : (d : Clause) → whole d ≡ c → d ≡ c
    one [] e = absurd (let z : length forgotten ≡ length c = ap length e in omega (arith, z, long))
    one (l ∷ d) e = e

    go : (first n : ℕ) (K : List Clause) → n < length (shown first K) → get_or (shown first K) n c ≡ c → get_or K n c ≡ c
    go zero n [] h e = e
    go (suc first) n [] h e = e
    go zero zero (d ∷ K) h e = one d e
    go zero (suc n) (d ∷ K) h e = go zero n K (omega (arith, h)) e
    go (suc first) zero (d ∷ K) h e = e
    go (suc first) (suc n) (d ∷ K) h e = go first n K (omega (arith, h)) e

-- a clause is written anew
pub shown-set : (first n : ℕ) (K : List Clause) (d : Clause) → (d ≡ [] → ⊥) → shown first (set K n d) ≡ set (shown first K) n d
shown-set zero n [] d some = refl
shown-set (suc first) n [] d some = refl
shown-set zero zero (c ∷ K) [] some = absurd (some refl)
shown-set zero zero (c ∷ K) (l ∷ d) some = refl
shown-set zero (suc n) (c ∷ K) d some = ap (λ (ks : List Clause). whole c ∷ ks) (shown-set zero n K d some)
shown-set (suc first) zero (c ∷ K) d some = refl
shown-set (suc first) (suc n) (c ∷ K) d some = ap (λ (ks : List Clause). c ∷ ks) (shown-set first n K d some)

-- behind the first ones none is empty
shown-some : (first : ℕ) (K : List Clause) → NoneEmpty first (shown first K)
shown-some zero [] n low at = absurd (let z = at.0 in omega (arith, z))
shown-some (suc first) [] n low at = absurd (let z = at.0 in omega (arith, z))
shown-some zero (c ∷ K) zero low at = go c at.1
  where
    go : (c : Clause) → whole c ≡ [] → ⊥
    go [] e = absurd (cc)
    go (l ∷ c) e = absurd (cc)
shown-some zero (c ∷ K) (suc n) low at = shown-some zero K n (omega arith) (let z = at.0 in omega (arith, z), at.1)
shown-some (suc first) (c ∷ K) zero low at = absurd (omega (arith, low))
shown-some (suc first) (c ∷ K) (suc n) low at = shown-some first K n (omega (arith, low)) (let z = at.0 in omega (arith, z), at.1)

-- where none is empty from an earlier place on, they are the same from there
shown-earlier : (fewer first : ℕ) (K : List Clause) → fewer ≤ first → NoneEmpty fewer (shown first K) → shown fewer K ≡ shown first K
shown-earlier zero zero K low none = refl
shown-earlier (suc fewer) zero K low none = absurd (omega (arith, low))
shown-earlier zero (suc first) [] low none = refl
shown-earlier (suc fewer) (suc first) [] low none = refl
shown-earlier zero (suc first) (c ∷ K) low none = (λ i. here c (none 0 (omega arith)) i ∷ shown-earlier zero first K (omega arith) (λ n l at. none (suc n) (omega arith) (let z = at.0 in omega (arith, z), at.1)) i)
  where
    here : (c : Clause) → (At (c ∷ shown first K) 0 [] → ⊥) → whole c ≡ c
    here [] h = absurd (h (omega arith, refl))
    here (l ∷ c) h = refl
shown-earlier (suc fewer) (suc first) (c ∷ K) low none = ap (λ (ks : List Clause). c ∷ ks) (shown-earlier fewer first K (omega (arith, low)) (λ n l at. none (suc n) (omega (arith, l)) (let z = at.0 in omega (arith, z), at.1)))

pub shown-less : (first other least : ℕ) (K : List Clause) → least ≡ min first other → NoneEmpty other (shown first K) → shown least K ≡ shown first K
shown-less first other least K is none = elim (cases_lt other first) [
  | inl less ↦ shown-earlier least first K (omega (arith, is)) (λ n low at. none n (omega (arith, is, low, less)) at)
  | inr more ↦ ap (λ n. shown n K) (let z : least ≡ first = omega (arith, is, more) in z)
]

-- the clauses that are gone, without their literals, are shown as forgotten ones
pub shown-emptied : (gone : ℕ → Bool) (ns : List ℕ) (first : ℕ) (K : List Clause) → Tells gone ns → ((n : ℕ) → gone n ≡ true → first ≤ n) → shown first (emptied gone 0 K) ≡ forget ns 1 (shown first K)
shown-emptied gone ns first K tells learnt = go 0 first K (λ n low e. let z = learnt n e in omega (arith, z))
  where
    last : (b : Bool) (c : Clause) → whole (if b then [] else c) ≡ (if b then forgotten else whole c)
    last true c = refl
    last false c = refl

    here : (b : Bool) (c : Clause) → b ≡ false → (if b then [] else c) ≡ (if b then forgotten else c)
    here true c e = absurd (cc)
    here false c e = refl

    stays : (i rest : ℕ) → ((n : ℕ) → i ≤ n → gone n ≡ true → i + suc rest ≤ n) → (b : Bool) → gone i ≡ b → b ≡ false
    stays i rest h true e = absurd (let z = h i (omega arith) e in omega (arith, z))
    stays i rest h false e = refl

    go : (i rest : ℕ) (K : List Clause) → ((n : ℕ) → i ≤ n → gone n ≡ true → i + rest ≤ n) → shown rest (emptied gone i K) ≡ forget ns (i + 1) (shown rest K)
    go i zero [] h = refl
    go i (suc rest) [] h = refl
    go i zero (c ∷ K) h = (λ j. (last (gone i) c ∙ ap (λ b. if b then forgotten else whole c) (tells i)) j ∷ go (i + 1) 0 K (λ n low e. omega (arith, low)) j)
    go i (suc rest) (c ∷ K) h = (λ j. (here (gone i) c (stays i rest h (gone i) refl) ∙ ap (λ b. if b then forgotten else c) (tells i)) j ∷ go (i + 1) rest K (λ n low e. let z = h n (omega (arith, low)) e in omega (arith, z)) j)

-- the clause at a place, as it is read
pub shown-read-forgotten : (first n : ℕ) (K clauses : List Clause) (c r : Clause) → shown first K ≡ clauses → slice_get K n ≡ Some c → length c ≡ 0 → first ≤ n → r ≡ forgotten → slice_get clauses n ≡ Some r
shown-read-forgotten first n K clauses [] r are at none low is = subst (λ (ks : List Clause). slice_get ks n ≡ Some r) are (shown-forgotten first n K low at ∙ ap (λ (x : Clause). Some x) (sym is))
shown-read-forgotten first n K clauses (l ∷ c) r are at none low is = absurd (omega (arith, none))

pub shown-read : (first n : ℕ) (K clauses : List Clause) (c : Clause) → shown first K ≡ clauses → slice_get K n ≡ Some c → (length c ≡ 0 → n < first) → slice_get clauses n ≡ Some c
shown-read first n K clauses c are at some = subst (λ (ks : List Clause). slice_get ks n ≡ Some c) are (shown-kept first n K c (λ e. some (ap length e)) at)

-- one more clause is shown
pub shown-more : (first n : ℕ) (K : List Clause) (c : Clause) → n ≡ length K → (length c ≡ 0 → n < first) → shown first (K ++ c ∷ []) ≡ shown first K ++ c ∷ []
shown-more first n K c is some = shown-push first K c (λ e. let z = some (ap length e) in omega (arith, z, is))

-- what a test for no literals says
pub none-there : (n : ℕ) → true ≡ nat_eq n 0 → n ≡ 0
none-there n e = eqb-true n 0 (sym e)

pub some-there : (n : ℕ) → false ≡ nat_eq n 0 → n ≡ 0 → ⊥
some-there zero e is = absurd (cc)
some-there (suc n) e is = absurd (omega (arith, is))

-- none that is gone stands before those that were learnt
pub gone-behind : (gone : ℕ → Bool) (first least : ℕ) → least ≤ first → ((n : ℕ) → n < first → gone n ≡ false) → (n : ℕ) → gone n ≡ true → least ≤ n
gone-behind gone first least low none n e = elim (cases_lt n first) [
  | inl less ↦ absurd (true_false (gone n) e (none n less))
  | inr more ↦ omega (arith, low, more)
]
