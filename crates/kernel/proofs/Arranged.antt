-- Clauses whose literals change places, and clauses beside them.
use Rattle.std.proofs.Common.{◌≡◌, ◌≢◌, ℕ, suc, zero, ◌+◌, ◌<◌, ◌≤◌, Bool, true, false, ◌||◌, List, [], ◌∷◌, ◌++◌, length, get_or, set, drop, take, map, refl, ap, sym, subst, ◌∙◌, ◌⊎◌, inl, inr, arith, if◌then◌else◌, cond, All}
use Rattle.std.proofs.lemmas.List.{length-map, length-set, length_push, get_or_default}
use Rattle.std.proofs.Math.ListN.{get_or-map}
use Rattle.std.proofs.lemmas.List.Sorted.{IsPermutation-refl, IsPermutation-trans, IsPermutation-swap, list_any-IsPermutation, length_permutation, All-permutation}
use Rattle.std.specs.List.{list_any, swap}
use Rattle.std.specs.List.Sorted.{IsPermutation}
use Rattle.theory.specs.Literals.{Literal, Clause, same, has, negated, IsVariable}
use Rattle.theory.specs.Truth.{IsOver}
use Rattle.theory.specs.Forgetting.{forget, forgotten}
use Rattle.theory.proofs.searching.ForgettingNumbers.{length-forget}
use Rattle.theory.proofs.literals.LiteralLemmas.{or-cases, or-left, or-right, true_or_false, same-eq, same-refl}
use Rattle.kernel.specs.declared.watches.watch.Watched.{Watched}
use Rattle.kernel.specs.Watching.{At, IsPair}
use Rattle.kernel.specs.Forgetting.{is_numbered, ArePairsLeft, watched_forgotten}
use Rattle.kernel.specs.Arranging.{front, AreArranged}
use Rattle.kernel.specs.declared.watches.watch_visit.WatchVisit.{WatchVisit}
use Rattle.kernel.specs.declared.watches.watch_visit.WatchVisit.TheVariants.{Satisfied, Moved, Last}
use Rattle.kernel.specs.Visiting.{IsLast, Replaces}
use Rattle.kernel.specs.Seeing.{CanSee, IsSeen, IsWatchVisit, other_front}
use Rattle.kernel.proofs.LiteralFacts.{true_false, all-member, same-sym}
use Rattle.kernel.proofs.Places.{At-get, At-set, At-push}
use Rattle.kernel.proofs.ForgottenAt.{At-forgotten, At-unforgotten}

has-any : (c : Clause) (l : Literal) → has c l ≡ list_any (same l) c
has-any [] l = refl
has-any (k ∷ c) l = ap (λ b. same l k || b) (has-any c l)

pub has-permuted : (c d : Clause) (l : Literal) → IsPermutation c d → has c l ≡ has d l
has-permuted c d l p = has-any c l ∙ (list_any-IsPermutation (same l) c d p ∙ sym (has-any d l))

-- the search of a literal from a place on
pub found-later : (c : Clause) (i j : ℕ) (x l : Literal) → j ≡ suc i → x ≡ get_or c i x → i < length c → same x l ≡ false → has (drop i c) l ≡ true → has (drop j c) l ≡ true
found-later [] i j x l e read inside ne m = absurd (omega (arith, inside))
found-later (y ∷ c) zero j x l e read inside ne m = rw e (go (or-cases (same l y) (has c l) m))
  where
    go : (same l y ≡ true) ⊎ (has c l ≡ true) → has c l ≡ true
    go (inl f) = absurd (true_false (same x l) (rw read (same-sym l y f)) ne)
    go (inr f) = f
found-later (y ∷ c) (suc i) j x l e read inside ne m = rw e (found-later c i (suc i) x l refl read (omega (arith, inside)) ne m)

pub none-behind : (c : Clause) (i : ℕ) (l : Literal) → length c ≤ i → has (drop i c) l ≡ true → ⊥
none-behind [] zero l h m = absurd (cc)
none-behind [] (suc i) l h m = absurd (cc)
none-behind (y ∷ c) zero l h m = absurd (omega (arith, h))
none-behind (y ∷ c) (suc i) l h m = none-behind c i l (omega (arith, h)) m

-- a literal changes places with the first one
module _ (c d : Clause) (p : ℕ) (w : Watched) (pair : IsPair c w) (inside : p < length c) (read : get_or c p w.first ≡ w.first) (is : d ≡ swap c 0 p) where
  pub led-permutes : IsPermutation c d
  led-permutes = IsPermutation-swap c d 0 p (omega (arith, inside)) inside is

  pub led-first : (r : Clause) × (d ≡ w.first ∷ r)
  led-first = go c p inside read is
    where
      go : (xs : Clause) (i : ℕ) → i < length xs → get_or xs i w.first ≡ w.first → d ≡ swap xs 0 i → (r : Clause) × (d ≡ w.first ∷ r)
      go [] i h r e = absurd (omega (arith, h))
      go (x ∷ xs) zero h r e = (xs, e ∙ ap (λ (y : Literal). y ∷ xs) r)
      go (x ∷ xs) (suc i) h r e = (set xs i x, e ∙ ap (λ (y : Literal). y ∷ set xs i x) (get_or_default xs i x w.first (omega (arith, h)) ∙ r))

  pub led-same : same w.first w.second ≡ true → front d ≡ w
  led-same h = go led-first.0 led-first.1
    where
      second : w.second ≡ w.first
      second = sym (same-eq w.first w.second h)

      go : (r : Clause) → d ≡ w.first ∷ r → front d ≡ w
      go [] e = ap front e ∙ (λ i. record { first = w.first; second = (sym second) i })
      go (y ∷ r) e =
          let in_d : has d y ≡ true = rw e (or-right (same y w.first) (has (y ∷ r) y) (or-left (same y y) (has r y) (same-refl y))) in
          let is_first : w.first ≡ y = same-eq w.first y (all-member (same w.first) c y (pair.single h) (has-permuted c d y led-permutes ∙ in_d)) in
          let both : y ≡ w.second = sym is_first ∙ sym second in
          ap front e ∙ (λ i. record { first = w.first; second = both i })

  pub led-apart : same w.first w.second ≡ false → has (drop 1 d) w.second ≡ true
  led-apart h = rw led-first.1 (go (or-cases (same w.second w.first) (has led-first.0 w.second) in_d))
    where
      in_d : has (w.first ∷ led-first.0) w.second ≡ true
      in_d = subst (λ (x : Clause). has x w.second ≡ true) led-first.1 (sym (has-permuted c d w.second led-permutes) ∙ pair.second_in)

      go : (same w.second w.first ≡ true) ⊎ (has led-first.0 w.second ≡ true) → has led-first.0 w.second ≡ true
      go (inl e) = absurd (true_false (same w.first w.second) (same-sym w.second w.first e) h)
      go (inr e) = e

  -- and another one with the second
  pub led-two : (e : Clause) (q : ℕ) → 1 ≤ q → q < length d → get_or d q w.second ≡ w.second → e ≡ swap d 1 q → front e ≡ w
  led-two e q low high at f = go led-first.0 q low (subst (λ (x : Clause). q < length x) led-first.1 high) (subst (λ (x : Clause). get_or x q w.second ≡ w.second) led-first.1 at) (f ∙ ap (λ (x : Clause). swap x 1 q) led-first.1)
    where
      go : (r : Clause) (i : ℕ) → 1 ≤ i → i < length (w.first ∷ r) → get_or (w.first ∷ r) i w.second ≡ w.second → e ≡ swap (w.first ∷ r) 1 i → front e ≡ w
      go r zero a b g h = absurd (omega (arith, a))
      go [] (suc i) a b g h = absurd (omega (arith, b))
      go (y ∷ r) (suc zero) a b g h = ap front h ∙ (λ i. record { first = w.first; second = g i })
      go (y ∷ r) (suc (suc i)) a b g h = ap front h ∙ (λ j. record { first = w.first; second = (get_or_default r i w.first w.second (omega (arith, b)) ∙ g) j })

pub led-both : (c d e : Clause) (q : ℕ) → IsPermutation c d → 1 ≤ q → q < length d → e ≡ swap d 1 q → IsPermutation c e
led-both c d e q p low high is = IsPermutation-trans c d e p (IsPermutation-swap d e 1 q (omega (arith, low, high)) high is)

-- the literal found and `gone` change places, and the other front one goes first
pub exchanged : (c : Clause) (g k z : Literal) (j : ℕ) → 2 ≤ j → j < length c → ((front c).first ≡ g) ⊎ ((front c).second ≡ g) → k ≡ other_front (front c) g → z ≡ get_or c j z → IsPermutation c (set (set (set c 0 k) 1 z) j g)
exchanged [] g k z j low high f is read = absurd (omega (arith, high))
exchanged (a ∷ []) g k z j low high f is read = absurd (omega (arith, high, low))
exchanged (a ∷ b ∷ r) g k z zero low high f is read = absurd (omega (arith, low))
exchanged (a ∷ b ∷ r) g k z (suc zero) low high f is read = absurd (omega (arith, low))
exchanged (a ∷ b ∷ r) g k z (suc (suc j)) low high f is read = go (same a g) refl f is
  where
    inside : j < length r
    inside = omega (arith, high)

    found : (d : Literal) → get_or r j d ≡ z
    found d = get_or_default r j d z inside ∙ sym read

    turned : IsPermutation (k ∷ g ∷ r) (k ∷ z ∷ set r j g)
    turned = IsPermutation-swap (k ∷ g ∷ r) (k ∷ z ∷ set r j g) 1 (suc (suc j)) (omega arith) (omega (arith, inside)) (ap (λ (y : Literal). k ∷ y ∷ set r j g) (sym (found k)))

    go : (s : Bool) → same a g ≡ s → (a ≡ g) ⊎ (b ≡ g) → k ≡ (if s then b else a) → IsPermutation (a ∷ b ∷ r) (k ∷ z ∷ set r j g)
    go true e h i =
        let first : a ≡ g = same-eq a g e in
        IsPermutation-trans (a ∷ b ∷ r) (k ∷ g ∷ r) (k ∷ z ∷ set r j g)
        (IsPermutation-swap (a ∷ b ∷ r) (k ∷ g ∷ r) 0 1 (omega arith) (omega arith) (rw (i, first) refl)) turned
    go false e (inl h) i = absurd (true_false (same a g) (rw h (same-refl g)) e)
    go false e (inr h) i = subst (λ (x : Clause). IsPermutation x (k ∷ z ∷ set r j g)) (rw (i, h) refl) turned

pub At-front : (A : List Clause) (n : ℕ) (w : Watched) → At (map front A) n w → (a : Clause) × At A n a × (w ≡ front a)
At-front A n w at = (get_or A n [], At-get A n [] inside, sym at.1 ∙ get_or_default (map front A) n w (front []) at.0 ∙ get_or-map front A n [])
  where
    inside : n < length A
    inside = subst (λ m. n < m) (length-map A front) at.0

front-At : (A : List Clause) (n : ℕ) (a : Clause) → At A n a → At (map front A) n (front a)
front-At A n a at = (subst (λ m. n < m) (sym (length-map A front)) at.0, get_or-map front A n a ∙ ap front at.1)

-- a clause that was arranged is arranged anew
module _ (K A : List Clause) (h : AreArranged K A) where
  pub arranged-set : (n : ℕ) (a d : Clause) → At A n a → IsPermutation a d → AreArranged K (set A n d)
  arranged-set n a d at p = record {
    long = length-set A n d ∙ h.long;
    clause = λ m c b x y. go m c b x (At-set A n d m b y);
  }
    where
      go : (m : ℕ) (c b : Clause) → At K m c → ((m ≡ n) × (b ≡ d)) ⊎ ((m ≢ n) × At A m b) → IsPermutation c b
      go m c b x (inl (e, f)) =
          let one : IsPermutation c a = h.clause m c a x (subst (λ i. At A i a) (sym e) at) in
          subst (λ (y : Clause). IsPermutation c y) (sym f) (IsPermutation-trans c a d one p)
      go m c b x (inr (_, y)) = h.clause m c b x y

  pub arranged-push : (c d : Clause) → IsPermutation c d → AreArranged (K ++ c ∷ []) (A ++ d ∷ [])
  arranged-push c d p = record {
    long = length_push A d ∙ (ap (λ n. n + 1) h.long ∙ sym (length_push K c));
    clause = λ n x y a b. go n x y (At-push K c n x a) (At-push A d n y b);
  }
    where
      go : (n : ℕ) (x y : Clause) → At K n x ⊎ ((n ≡ length K) × (x ≡ c)) → At A n y ⊎ ((n ≡ length A) × (y ≡ d)) → IsPermutation x y
      go n x y (inl a) (inl b) = h.clause n x y a b
      go n x y (inl a) (inr (f, _)) = absurd (omega (arith, a.0, f, h.long))
      go n x y (inr (e, _)) (inl b) = absurd (omega (arith, b.0, e, h.long))
      go n x y (inr (_, e)) (inr (_, f)) = subst (λ (z : Clause). IsPermutation z y) (sym e) (subst (λ (z : Clause). IsPermutation c z) (sym f) p)

  pub arranged-forget : (ns : List ℕ) → AreArranged (forget ns 1 K) (forget ns 1 A)
  arranged-forget ns = record {
    long = length-forget ns 1 A ∙ (h.long ∙ sym (length-forget ns 1 K));
    clause = λ n c a x y. go n c a x y (true_or_false (is_numbered ns n));
  }
    where
      go : (n : ℕ) (c a : Clause) → At (forget ns 1 K) n c → At (forget ns 1 A) n a → (is_numbered ns n ≡ true) ⊎ (is_numbered ns n ≡ false) → IsPermutation c a
      go n c a x y (inl e) = subst (λ (z : Clause). IsPermutation z a) (sym (At-forgotten ns K n c e x)) (subst (λ (z : Clause). IsPermutation forgotten z) (sym (At-forgotten ns A n a e y)) (IsPermutation-refl forgotten))
      go n c a x y (inr e) = h.clause n c a (At-unforgotten ns K n c e x) (At-unforgotten ns A n a e y)

  -- an arranged clause is empty only where the one given is
  pub arranged-some : (first : ℕ) → ((n : ℕ) → first ≤ n → At K n [] → ⊥) → (n : ℕ) → first ≤ n → At A n [] → ⊥
  arranged-some first some n low at = some n low (inside, none (get_or K n []) (length_permutation (get_or K n []) [] (h.clause n (get_or K n []) [] (At-get K n [] inside) at)))
    where
      inside : n < length K
      inside = omega (arith, h.long, at.0)

      none : (c : Clause) → 0 ≡ length c → c ≡ []
      none [] e = refl
      none (l ∷ c) e = absurd (omega (arith, e))

  -- what is asked of a clause that is looked at
  pub can-see : (V : ℕ) (P : List Literal) (g : Literal) (n : ℕ) → n < length K → All (IsOver V) K → ((c : Clause) → At K n c → 2 < length c) → has P (negated g) ≡ true
      → ((w : Watched) → At (map front A) n w → (w.first ≡ g) ⊎ (w.second ≡ g)) → (a : Clause) → At A n a → (2 < length a) × CanSee V P g a
  can-see V P g n inside over long gone watched a at = (
    more,
    record {
      over = All-permutation (λ (l : Literal). IsVariable V l.var) (get_or K n []) a same_literals (over n [] inside);
      long = omega (arith, more);
      gone = gone;
      watched = watched (front a) (front-At A n a at);
    },
  )
    where
      there : At K n (get_or K n [])
      there = At-get K n [] inside

      same_literals : IsPermutation (get_or K n []) a
      same_literals = h.clause n (get_or K n []) a there at

      more : 2 < length a
      more = let b : length a ≡ length (get_or K n []) = length_permutation (get_or K n []) a same_literals in let d = long (get_or K n []) there in omega (arith, b, d)

-- the pairs of the clauses that stay, and of those that were forgotten
pub pairs-forget : (A : List Clause) (ns : List ℕ) → ArePairsLeft ns (map front A) (map front (forget ns 1 A))
pairs-forget A ns = record {
  long = length-map (forget ns 1 A) front ∙ (length-forget ns 1 A ∙ sym (length-map A front));
  pair = λ n w a. let f = At-front (forget ns 1 A) n w a in go n w f.0 f.1 f.2 (is_numbered ns n) refl;
}
  where
    go : (n : ℕ) (w : Watched) (a : Clause) → At (forget ns 1 A) n a → w ≡ front a → (b : Bool) → is_numbered ns n ≡ b → cond b (w ≡ watched_forgotten) (At (map front A) n w)
    go n w a at is true e = is ∙ ap front (At-forgotten ns A n a e at)
    go n w a at is false e = subst (λ (v : Watched). At (map front A) n v) (sym is) (front-At A n a (At-unforgotten ns A n a e at))

-- what is seen of a clause is seen of each that has the same literals
pub seen-given : (P : List Literal) (g : Literal) (c a d : Clause) (w : Watched) (r : WatchVisit) → IsPermutation c a → w ≡ front a → IsSeen P g a d r → IsWatchVisit P g c w (front d) r
seen-given P g c a d w (Satisfied k) p is s = subst (λ (v : Watched). IsWatchVisit P g c v (front d) (Satisfied k)) (sym is) s.visit
seen-given P g c a d w (Last k t) p is s =
    let x = s.visit in
    subst (λ (v : Watched). IsWatchVisit P g c v (front d) (Last k t)) (sym is) (x.0, x.1, x.2, (λ l m ne. x.3 l (sym (has-permuted c a l p) ∙ m) ne), x.4)
seen-given P g c a d w (Moved v) p is s =
    let x = s.visit in
    let y : Replaces P c v.first v.second = record { member = has-permuted c a v.second p ∙ x.1.member; apart = x.1.apart; not_false = x.1.not_false } in
    subst (λ (q : Watched). IsWatchVisit P g c q (front d) (Moved v)) (sym is) (x.0, y, x.2)

pub set-last : {X : Type 0} (xs : List X) (x y : X) → set (xs ++ x ∷ []) (length xs) y ≡ xs ++ y ∷ []
set-last [] x y = refl
set-last (z ∷ xs) x y = ap (λ zs. z ∷ zs) (set-last xs x y)

-- the front literals are false, but for k
pub front-last : (V : ℕ) (P : List Literal) (g : Literal) (c : Clause) (k : Literal) → CanSee V P g c → k ≡ other_front (front c) g → IsLast P (take 2 c) k
front-last V P g [] k s is l m ne = absurd (let a = s.long in omega (arith, a))
front-last V P g (a ∷ []) k s is l m ne = absurd (let b = s.long in omega (arith, b))
front-last V P g (a ∷ b ∷ r) k s is l m ne = two (or-cases (same l a) (has (b ∷ []) l) m)
  where
    other : l ≡ k → has P (negated l) ≡ true
    other e = absurd (true_false (same k l) (rw e (same-refl k)) ne)

    gone : l ≡ g → has P (negated l) ≡ true
    gone e = rw e s.gone

    here : (t : Bool) → same a g ≡ t → (a ≡ g) ⊎ (b ≡ g) → k ≡ (if t then b else a) → (l ≡ a) ⊎ (l ≡ b) → has P (negated l) ≡ true
    here true e w f (inl x) = gone (x ∙ same-eq a g e)
    here true e w f (inr x) = other (x ∙ sym f)
    here false e (inl w) f x = absurd (true_false (same a g) (rw w (same-refl g)) e)
    here false e (inr w) f (inl x) = other (x ∙ sym f)
    here false e (inr w) f (inr x) = gone (x ∙ w)

    one : (same l b ≡ true) ⊎ (false ≡ true) → l ≡ b
    one (inl e) = same-eq l b e
    one (inr e) = absurd (cc)

    two : (same l a ≡ true) ⊎ (has (b ∷ []) l ≡ true) → has P (negated l) ≡ true
    two (inl e) = here (same a g) refl s.watched is (inl (same-eq l a e))
    two (inr e) = here (same a g) refl s.watched is (inr (one (or-cases (same l b) false e)))
