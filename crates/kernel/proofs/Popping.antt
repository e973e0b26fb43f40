-- Once each entry was served: the conflict, the unit clause of least number, or neither.
use Rattle.std.proofs.Common.{◌≡◌, ◌≢◌, ℕ, suc, zero, ◌+◌, ◌<◌, ◌≤◌, Bool, true, false, not, ◌||◌, List, [], ◌∷◌, ◌++◌, length, get_or, take, Option, Some, None, refl, sym, subst, ◌∙◌, ◌⊎◌, inl, inr, arith, nat_eq}
use Rattle.std.proofs.lemmas.Bool.{cases_eq}
use Rattle.std.proofs.lemmas.List.{take_all, take_at}
use Rattle.std.specs.List.{Contains, list_all}
use Rattle.std.specs.List.Sorted.{IsPermutation}
use Rattle.std.proofs.lemmas.List.Sorted.{Contains-permutation, IsPermutation-sym}
use Rattle.theory.specs.Literals.{Literal, Clause, same, same_sign, has, has_var, negated}
use Rattle.theory.specs.Status.{is_false, unit_literal}
use Rattle.theory.specs.Trails.{Entry, Trail, literals, current_level}
use Rattle.theory.specs.Propagation.{least_false, least_unit}
use Rattle.theory.proofs.literals.LiteralLemmas.{and-left, and-right, or-cases, or-left, or-right, true_or_false, same-refl}
use Rattle.kernel.specs.Watching.{IsConsistent, IsPair, IsWatched, apart, first_true, second_true, other_true, both_signs, Reached, Good, held, waits, reached, spared, At, Tending, Includes, Tends, WasUnit, AllGood, IsServed}
use Rattle.kernel.specs.declared.watches.watch.Watched.{Watched}
use Rattle.kernel.specs.Placing.{IsLastOf}
use Rattle.kernel.proofs.LastLiterals.{all-false-but, all-false}
use Rattle.kernel.proofs.LiteralFacts.{true_false, has-push}
use Rattle.kernel.proofs.Places.{At-one, At-get}
use Rattle.kernel.proofs.AtRest.{false-reached, unit-waits}
use Rattle.kernel.proofs.LeastClauses.{least_false-none, least_false-some, least_unit-none, unit_literal-is, unit_literal-says}
use Rattle.kernel.proofs.TrailFacts.{literals-push, up_to-push, current_level-push}

-- a variable of P has one of its literals there
pub has_var-has : (P : List Literal) (l : Literal) → has_var P l.var ≡ true → (has P l ≡ true) ⊎ (has P (negated l) ≡ true)
has_var-has [] l h = absurd (cc)
has_var-has (k ∷ P) l h = go (or-cases (nat_eq l.var k.var) (has_var P l.var) h) (has_var-has P l)
  where
    sign : (a b : Bool) → (same_sign a b ≡ true) ⊎ (same_sign (not a) b ≡ true)
    sign true true = inl refl
    sign true false = inr refl
    sign false true = inr refl
    sign false false = inl refl

    here : nat_eq l.var k.var ≡ true → (same l k ≡ true) ⊎ (same (negated l) k ≡ true)
    here e = both (sign l.positive k.positive)
      where
        both : (same_sign l.positive k.positive ≡ true) ⊎ (same_sign (not l.positive) k.positive ≡ true) → (same l k ≡ true) ⊎ (same (negated l) k ≡ true)
        both (inl f) = inl (rw e f)
        both (inr f) = inr (rw e f)

    first : (same l k ≡ true) ⊎ (same (negated l) k ≡ true) → (has (k ∷ P) l ≡ true) ⊎ (has (k ∷ P) (negated l) ≡ true)
    first (inl e) = inl (or-left (same l k) (has P l) e)
    first (inr e) = inr (or-left (same (negated l) k) (has P (negated l)) e)

    go : (nat_eq l.var k.var ≡ true) ⊎ (has_var P l.var ≡ true) → (has_var P l.var ≡ true → (has P l ≡ true) ⊎ (has P (negated l) ≡ true)) → (has (k ∷ P) l ≡ true) ⊎ (has (k ∷ P) (negated l) ≡ true)
    go (inl e) more = first (here e)
    go (inr e) more = rest (more e)
      where
        rest : (has P l ≡ true) ⊎ (has P (negated l) ≡ true) → (has (k ∷ P) l ≡ true) ⊎ (has (k ∷ P) (negated l) ≡ true)
        rest (inl f) = inl (or-right (same l k) (has P l) f)
        rest (inr f) = inr (or-right (same (negated l) k) (has P (negated l)) f)

module _ (floor : ℕ) (K : List Clause) (T : Trail) (t : Tending) (consistent : IsConsistent (literals T)) (s : IsServed floor K T (length T) t) where
  good : AllGood K (literals T) (literals T) t
  good = subst (λ (U : Trail). AllGood K (literals U) (literals T) t) (take_all (length T) T (let z : length T ≤ length T = omega arith in z)) s.good

  -- the watched literals of a clause that isn't empty, with what is known of them
  at_pair : (n : ℕ) (c : Clause) → At K n c → (w : Watched) × At t.pairs n w
  at_pair n c a = (get_or t.pairs n record { first = record { var = 0; positive = true }; second = record { var = 0; positive = true } }, At-get t.pairs n _ (rw s.tends.listed.length_pairs a.0))

  -- each false clause was reached
  all-reached : (n : ℕ) (c : Clause) → At K n c → is_false (literals T) c ≡ true → Reached t.least n
  all-reached n c a h = go c refl
    where
      go : (d : Clause) → c ≡ d → Reached t.least n
      go [] e = s.tends.found.empties n (subst (λ (x : Clause). At K n x) e a)
      go (k ∷ d) e =
          let w = at_pair n c a in
          false-reached K (literals T) t.units t.least c w.0 n a consistent (s.tends.listed.pairs n c w.0 a w.1 (λ f. let g : k ∷ d ≡ [] = sym e ∙ f in absurd (cc))) h (good n w.0 w.1)

  not_false : (n : ℕ) (c : Clause) → At K n c → (Reached t.least n → ⊥) → is_false (literals T) c ≡ false
  not_false n c a never = go (true_or_false (is_false (literals T) c))
    where
      go : (is_false (literals T) c ≡ true) ⊎ (is_false (literals T) c ≡ false) → is_false (literals T) c ≡ false
      go (inl e) = absurd (never (all-reached n c a e))
      go (inr e) = e

  -- the conflict
  pub is-conflict : (n : ℕ) → t.least ≡ Some n → least_false (literals T) K ≡ Some (n + 1)
  is-conflict n e =
      let f = s.tends.found.least n e in
      least_false-some (literals T) K n (get_or K n []) (At-get K n [] f.0) (f.1 (get_or K n []) (At-get K n [] f.0))
      (λ m d l a. not_false m d a (λ r. let x : n ≤ m = subst (λ o. Reached o m) e r in omega (arith, x, l)))

  pub conflict-within : (n : ℕ) → t.least ≡ Some n → n < length K
  conflict-within n e = (s.tends.found.least n e).0

  module _ (none : t.least ≡ None) where
    pub none-false : least_false (literals T) K ≡ None
    none-false = least_false-none (literals T) K (λ n c a. not_false n c a (λ r. subst (λ o. Reached o n) none r))

    -- a unit clause waits
    all-wait : (n : ℕ) (c : Clause) (y : Literal) → At K n c → unit_literal (literals T) c ≡ Some y → Contains t.units n
    all-wait n c y a h =
        let u = unit_literal-says (literals T) c y h in
        let w = at_pair n c a in
        let nonempty : c ≡ [] → ⊥ = (λ e. let x : has [] y ≡ true = subst (λ (d : Clause). has d y ≡ true) e u.member in absurd (cc)) in
        unit-waits K (literals T) t.units c w.0 n y a consistent (s.tends.listed.pairs n c w.0 a w.1 nonempty) u.free u.others
        (subst (λ o. Good K (literals T) (literals T) t.units o w.0 n) none (good n w.0 w.1))

    not_unit : (n : ℕ) (c : Clause) → At K n c → (Contains t.units n → ⊥) → unit_literal (literals T) c ≡ None
    not_unit n c a never = go (unit_literal (literals T) c) refl
      where
        go : (o : Option Literal) → unit_literal (literals T) c ≡ o → unit_literal (literals T) c ≡ None
        go None e = e
        go (Some y) e = absurd (never (all-wait n c y a e))

    -- none waits, so none is unit
    pub none-is_unit : t.units ≡ [] → (n : ℕ) (c : Clause) → At K n c → unit_literal (literals T) c ≡ None
    none-is_unit e n c a = not_unit n c a (λ m. let x : Contains [] n = subst (λ (xs : List ℕ). Contains xs n) e m in omega (arith, x.1))

    pub none-unit : t.units ≡ [] → least_unit (literals T) K ≡ None
    none-unit e = least_unit-none (literals T) K (none-is_unit e)

pub Good-grow : (K : List Clause) (S P Q : List Literal) (H : List ℕ) (f : Option ℕ) (w : Watched) (n : ℕ) → Includes Q P → Good K S P H f w n → Good K S Q H f w n
Good-grow K S P Q H f w n more (held (apart d a b)) = held (apart d a b)
Good-grow K S P Q H f w n more (held (first_true t)) = held (first_true (more w.first t))
Good-grow K S P Q H f w n more (held (second_true t)) = held (second_true (more w.second t))
Good-grow K S P Q H f w n more (held (other_true c y a m t)) = held (other_true c y a m (more y t))
Good-grow K S P Q H f w n more (held (both_signs c a b)) = held (both_signs c a b)
Good-grow K S P Q H f w n more (waits m z) = waits m z
Good-grow K S P Q H f w n more (reached r) = reached r
Good-grow K S P Q H f w n more (spared m r z) = spared m r z

pub all-more : (p q : Literal → Bool) (c : Clause) → ((l : Literal) → p l ≡ true → q l ≡ true) → list_all p c ≡ true → list_all q c ≡ true
all-more p q [] more h = refl
all-more p q (k ∷ c) more h =
    let here : q k ≡ true = more k (and-left (p k) (list_all p c) h) in
    let rest : list_all q c ≡ true = all-more p q c more (and-right (p k) (list_all p c) h) in
    rw (here, rest) refl

Includes-push : (P : List Literal) (k : Literal) → Includes (P ++ k ∷ []) P
Includes-push P k l h = has-push P k l ∙ or-left (has P l) (same l k) h

-- an entry more, at the current level
pub Tends-grow : (floor : ℕ) (K : List Clause) (T : Trail) (e : Entry) (t : Tending) → e.level ≡ current_level T → Tends floor K T t → Tends floor K (T ++ e ∷ []) t
Tends-grow floor K T e t level s = record {
  listed = s.listed;
  exact = s.exact;
  found = record {
    units = λ n h. ((s.found.units n h).0, λ c a. let u = (s.found.units n h).1 c a in (u.0, u.1, all-more (λ l. same u.0 l || has (literals T) (negated l)) (λ l. same u.0 l || has (literals (T ++ e ∷ [])) (negated l)) c (λ l m. one u.0 l (or-cases (same u.0 l) (has (literals T) (negated l)) m)) u.2));
    least = λ n h. ((s.found.least n h).0, λ c a. all-more (λ l. has (literals T) (negated l)) (λ l. has (literals (T ++ e ∷ [])) (negated l)) c (λ l m. grown (negated l) m) ((s.found.least n h).1 c a));
    empties = s.found.empties;
  };
  earlier = λ m h n c w a b.
      let low : m < current_level T = subst (λ x. m < x) (current_level-push T e ∙ level) h in
      let high : m < e.level = subst (λ x. m < x) (current_level-push T e) h in
      subst (λ (U : Trail). (c ≡ [] → ⊥) × IsWatched K n (literals (take floor U)) (literals U) w) (sym (up_to-push T e m high)) (s.earlier m low n c w a b);
}
  where
    grown : (l : Literal) → has (literals T) l ≡ true → has (literals (T ++ e ∷ [])) l ≡ true
    grown l h = subst (λ (P : List Literal). has P l ≡ true) (sym (literals-push T e)) (Includes-push (literals T) e.lit l h)

    one : (y l : Literal) → (same y l ≡ true) ⊎ (has (literals T) (negated l) ≡ true) → same y l || has (literals (T ++ e ∷ [])) (negated l) ≡ true
    one y l (inl f) = or-left (same y l) (has (literals (T ++ e ∷ [])) (negated l)) f
    one y l (inr f) = or-right (same y l) (has (literals (T ++ e ∷ [])) (negated l)) (grown (negated l) f)

-- a number was taken out of those that wait
record Pops (t u : Tending) (n : ℕ) (w : Watched) : Type 0 where
  pub pairs : u.pairs ≡ t.pairs
  pub lists : u.lists ≡ t.lists
  pub least : u.least ≡ t.least
  pub none : t.least ≡ None
  pub units : IsPermutation t.units (n ∷ u.units)
  pub watch : At t.pairs n w

module _ (floor : ℕ) (K : List Clause) (T : Trail) (t u : Tending) (n : ℕ) (w : Watched) (ok : IsConsistent (literals T)) (s : IsServed floor K T (length T) t) (p : Pops t u n w) where
  good_at : AllGood K (literals T) (literals T) t
  good_at = subst (λ (U : Trail). AllGood K (literals U) (literals T) t) (take_all (length T) T (let z : length T ≤ length T = omega arith in z)) s.good

  waited : Contains t.units n
  waited = Contains-permutation (n ∷ u.units) t.units n (IsPermutation-sym t.units (n ∷ u.units) p.units) (0, (let z : 0 < length (n ∷ u.units) = omega arith in z), refl)

  popped-within : n < length K
  popped-within = (s.tends.found.units n waited).0

  others-wait : (m : ℕ) → Contains u.units m → Contains t.units m
  others-wait m h = Contains-permutation (n ∷ u.units) t.units m (IsPermutation-sym t.units (n ∷ u.units) p.units) (suc h.0, (let z : suc h.0 < length (n ∷ u.units) = omega (arith, h.1) in z), h.2)

  still-wait : (m : ℕ) → m ≢ n → Contains t.units m → Contains u.units m
  still-wait m ne h = split (Contains-permutation t.units (n ∷ u.units) m p.units h)
    where
      split : Contains (n ∷ u.units) m → Contains u.units m
      split (zero, l, e) = absurd (ne (sym e))
      split (suc q, l, e) = (q, (let z : q < length u.units = omega (arith, l) in z), e)

  c-at : At K n (get_or K n [])
  c-at = At-get K n [] popped-within

  was : WasUnit (literals T) (get_or K n [])
  was = (s.tends.found.units n waited).1 (get_or K n []) c-at

  nonempty : get_or K n [] ≡ [] → ⊥
  nonempty e = let x : has [] was.0 ≡ true = subst (λ (d : Clause). has d was.0 ≡ true) e was.1 in absurd (cc)

  pair : IsPair (get_or K n []) w
  pair = s.tends.listed.pairs n (get_or K n []) w c-at p.watch nonempty

  good-n : Good K (literals T) (literals T) t.units None w n
  good-n = subst (λ o. Good K (literals T) (literals T) t.units o w n) p.none (good_at n w p.watch)

  -- without the number, where the clause has a true literal
  pop-tends : Tends floor K T u
  pop-tends = record {
    listed = record {
      length_pairs = rw p.pairs s.tends.listed.length_pairs;
      pairs = λ m d v a b ne. s.tends.listed.pairs m d v a (rw (← p.pairs) b) ne;
      listed = λ m d v a b ne one. rw p.lists (s.tends.listed.listed m d v a (rw (← p.pairs) b) ne one);
      within = λ k ns m a b. s.tends.listed.within k ns m (rw (← p.lists) a) b;
    };
    exact = rw (p.pairs, p.lists) s.tends.exact;
    found = record {
      units = λ m h. s.tends.found.units m (others-wait m h);
      least = λ m e. s.tends.found.least m (sym p.least ∙ e);
      empties = λ m a. rw p.least (s.tends.found.empties m a);
    };
    earlier = λ m h i d v a b. s.tends.earlier m h i d v a (rw (← p.pairs) b);
  }

  less : (S Q : List Literal) (f : Option ℕ) (v : Watched) (m : ℕ) → m ≢ n → Good K S Q t.units f v m → Good K S Q u.units f v m
  less S Q f v m ne (held h) = held h
  less S Q f v m ne (waits h z) = waits (still-wait m ne h) z
  less S Q f v m ne (reached r) = reached r
  less S Q f v m ne (spared i r z) = spared i r z

  pop-good : (Q : List Literal) → Includes Q (literals T) → IsWatched K n (literals T) Q w → AllGood K (literals T) Q u
  pop-good Q more h m v a = go (cases_eq m n)
    where
      there : At t.pairs m v
      there = rw (← p.pairs) a

      go : (m ≡ n) ⊎ (m ≢ n) → Good K (literals T) Q u.units u.least v m
      go (inl e) =
          let same_one : w ≡ v = At-one t.pairs n w v p.watch (subst (λ x. At t.pairs x v) e there) in
          rw (e, ← same_one) (held h)
      go (inr e) = rw p.least (less (literals T) Q t.least v m e (Good-grow K (literals T) (literals T) Q t.units t.least v m more (good_at m v there)))

  -- each unit clause waits
  unit-waited : (m : ℕ) (d : Clause) (y : Literal) → At K m d → unit_literal (literals T) d ≡ Some y → Contains t.units m
  unit-waited m d y a h = all-wait floor K T t ok s p.none m d y a h

  module _ (k : Literal) (last : (c : Clause) → At K n c → IsLastOf (literals T) c k) where
    here : IsLastOf (literals T) (get_or K n []) k
    here = last (get_or K n []) c-at

    last-in : has (get_or K n []) k ≡ true
    last-in = here.0

    -- it is unit in the literal, where that is free
    pop-unit : has_var (literals T) k.var ≡ false → unit_literal (literals T) (get_or K n []) ≡ Some k
    pop-unit free = unit_literal-is (literals T) (get_or K n []) k here.0 free (all-false-but (literals T) (get_or K n []) k here.1)

    held-by : (Q : List Literal) → has Q k ≡ true → IsWatched K n (literals T) Q w
    held-by Q h = other_true (get_or K n []) k c-at here.0 h

    never : Reached t.least n → ⊥
    never r = absurd (subst (λ (o : Option ℕ). Reached o n) p.none r)

    pop-stale : has_var (literals T) k.var ≡ true → IsServed floor K T (length T) u
    pop-stale h = record {
      tends = pop-tends;
      good = subst (λ (U : Trail). AllGood K (literals U) (literals T) u) (sym (take_all (length T) T (let z : length T ≤ length T = omega arith in z)))
          (pop-good (literals T) (λ l m. m) (go (has_var-has (literals T) k h)));
    }
      where
        go : (has (literals T) k ≡ true) ⊎ (has (literals T) (negated k) ≡ true) → IsWatched K n (literals T) (literals T) w
        go (inl e) = held-by (literals T) e
        go (inr e) = absurd (true_false (is_false (literals T) (get_or K n [])) (all-false (literals T) (get_or K n []) k here.1 e) (not_false floor K T t ok s n (get_or K n []) c-at never))

    pop-entry : (e : Entry) → e.lit ≡ k → e.level ≡ current_level T → IsServed floor K (T ++ e ∷ []) (length T) u
    pop-entry e lit level = record {
      tends = Tends-grow floor K T e u level pop-tends;
      good = subst (λ (U : Trail). AllGood K (literals U) (literals (T ++ e ∷ [])) u) (sym (take_at T (e ∷ []) (length T) refl))
          (pop-good (literals (T ++ e ∷ [])) more (held-by (literals (T ++ e ∷ [])) there));
    }
      where
        more : Includes (literals (T ++ e ∷ [])) (literals T)
        more l h = subst (λ (P : List Literal). has P l ≡ true) (sym (literals-push T e)) (Includes-push (literals T) e.lit l h)

        there : has (literals (T ++ e ∷ [])) k ≡ true
        there = subst (λ (P : List Literal). has P k ≡ true) (sym (literals-push T e))
            (has-push (literals T) e.lit k ∙ or-right (has (literals T) k) (same k e.lit) (subst (λ (x : Literal). same k x ≡ true) (sym lit) (same-refl k)))

-- a number that is taken out is that of a clause
pub pop-within : (floor : ℕ) (K : List Clause) (T : Trail) (t : Tending) (n : ℕ) (us : List ℕ) → Tends floor K T t → IsPermutation t.units (n ∷ us) → n < length t.pairs
pop-within floor K T t n us s p =
    let waited : Contains t.units n = Contains-permutation (n ∷ us) t.units n (IsPermutation-sym t.units (n ∷ us) p) (0, (let z : 0 < length (n ∷ us) = omega arith in z), refl) in
    omega (arith, (s.found.units n waited).0, s.listed.length_pairs)

-- what is known of the number that was taken out, with the literal that its clause may be unit in
pub record Popped (floor : ℕ) (K : List Clause) (T : Trail) (t : Tending) (us : List ℕ) (n : ℕ) (k : Literal) : Type 0 where
  pub inside : n < length K
  pub member : has (get_or K n []) k ≡ true
  pub unit : has_var (literals T) k.var ≡ false → unit_literal (literals T) (get_or K n []) ≡ Some k
  pub waited : (m : ℕ) (d : Clause) (y : Literal) → At K m d → unit_literal (literals T) d ≡ Some y → Contains t.units m
  pub stale : has_var (literals T) k.var ≡ true → IsServed floor K T (length T) (record t { units = us })
  pub entry : (e : Entry) → e.lit ≡ k → e.level ≡ current_level T → IsServed floor K (T ++ e ∷ []) (length T) (record t { units = us })

pub popped : (floor : ℕ) (K : List Clause) (T : Trail) (t : Tending) (us : List ℕ) (n : ℕ) (k : Literal) → IsConsistent (literals T) → t.least ≡ None → IsPermutation t.units (n ∷ us)
    → ((c : Clause) → At K n c → IsLastOf (literals T) c k) → IsServed floor K T (length T) t → Popped floor K T t us n k
popped floor K T t us n k ok none units last s = record {
  inside = popped-within floor K T t u n w ok s p;
  member = last-in floor K T t u n w ok s p k last;
  unit = pop-unit floor K T t u n w ok s p k last;
  waited = unit-waited floor K T t u n w ok s p;
  stale = pop-stale floor K T t u n w ok s p k last;
  entry = pop-entry floor K T t u n w ok s p k last;
}
  where
    u : Tending
    u = record t { units = us }

    w : Watched
    w = get_or t.pairs n record { first = k; second = k }

    p : Pops t u n w
    p = record { pairs = refl; lists = refl; least = refl; none = none; units = units; watch = At-get t.pairs n _ (pop-within floor K T t n us s.tends units) }
