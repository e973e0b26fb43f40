-- What is left of the watches once the learnt clauses were cut off.
use Rattle.std.proofs.Common.{◌≡◌, ℕ, suc, zero, ◌+◌, ◌*◌, ◌<◌, ◌≤◌, true, false, List, [], ◌∷◌, length, get_or, take, map, Option, None, refl, ap, sym, subst, ◌∙◌, ◌⊎◌, inl, inr, arith, cond, All}
use Rattle.std.proofs.lemmas.List.{length-map, length-take-le, get_or-take, get_or_past, get_or_default}
use Rattle.std.proofs.lemmas.List.Sorted.{Contains-permutation, IsPermutation-sym}
use Rattle.std.proofs.Math.ListN.{get_or-map}
use Rattle.std.proofs.lemmas.Bool.{cases_lt}
use Rattle.std.specs.List.{Contains}
use Rattle.std.specs.List.Sorted.{IsPermutation}
use Rattle.theory.specs.Literals.{Literal, Clause, same}
use Rattle.theory.specs.Truth.{IsOver}
use Rattle.theory.specs.Trails.{Trail}
use Rattle.theory.proofs.literals.LiteralLemmas.{true_or_false}
use Rattle.kernel.specs.declared.watches.watch.Watched.{Watched}
use Rattle.kernel.specs.declared.watches.watch.Watch.{Watch}
use Rattle.cnf.specs.Lits.{code}
use Rattle.kernel.specs.Watching.{At, IsPair, apart, Good, held, waits, reached, IsFull, list_at}
use Rattle.kernel.specs.Visiting.{WatchLists, places, entries_at, tending}
use Rattle.kernel.specs.Attaching.{IsWatching}
use Rattle.kernel.specs.Cutting.{IsKeptBelow, AreKeptBelow, AreCodesOf}
use Rattle.kernel.proofs.Places.{At-one, At-get}
use Rattle.kernel.proofs.Turns.{At-places}
use Rattle.kernel.proofs.Attached.{list_at-places}
use Rattle.kernel.proofs.Visits.{code-within, over-var}

-- each place among the lists is some literal's
literal_at : (i : ℕ) → (l : Literal) × (code l ≡ i)
literal_at zero = (record { var = 0; positive = false }, (let z : 2 * 0 + 0 ≡ 0 = omega arith in z))
literal_at (suc zero) = (record { var = 0; positive = true }, (let z : 2 * 0 + 1 ≡ 1 = omega arith in z))
literal_at (suc (suc i)) =
    let r = literal_at i in
    (record { var = suc r.0.var; positive = r.0.positive }, more r.0.var (cond r.0.positive 1 0) i r.1)
  where
    more : (v b i : ℕ) → 2 * v + b ≡ i → 2 * suc v + b ≡ suc (suc i)
    more v b i e = omega (arith, e)

front-At : {X : Type 0} (xs : List X) (m n : ℕ) (x : X) → m ≤ length xs → At (take m xs) n x → (n < m) × At xs n x
front-At xs m n x within a =
    let below : n < m = omega (arith, a.0, length-take-le m xs within) in
    (below, ((let z : n < length xs = omega (arith, below, within) in z), sym (get_or-take m xs n x below) ∙ a.1))

to-front : {X : Type 0} (xs : List X) (m n : ℕ) (x : X) → m ≤ length xs → n < m → At xs n x → At (take m xs) n x
to-front xs m n x within below a = ((let z : n < length (take m xs) = omega (arith, below, length-take-le m xs within) in z), get_or-take m xs n x below ∙ a.1)

-- the entry that names a clause
entry-of : (ws : List Watch) (n : ℕ) (d : Watch) → Contains (places ws) n → (p : ℕ) × (x : Watch) × At ws p x × (x.clause ≡ n)
entry-of ws n d (p, inside, read) =
    let within : p < length ws = subst (λ m. p < m) (length-map ws (λ (y : Watch). y.clause)) inside in
    (p, get_or ws p d, At-get ws p d within, sym (get_or-map (λ (y : Watch). y.clause) ws p d) ∙ (get_or_default (places ws) p d.clause n inside ∙ read))

module _ (V first at floor : ℕ) (K : List Clause) (T : Trail) (k u : WatchLists) (single codes : List ℕ) (empty : Option ℕ) (s : IsWatching V first K T at floor k single empty) (within : first ≤ length K) (coded : AreCodesOf first k.pairs codes)
    (dropped : AreKeptBelow first codes k.lists u.lists) (pairs : u.pairs ≡ take first k.pairs) (long : length u.lists ≡ length k.lists) (units : IsPermutation single u.units) (least : u.least ≡ empty) where
  d : Watch
  d = record { clause = 0; blocker = record { var = 0; positive = true }; is_short = true }

  v : Watched
  v = record { first = record { var = 0; positive = true }; second = record { var = 0; positive = true } }

  within_pairs : first ≤ length k.pairs
  within_pairs = omega (arith, within, s.served.tends.listed.length_pairs)

  old-places : (l : Literal) (n : ℕ) → Contains (list_at (tending k).lists l) n → Contains (places (entries_at k.lists l)) n
  old-places l n h = subst (λ (ns : List ℕ). Contains ns n) (list_at-places k.lists l) h

  -- an entry of the old lists is one of a clause that is there
  inside : (l : Literal) (n : ℕ) → Contains (list_at (tending k).lists l) n → IsFull K n
  inside l n h = by (cases_lt (code l) (length (tending k).lists))
    where
      by : (code l < length (tending k).lists) ⊎ (length (tending k).lists ≤ code l) → IsFull K n
      by (inl i) = s.served.tends.listed.within (code l) (list_at (tending k).lists l) n (At-get (tending k).lists (code l) [] i) h
      by (inr i) = let z : list_at (tending k).lists l ≡ [] = get_or_past (tending k).lists (code l) [] i in let b : Contains [] n = subst (λ (xs : List ℕ). Contains xs n) z h in absurd (omega (arith, b.1))

  every : (l : Literal) → IsKeptBelow first (entries_at k.lists l) (entries_at u.lists l)
  every l = go (dropped (code l))
    where
      go : (IsKeptBelow first (entries_at k.lists l) (entries_at u.lists l)) ⊎ ((Contains codes (code l) → ⊥) × (entries_at u.lists l ≡ entries_at k.lists l)) → IsKeptBelow first (entries_at k.lists l) (entries_at u.lists l)
      go (inl r) = r
      go (inr r) = rw r.1 (record {
        below = λ p x a. low p x a (cases_lt x.clause first);
        was = λ p x a. (p, a);
        stays = λ p x a h. let b = At-places (entries_at k.lists l) p x a in (p, b.0, b.1);
        once = λ n h a b. h a b;
      })
        where
          low : (p : ℕ) (x : Watch) → At (entries_at k.lists l) p x → (x.clause < first) ⊎ (first ≤ x.clause) → x.clause < first
          low p x a (inl h) = h
          low p x a (inr h) =
              let b = At-places (entries_at k.lists l) p x a in
              let c : Contains (list_at (tending k).lists l) x.clause = subst (λ (ns : List ℕ). Contains ns x.clause) (sym (list_at-places k.lists l)) (p, b.0, b.1) in
              let f : IsFull K x.clause = inside l x.clause c in
              let w : At k.pairs x.clause (get_or k.pairs x.clause v) = At-get k.pairs x.clause v (omega (arith, f.0, s.served.tends.listed.length_pairs)) in
              let names = coded x.clause (get_or k.pairs x.clause v) h w in
              absurd (r.0 (pick (s.served.tends.exact.exact l x.clause (get_or k.pairs x.clause v) c w) names))
            where
              pick : ((get_or k.pairs x.clause v).first ≡ l) ⊎ ((get_or k.pairs x.clause v).second ≡ l) → Contains codes (code (get_or k.pairs x.clause v).first) × Contains codes (code (get_or k.pairs x.clause v).second) → Contains codes (code l)
              pick (inl e) n = subst (λ (y : Literal). Contains codes (code y)) e n.0
              pick (inr e) n = subst (λ (y : Literal). Contains codes (code y)) e n.1

  new-list : (l : Literal) → list_at (tending u).lists l ≡ places (entries_at u.lists l)
  new-list l = list_at-places u.lists l

  -- what a new list names, the old one did
  named : (l : Literal) (n : ℕ) → Contains (list_at (tending u).lists l) n → (n < first) × Contains (list_at (tending k).lists l) n
  named l n h =
      let e = entry-of (entries_at u.lists l) n d (subst (λ (ns : List ℕ). Contains ns n) (new-list l) h) in
      let o = (every l).was e.0 e.1 e.2 in
      let b = At-places (entries_at k.lists l) o.0 e.1 o.1 in
      (subst (λ m. m < first) e.3 ((every l).below e.0 e.1 e.2), subst (λ (ns : List ℕ). Contains ns n) (sym (list_at-places k.lists l)) (subst (λ m. Contains (places (entries_at k.lists l)) m) e.3 (o.0, b.0, b.1)))

  still : (l : Literal) (n : ℕ) → n < first → Contains (list_at (tending k).lists l) n → Contains (list_at (tending u).lists l) n
  still l n low h =
      let e = entry-of (entries_at k.lists l) n d (old-places l n h) in
      subst (λ (ns : List ℕ). Contains ns n) (sym (new-list l)) (subst (λ m. Contains (places (entries_at u.lists l)) m) e.3 ((every l).stays e.0 e.1 e.2 (subst (λ m. m < first) (sym e.3) low)))

  front-pair : (n : ℕ) (w : Watched) → At u.pairs n w → (n < first) × At k.pairs n w
  front-pair n w a = front-At k.pairs first n w within_pairs (subst (λ ws. At ws n w) pairs a)

  front-clause : (n : ℕ) (c : Clause) → At (take first K) n c → (n < first) × At K n c
  front-clause n c a = front-At K first n c within a

  size : length (take first K) ≡ first
  size = length-take-le first K within

  pub cut-watching : IsWatching V first (take first K) [] 0 0 u single empty
  cut-watching = record {
    lists = long ∙ s.lists;
    served = record {
      tends = record {
        listed = record {
          length_pairs = ap length pairs ∙ (length-take-le first k.pairs within_pairs ∙ sym size);
          pairs = λ n c w a b ne. s.served.tends.listed.pairs n c w (front-clause n c a).1 (front-pair n w b).1 ne;
          listed = λ n c w a b ne one.
              let h = s.served.tends.listed.listed n c w (front-clause n c a).1 (front-pair n w b).1 ne one in
              (still w.first n (front-clause n c a).0 h.0, still w.second n (front-clause n c a).0 h.1);
          within = λ i ns n a b. full i ns n a b;
        };
        exact = record {
          exact = λ l n w h a. s.served.tends.exact.exact l n w (named l n h).1 (front-pair n w a).1;
          once = λ l n i j p q. (every l).once n (λ a b x y. s.served.tends.exact.once l n a b (old l n a x) (old l n b y)) i j (new l n i p) (new l n j q);
        };
        found = record {
          units = λ n h. let r = s.base.singles n (Contains-permutation u.units single n (IsPermutation-sym single u.units units) h) in (rw size r.0, λ c a. r.1 c (front-clause n c a).1);
          least = λ n e. let r = s.base.empty n (sym least ∙ e) in (rw size r.0, λ c a. rw (At-one K n c [] (front-clause n c a).1 r.1) refl);
          empties = λ n a. rw least (s.base.empties n (front-clause n [] a).0 (front-clause n [] a).1);
        };
        earlier = λ m h n c w a b. absurd (omega (arith, h));
      };
      good = λ n w a. good n w a;
    };
    entries = λ l p x a.
        let o = (every l).was p x a in
        let r = s.entries l o.0 x o.1 in
        record {
          blocker_in = λ c b. r.blocker_in c (front-clause x.clause c b).1;
          short = λ h c w b q. r.short h c w (front-clause x.clause c b).1 (front-pair x.clause w q).1;
          long = λ h c b. r.long h c (front-clause x.clause c b).1;
        };
    within = omega arith;
    base = record {
      all_singles = λ n c y h a m all. s.base.all_singles n c y h (front-clause n c a).1 m all;
      singles = λ n h. let r = s.base.singles n h in (r.0, λ c a. r.1 c (front-clause n c a).1);
      empty = λ n h. let r = s.base.empty n h in (r.0, to-front K first n [] within r.0 r.1);
      empties = λ n h a. s.base.empties n h (front-clause n [] a).1;
      learnt = λ n h a. absurd (omega (arith, h, a.0, size));
    };
  }
    where
      old : (l : Literal) (n a : ℕ) → At (places (entries_at k.lists l)) a n → At (list_at (tending k).lists l) a n
      old l n a h = subst (λ (ns : List ℕ). At ns a n) (sym (list_at-places k.lists l)) h

      new : (l : Literal) (n a : ℕ) → At (list_at (tending u).lists l) a n → At (places (entries_at u.lists l)) a n
      new l n a h = subst (λ (ns : List ℕ). At ns a n) (new-list l) h

      full : (i : ℕ) (ns : List ℕ) (n : ℕ) → At (tending u).lists i ns → Contains ns n → IsFull (take first K) n
      full i ns n a b =
          let l = literal_at i in
          let is : ns ≡ list_at (tending u).lists l.0 = sym a.1 ∙ (get_or_default (tending u).lists i ns [] a.0 ∙ ap (λ j. get_or (tending u).lists j []) (sym l.1)) in
          let h = named l.0 n (subst (λ (xs : List ℕ). Contains xs n) is b) in
          let f = inside l.0 n h.1 in
          (rw size h.0, λ x. f.1 (front-clause n [] x).1)

      good : (n : ℕ) (w : Watched) → At u.pairs n w → Good (take first K) [] [] u.units u.least w n
      good n w a = by (get_or K n []) refl
        where
          p : (n < first) × At k.pairs n w
          p = front-pair n w a

          c-at : At K n (get_or K n [])
          c-at = At-get K n [] (omega (arith, p.0, within))

          by : (c : Clause) → get_or K n [] ≡ c → Good (take first K) [] [] u.units u.least w n
          by [] e = reached (rw least (s.base.empties n p.0 (subst (λ (x : Clause). At K n x) e c-at)))
          by (y ∷ c) e = one (true_or_false (same w.first w.second))
            where
              pair : IsPair (y ∷ c) w
              pair = s.served.tends.listed.pairs n (y ∷ c) w (subst (λ (x : Clause). At K n x) e c-at) p.1 (λ z. let f : y ∷ c ≡ [] = z in absurd (cc))

              one : (same w.first w.second ≡ true) ⊎ (same w.first w.second ≡ false) → Good (take first K) [] [] u.units u.least w n
              one (inl h) = waits (Contains-permutation single u.units n units (s.base.all_singles n (y ∷ c) w.first p.0 (subst (λ (x : Clause). At K n x) e c-at) pair.first_in (pair.single h))) (inl refl)
              one (inr h) = held (apart h refl refl)

-- the lists of the literals that learnt clauses watch are there
pub learnt-codes : (V W first at floor : ℕ) (K : List Clause) (T : Trail) (k : WatchLists) (single : List ℕ) (empty : Option ℕ) → All (IsOver W) K → length k.lists ≡ 2 * W + 2 → IsWatching V first K T at floor k single empty
    → (n : ℕ) (w : Watched) → first ≤ n → At k.pairs n w → (code w.first < length k.lists) × (code w.second < length k.lists)
learnt-codes V W first at floor K T k single empty over long s n w low a = by (get_or K n []) refl
  where
    inside : n < length K
    inside = omega (arith, a.0, s.served.tends.listed.length_pairs)

    there : At K n (get_or K n [])
    there = At-get K n [] inside

    by : (c : Clause) → get_or K n [] ≡ c → (code w.first < length k.lists) × (code w.second < length k.lists)
    by [] e = absurd (s.base.learnt n low (subst (λ (x : Clause). At K n x) e there))
    by (y ∷ c) e =
        let pair : IsPair (y ∷ c) w = s.served.tends.listed.pairs n (y ∷ c) w (subst (λ (x : Clause). At K n x) e there) a (λ z. let f : y ∷ c ≡ [] = z in absurd (cc)) in
        let all : IsOver W (y ∷ c) = subst (λ (x : Clause). IsOver W x) e (over n [] inside) in
        (code-within w.first W (length k.lists) (over-var W (y ∷ c) w.first all pair.first_in) long, code-within w.second W (length k.lists) (over-var W (y ∷ c) w.second all pair.second_in) long)

-- no clauses yet
pub empty-watching : (V : ℕ) (lists : List (List Watch)) → length lists ≡ 2 * V + 2 → ((i : ℕ) → get_or lists i [] ≡ []) → IsWatching V 0 [] [] 0 0 (record { pairs = []; lists = lists; units = []; least = None }) [] None
empty-watching V lists long none = record {
  lists = long;
  served = record {
    tends = record {
      listed = record {
        length_pairs = refl;
        pairs = λ n c w a. absurd (omega (arith, a.0));
        listed = λ n c w a. absurd (omega (arith, a.0));
        within = λ i ns n a b. absurd (nothing i ns n a b);
      };
      exact = record {
        exact = λ l n w h a. absurd (omega (arith, a.0));
        once = λ l n i j a b. absurd (let z : i < length {A = ℕ} [] = subst (λ (xs : List ℕ). i < length xs) (nil (code l)) a.0 in omega (arith, z));
      };
      found = record {
        units = λ n h. absurd (omega (arith, h.1));
        least = λ n e. absurd (cc);
        empties = λ n a. absurd (omega (arith, a.0));
      };
      earlier = λ m h. absurd (omega (arith, h));
    };
    good = λ n w a. absurd (omega (arith, a.0));
  };
  entries = λ l p x a. absurd (let z : p < length {A = Watch} [] = subst (λ (xs : List Watch). p < length xs) (none (code l)) a.0 in omega (arith, z));
  within = omega arith;
  base = record {
    all_singles = λ n c y h. absurd (omega (arith, h));
    singles = λ n h. absurd (omega (arith, h.1));
    empty = λ n h. absurd (cc);
    empties = λ n h. absurd (omega (arith, h));
    learnt = λ n h a. absurd (omega (arith, a.0));
  };
}
  where
    nil : (i : ℕ) → get_or (map places lists) i [] ≡ []
    nil i = get_or-map places lists i [] ∙ ap places (none i)

    nothing : (i : ℕ) (ns : List ℕ) (n : ℕ) → At (map places lists) i ns → Contains ns n → ⊥
    nothing i ns n a b =
        let is : ns ≡ [] = sym a.1 ∙ (get_or_default (map places lists) i ns [] a.0 ∙ nil i) in
        let c : Contains [] n = subst (λ (xs : List ℕ). Contains xs n) is b in
        omega (arith, c.1)

all-empty-at : {V : Type 0} (f : V → List Watch) (xs : List V) (j : ℕ) → j < length xs → All (λ v. f v ≡ []) xs → get_or (map f xs) j [] ≡ []
all-empty-at f [] j h a = absurd (omega (arith, h))
all-empty-at f (x ∷ xs) zero h a = a zero x (let z : 0 < length (x ∷ xs) = omega arith in z)
all-empty-at f (x ∷ xs) (suc j) h a = all-empty-at f xs j (omega (arith, h)) (λ m e l. a (suc m) e (let z : suc m < length (x ∷ xs) = omega (arith, l) in z))

pub all-empty : {V : Type 0} (f : V → List Watch) (vs : List V) → All (λ v. f v ≡ []) vs → (i : ℕ) → get_or (map f vs) i [] ≡ []
all-empty f vs all i = by (cases_lt i (length vs))
  where
    by : (i < length vs) ⊎ (length vs ≤ i) → get_or (map f vs) i [] ≡ []
    by (inl h) = all-empty-at f vs i h all
    by (inr h) = get_or_past (map f vs) i [] (subst (λ n. n ≤ i) (sym (length-map vs f)) h)
