-- The formula's clauses, one after the other, and what holds when a cube begins.
use Rattle.std.proofs.Common.{◌≡◌, ℕ, suc, zero, ◌<◌, ◌≤◌, true, false, nat_le, ◌||◌, List, [], ◌∷◌, ◌++◌, length, get_or, map, Option, Some, refl, ap, sym, subst, ◌∙◌, ◌⊎◌, inl, inr, arith, All}
use Rattle.std.proofs.lemmas.List.{length_push, length-map, get_or_push, get_or_past}
use Rattle.std.proofs.Math.ListN.{get_or-map}
use Rattle.theory.specs.Truth.{IsOver}
use Rattle.std.proofs.lemmas.List.Elements.{Contains-append_left, Contains-push, Contains-push_cases}
use Rattle.std.proofs.lemmas.List.Sorted.{Contains-permutation, IsPermutation-sym}
use Rattle.std.specs.List.{Contains, list_all}
use Rattle.std.specs.List.Sorted.{IsPermutation}
use Rattle.theory.specs.Literals.{Literal, Clause, same, has, negated}
use Rattle.theory.specs.Status.{is_false}
use Rattle.theory.specs.Trails.{Trail, literals, current_level}
use Rattle.theory.proofs.literals.LiteralLemmas.{or-cases, or-left, same-eq, same-refl}
use Rattle.kernel.specs.declared.watches.watch.Watched.{Watched}
use Rattle.kernel.specs.declared.watches.watch.Watch.{Watch}
use Rattle.cnf.specs.Lits.{code}
use Rattle.kernel.specs.Watching.{At, IsPair, apart, Reached, Good, held, waits, reached, spared, Tending, IsServed, WasUnit, list_at, listed_both, lesser}
use Rattle.kernel.specs.Visiting.{WatchLists, places, tending, AreEntries, entries_at, IsEntry}
use Rattle.kernel.specs.Attaching.{attached, IsWatching}
use Rattle.kernel.proofs.LiteralFacts.{true_false, all-member}
use Rattle.kernel.proofs.Places.{At-one, At-get, At-push}
use Rattle.kernel.proofs.Popping.{Good-grow, all-more}
use Rattle.kernel.proofs.Adding.{added, Good-longer, At-longer}
use Rattle.kernel.proofs.Attached.{attached-places, attached-entries, list_at-places}
use Rattle.kernel.proofs.Turns.{At-places}
use Rattle.kernel.proofs.Steps.{lesser-reached, lesser-self, lesser-cases}
use Rattle.std.proofs.lemmas.Bool.{cases_lt}

pub no-literal : (l : Literal) → has [] l ≡ true → ⊥
no-literal l h = absurd (cc)

-- nothing is decided: whatever stands on the trail is yet to be served
pub begins : (f g : ℕ) (K : List Clause) (T : Trail) (t : Tending) → current_level T ≡ 0 → IsServed f K [] 0 t → IsServed g K T 0 t
begins f g K T t level s = record {
  tends = record {
    listed = s.tends.listed;
    exact = s.tends.exact;
    found = record {
      units = λ n h. let r = s.tends.found.units n h in (r.0, λ c a. let u = r.1 c a in (u.0, u.1, all-more (λ l. same u.0 l || has [] (negated l)) (λ l. same u.0 l || has (literals T) (negated l)) c (λ l m. one u.0 l (or-cases (same u.0 l) (has [] (negated l)) m)) u.2));
      least = λ n h. let r = s.tends.found.least n h in (r.0, λ c a. all-more (λ l. has [] (negated l)) (λ l. has (literals T) (negated l)) c (λ l m. absurd (no-literal (negated l) m)) (r.1 c a));
      empties = s.tends.found.empties;
    };
    earlier = λ m h n c w a b. absurd (omega (arith, h, level));
  };
  good = λ n w a. Good-grow K [] [] (literals T) t.units t.least w n (λ l h. absurd (no-literal l h)) (s.good n w a);
}
  where
    one : (y l : Literal) → (same y l ≡ true) ⊎ (has [] (negated l) ≡ true) → same y l || has (literals T) (negated l) ≡ true
    one y l (inl e) = or-left (same y l) (has (literals T) (negated l)) e
    one y l (inr e) = absurd (no-literal (negated l) e)

-- the same with all that is true of the watches
pub begun : (f V first : ℕ) (K : List Clause) (T : Trail) (k : WatchLists) (single : List ℕ) (empty : Option ℕ) → current_level T ≡ 0 → IsWatching V first K [] 0 0 k single empty → IsWatching V first K T 0 f k single empty
begun f V first K T k single empty level s = record {
  lists = s.lists;
  served = begins 0 f K T (tending k) level s.served;
  entries = s.entries;
  within = omega arith;
  base = s.base;
}

-- what is true of the clauses is so of what they stand in
pub over-items : {A : Type 0} (f : A → Clause) (V : ℕ) (xs : List A) (K : List Clause) → map f xs ≡ K → All (IsOver V) K → All (λ x. IsOver V (f x)) xs
over-items f V xs K is all k d h =
    let there : k < length K = subst (λ (cs : List Clause). k < length cs) is (subst (λ n. k < n) (sym (length-map xs f)) h) in
    subst (λ (c : Clause). IsOver V c) (ap (λ (cs : List Clause). get_or cs k (f d)) (sym is) ∙ get_or-map f xs k d) (all k (f d) there)

-- a clause of one literal
pub single-unit : (c : Clause) (w : Watched) → IsPair c w → same w.first w.second ≡ true → WasUnit [] c
single-unit c w pair h = (w.first, pair.first_in, all-more (same w.first) (λ l. same w.first l || has [] (negated l)) c (λ l m. or-left (same w.first l) (has [] (negated l)) m) (pair.single h))

module _ (V : ℕ) (K : List Clause) (k u : WatchLists) (single : List ℕ) (e : Option ℕ) (c : Clause) (w : Watched) (s : IsWatching V (length K) K [] 0 0 k single e) where
  longer : (n : ℕ) → n < length K → n < length (K ++ c ∷ [])
  longer n h = omega (arith, length_push K c, h)

  last : length K < length (K ++ c ∷ [])
  last = omega (arith, length_push K c)

  module _ (pair : IsPair c w) (ha : code w.first < length k.lists) (hb : code w.second < length k.lists) (pairs : u.pairs ≡ k.pairs ++ w ∷ []) (lists : u.lists ≡ attached k.lists w (length K) (nat_le (length c) 2)) (long : length u.lists ≡ length k.lists) (least : u.least ≡ k.least) where
    nonempty : c ≡ [] → ⊥
    nonempty z = no-literal w.first (subst (λ (d : Clause). has d w.first ≡ true) z pair.first_in)

    placed : (tending u).lists ≡ listed_both (tending k).lists w (length K)
    placed = ap (map places) lists ∙ attached-places k.lists w (length K) (nat_le (length c) 2)

    within : (l : Literal) → code l < length k.lists → code l < length (tending k).lists
    within l h = subst (λ n. code l < n) (sym (length-map k.lists places)) h

    its-entries : AreEntries (K ++ c ∷ []) u
    its-entries l = rw (pairs, lists) (attached-entries K k c w s.served.tends.listed pair ha hb s.entries l)

    old-empties : (n : ℕ) → n < length (K ++ c ∷ []) → At (K ++ c ∷ []) n [] → Reached e n
    old-empties n h a = go (At-push K c n [] a)
      where
        go : At K n [] ⊎ ((n ≡ length K) × ([] ≡ c)) → Reached e n
        go (inl b) = s.base.empties n b.0 b
        go (inr (_, f)) = absurd (nonempty (sym f))

    old-empty : (n : ℕ) → e ≡ Some n → (n < length (K ++ c ∷ [])) × At (K ++ c ∷ []) n []
    old-empty n h = let r = s.base.empty n h in (longer n r.0, At-longer K c [] n r.1)

    -- a clause of two literals or more
    pub begun-pair : same w.first w.second ≡ false → u.units ≡ k.units → IsWatching V (length (K ++ c ∷ [])) (K ++ c ∷ []) [] 0 0 u single e
    begun-pair ne units = record {
      lists = long ∙ s.lists;
      served = added 0 K [] 0 c w (tending k) (tending u) pair (within w.first ha) (within w.second hb) (λ m h. absurd (omega (arith, h))) pairs placed least
          (λ m h. rw units h) (λ m h. inr (rw (← units) h)) (held (apart ne refl refl)) s.served;
      entries = its-entries;
      within = omega arith;
      base = record {
        all_singles = λ n d y h a m all. go n d y m all (At-push K c n d a);
        singles = λ n h. let r = s.base.singles n h in (longer n r.0, λ d a. old n d r.0 (At-push K c n d a) r.1);
        empty = old-empty;
        empties = old-empties;
        learnt = λ n h a. absurd (omega (arith, h, a.0));
      };
    }
      where
        old : (n : ℕ) (d : Clause) → n < length K → At K n d ⊎ ((n ≡ length K) × (d ≡ c)) → ((x : Clause) → At K n x → WasUnit [] x) → WasUnit [] d
        old n d h (inl b) more = more d b
        old n d h (inr (f, _)) more = absurd (omega (arith, f, h))

        go : (n : ℕ) (d : Clause) (y : Literal) → has d y ≡ true → list_all (same y) d ≡ true → At K n d ⊎ ((n ≡ length K) × (d ≡ c)) → Contains single n
        go n d y m all (inl b) = s.base.all_singles n d y b.0 b m all
        go n d y m all (inr (_, f)) =
            let a : same y w.first ≡ true = all-member (same y) d w.first all (subst (λ (x : Clause). has x w.first ≡ true) (sym f) pair.first_in) in
            let b : same y w.second ≡ true = all-member (same y) d w.second all (subst (λ (x : Clause). has x w.second ≡ true) (sym f) pair.second_in) in
            absurd (true_false (same w.first w.second) (rw (← same-eq y w.first a, ← same-eq y w.second b) (same-refl y)) ne)

    -- a clause of one literal
    pub begun-single : same w.first w.second ≡ true → IsPermutation (length K ∷ k.units) u.units → IsWatching V (length (K ++ c ∷ [])) (K ++ c ∷ []) [] 0 0 u (single ++ length K ∷ []) e
    begun-single one units = record {
      lists = long ∙ s.lists;
      served = added 0 K [] 0 c w (tending k) (tending u) pair (within w.first ha) (within w.second hb) (λ m h. absurd (omega (arith, h))) pairs placed least more was (waits here (inl refl)) s.served;
      entries = its-entries;
      within = omega arith;
      base = record {
        all_singles = λ n d y h a m all. go n d y m all (At-push K c n d a);
        singles = λ n h. member n (Contains-push_cases single (length K) n h);
        empty = old-empty;
        empties = old-empties;
        learnt = λ n h a. absurd (omega (arith, h, a.0));
      };
    }
      where
        here : Contains u.units (length K)
        here = Contains-permutation (length K ∷ k.units) u.units (length K) units (0, (let z : 0 < length (length K ∷ k.units) = omega arith in z), refl)

        more : (m : ℕ) → Contains k.units m → Contains u.units m
        more m h = Contains-permutation (length K ∷ k.units) u.units m units (suc h.0, (let z : suc h.0 < length (length K ∷ k.units) = omega (arith, h.1) in z), h.2)

        was : (m : ℕ) → Contains u.units m → ((m ≡ length K) × WasUnit [] c) ⊎ Contains k.units m
        was m h = split (Contains-permutation u.units (length K ∷ k.units) m (IsPermutation-sym (length K ∷ k.units) u.units units) h)
          where
            split : Contains (length K ∷ k.units) m → ((m ≡ length K) × WasUnit [] c) ⊎ Contains k.units m
            split (zero, l, f) = inl (sym f, single-unit c w pair one)
            split (suc p, l, f) = inr (p, (let z : p < length k.units = omega (arith, l) in z), f)

        go : (n : ℕ) (d : Clause) (y : Literal) → has d y ≡ true → list_all (same y) d ≡ true → At K n d ⊎ ((n ≡ length K) × (d ≡ c)) → Contains (single ++ length K ∷ []) n
        go n d y m all (inl b) = Contains-append_left single (length K ∷ []) n (s.base.all_singles n d y b.0 b m all)
        go n d y m all (inr (f, _)) = subst (λ i. Contains (single ++ length K ∷ []) i) (sym f) (Contains-push single (length K))

        member : (n : ℕ) → Contains single n ⊎ (length K ≡ n) → (n < length (K ++ c ∷ [])) × ((d : Clause) → At (K ++ c ∷ []) n d → WasUnit [] d)
        member n (inl h) = let r = s.base.singles n h in (longer n r.0, λ d a. old d (At-push K c n d a) r.1 r.0)
          where
            old : (d : Clause) → At K n d ⊎ ((n ≡ length K) × (d ≡ c)) → ((x : Clause) → At K n x → WasUnit [] x) → n < length K → WasUnit [] d
            old d (inl b) next h = next d b
            old d (inr (f, _)) next h = absurd (omega (arith, f, h))
        member n (inr h) = (subst (λ i. i < length (K ++ c ∷ [])) h last, λ d a. new d (At-push K c n d a))
          where
            new : (d : Clause) → At K n d ⊎ ((n ≡ length K) × (d ≡ c)) → WasUnit [] d
            new d (inl b) = absurd (omega (arith, b.0, h))
            new d (inr (_, f)) = subst (λ (x : Clause). WasUnit [] x) (sym f) (single-unit c w pair one)

  -- an empty clause, which no list names
  pub begun-empty : c ≡ [] → u.pairs ≡ k.pairs ++ w ∷ [] → u.lists ≡ k.lists → u.units ≡ k.units → k.least ≡ e → u.least ≡ Some (lesser e (length K)) → IsWatching V (length (K ++ c ∷ [])) (K ++ c ∷ []) [] 0 0 u single (Some (lesser e (length K)))
  begun-empty nil pairs lists units old_least least = record {
    lists = rw lists s.lists;
    served = record {
      tends = record {
        listed = record {
          length_pairs = ap length pairs ∙ (let z : length (k.pairs ++ w ∷ []) ≡ length (K ++ c ∷ []) = omega (arith, length_push k.pairs w, length_push K c, s.served.tends.listed.length_pairs) in z);
          pairs = λ n d v a b ne. s.served.tends.listed.pairs n d v (old-at n d a ne) (old-pair n v b (old-at n d a ne).0) ne;
          listed = λ n d v a b ne one. rw lists (s.served.tends.listed.listed n d v (old-at n d a ne) (old-pair n v b (old-at n d a ne).0) ne one);
          within = λ i ns n a b. let r = s.served.tends.listed.within i ns n (rw (← lists) a) b in (longer n r.0, λ x. r.1 (front n [] r.0 x));
        };
        exact = rw (pairs, lists) (record {
          exact = λ l n v h a. s.served.tends.exact.exact l n v h (front-pair n v a (listed-below l n h));
          once = s.served.tends.exact.once;
        });
        found = record {
          units = λ n h. let r = s.served.tends.found.units n (rw (← units) h) in (longer n r.0, λ d a. r.1 d (front n d r.0 a));
          least = λ n h. least-is n (sym least ∙ h);
          empties = λ n a. rw least (reached-by n (At-push K c n [] a));
        };
        earlier = λ m h n d v a b. absurd (omega (arith, h));
      };
      good = λ n v a. good n v (At-push k.pairs w n v (rw (← pairs) a));
    };
    entries = λ l p x a. old-entry l p x (rw (← lists) a);
    within = omega arith;
    base = record {
      all_singles = λ n d y h a m all. let b = old-at n d a (λ z. no-literal y (subst (λ (q : Clause). has q y ≡ true) z m)) in s.base.all_singles n d y b.0 b m all;
      singles = λ n h. let r = s.base.singles n h in (longer n r.0, λ d a. r.1 d (front n d r.0 a));
      empty = λ n h. empty-is n h;
      empties = λ n h a. reached-by n (At-push K c n [] a);
      learnt = λ n h a. absurd (omega (arith, h, a.0));
    };
  }
    where
      front : (n : ℕ) (d : Clause) → n < length K → At (K ++ c ∷ []) n d → At K n d
      front n d h a = go (At-push K c n d a)
        where
          go : At K n d ⊎ ((n ≡ length K) × (d ≡ c)) → At K n d
          go (inl b) = b
          go (inr (f, _)) = absurd (omega (arith, f, h))

      old-at : (n : ℕ) (d : Clause) → At (K ++ c ∷ []) n d → (d ≡ [] → ⊥) → At K n d
      old-at n d a ne = go (At-push K c n d a)
        where
          go : At K n d ⊎ ((n ≡ length K) × (d ≡ c)) → At K n d
          go (inl b) = b
          go (inr (_, f)) = absurd (ne (f ∙ nil))

      front-pair : (n : ℕ) (v : Watched) → At (k.pairs ++ w ∷ []) n v → n < length K → At k.pairs n v
      front-pair n v a h = go (At-push k.pairs w n v a)
        where
          go : At k.pairs n v ⊎ ((n ≡ length k.pairs) × (v ≡ w)) → At k.pairs n v
          go (inl b) = b
          go (inr (f, _)) = absurd (omega (arith, f, h, s.served.tends.listed.length_pairs))

      old-pair : (n : ℕ) (v : Watched) → At u.pairs n v → n < length K → At k.pairs n v
      old-pair n v a h = front-pair n v (subst (λ ws. At ws n v) pairs a) h

      listed-below : (l : Literal) (n : ℕ) → Contains (list_at (map places k.lists) l) n → n < length K
      listed-below l n h = by (cases_lt (code l) (length (map places k.lists)))
        where
          by : (code l < length (map places k.lists)) ⊎ (length (map places k.lists) ≤ code l) → n < length K
          by (inl i) = (s.served.tends.listed.within (code l) (list_at (map places k.lists) l) n (At-get (map places k.lists) (code l) [] i) h).0
          by (inr i) = let z : list_at (map places k.lists) l ≡ [] = get_or_past (map places k.lists) (code l) [] i in let b : Contains [] n = subst (λ (xs : List ℕ). Contains xs n) z h in absurd (omega (arith, b.1))

      old-entry : (l : Literal) → (p : ℕ) (x : Watch) → At (entries_at k.lists l) p x → IsEntry (K ++ c ∷ []) u.pairs l x
      old-entry l p x a =
          let r = s.entries l p x a in
          let i : x.clause < length K = listed-below l x.clause (p, (subst (λ (ns : List ℕ). At ns p x.clause) (sym (list_at-places k.lists l)) (At-places (entries_at k.lists l) p x a)).0, (subst (λ (ns : List ℕ). At ns p x.clause) (sym (list_at-places k.lists l)) (At-places (entries_at k.lists l) p x a)).1) in
          record {
            blocker_in = λ d b. r.blocker_in d (front x.clause d i b);
            short = λ h d v b q. r.short h d v (front x.clause d i b) (old-pair x.clause v q i);
            long = λ h d b. r.long h d (front x.clause d i b);
          }

      reached-by : (n : ℕ) → At K n [] ⊎ ((n ≡ length K) × ([] ≡ c)) → Reached (Some (lesser e (length K))) n
      reached-by n (inl b) = lesser-reached e (length K) n (s.base.empties n b.0 b)
      reached-by n (inr (f, _)) = rw f (lesser-self e (length K))

      which : (n : ℕ) → Some (lesser e (length K)) ≡ Some n → (n ≡ length K) ⊎ (e ≡ Some n)
      which n h = go (lesser-cases e (length K)) (some_one (lesser e (length K)) n h)
        where
          some_one : (a b : ℕ) → Some a ≡ Some b → a ≡ b
          some_one a b i = cc

          go : (lesser e (length K) ≡ length K) ⊎ (e ≡ Some (lesser e (length K))) → lesser e (length K) ≡ n → (n ≡ length K) ⊎ (e ≡ Some n)
          go (inl a) b = inl (sym b ∙ a)
          go (inr a) b = inr (a ∙ ap (λ x. Some x) b)

      empty-is : (n : ℕ) → Some (lesser e (length K)) ≡ Some n → (n < length (K ++ c ∷ [])) × At (K ++ c ∷ []) n []
      empty-is n h = go (which n h)
        where
          new : At (K ++ c ∷ []) (length K) []
          new = subst (λ (d : Clause). At (K ++ c ∷ []) (length K) d) nil (last, get_or_push K c c (length K) refl)

          go : (n ≡ length K) ⊎ (e ≡ Some n) → (n < length (K ++ c ∷ [])) × At (K ++ c ∷ []) n []
          go (inl f) = rw f (last, new)
          go (inr f) = let r = s.base.empty n f in (longer n r.0, At-longer K c [] n r.1)

      least-is : (n : ℕ) → Some (lesser e (length K)) ≡ Some n → (n < length (K ++ c ∷ [])) × ((d : Clause) → At (K ++ c ∷ []) n d → is_false [] d ≡ true)
      least-is n h = let r = empty-is n h in (r.0, λ d a. rw (At-one (K ++ c ∷ []) n d [] a r.1) refl)

      good : (n : ℕ) (v : Watched) → At k.pairs n v ⊎ ((n ≡ length k.pairs) × (v ≡ w)) → Good (K ++ c ∷ []) [] [] u.units u.least v n
      good n v (inl b) = rw (units, least) (weaker (Good-longer K c [] [] k.units k.least v n (s.served.good n v b)))
        where
          weaker : Good (K ++ c ∷ []) [] [] k.units k.least v n → Good (K ++ c ∷ []) [] [] k.units (Some (lesser e (length K))) v n
          weaker (held x) = held x
          weaker (waits x y) = waits x y
          weaker (reached x) = reached (lesser-reached e (length K) n (subst (λ o. Reached o n) old_least x))
          weaker (spared m x y) = spared m (lesser-reached e (length K) m (subst (λ o. Reached o m) old_least x)) y
      good n v (inr (f, _)) = rw (units, least) (reached (rw (f ∙ s.served.tends.listed.length_pairs) (lesser-self e (length K))))
