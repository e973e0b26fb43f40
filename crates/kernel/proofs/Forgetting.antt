-- What is true of the watches once learnt clauses were forgotten.
use Rattle.std.proofs.Common.{◌≡◌, ℕ, ◌<◌, ◌≤◌, Bool, true, false, not, List, [], length, get_or, map, take, Option, Some, None, refl, ap, sym, subst, ◌∙◌, ◌⊎◌, inl, inr, arith, cond}
use Rattle.std.proofs.lemmas.List.{length-map, get_or_default}
use Rattle.std.proofs.lemmas.List.Sorted.{Contains-permutation, IsPermutation-sym}
use Rattle.std.proofs.Math.ListN.{get_or-map}
use Rattle.std.specs.List.{Contains}
use Rattle.std.specs.List.Sorted.{IsPermutation}
use Rattle.theory.specs.Literals.{Literal, Clause, has_both_signs}
use Rattle.theory.specs.Status.{is_false}
use Rattle.theory.specs.Trails.{Trail, literals, up_to}
use Rattle.theory.specs.Propagation.{least_false}
use Rattle.theory.specs.Forgetting.{forgotten, forget}
use Rattle.theory.proofs.searching.ForgettingNumbers.{length-forget}
use Rattle.theory.proofs.literals.LiteralLemmas.{true_or_false}
use Rattle.kernel.specs.declared.watches.watch.Watched.{Watched}
use Rattle.kernel.specs.declared.watches.watch.Watch.{Watch}
use Rattle.cnf.specs.Lits.{code}
use Rattle.kernel.specs.Watching.{At, IsPair, IsWatched, both_signs, Good, held, waits, reached, spared, IsFull, list_at}
use Rattle.kernel.specs.Visiting.{WatchLists, IsEntry, places, entries_at, tending}
use Rattle.kernel.specs.Attaching.{IsWatching}
use Rattle.kernel.specs.Forgetting.{is_numbered, Tells, places_left, entries_left, watched_forgotten, ArePairsLeft}
use Rattle.kernel.proofs.Places.{At-get}
use Rattle.kernel.proofs.LiteralFacts.{true_false}
use Rattle.kernel.proofs.Backtracking.{least_false-each}
use Rattle.kernel.proofs.Attached.{list_at-places}
use Rattle.kernel.proofs.Filtering.{At-filter, Contains-filter, Contains-of_filter, once-filter, filter-map}
use Rattle.kernel.proofs.ForgottenAt.{At-forgotten, At-unforgotten, At-stays, IsWatched-stays}

module _ (V first at floor : ℕ) (K : List Clause) (T : Trail) (k u : WatchLists) (single ns : List ℕ) (empty : Option ℕ) (gone : ℕ → Bool) (s : IsWatching V first K T at floor k single empty) (tells : Tells gone ns)
    (learnt : (n : ℕ) → is_numbered ns n ≡ true → first ≤ n) (none_false : least_false (literals T) K ≡ None) (pairs : ArePairsLeft ns k.pairs u.pairs) (lists : u.lists ≡ map (entries_left gone) k.lists)
    (units : IsPermutation (places_left gone k.units) u.units) (least : u.least ≡ k.least) where
  abbrev L : List Clause
  L = forget ns 1 K

  -- the places that stay aren't numbered, and the other way round
  not-numbered : (n : ℕ) → not (gone n) ≡ true → is_numbered ns n ≡ false
  not-numbered n h = sym (tells n) ∙ turned (gone n) h
    where
      turned : (b : Bool) → not b ≡ true → b ≡ false
      turned true e = absurd (cc)
      turned false e = refl

  stays : (n : ℕ) → is_numbered ns n ≡ false → not (gone n) ≡ true
  stays n e = ap not (tells n ∙ e)

  first-stays : (n : ℕ) → n < first → is_numbered ns n ≡ false
  first-stays n h = go (true_or_false (is_numbered ns n))
    where
      go : (is_numbered ns n ≡ true) ⊎ (is_numbered ns n ≡ false) → is_numbered ns n ≡ false
      go (inl e) = absurd (let low : first ≤ n = learnt n e in omega (arith, low, h))
      go (inr e) = e

  -- an empty clause isn't a forgotten one
  empty-stays : (n : ℕ) → At L n [] → At K n []
  empty-stays n a = go (true_or_false (is_numbered ns n))
    where
      go : (is_numbered ns n ≡ true) ⊎ (is_numbered ns n ≡ false) → At K n []
      go (inl e) = absurd (let f : [] ≡ forgotten = At-forgotten ns K n [] e a in cc)
      go (inr e) = At-unforgotten ns K n [] e a

  pair-forgotten : (n : ℕ) (w : Watched) → is_numbered ns n ≡ true → At u.pairs n w → w ≡ watched_forgotten
  pair-forgotten n w e a = subst (λ b. cond b (w ≡ watched_forgotten) (At k.pairs n w)) e (pairs.pair n w a)

  pair-stays : (n : ℕ) (w : Watched) → is_numbered ns n ≡ false → At u.pairs n w → At k.pairs n w
  pair-stays n w e a = subst (λ b. cond b (w ≡ watched_forgotten) (At k.pairs n w)) e (pairs.pair n w a)

  -- the lists
  entries-are : (l : Literal) → entries_at u.lists l ≡ entries_left gone (entries_at k.lists l)
  entries-are l = ap (λ (ls : List (List Watch)). get_or ls (code l) []) lists ∙ get_or-map (entries_left gone) k.lists (code l) []

  places-are : (ws : List Watch) → places (entries_left gone ws) ≡ places_left gone (places ws)
  places-are ws = sym (filter-map (λ (e : Watch). e.clause) (λ n. not (gone n)) ws)

  list-is : (l : Literal) → list_at (tending u).lists l ≡ places_left gone (list_at (tending k).lists l)
  list-is l = list_at-places u.lists l ∙ (ap places (entries-are l) ∙ (places-are (entries_at k.lists l) ∙ ap (places_left gone) (sym (list_at-places k.lists l))))

  any-list : (i : ℕ) → get_or (tending u).lists i [] ≡ places_left gone (get_or (tending k).lists i [])
  any-list i =
      get_or-map places u.lists i []
      ∙ (ap places (ap (λ (ls : List (List Watch)). get_or ls i []) lists ∙ get_or-map (entries_left gone) k.lists i [])
      ∙ (places-are (get_or k.lists i []) ∙ ap (places_left gone) (sym (get_or-map places k.lists i []))))

  listed : (l : Literal) (n : ℕ) → Contains (list_at (tending u).lists l) n → (is_numbered ns n ≡ false) × Contains (list_at (tending k).lists l) n
  listed l n h = let r = Contains-of_filter (λ m. not (gone m)) (list_at (tending k).lists l) n (subst (λ (xs : List ℕ). Contains xs n) (list-is l) h) in (not-numbered n r.0, r.1)

  still : (l : Literal) (n : ℕ) → is_numbered ns n ≡ false → Contains (list_at (tending k).lists l) n → Contains (list_at (tending u).lists l) n
  still l n e h = subst (λ (xs : List ℕ). Contains xs n) (sym (list-is l)) (Contains-filter (λ m. not (gone m)) (list_at (tending k).lists l) n (stays n e) h)

  waited : (n : ℕ) → Contains u.units n → (is_numbered ns n ≡ false) × Contains k.units n
  waited n h = let r = Contains-of_filter (λ m. not (gone m)) k.units n (Contains-permutation u.units (places_left gone k.units) n (IsPermutation-sym (places_left gone k.units) u.units units) h) in (not-numbered n r.0, r.1)

  still-waits : (n : ℕ) → is_numbered ns n ≡ false → Contains k.units n → Contains u.units n
  still-waits n e h = Contains-permutation (places_left gone k.units) u.units n units (Contains-filter (λ m. not (gone m)) k.units n (stays n e) h)

  size : (n : ℕ) → n < length K → n < length L
  size n h = subst (λ m. n < m) (sym (length-forget ns 1 K)) h

  pair : (n : ℕ) (c : Clause) (w : Watched) → At L n c → At u.pairs n w → (c ≡ [] → ⊥) → (is_numbered ns n ≡ true) ⊎ (is_numbered ns n ≡ false) → IsPair c w
  pair n c w a b ne (inl e) = rw (At-forgotten ns K n c e a, pair-forgotten n w e b) (record { first_in = refl; second_in = refl; single = λ h. absurd (cc) })
  pair n c w a b ne (inr e) = s.served.tends.listed.pairs n c w (At-unforgotten ns K n c e a) (pair-stays n w e b) ne

  stands : (n : ℕ) (c : Clause) (w : Watched) → At L n c → At u.pairs n w → (c ≡ [] → ⊥) → has_both_signs c ≡ false → (is_numbered ns n ≡ true) ⊎ (is_numbered ns n ≡ false)
      → Contains (list_at (tending u).lists w.first) n × Contains (list_at (tending u).lists w.second) n
  stands n c w a b ne one (inl e) = absurd (let f : has_both_signs forgotten ≡ false = subst (λ (x : Clause). has_both_signs x ≡ false) (At-forgotten ns K n c e a) one in true_false (has_both_signs forgotten) refl f)
  stands n c w a b ne one (inr e) =
      let h = s.served.tends.listed.listed n c w (At-unforgotten ns K n c e a) (pair-stays n w e b) ne one in
      (still w.first n e h.0, still w.second n e h.1)

  full : (i : ℕ) (xs : List ℕ) (n : ℕ) → At (tending u).lists i xs → Contains xs n → IsFull L n
  full i xs n a h =
      let is : xs ≡ places_left gone (get_or (tending k).lists i []) = sym a.1 ∙ (get_or_default (tending u).lists i xs [] a.0 ∙ any-list i) in
      let r = Contains-of_filter (λ m. not (gone m)) (get_or (tending k).lists i []) n (subst (λ (ys : List ℕ). Contains ys n) is h) in
      let inside : i < length (tending k).lists = subst (λ m. i < m) (length-map u.lists places ∙ (ap length lists ∙ (length-map k.lists (entries_left gone) ∙ sym (length-map k.lists places)))) a.0 in
      let f : IsFull K n = s.served.tends.listed.within i (get_or (tending k).lists i []) n (At-get (tending k).lists i [] inside) r.1 in
      (size n f.0, λ x. f.1 (empty-stays n x))

  -- no clause is false, so none was found false
  none-least : (n : ℕ) → u.least ≡ Some n → ⊥
  none-least n e =
      let r = s.served.tends.found.least n (sym least ∙ e) in
      let a : At K n (get_or K n []) = At-get K n [] r.0 in
      true_false (is_false (literals T) (get_or K n [])) (r.1 (get_or K n []) a) (least_false-each (literals T) K n (get_or K n []) none_false a)

  watched : (n : ℕ) (c : Clause) (w : Watched) (R Q : List Literal) → At L n c → (is_numbered ns n ≡ true) ⊎ (is_numbered ns n ≡ false) → (is_numbered ns n ≡ false → (c ≡ [] → ⊥) × IsWatched K n R Q w) → (c ≡ [] → ⊥) × IsWatched L n R Q w
  watched n c w R Q a (inl e) old =
      let is : c ≡ forgotten = At-forgotten ns K n c e a in
      ((λ z. let f : forgotten ≡ [] = sym is ∙ z in absurd (cc)), both_signs c a (rw is refl))
  watched n c w R Q a (inr e) old = let r = old e in (r.0, IsWatched-stays ns K n R Q w e r.1)

  good : (n : ℕ) (w : Watched) → At u.pairs n w → (is_numbered ns n ≡ true) ⊎ (is_numbered ns n ≡ false) → Good L (literals (take at T)) (literals T) u.units u.least w n
  good n w a (inl e) =
      let inside : n < length K = omega (arith, a.0, pairs.long, s.served.tends.listed.length_pairs) in
      let c : At L n (get_or L n []) = At-get L n [] (size n inside) in
      held (both_signs (get_or L n []) c (rw (At-forgotten ns K n (get_or L n []) e c) refl))
  good n w a (inr e) = go (s.served.good n w (pair-stays n w e a))
    where
      go : Good K (literals (take at T)) (literals T) k.units k.least w n → Good L (literals (take at T)) (literals T) u.units u.least w n
      go (held h) = held (IsWatched-stays ns K n (literals (take at T)) (literals T) w e h)
      go (waits m z) = waits (still-waits n e m) z
      go (reached r) = reached (rw least r)
      go (spared m r z) = spared m (rw least r) z

  pub forget-watching : IsWatching V first (forget ns 1 K) T at floor u single empty
  forget-watching = record {
    lists = ap length lists ∙ (length-map k.lists (entries_left gone) ∙ s.lists);
    served = record {
      tends = record {
        listed = record {
          length_pairs = pairs.long ∙ (s.served.tends.listed.length_pairs ∙ sym (length-forget ns 1 K));
          pairs = λ n c w a b ne. pair n c w a b ne (true_or_false (is_numbered ns n));
          listed = λ n c w a b ne one. stands n c w a b ne one (true_or_false (is_numbered ns n));
          within = full;
        };
        exact = record {
          exact = λ l n w h a. let r = listed l n h in s.served.tends.exact.exact l n w r.1 (pair-stays n w r.0 a);
          once = λ l n i j a b.
              once-filter (λ m. not (gone m)) (list_at (tending k).lists l) n (λ x y. s.served.tends.exact.once l n x y) i j
              (subst (λ (xs : List ℕ). At xs i n) (list-is l) a) (subst (λ (xs : List ℕ). At xs j n) (list-is l) b);
        };
        found = record {
          units = λ n h. let r = waited n h in let o = s.served.tends.found.units n r.1 in (size n o.0, λ c a. o.1 c (At-unforgotten ns K n c r.0 a));
          least = λ n e. absurd (none-least n e);
          empties = λ n a. rw least (s.served.tends.found.empties n (empty-stays n a));
        };
        earlier = λ m h n c w a b. watched n c w (literals (take floor (up_to T m))) (literals (up_to T m)) a (true_or_false (is_numbered ns n))
            (λ e. s.served.tends.earlier m h n c w (At-unforgotten ns K n c e a) (pair-stays n w e b));
      };
      good = λ n w a. good n w a (true_or_false (is_numbered ns n));
    };
    entries = λ l p x a. entry l p x (At-filter (λ (e : Watch). not (gone e.clause)) (entries_at k.lists l) p x (subst (λ (ws : List Watch). At ws p x) (entries-are l) a));
    within = s.within;
    base = record {
      all_singles = λ n c y h a m all. s.base.all_singles n c y h (At-unforgotten ns K n c (first-stays n h) a) m all;
      singles = λ n h. let r = s.base.singles n h in (r.0, λ c a. r.1 c (At-unforgotten ns K n c (first-stays n r.0) a));
      empty = λ n h. let r = s.base.empty n h in (r.0, At-stays ns K n [] (first-stays n r.0) r.1);
      empties = λ n h a. s.base.empties n h (empty-stays n a);
      learnt = λ n h a. s.base.learnt n h (empty-stays n a);
    };
  }
    where
      entry : (l : Literal) (p : ℕ) (x : Watch) → (not (gone x.clause) ≡ true) × ((q : ℕ) × At (entries_at k.lists l) q x) → IsEntry L u.pairs l x
      entry l p x (keeps, (q, o)) =
          let r = s.entries l q x o in
          let e = not-numbered x.clause keeps in
          record {
            blocker_in = λ c b. r.blocker_in c (At-unforgotten ns K x.clause c e b);
            short = λ h c w b z. r.short h c w (At-unforgotten ns K x.clause c e b) (pair-stays x.clause w e z);
            long = λ h c b. r.long h c (At-unforgotten ns K x.clause c e b);
          }
