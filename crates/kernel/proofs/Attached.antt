-- A clause that came to the end and is watched.
use Rattle.std.proofs.Common.{◌≡◌, ◌≢◌, ℕ, ◌<◌, ◌≤◌, Bool, true, false, nat_le, leb-true, List, [], ◌∷◌, ◌++◌, length, set, map, refl, ap, sym, subst, ◌∙◌, ◌⊎◌, inl, inr, arith, cond}
use Rattle.std.proofs.lemmas.List.{map-set, map-append, length-set, get_or-set_same, get_or-set_other, get_or_past}
use Rattle.std.proofs.Math.ListN.{get_or-map}
use Rattle.std.proofs.lemmas.Bool.{cases_eq, cases_lt, leb-false}
use Rattle.theory.specs.Literals.{Literal, Clause, same, has}
use Rattle.kernel.specs.declared.watches.watch.Watched.{Watched}
use Rattle.kernel.specs.declared.watches.watch.Watch.{Watch}
use Rattle.cnf.specs.Lits.{code}
use Rattle.kernel.specs.Watching.{At, IsPair, IsBeside, IsListed, list_at, listed_at, listed_both}
use Rattle.kernel.specs.Visiting.{WatchLists, places, entries_at, tending, IsEntry, AreEntries, AreEntriesOf}
use Rattle.kernel.specs.Attaching.{with_entry, attached}
use Rattle.trail.proofs.Tables.{code-one}
use Rattle.kernel.proofs.Places.{At-get, At-push}
use Rattle.kernel.proofs.Turns.{At-places}

pub list_at-places : (lists : List (List Watch)) (l : Literal) → list_at (map places lists) l ≡ places (entries_at lists l)
list_at-places lists l = get_or-map places lists (code l) []

with_entry-places : (lists : List (List Watch)) (l : Literal) (e : Watch) → map places (with_entry lists l e) ≡ listed_at (map places lists) l e.clause
with_entry-places lists l e =
    map-set places lists (code l) (entries_at lists l ++ e ∷ [])
    ∙ ap (λ ns. set (map places lists) (code l) ns) (map-append (λ (x : Watch). x.clause) (entries_at lists l) (e ∷ []) ∙ ap (λ ns. ns ++ e.clause ∷ []) (sym (list_at-places lists l)))

pub attached-places : (lists : List (List Watch)) (w : Watched) (n : ℕ) (short : Bool) → map places (attached lists w n short) ≡ listed_both (map places lists) w n
attached-places lists w n short = go (same w.first w.second)
  where
    one : List (List Watch)
    one = with_entry lists w.first record { clause = n; blocker = w.second; is_short = short }

    go : (b : Bool) → map places (cond b (with_entry lists w.first record { clause = n; blocker = w.second; is_short = short }) (with_entry (with_entry lists w.first record { clause = n; blocker = w.second; is_short = short }) w.second record { clause = n; blocker = w.first; is_short = short }))
        ≡ cond b (listed_at (map places lists) w.first n) (listed_at (listed_at (map places lists) w.first n) w.second n)
    go true = with_entry-places lists w.first record { clause = n; blocker = w.second; is_short = short }
    go false =
        with_entry-places (with_entry lists w.first record { clause = n; blocker = w.second; is_short = short }) w.second record { clause = n; blocker = w.first; is_short = short }
        ∙ ap (λ (ls : List (List ℕ)). listed_at ls w.second n) (with_entry-places lists w.first record { clause = n; blocker = w.second; is_short = short })

-- an entry more that says what an entry says
with_entry-entries : (K : List Clause) (W : List Watched) (lists : List (List Watch)) (a : Literal) (e : Watch) → code a < length lists → IsEntry K W a e
    → ((l : Literal) → AreEntriesOf K W l (entries_at lists l)) → (l : Literal) → AreEntriesOf K W l (entries_at (with_entry lists a e) l)
with_entry-entries K W lists a e h new all l p x at = go (cases_eq (code l) (code a))
  where
    split : At (entries_at lists a) p x ⊎ ((p ≡ length (entries_at lists a)) × (x ≡ e)) → IsEntry K W a x
    split (inl b) = all a p x b
    split (inr (_, b)) = subst (λ (y : Watch). IsEntry K W a y) (sym b) new

    go : (code l ≡ code a) ⊎ (code l ≢ code a) → IsEntry K W l x
    go (inl i) =
        let lit : l ≡ a = code-one l a i in
        let here : At (entries_at lists a ++ e ∷ []) p x = subst (λ (ys : List Watch). At ys p x) (get_or-set_same lists (code a) (entries_at lists a ++ e ∷ []) [] h) (subst (λ (y : Literal). At (entries_at (with_entry lists a e) y) p x) lit at) in
        rw lit (split (At-push (entries_at lists a) e p x here))
    go (inr ne) = all l p x (subst (λ (ys : List Watch). At ys p x) (get_or-set_other lists (code a) (code l) (entries_at lists a ++ e ∷ []) [] ne) at)

module _ (K : List Clause) (k : WatchLists) (c : Clause) (w : Watched) (listed : IsListed K (tending k)) (pair : IsPair c w) (ha : code w.first < length k.lists) (hb : code w.second < length k.lists) (entries : AreEntries K k) where
  new-clause : (d : Clause) → At (K ++ c ∷ []) (length K) d → d ≡ c
  new-clause d a = go (At-push K c (length K) d a)
    where
      go : At K (length K) d ⊎ ((length K ≡ length K) × (d ≡ c)) → d ≡ c
      go (inl b) = absurd (omega (arith, b.0))
      go (inr (_, f)) = f

  new-pair : (v : Watched) → At (k.pairs ++ w ∷ []) (length K) v → v ≡ w
  new-pair v a = go (At-push k.pairs w (length K) v a)
    where
      go : At k.pairs (length K) v ⊎ ((length K ≡ length k.pairs) × (v ≡ w)) → v ≡ w
      go (inl b) = absurd (omega (arith, b.0, listed.length_pairs))
      go (inr (_, f)) = f

  new-entry : (l b : Literal) → IsBeside w l b → has c b ≡ true → IsEntry (K ++ c ∷ []) (k.pairs ++ w ∷ []) l (record { clause = length K; blocker = b; is_short = nat_le (length c) 2 })
  new-entry l b beside m = record {
    blocker_in = λ d a. subst (λ (x : Clause). has x b ≡ true) (sym (new-clause d a)) m;
    short = λ h d v a p. (subst (λ (x : Clause). length x ≤ 2) (sym (new-clause d a)) (leb-true (length c) 2 h), subst (λ (x : Watched). IsBeside x l b) (sym (new-pair v p)) beside);
    long = λ h d a. subst (λ (x : Clause). 2 < length x) (sym (new-clause d a)) (leb-false (length c) 2 h);
  }

  old-entry : (l : Literal) → AreEntriesOf (K ++ c ∷ []) (k.pairs ++ w ∷ []) l (entries_at k.lists l)
  old-entry l p x a = record {
    blocker_in = λ d b. r.blocker_in d (old-clause d b);
    short = λ h d v b q. r.short h d v (old-clause d b) (old-pair v q);
    long = λ h d b. r.long h d (old-clause d b);
  }
    where
      r : IsEntry K k.pairs l x
      r = entries l p x a

      at : At (list_at (map places k.lists) l) p x.clause
      at = subst (λ (ns : List ℕ). At ns p x.clause) (sym (list_at-places k.lists l)) (At-places (entries_at k.lists l) p x a)

      some : (ns : List ℕ) → ns ≡ list_at (map places k.lists) l → (code l < length (map places k.lists)) ⊎ (length (map places k.lists) ≤ code l) → x.clause < length K
      some ns e (inl h) = (listed.within (code l) (list_at (map places k.lists) l) x.clause (At-get (map places k.lists) (code l) [] h) (p, at.0, at.1)).0
      some ns e (inr h) = let z : list_at (map places k.lists) l ≡ [] = get_or_past (map places k.lists) (code l) [] h in absurd (let b : p < length {A = ℕ} [] = subst (λ (xs : List ℕ). p < length xs) z at.0 in omega (arith, b))

      within : x.clause < length K
      within = some (list_at (map places k.lists) l) refl (cases_lt (code l) (length (map places k.lists)))

      old-clause : (d : Clause) → At (K ++ c ∷ []) x.clause d → At K x.clause d
      old-clause d b = go (At-push K c x.clause d b)
        where
          go : At K x.clause d ⊎ ((x.clause ≡ length K) × (d ≡ c)) → At K x.clause d
          go (inl y) = y
          go (inr (y, _)) = absurd (omega (arith, y, within))

      old-pair : (v : Watched) → At (k.pairs ++ w ∷ []) x.clause v → At k.pairs x.clause v
      old-pair v b = go (At-push k.pairs w x.clause v b)
        where
          go : At k.pairs x.clause v ⊎ ((x.clause ≡ length k.pairs) × (v ≡ w)) → At k.pairs x.clause v
          go (inl y) = y
          go (inr (y, _)) = absurd (omega (arith, y, within, listed.length_pairs))

  pub attached-entries : (l : Literal) → AreEntriesOf (K ++ c ∷ []) (k.pairs ++ w ∷ []) l (entries_at (attached k.lists w (length K) (nat_le (length c) 2)) l)
  attached-entries = go (same w.first w.second)
    where
      one : (l : Literal) → AreEntriesOf (K ++ c ∷ []) (k.pairs ++ w ∷ []) l (entries_at (with_entry k.lists w.first record { clause = length K; blocker = w.second; is_short = nat_le (length c) 2 }) l)
      one = with_entry-entries (K ++ c ∷ []) (k.pairs ++ w ∷ []) k.lists w.first record { clause = length K; blocker = w.second; is_short = nat_le (length c) 2 } ha (new-entry w.first w.second (inl (refl, refl)) pair.second_in) old-entry

      go : (b : Bool) → (l : Literal) → AreEntriesOf (K ++ c ∷ []) (k.pairs ++ w ∷ []) l (entries_at (cond b (with_entry k.lists w.first record { clause = length K; blocker = w.second; is_short = nat_le (length c) 2 })
          (with_entry (with_entry k.lists w.first record { clause = length K; blocker = w.second; is_short = nat_le (length c) 2 }) w.second record { clause = length K; blocker = w.first; is_short = nat_le (length c) 2 })) l)
      go true = one
      go false =
          with_entry-entries (K ++ c ∷ []) (k.pairs ++ w ∷ []) (with_entry k.lists w.first record { clause = length K; blocker = w.second; is_short = nat_le (length c) 2 }) w.second record { clause = length K; blocker = w.first; is_short = nat_le (length c) 2 }
          (subst (λ n. code w.second < n) (sym (length-set k.lists (code w.first) (entries_at k.lists w.first ++ record { clause = length K; blocker = w.second; is_short = nat_le (length c) 2 } ∷ []))) hb)
          (new-entry w.second w.first (inr (refl, refl)) pair.first_in) one
