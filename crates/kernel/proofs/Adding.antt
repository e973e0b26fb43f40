-- A clause more.
use Rattle.std.proofs.Common.{◌≡◌, ◌≢◌, ℕ, ◌<◌, ◌≤◌, Bool, true, false, List, [], ◌∷◌, ◌++◌, length, get_or, set, take, Option, refl, ap, sym, subst, ◌∙◌, ◌⊎◌, inl, inr, arith, cond}
use Rattle.std.proofs.lemmas.Bool.{cases_eq, cases_lt}
use Rattle.std.proofs.lemmas.List.{length_push, length-set, get_or-set_same, get_or-set_other, get_or_append_left, get_or_past}
use Rattle.std.proofs.lemmas.List.Elements.{Contains-append_left, Contains-push, Contains-push_cases}
use Rattle.std.specs.List.{Contains}
use Rattle.theory.specs.Literals.{Literal, Clause, same, has, has_both_signs}
use Rattle.theory.specs.Trails.{Trail, literals, current_level, up_to}
use Rattle.cnf.specs.Lits.{code}
use Rattle.kernel.specs.Watching.{At, IsPair, IsWatched, apart, first_true, second_true, other_true, both_signs, Reached, Good, held, waits, reached, spared, Tending, list_at, IsFull, IsListed, Tends, AllGood, WasUnit, listed_at, listed_both, IsExact, IsServed}
use Rattle.kernel.specs.declared.watches.watch.Watched.{Watched}
use Rattle.theory.proofs.literals.LiteralLemmas.{same-eq, same-refl}
use Rattle.kernel.proofs.LiteralFacts.{true_false}
use Rattle.trail.proofs.Tables.{code-one}
use Rattle.kernel.proofs.Places.{At-get, At-push, At-set}
use Rattle.kernel.proofs.Serving.{Good-more}

-- a clause that isn't empty came to the end, watched by w, and maybe waits
pub record Adds (floor : ℕ) (K : List Clause) (T : Trail) (c : Clause) (w : Watched) (t u : Tending) : Type 0 where
  pub nonempty : c ≡ [] → ⊥
  pub pair : IsPair c w
  pub pairs : u.pairs ≡ t.pairs ++ w ∷ []
  pub least : u.least ≡ t.least
  pub kept : (l : Literal) (m : ℕ) → Contains (list_at t.lists l) m → Contains (list_at u.lists l) m
  pub first_listed : Contains (list_at u.lists w.first) (length K)
  pub second_listed : Contains (list_at u.lists w.second) (length K)
  pub only : (k : ℕ) (ns : List ℕ) (m : ℕ) → At u.lists k ns → Contains ns m → (m ≡ length K) ⊎ ((xs : List ℕ) × At t.lists k xs × Contains xs m)
  pub waiting : (m : ℕ) → Contains t.units m → Contains u.units m
  pub units : (m : ℕ) → Contains u.units m → ((m ≡ length K) × WasUnit (literals T) c) ⊎ Contains t.units m
  pub exact : IsExact (t.pairs ++ w ∷ []) u.lists
  pub earlier : (m : ℕ) → m < current_level T → IsWatched (K ++ c ∷ []) (length K) (literals (take floor (up_to T m))) (literals (up_to T m)) w

pub At-longer : (K : List Clause) (c d : Clause) (n : ℕ) → At K n d → At (K ++ c ∷ []) n d
At-longer K c d n a = ((let z : n < length (K ++ c ∷ []) = omega (arith, length_push K c, a.0) in z), get_or_append_left K (c ∷ []) d n a.0 ∙ a.1)

pub IsWatched-longer : (K : List Clause) (c : Clause) (n : ℕ) (S P : List Literal) (w : Watched) → IsWatched K n S P w → IsWatched (K ++ c ∷ []) n S P w
IsWatched-longer K c n S P w (apart d a b) = apart d a b
IsWatched-longer K c n S P w (first_true t) = first_true t
IsWatched-longer K c n S P w (second_true t) = second_true t
IsWatched-longer K c n S P w (other_true d y a m t) = other_true d y (At-longer K c d n a) m t
IsWatched-longer K c n S P w (both_signs d a b) = both_signs d (At-longer K c d n a) b

pub Good-longer : (K : List Clause) (c : Clause) (S P : List Literal) (H : List ℕ) (f : Option ℕ) (w : Watched) (n : ℕ) → Good K S P H f w n → Good (K ++ c ∷ []) S P H f w n
Good-longer K c S P H f w n (held h) = held (IsWatched-longer K c n S P w h)
Good-longer K c S P H f w n (waits m z) = waits m z
Good-longer K c S P H f w n (reached r) = reached r
Good-longer K c S P H f w n (spared m r z) = spared m r z

old-at : (K : List Clause) (c d : Clause) (m : ℕ) → m < length K → At (K ++ c ∷ []) m d → At K m d
old-at K c d m h a = go (At-push K c m d a)
  where
    go : At K m d ⊎ ((m ≡ length K) × (d ≡ c)) → At K m d
    go (inl b) = b
    go (inr (e, f)) = absurd (omega (arith, e, h))

new-at : (K : List Clause) (c d : Clause) (m : ℕ) → m ≡ length K → At (K ++ c ∷ []) m d → d ≡ c
new-at K c d m e a = go (At-push K c m d a)
  where
    go : At K m d ⊎ ((m ≡ length K) × (d ≡ c)) → d ≡ c
    go (inl b) = absurd (omega (arith, e, b.0))
    go (inr (x, f)) = f

pub Tends-add : (floor : ℕ) (K : List Clause) (T : Trail) (c : Clause) (w : Watched) (t u : Tending) → Adds floor K T c w t u → Tends floor K T t → Tends floor (K ++ c ∷ []) T u
Tends-add floor K T c w t u p s = record {
  listed = record {
    length_pairs = ap length p.pairs ∙ (let z : length (t.pairs ++ w ∷ []) ≡ length (K ++ c ∷ []) = omega (arith, length_push t.pairs w, length_push K c, s.listed.length_pairs) in z);
    pairs = λ m d v a b ne. pair m d v a ne (At-push t.pairs w m v (subst (λ ws. At ws m v) p.pairs b));
    listed = λ m d v a b ne one. stands m d v a ne one (At-push t.pairs w m v (subst (λ ws. At ws m v) p.pairs b));
    within = λ k ns m a b. full m (within k ns m (p.only k ns m a b));
  };
  exact = subst (λ ws. IsExact ws u.lists) (sym p.pairs) p.exact;
  found = record {
    units = λ m h. waits_at m (p.units m h);
    least = λ m e. let r = s.found.least m (sym p.least ∙ e) in (longer m r.0, λ d a. r.1 d (old-at K c d m r.0 a));
    empties = λ m a. subst (λ o. Reached o m) (sym p.least) (empty_at m (At-push K c m [] a));
  };
  earlier = λ k x m d v a b. before k x m d v a (At-push t.pairs w m v (subst (λ ws. At ws m v) p.pairs b));
}
  where
    longer : (m : ℕ) → m < length K → m < length (K ++ c ∷ [])
    longer m h = omega (arith, length_push K c, h)

    old : (m : ℕ) (v : Watched) → At t.pairs m v → m < length K
    old m v b = omega (arith, b.0, s.listed.length_pairs)

    new : (m : ℕ) → m ≡ length t.pairs → m ≡ length K
    new m e = e ∙ s.listed.length_pairs

    pair : (m : ℕ) (d : Clause) (v : Watched) → At (K ++ c ∷ []) m d → (d ≡ [] → ⊥) → At t.pairs m v ⊎ ((m ≡ length t.pairs) × (v ≡ w)) → IsPair d v
    pair m d v a ne (inl b) = s.listed.pairs m d v (old-at K c d m (old m v b) a) b ne
    pair m d v a ne (inr (e, f)) = rw (new-at K c d m (new m e) a, f) p.pair

    stands : (m : ℕ) (d : Clause) (v : Watched) → At (K ++ c ∷ []) m d → (d ≡ [] → ⊥) → has_both_signs d ≡ false → At t.pairs m v ⊎ ((m ≡ length t.pairs) × (v ≡ w)) → Contains (list_at u.lists v.first) m × Contains (list_at u.lists v.second) m
    stands m d v a ne one (inl b) = let r = s.listed.listed m d v (old-at K c d m (old m v b) a) b ne one in (p.kept v.first m r.0, p.kept v.second m r.1)
    stands m d v a ne one (inr (e, f)) = rw (f, new m e) (p.first_listed, p.second_listed)

    within : (k : ℕ) (ns : List ℕ) (m : ℕ) → (m ≡ length K) ⊎ ((xs : List ℕ) × At t.lists k xs × Contains xs m) → (m ≡ length K) ⊎ IsFull K m
    within k ns m (inl e) = inl e
    within k ns m (inr (xs, a, b)) = inr (s.listed.within k xs m a b)

    full : (m : ℕ) → (m ≡ length K) ⊎ IsFull K m → IsFull (K ++ c ∷ []) m
    full m (inl e) = ((let z : m < length (K ++ c ∷ []) = omega (arith, length_push K c, e) in z), λ a. p.nonempty (sym (new-at K c [] m e a)))
    full m (inr (l, no_empty)) = (longer m l, λ a. no_empty (old-at K c [] m l a))

    waits_at : (m : ℕ) → ((m ≡ length K) × WasUnit (literals T) c) ⊎ Contains t.units m → (m < length (K ++ c ∷ [])) × ((d : Clause) → At (K ++ c ∷ []) m d → WasUnit (literals T) d)
    waits_at m (inl (e, x)) = ((let z : m < length (K ++ c ∷ []) = omega (arith, length_push K c, e) in z), λ d a. subst (λ (y : Clause). WasUnit (literals T) y) (sym (new-at K c d m e a)) x)
    waits_at m (inr h) = let r = s.found.units m h in (longer m r.0, λ d a. r.1 d (old-at K c d m r.0 a))

    empty_at : (m : ℕ) → At K m [] ⊎ ((m ≡ length K) × ([] ≡ c)) → Reached t.least m
    empty_at m (inl a) = s.found.empties m a
    empty_at m (inr (e, f)) = absurd (p.nonempty (sym f))

    before : (k : ℕ) → k < current_level T → (m : ℕ) (d : Clause) (v : Watched) → At (K ++ c ∷ []) m d → At t.pairs m v ⊎ ((m ≡ length t.pairs) × (v ≡ w)) → (d ≡ [] → ⊥) × IsWatched (K ++ c ∷ []) m (literals (take floor (up_to T k))) (literals (up_to T k)) v
    before k x m d v a (inl b) =
        let r = s.earlier k x m d v (old-at K c d m (old m v b) a) b in
        (r.0, IsWatched-longer K c m (literals (take floor (up_to T k))) (literals (up_to T k)) v r.1)
    before k x m d v a (inr (e, f)) = ((λ z. p.nonempty (sym (new-at K c d m (new m e) a) ∙ z)), rw (f, new m e) (p.earlier k x))

pub AllGood-add : (floor : ℕ) (K : List Clause) (T : Trail) (S : List Literal) (c : Clause) (w : Watched) (t u : Tending) → Adds floor K T c w t u → length t.pairs ≡ length K → Good (K ++ c ∷ []) S (literals T) u.units u.least w (length K)
    → AllGood K S (literals T) t → AllGood (K ++ c ∷ []) S (literals T) u
AllGood-add floor K T S c w t u p size good all m v a = go (At-push t.pairs w m v (subst (λ ws. At ws m v) p.pairs a))
  where
    go : At t.pairs m v ⊎ ((m ≡ length t.pairs) × (v ≡ w)) → Good (K ++ c ∷ []) S (literals T) u.units u.least v m
    go (inl b) = Good-longer K c S (literals T) u.units u.least v m (Good-more K S (literals T) t.units u.units t.least u.least v m p.waiting (λ k r. subst (λ o. Reached o k) (sym p.least) r) (all m v b))
    go (inr (e, f)) = rw (f, e, size) good

pub listed_at-here : (lists : List (List ℕ)) (a : Literal) (n : ℕ) → code a < length lists → Contains (list_at (listed_at lists a n) a) n
listed_at-here lists a n h = subst (λ (xs : List ℕ). Contains xs n) (sym (get_or-set_same lists (code a) (list_at lists a ++ n ∷ []) [] h)) (Contains-push (list_at lists a) n)

pub listed_at-kept : (lists : List (List ℕ)) (a : Literal) (n : ℕ) (l : Literal) (m : ℕ) → code a < length lists → Contains (list_at lists l) m → Contains (list_at (listed_at lists a n) l) m
listed_at-kept lists a n l m h x = go (cases_eq (code l) (code a))
  where
    go : (code l ≡ code a) ⊎ (code l ≢ code a) → Contains (list_at (listed_at lists a n) l) m
    go (inl e) =
        let here : get_or (set lists (code a) (list_at lists a ++ n ∷ [])) (code l) [] ≡ list_at lists a ++ n ∷ [] = rw e (get_or-set_same lists (code a) (list_at lists a ++ n ∷ []) [] h) in
        subst (λ (xs : List ℕ). Contains xs m) (sym here) (Contains-append_left (list_at lists a) (n ∷ []) m (subst (λ k. Contains (get_or lists k []) m) e x))
    go (inr e) = subst (λ (xs : List ℕ). Contains xs m) (sym (get_or-set_other lists (code a) (code l) (list_at lists a ++ n ∷ []) [] e)) x

pub listed_at-only : (lists : List (List ℕ)) (a : Literal) (n k : ℕ) (ns : List ℕ) (m : ℕ) → code a < length lists → At (listed_at lists a n) k ns → Contains ns m → (m ≡ n) ⊎ ((xs : List ℕ) × At lists k xs × Contains xs m)
listed_at-only lists a n k ns m h b x = go (At-set lists (code a) (list_at lists a ++ n ∷ []) k ns b)
  where
    split : (k ≡ code a) → Contains (list_at lists a) m ⊎ (n ≡ m) → (m ≡ n) ⊎ ((xs : List ℕ) × At lists k xs × Contains xs m)
    split e (inl y) = inr (list_at lists a, subst (λ i. At lists i (list_at lists a)) (sym e) (At-get lists (code a) [] h), y)
    split e (inr y) = inl (sym y)

    go : ((k ≡ code a) × (ns ≡ list_at lists a ++ n ∷ [])) ⊎ ((k ≢ code a) × At lists k ns) → (m ≡ n) ⊎ ((xs : List ℕ) × At lists k xs × Contains xs m)
    go (inl (e, f)) = split e (Contains-push_cases (list_at lists a) n m (subst (λ (xs : List ℕ). Contains xs m) f x))
    go (inr (e, y)) = inr (ns, y, x)

-- a clause more in the list of a literal that it watches
listed_at-exact : (pairs : List Watched) (lists : List (List ℕ)) (a : Literal) (n : ℕ) → code a < length lists → ((w : Watched) → At pairs n w → (w.first ≡ a) ⊎ (w.second ≡ a)) → (Contains (list_at lists a) n → ⊥)
    → IsExact pairs lists → IsExact pairs (listed_at lists a n)
listed_at-exact pairs lists a n h watches new x = record {
  exact = λ l m w c b. exact l m w b (cases_eq (code l) (code a)) c;
  once = λ l m i j p q. once l m i j (cases_eq (code l) (code a)) p q;
}
  where
    here : (l : Literal) → code l ≡ code a → list_at (listed_at lists a n) l ≡ list_at lists a ++ n ∷ []
    here l e = rw e (get_or-set_same lists (code a) (list_at lists a ++ n ∷ []) [] h)

    there : (l : Literal) → code l ≢ code a → list_at (listed_at lists a n) l ≡ list_at lists l
    there l e = get_or-set_other lists (code a) (code l) (list_at lists a ++ n ∷ []) [] e

    exact : (l : Literal) (m : ℕ) (w : Watched) → At pairs m w → (code l ≡ code a) ⊎ (code l ≢ code a) → Contains (list_at (listed_at lists a n) l) m → (w.first ≡ l) ⊎ (w.second ≡ l)
    exact l m w b (inl e) c = rw (code-one l a e) (last (Contains-push_cases (list_at lists a) n m (subst (λ (xs : List ℕ). Contains xs m) (here l e) c)))
      where
        last : Contains (list_at lists a) m ⊎ (n ≡ m) → (w.first ≡ a) ⊎ (w.second ≡ a)
        last (inl y) = x.exact a m w y b
        last (inr y) = watches w (subst (λ k. At pairs k w) (sym y) b)
    exact l m w b (inr e) c = x.exact l m w (subst (λ (xs : List ℕ). Contains xs m) (there l e) c) b

    once : (l : Literal) (m i j : ℕ) → (code l ≡ code a) ⊎ (code l ≢ code a) → At (list_at (listed_at lists a n) l) i m → At (list_at (listed_at lists a n) l) j m → i ≡ j
    once l m i j (inl e) p q = both (At-push (list_at lists a) n i m (subst (λ (xs : List ℕ). At xs i m) (here l e) p)) (At-push (list_at lists a) n j m (subst (λ (xs : List ℕ). At xs j m) (here l e) q))
      where
        both : At (list_at lists a) i m ⊎ ((i ≡ length (list_at lists a)) × (m ≡ n)) → At (list_at lists a) j m ⊎ ((j ≡ length (list_at lists a)) × (m ≡ n)) → i ≡ j
        both (inl b) (inl d) = x.once a m i j b d
        both (inl b) (inr (d, f)) = absurd (new (i, b.0, subst (λ k. get_or (list_at lists a) i k ≡ k) f b.1))
        both (inr (d, f)) (inl b) = absurd (new (j, b.0, subst (λ k. get_or (list_at lists a) j k ≡ k) f b.1))
        both (inr (b, f)) (inr (d, g)) = b ∙ sym d
    once l m i j (inr e) p q = x.once l m i j (subst (λ (xs : List ℕ). At xs i m) (there l e) p) (subst (λ (xs : List ℕ). At xs j m) (there l e) q)

-- what is known of the lists once a clause came to the end, in those of the literals that it
-- watches
pub record IsListedMore (K : List Clause) (t : Tending) (w : Watched) (lists : List (List ℕ)) : Type 0 where
  pub kept : (l : Literal) (m : ℕ) → Contains (list_at t.lists l) m → Contains (list_at lists l) m
  pub first_listed : Contains (list_at lists w.first) (length K)
  pub second_listed : Contains (list_at lists w.second) (length K)
  pub only : (k : ℕ) (ns : List ℕ) (m : ℕ) → At lists k ns → Contains ns m → (m ≡ length K) ⊎ ((xs : List ℕ) × At t.lists k xs × Contains xs m)
  pub exact : IsExact (t.pairs ++ w ∷ []) lists

pub listed_both-more : (K : List Clause) (t : Tending) (w : Watched) → code w.first < length t.lists → code w.second < length t.lists → IsListed K t → IsExact t.pairs t.lists → IsListedMore K t w (listed_both t.lists w (length K))
listed_both-more K t w ha hb listed exact = go (same w.first w.second) refl
  where
    n : ℕ
    n = length K

    hb' : code w.second < length (listed_at t.lists w.first (length K))
    hb' = omega (arith, hb, length-set t.lists (code w.first) (list_at t.lists w.first ++ length K ∷ []))

    fresh : (l : Literal) → code l < length t.lists → Contains (list_at t.lists l) (length K) → ⊥
    fresh l h c = omega (arith, (listed.within (code l) (list_at t.lists l) (length K) (At-get t.lists (code l) [] h) c).0)

    inside : (l : Literal) (m : ℕ) → Contains (list_at t.lists l) m → code l < length t.lists
    inside l m c = by (cases_lt (code l) (length t.lists))
      where
        by : (code l < length t.lists) ⊎ (length t.lists ≤ code l) → code l < length t.lists
        by (inl h) = h
        by (inr h) = let e : list_at t.lists l ≡ [] = get_or_past t.lists (code l) [] h in let d : Contains [] m = subst (λ (xs : List ℕ). Contains xs m) e c in absurd (omega (arith, d.1))

    of_w : (v : Watched) → At (t.pairs ++ w ∷ []) (length K) v → v ≡ w
    of_w v a = by (At-push t.pairs w (length K) v a)
      where
        by : At t.pairs (length K) v ⊎ ((length K ≡ length t.pairs) × (v ≡ w)) → v ≡ w
        by (inl b) = absurd (omega (arith, b.0, listed.length_pairs))
        by (inr (e, f)) = f

    longer : IsExact (t.pairs ++ w ∷ []) t.lists
    longer = record {
      exact = λ l m v c a. by l m v c (At-push t.pairs w m v a);
      once = exact.once;
    }
      where
        by : (l : Literal) (m : ℕ) (v : Watched) → Contains (list_at t.lists l) m → At t.pairs m v ⊎ ((m ≡ length t.pairs) × (v ≡ w)) → (v.first ≡ l) ⊎ (v.second ≡ l)
        by l m v c (inl b) = exact.exact l m v c b
        by l m v c (inr (e, f)) = absurd (omega (arith, (listed.within (code l) (list_at t.lists l) m (At-get t.lists (code l) [] (inside l m c)) c).0, e, listed.length_pairs))

    first_exact : IsExact (t.pairs ++ w ∷ []) (listed_at t.lists w.first (length K))
    first_exact = listed_at-exact (t.pairs ++ w ∷ []) t.lists w.first (length K) ha (λ v a. inl (ap (λ (x : Watched). x.first) (of_w v a))) (fresh w.first ha) longer

    go : (b : Bool) → same w.first w.second ≡ b → IsListedMore K t w (cond b (listed_at t.lists w.first (length K)) (listed_at (listed_at t.lists w.first (length K)) w.second (length K)))
    go true e = record {
      kept = λ l m c. listed_at-kept t.lists w.first (length K) l m ha c;
      first_listed = listed_at-here t.lists w.first (length K) ha;
      second_listed = subst (λ (x : Literal). Contains (list_at (listed_at t.lists w.first (length K)) x) (length K)) (same-eq w.first w.second e) (listed_at-here t.lists w.first (length K) ha);
      only = λ k ns m a c. listed_at-only t.lists w.first (length K) k ns m ha a c;
      exact = first_exact;
    }
    go false e = record {
      kept = λ l m c. listed_at-kept (listed_at t.lists w.first (length K)) w.second (length K) l m hb' (listed_at-kept t.lists w.first (length K) l m ha c);
      first_listed = listed_at-kept (listed_at t.lists w.first (length K)) w.second (length K) w.first (length K) hb' (listed_at-here t.lists w.first (length K) ha);
      second_listed = listed_at-here (listed_at t.lists w.first (length K)) w.second (length K) hb';
      only = λ k ns m a c. either k ns m (listed_at-only (listed_at t.lists w.first (length K)) w.second (length K) k ns m hb' a c);
      exact = listed_at-exact (t.pairs ++ w ∷ []) (listed_at t.lists w.first (length K)) w.second (length K) hb' (λ v a. inr (ap (λ (x : Watched). x.second) (of_w v a))) still_fresh first_exact;
    }
      where
        either : (k : ℕ) (ns : List ℕ) (m : ℕ) → (m ≡ length K) ⊎ ((xs : List ℕ) × At (listed_at t.lists w.first (length K)) k xs × Contains xs m) → (m ≡ length K) ⊎ ((xs : List ℕ) × At t.lists k xs × Contains xs m)
        either k ns m (inl f) = inl f
        either k ns m (inr (xs, p, q)) = listed_at-only t.lists w.first (length K) k xs m ha p q

        other : code w.second ≢ code w.first
        other f = true_false (same w.first w.second) (rw (code-one w.second w.first f) (same-refl w.first)) e

        still_fresh : Contains (list_at (listed_at t.lists w.first (length K)) w.second) (length K) → ⊥
        still_fresh c = fresh w.second hb (subst (λ (xs : List ℕ). Contains xs (length K)) (get_or-set_other t.lists (code w.first) (code w.second) (list_at t.lists w.first ++ length K ∷ []) [] other) c)

-- a clause that isn't empty came to the end, and waits if it is unit
pub added : (floor : ℕ) (K : List Clause) (T : Trail) (served : ℕ) (c : Clause) (w : Watched) (t u : Tending)
    → IsPair c w → code w.first < length t.lists → code w.second < length t.lists → ((m : ℕ) → m < current_level T → IsWatched (K ++ c ∷ []) (length K) (literals (take floor (up_to T m))) (literals (up_to T m)) w)
    → u.pairs ≡ t.pairs ++ w ∷ [] → u.lists ≡ listed_both t.lists w (length K) → u.least ≡ t.least → ((m : ℕ) → Contains t.units m → Contains u.units m)
    → ((m : ℕ) → Contains u.units m → ((m ≡ length K) × WasUnit (literals T) c) ⊎ Contains t.units m) → Good (K ++ c ∷ []) (literals (take served T)) (literals T) u.units u.least w (length K)
    → IsServed floor K T served t → IsServed floor (K ++ c ∷ []) T served u
added floor K T served c w t u pair ha hb earlier pairs lists least more was good s = record {
  tends = Tends-add floor K T c w t u adds s.tends;
  good = AllGood-add floor K T (literals (take served T)) c w t u adds s.tends.listed.length_pairs good s.good;
}
  where
    nonempty : c ≡ [] → ⊥
    nonempty e = let x : has [] w.first ≡ true = subst (λ (d : Clause). has d w.first ≡ true) e pair.first_in in absurd (cc)

    m : IsListedMore K t w (listed_both t.lists w (length K))
    m = listed_both-more K t w ha hb s.tends.listed s.tends.exact

    adds : Adds floor K T c w t u
    adds = record {
      nonempty = nonempty;
      pair = pair;
      pairs = pairs;
      least = least;
      kept = rw lists m.kept;
      first_listed = rw lists m.first_listed;
      second_listed = rw lists m.second_listed;
      only = rw lists m.only;
      exact = rw lists m.exact;
      waiting = more;
      units = was;
      earlier = earlier;
    }
