-- What a visit changes keeps all that holds between visits.
use Rattle.std.proofs.Common.{◌≡◌, ◌≢◌, ℕ, ◌<◌, ◌≤◌, Bool, true, false, List, [], ◌∷◌, ◌++◌, length, get_or, set, take, Option, Some, None, refl, ap, sym, subst, ◌∙◌, ◌⊎◌, inl, inr, arith, min}
use Rattle.std.proofs.lemmas.Bool.{cases_lt}
use Rattle.std.proofs.lemmas.List.{length-set, get_or-set_same, get_or-set_other}
use Rattle.std.proofs.lemmas.List.Elements.{Contains-append_left, Contains-push, Contains-push_cases}
use Rattle.std.specs.List.{Contains}
use Rattle.theory.specs.Literals.{Literal, Clause, same, has, has_both_signs, negated}
use Rattle.theory.specs.Status.{is_false}
use Rattle.theory.specs.Trails.{Trail, literals, current_level, up_to}
use Rattle.theory.proofs.literals.LiteralLemmas.{true_or_false, same-eq, same-refl}
use Rattle.cnf.specs.Lits.{code}
use Rattle.kernel.specs.Watching.{IsConsistent, IsPair, IsWatched, apart, first_true, second_true, other_true, both_signs, Reached, Good, held, waits, reached, spared, At, Tending, list_at, IsExact, Includes, Tends, IsBeside, lesser, WasUnit, moved, IsFull, without_nth}
use Rattle.kernel.specs.declared.watches.watch.Watched.{Watched}
use Rattle.kernel.proofs.LiteralFacts.{true_false, all-member, same-sym, same-sym-false}
use Rattle.trail.proofs.Tables.{code-one}
use Rattle.kernel.proofs.Places.{At-one, At-get, At-set, At-push}
use Rattle.kernel.proofs.Removing.{Contains-of_without, Contains-without, without-gone, without-once}
use Rattle.kernel.proofs.TrailFacts.{Includes-take}

pub not-in : (P Q : List Literal) (k : Literal) → Includes P Q → has P k ≡ false → has Q k ≡ false
not-in P Q k sub h = go (true_or_false (has Q k))
  where
    go : (has Q k ≡ true) ⊎ (has Q k ≡ false) → has Q k ≡ false
    go (inl e) = absurd (true_false (has P k) (sub k e) h)
    go (inr e) = e

-- the literal beside one that became false is free: the clause waits
pub Good-unit : (K : List Clause) (S P : List Literal) (H : List ℕ) (f : Option ℕ) (w : Watched) (g k : Literal) (n : ℕ) → IsBeside w g k → Includes P S → has P (negated k) ≡ false → Contains H n → Good K S P H f w n
Good-unit K S P H f w g k n (inl (a, b)) sub free m = waits m (inr (rw b (not-in P S (negated k) sub free)))
Good-unit K S P H f w g k n (inr (a, b)) sub free m = waits m (inl (rw b (not-in P S (negated k) sub free)))

-- the same, and another clause is false
pub Good-spared : (K : List Clause) (S P : List Literal) (H : List ℕ) (f : Option ℕ) (w : Watched) (g k : Literal) (n m : ℕ) → IsBeside w g k → Includes P S → has P (negated k) ≡ false → Reached f m → Good K S P H f w n
Good-spared K S P H f w g k n m (inl (a, b)) sub free r = spared m r (inr (rw b (not-in P S (negated k) sub free)))
Good-spared K S P H f w g k n m (inr (a, b)) sub free r = spared m r (inl (rw b (not-in P S (negated k) sub free)))

-- another literal z is watched in place of g
pub Good-move : (K : List Clause) (R S P : List Literal) (H : List ℕ) (f : Option ℕ) (w : Watched) (g k z : Literal) (n : ℕ) → IsConsistent P → IsBeside w g k → Includes P S → has P (negated g) ≡ true → has P (negated z) ≡ false → same k z ≡ false
    → (same k g ≡ false → has R (negated k) ≡ false → has S (negated k) ≡ false) → Good K R P H f w n → Good K S P H f (record { first = k; second = z }) n
Good-move K R S P H f w g k z n ok beside sub gone free apart_z more good = go beside good
  where
    z_free : has S (negated z) ≡ false
    z_free = not-in P S (negated z) sub free

    go : IsBeside w g k → Good K R P H f w n → Good K S P H f (record { first = k; second = z }) n
    go (inl (e, i)) (held (apart d a b)) = held (apart apart_z (more (same-sym-false g k (subst (λ (x : Literal). same g x ≡ false) i (subst (λ (x : Literal). same x w.second ≡ false) e d))) (subst (λ (x : Literal). has R (negated x) ≡ false) i b)) z_free)
    go (inr (e, i)) (held (apart d a b)) = held (apart apart_z (more (subst (λ (x : Literal). same k x ≡ false) e (subst (λ (x : Literal). same x w.second ≡ false) i d)) (subst (λ (x : Literal). has R (negated x) ≡ false) i a)) z_free)
    go (inl (e, i)) (held (first_true t)) = absurd (ok g (subst (λ (x : Literal). has P x ≡ true) e t) gone)
    go (inr (e, i)) (held (first_true t)) = held (first_true (subst (λ (x : Literal). has P x ≡ true) i t))
    go (inl (e, i)) (held (second_true t)) = held (first_true (subst (λ (x : Literal). has P x ≡ true) i t))
    go (inr (e, i)) (held (second_true t)) = absurd (ok g (subst (λ (x : Literal). has P x ≡ true) e t) gone)
    go b (held (other_true c y a m t)) = held (other_true c y a m t)
    go b (held (both_signs c a x)) = held (both_signs c a x)
    go b (waits m s) = waits m (inr z_free)
    go b (reached r) = reached r
    go b (spared m r s) = spared m r (inr z_free)

-- the same of what is held
pub IsWatched-move : (K : List Clause) (n : ℕ) (R Q P : List Literal) (w : Watched) (g k z : Literal) → IsConsistent P → IsBeside w g k → Includes P Q → has P (negated g) ≡ true → has P (negated z) ≡ false → same k z ≡ false
    → Includes P R → IsWatched K n R Q w → IsWatched K n R Q (record { first = k; second = z })
IsWatched-move K n R Q P w g k z ok beside sub gone free apart_z served h = go beside h
  where
    z_free : has R (negated z) ≡ false
    z_free = not-in P R (negated z) served free

    go : IsBeside w g k → IsWatched K n R Q w → IsWatched K n R Q (record { first = k; second = z })
    go (inl (e, i)) (apart d a b) = apart apart_z (subst (λ (x : Literal). has R (negated x) ≡ false) i b) z_free
    go (inr (e, i)) (apart d a b) = apart apart_z (subst (λ (x : Literal). has R (negated x) ≡ false) i a) z_free
    go (inl (e, i)) (first_true t) = absurd (ok g (sub g (subst (λ (x : Literal). has Q x ≡ true) e t)) gone)
    go (inr (e, i)) (first_true t) = first_true (subst (λ (x : Literal). has Q x ≡ true) i t)
    go (inl (e, i)) (second_true t) = first_true (subst (λ (x : Literal). has Q x ≡ true) i t)
    go (inr (e, i)) (second_true t) = absurd (ok g (sub g (subst (λ (x : Literal). has Q x ≡ true) e t)) gone)
    go b (other_true c y a m t) = other_true c y a m t
    go b (both_signs c a x) = both_signs c a x

-- the same watched literals, and the same lists
pub exact-same : (t u : Tending) → u.pairs ≡ t.pairs → u.lists ≡ t.lists → IsExact t.pairs t.lists → IsExact u.pairs u.lists
exact-same t u pairs lists x = rw (pairs, lists) x

-- a clause more waits
pub Tends-unit : (floor : ℕ) (K : List Clause) (T : Trail) (t u : Tending) (n : ℕ) → u.pairs ≡ t.pairs → u.lists ≡ t.lists → u.least ≡ t.least → ((m : ℕ) → Contains u.units m → (m ≡ n) ⊎ Contains t.units m)
    → (n < length K) → ((c : Clause) → At K n c → WasUnit (literals T) c) → Tends floor K T t → Tends floor K T u
Tends-unit floor K T t u n pairs lists least units inside unit s = record {
  listed = record {
    length_pairs = rw pairs s.listed.length_pairs;
    pairs = λ m c w a b ne. s.listed.pairs m c w a (rw (← pairs) b) ne;
    listed = λ m c w a b ne one. rw lists (s.listed.listed m c w a (rw (← pairs) b) ne one);
    within = λ k ns m a b. s.listed.within k ns m (rw (← lists) a) b;
  };
  exact = exact-same t u pairs lists s.exact;
  found = record {
    units = λ m h. go m (units m h);
    least = λ m e. s.found.least m (sym least ∙ e);
    empties = λ m a. rw least (s.found.empties m a);
  };
  earlier = λ m h i c w a b. s.earlier m h i c w a (rw (← pairs) b);
}
  where
    go : (m : ℕ) → (m ≡ n) ⊎ Contains t.units m → (m < length K) × ((c : Clause) → At K m c → WasUnit (literals T) c)
    go m (inl e) = (rw e inside, λ c a. unit c (rw (← e) a))
    go m (inr h) = s.found.units m h

pub lesser-reached : (f : Option ℕ) (n m : ℕ) → Reached f m → Reached (Some (lesser f n)) m
lesser-reached None n m r = absurd r
lesser-reached (Some k) n m r = omega (arith, r)

pub lesser-self : (f : Option ℕ) (n : ℕ) → Reached (Some (lesser f n)) n
lesser-self None n = omega arith
lesser-self (Some k) n = omega arith

pub lesser-cases : (f : Option ℕ) (n : ℕ) → (lesser f n ≡ n) ⊎ (f ≡ Some (lesser f n))
lesser-cases None n = inl refl
lesser-cases (Some k) n = go (cases_lt n k)
  where
    go : (n < k) ⊎ (k ≤ n) → (lesser (Some k) n ≡ n) ⊎ (Some k ≡ Some (lesser (Some k) n))
    go (inr h) = let e : k ≡ min k n = omega (arith, h) in inr (ap (λ x. Some x) e)
    go (inl h) = inl (omega (arith, h))

-- a false clause more
pub Tends-false : (floor : ℕ) (K : List Clause) (T : Trail) (t u : Tending) (n : ℕ) → u.pairs ≡ t.pairs → u.lists ≡ t.lists → u.units ≡ t.units → u.least ≡ Some (lesser t.least n)
    → (n < length K) → ((c : Clause) → At K n c → is_false (literals T) c ≡ true) → Tends floor K T t → Tends floor K T u
Tends-false floor K T t u n pairs lists units least inside all s = record {
  listed = record {
    length_pairs = rw pairs s.listed.length_pairs;
    pairs = λ m c w a b ne. s.listed.pairs m c w a (rw (← pairs) b) ne;
    listed = λ m c w a b ne one. rw lists (s.listed.listed m c w a (rw (← pairs) b) ne one);
    within = λ k ns m a b. s.listed.within k ns m (rw (← lists) a) b;
  };
  exact = exact-same t u pairs lists s.exact;
  found = record {
    units = λ m h. s.found.units m (rw (← units) h);
    least = λ m e. go m (lesser-cases t.least n) (sym least ∙ e);
    empties = λ m a. rw least (lesser-reached t.least n m (s.found.empties m a));
  };
  earlier = λ m h i c w a b. s.earlier m h i c w a (rw (← pairs) b);
}
  where
    some_one : (a b : ℕ) → Some a ≡ Some b → a ≡ b
    some_one a b e = cc

    go : (m : ℕ) → (lesser t.least n ≡ n) ⊎ (t.least ≡ Some (lesser t.least n)) → Some (lesser t.least n) ≡ Some m → (m < length K) × ((c : Clause) → At K m c → is_false (literals T) c ≡ true)
    go m (inl e) h =
        let one : n ≡ m = sym e ∙ some_one (lesser t.least n) m h in
        (rw (← one) inside, λ c a. all c (rw one a))
    go m (inr e) h = s.found.least m (e ∙ h)

pub code-apart : (k l : Literal) → same k l ≡ false → code k ≡ code l → ⊥
code-apart k l d e = true_false (same k l) (subst (λ (x : Literal). same k x ≡ true) (code-one k l e) (same-refl k)) d

-- the list of a literal, once a clause moved
pub list-moved_from : (lists : List (List ℕ)) (g z : Literal) (n j : ℕ) → code g < length lists → list_at (moved lists g z n j) g ≡ without_nth (list_at lists g) j
list-moved_from lists g z n j h =
    let inside : code g < length (set lists (code z) (list_at lists z ++ n ∷ [])) = omega (arith, h, length-set lists (code z) (list_at lists z ++ n ∷ [])) in
    get_or-set_same (set lists (code z) (list_at lists z ++ n ∷ [])) (code g) (without_nth (list_at lists g) j) [] inside

list-moved_to : (lists : List (List ℕ)) (g z : Literal) (n j : ℕ) → code z < length lists → same z g ≡ false → list_at (moved lists g z n j) z ≡ list_at lists z ++ n ∷ []
list-moved_to lists g z n j h ne =
    get_or-set_other (set lists (code z) (list_at lists z ++ n ∷ [])) (code g) (code z) (without_nth (list_at lists g) j) [] (code-apart z g ne)
    ∙ get_or-set_same lists (code z) (list_at lists z ++ n ∷ []) [] h

list-moved_other : (lists : List (List ℕ)) (g z x : Literal) (n j : ℕ) → same x z ≡ false → same x g ≡ false → list_at (moved lists g z n j) x ≡ list_at lists x
list-moved_other lists g z x n j nz ng =
    get_or-set_other (set lists (code z) (list_at lists z ++ n ∷ [])) (code g) (code x) (without_nth (list_at lists g) j) [] (code-apart x g ng)
    ∙ get_or-set_other lists (code z) (code x) (list_at lists z ++ n ∷ []) [] (code-apart x z nz)

-- another clause stays where it was
moved-other : (lists : List (List ℕ)) (g z x : Literal) (n j m : ℕ) → code g < length lists → code z < length lists → same z g ≡ false → At (list_at lists g) j n → m ≢ n → Contains (list_at lists x) m → Contains (list_at (moved lists g z n j) x) m
moved-other lists g z x n j m hg hz ne at other h = go (same x g) (same x z) refl refl
  where
    go : (a b : Bool) → same x g ≡ a → same x z ≡ b → Contains (list_at (moved lists g z n j) x) m
    go true b e f =
        let e' : x ≡ g = same-eq x g e in
        let there : Contains (list_at lists g) m = subst (λ (y : Literal). Contains (list_at lists y) m) e' h in
        subst (λ (y : Literal). Contains (list_at (moved lists g z n j) y) m) (sym e')
        (subst (λ (ns : List ℕ). Contains ns m) (sym (list-moved_from lists g z n j hg)) (Contains-without (list_at lists g) j n m at other there))
    go false true e f =
        let f' : x ≡ z = same-eq x z f in
        let there : Contains (list_at lists z) m = subst (λ (y : Literal). Contains (list_at lists y) m) f' h in
        subst (λ (y : Literal). Contains (list_at (moved lists g z n j) y) m) (sym f')
        (subst (λ (ns : List ℕ). Contains ns m) (sym (list-moved_to lists g z n j hz ne)) (Contains-append_left (list_at lists z) (n ∷ []) m there))
    go false false e f = subst (λ (ns : List ℕ). Contains ns m) (sym (list-moved_other lists g z x n j f e)) h

abbrev pub both : Literal → Literal → Watched
both k z = record { first = k; second = z }

-- where a clause stood before another one moved
stood : (lists : List (List ℕ)) (g z : Literal) (n j : ℕ) → code g < length lists → code z < length lists → same z g ≡ false → At (list_at lists g) j n → ((a b : ℕ) → At (list_at lists g) a n → At (list_at lists g) b n → a ≡ b)
    → (l : Literal) (m : ℕ) → Contains (list_at (moved lists g z n j) l) m → (Contains (list_at lists l) m × (l ≡ g → m ≢ n)) ⊎ ((l ≡ z) × (m ≡ n))
stood lists g z n j hg hz ne at once l m c = go (same l g) (same l z) refl refl
  where
    pushed : Contains (list_at lists z) m ⊎ (n ≡ m) → (Contains (list_at lists z) m × (z ≡ g → m ≢ n)) ⊎ ((z ≡ z) × (m ≡ n))
    pushed (inl x) = inl (x, λ f. absurd (true_false (same z g) (rw f (same-refl g)) ne))
    pushed (inr x) = inr (refl, sym x)

    of_g : Contains (list_at (moved lists g z n j) g) m → (Contains (list_at lists g) m × (g ≡ g → m ≢ n)) ⊎ ((g ≡ z) × (m ≡ n))
    of_g h =
        let there : Contains (without_nth (list_at lists g) j) m = subst (λ (ns : List ℕ). Contains ns m) (list-moved_from lists g z n j hg) h in
        inl (Contains-of_without (list_at lists g) j m at.0 there, λ _ e. without-gone (list_at lists g) j n at once (subst (λ x. Contains (without_nth (list_at lists g) j) x) e there))

    go : (a b : Bool) → same l g ≡ a → same l z ≡ b → (Contains (list_at lists l) m × (l ≡ g → m ≢ n)) ⊎ ((l ≡ z) × (m ≡ n))
    go true b e f =
        subst (λ (x : Literal). (Contains (list_at lists x) m × (x ≡ g → m ≢ n)) ⊎ ((x ≡ z) × (m ≡ n))) (sym (same-eq l g e))
        (of_g (subst (λ (x : Literal). Contains (list_at (moved lists g z n j) x) m) (same-eq l g e) c))
    go false true e f =
        subst (λ (x : Literal). (Contains (list_at lists x) m × (x ≡ g → m ≢ n)) ⊎ ((x ≡ z) × (m ≡ n))) (sym (same-eq l z f))
        (pushed (Contains-push_cases (list_at lists z) n m (subst (λ (ns : List ℕ). Contains ns m) (list-moved_to lists g z n j hz ne)
        (subst (λ (x : Literal). Contains (list_at (moved lists g z n j) x) m) (same-eq l z f) c))))
    go false false e f = inl (subst (λ (ns : List ℕ). Contains ns m) (list-moved_other lists g z l n j f e) c, λ h. absurd (true_false (same l g) (rw h (same-refl g)) e))

-- the lists stay exact where a clause moves
pub moved-exact : (pairs : List Watched) (lists : List (List ℕ)) (g k z : Literal) (w : Watched) (n j : ℕ) → code g < length lists → code z < length lists → same z g ≡ false → same k z ≡ false
    → At (list_at lists g) j n → At pairs n w → IsBeside w g k → IsExact pairs lists → IsExact (set pairs n (both k z)) (moved lists g z n j)
moved-exact pairs lists g k z w n j hg hz z_g k_z at pair beside x = record {
  exact = λ l m v c a. exact l m v (stood lists g z n j hg hz z_g at (λ a b. x.once g n a b) l m c) (At-set pairs n (both k z) m v a);
  once = λ l m a b p q. once l m a b p q (same l g) (same l z) refl refl;
}
  where
    watched : (l : Literal) → (w.first ≡ l) ⊎ (w.second ≡ l) → (l ≡ g) ⊎ (l ≡ k)
    watched l h = go beside h
      where
        go : IsBeside w g k → (w.first ≡ l) ⊎ (w.second ≡ l) → (l ≡ g) ⊎ (l ≡ k)
        go (inl (e, f)) (inl h) = inl (sym h ∙ e)
        go (inl (e, f)) (inr h) = inr (sym h ∙ f)
        go (inr (e, f)) (inl h) = inr (sym h ∙ f)
        go (inr (e, f)) (inr h) = inl (sym h ∙ e)

    z_new : Contains (list_at lists z) n → ⊥
    z_new c = go (watched z (x.exact z n w c pair))
      where
        go : (z ≡ g) ⊎ (z ≡ k) → ⊥
        go (inl e) = true_false (same z g) (rw e (same-refl g)) z_g
        go (inr e) = true_false (same k z) (rw e (same-refl k)) k_z

    exact : (l : Literal) (m : ℕ) (v : Watched) → (Contains (list_at lists l) m × (l ≡ g → m ≢ n)) ⊎ ((l ≡ z) × (m ≡ n)) → ((m ≡ n) × (v ≡ both k z)) ⊎ ((m ≢ n) × At pairs m v) → (v.first ≡ l) ⊎ (v.second ≡ l)
    exact l m v (inl (c, never)) (inl (e, f)) = go (watched l (x.exact l n w (subst (λ i. Contains (list_at lists l) i) e c) pair))
      where
        go : (l ≡ g) ⊎ (l ≡ k) → (v.first ≡ l) ⊎ (v.second ≡ l)
        go (inl h) = absurd (never h e)
        go (inr h) = inl (ap (λ (y : Watched). y.first) f ∙ sym h)
    exact l m v (inl (c, never)) (inr (ne, b)) = x.exact l m v c b
    exact l m v (inr (e, f)) (inl (g, h)) = inr (ap (λ (y : Watched). y.second) h ∙ sym e)
    exact l m v (inr (e, f)) (inr (ne, b)) = absurd (ne f)

    once : (l : Literal) (m a b : ℕ) → At (list_at (moved lists g z n j) l) a m → At (list_at (moved lists g z n j) l) b m → (s t : Bool) → same l g ≡ s → same l z ≡ t → a ≡ b
    once l m a b p q true t e f =
        let here : list_at (moved lists g z n j) l ≡ without_nth (list_at lists g) j = ap (list_at (moved lists g z n j)) (same-eq l g e) ∙ list-moved_from lists g z n j hg in
        without-once (list_at lists g) j m at.0 (λ i k. x.once g m i k) a b (subst (λ (ns : List ℕ). At ns a m) here p) (subst (λ (ns : List ℕ). At ns b m) here q)
    once l m a b p q false true e f =
        let here : list_at (moved lists g z n j) l ≡ list_at lists z ++ n ∷ [] = ap (list_at (moved lists g z n j)) (same-eq l z f) ∙ list-moved_to lists g z n j hz z_g in
        both_places (At-push (list_at lists z) n a m (subst (λ (ns : List ℕ). At ns a m) here p)) (At-push (list_at lists z) n b m (subst (λ (ns : List ℕ). At ns b m) here q))
      where
        both_places : At (list_at lists z) a m ⊎ ((a ≡ length (list_at lists z)) × (m ≡ n)) → At (list_at lists z) b m ⊎ ((b ≡ length (list_at lists z)) × (m ≡ n)) → a ≡ b
        both_places (inl c) (inl e) = x.once z m a b c e
        both_places (inl c) (inr (e, i)) = absurd (z_new (a, c.0, subst (λ y. get_or (list_at lists z) a y ≡ y) i c.1))
        both_places (inr (e, i)) (inl c) = absurd (z_new (b, c.0, subst (λ y. get_or (list_at lists z) b y ≡ y) i c.1))
        both_places (inr (c, i)) (inr (e, h)) = c ∙ sym e
    once l m a b p q false false e f =
        let here : list_at (moved lists g z n j) l ≡ list_at lists l = list-moved_other lists g z l n j f e in
        x.once l m a b (subst (λ (ns : List ℕ). At ns a m) here p) (subst (λ (ns : List ℕ). At ns b m) here q)

-- a clause watches another literal
pub Tends-move : (floor : ℕ) (K : List Clause) (T : Trail) (t u : Tending) (g k z : Literal) (w : Watched) (c₀ : Clause) (n j : ℕ)
    → u.pairs ≡ set t.pairs n (both k z) → u.lists ≡ moved t.lists g z n j → u.units ≡ t.units → u.least ≡ t.least
    → IsConsistent (literals T) → ((m : ℕ) → m < current_level T → Includes (literals T) (literals (up_to T m)))
    → At K n c₀ → At t.pairs n w → At (list_at t.lists g) j n → code g < length t.lists → code z < length t.lists
    → IsBeside w g k → has c₀ z ≡ true → same z k ≡ false → has (literals T) (negated g) ≡ true → has (literals T) (negated z) ≡ false
    → Tends floor K T t → Tends floor K T u
Tends-move floor K T t u g k z w c₀ n j pairs lists units least ok cuts at_c at_w at_n hg hz beside z_in z_k gone free s = record {
  listed = record {
    length_pairs = rw pairs (length-set t.pairs n (both k z) ∙ s.listed.length_pairs);
    pairs = λ m c v a b ne. pair m c v a (At-set t.pairs n (both k z) m v (rw (← pairs) b)) ne;
    listed = λ m c v a b ne one. rw lists (stands m c v a (At-set t.pairs n (both k z) m v (rw (← pairs) b)) ne one);
    within = λ i ns m a b. inside i ns m (rw (← lists) a) b;
  };
  exact = rw (pairs, lists) (moved-exact t.pairs t.lists g k z w n j hg hz z_g k_z at_n at_w beside s.exact);
  found = record {
    units = λ m h. s.found.units m (rw (← units) h);
    least = λ m e. s.found.least m (sym least ∙ e);
    empties = λ m a. rw least (s.found.empties m a);
  };
  earlier = λ m h i c v a b. before m h i c v a (At-set t.pairs n (both k z) i v (rw (← pairs) b));
}
  where
    z_g : same z g ≡ false
    z_g = go (true_or_false (same z g))
      where
        go : (same z g ≡ true) ⊎ (same z g ≡ false) → same z g ≡ false
        go (inl e) = absurd (true_false (has (literals T) (negated z)) (subst (λ (x : Literal). has (literals T) (negated x) ≡ true) (sym (same-eq z g e)) gone) free)
        go (inr e) = e

    nonempty : c₀ ≡ [] → ⊥
    nonempty e = let h : has [] z ≡ true = subst (λ (c : Clause). has c z ≡ true) e z_in in absurd (cc)

    old : IsPair c₀ w
    old = s.listed.pairs n c₀ w at_c at_w nonempty

    k_in : has c₀ k ≡ true
    k_in = go beside
      where
        go : IsBeside w g k → has c₀ k ≡ true
        go (inl (e, i)) = subst (λ (x : Literal). has c₀ x ≡ true) i old.second_in
        go (inr (e, i)) = subst (λ (x : Literal). has c₀ x ≡ true) i old.first_in

    k_listed : has_both_signs c₀ ≡ false → Contains (list_at t.lists k) n
    k_listed one = go beside
      where
        go : IsBeside w g k → Contains (list_at t.lists k) n
        go (inl (e, i)) = subst (λ (x : Literal). Contains (list_at t.lists x) n) i (s.listed.listed n c₀ w at_c at_w nonempty one).1
        go (inr (e, i)) = subst (λ (x : Literal). Contains (list_at t.lists x) n) i (s.listed.listed n c₀ w at_c at_w nonempty one).0

    -- were the two one, the clause would have no other literal
    k_g : same k g ≡ false
    k_g = go (true_or_false (same k g))
      where
        both_one : IsBeside w g k → k ≡ g → same w.first w.second ≡ true
        both_one (inl (e, i)) f = rw (e, i, f) (same-refl g)
        both_one (inr (e, i)) f = rw (e, i, f) (same-refl g)

        first_is : IsBeside w g k → k ≡ g → w.first ≡ g
        first_is (inl (e, i)) f = e
        first_is (inr (e, i)) f = i ∙ f

        go : (same k g ≡ true) ⊎ (same k g ≡ false) → same k g ≡ false
        go (inl e) =
            let f : k ≡ g = same-eq k g e in
            let h : same w.first z ≡ true = all-member (same w.first) c₀ z (old.single (both_one beside f)) z_in in
            let r : same g z ≡ true = subst (λ (x : Literal). same x z ≡ true) (first_is beside f) h in
            absurd (true_false (same z g) (same-sym g z r) z_g)
        go (inr e) = e

    k_z : same k z ≡ false
    k_z = same-sym-false z k z_k

    pair : (m : ℕ) (c : Clause) (v : Watched) → At K m c → ((m ≡ n) × (v ≡ both k z)) ⊎ ((m ≢ n) × At t.pairs m v) → (c ≡ [] → ⊥) → IsPair c v
    pair m c v a (inl (e, f)) ne =
        let one : c₀ ≡ c = At-one K n c₀ c at_c (rw (← e) a) in
        rw f (rw (← one) (record { first_in = k_in; second_in = z_in; single = λ h. absurd (true_false (same k z) h k_z) }))
    pair m c v a (inr (o, b)) ne = s.listed.pairs m c v a b ne

    stands : (m : ℕ) (c : Clause) (v : Watched) → At K m c → ((m ≡ n) × (v ≡ both k z)) ⊎ ((m ≢ n) × At t.pairs m v) → (c ≡ [] → ⊥) → has_both_signs c ≡ false → Contains (list_at (moved t.lists g z n j) v.first) m × Contains (list_at (moved t.lists g z n j) v.second) m
    stands m c v a (inl (e, f)) ne one =
        let its : has_both_signs c₀ ≡ false = subst (λ (x : Clause). has_both_signs x ≡ false) (At-one K n c c₀ (rw (← e) a) at_c) one in
        rw (e, f) (
          subst (λ (ns : List ℕ). Contains ns n) (sym (list-moved_other t.lists g z k n j k_z k_g)) (k_listed its),
          subst (λ (ns : List ℕ). Contains ns n) (sym (list-moved_to t.lists g z n j hz z_g)) (Contains-push (list_at t.lists z) n),
        )
    stands m c v a (inr (o, b)) ne one =
        let h = s.listed.listed m c v a b ne one in
        (moved-other t.lists g z v.first n j m hg hz z_g at_n o h.0, moved-other t.lists g z v.second n j m hg hz z_g at_n o h.1)

    inside : (i : ℕ) (ns : List ℕ) (m : ℕ) → At (moved t.lists g z n j) i ns → Contains ns m → IsFull K m
    inside i ns m a b = outer (At-set (set t.lists (code z) (list_at t.lists z ++ n ∷ [])) (code g) (without_nth (list_at t.lists g) j) i ns a)
      where
        at_g : At t.lists (code g) (list_at t.lists g)
        at_g = At-get t.lists (code g) [] hg

        at_z : At t.lists (code z) (list_at t.lists z)
        at_z = At-get t.lists (code z) [] hz

        pushed : Contains (list_at t.lists z ++ n ∷ []) m → IsFull K m
        pushed h = last (Contains-push_cases (list_at t.lists z) n m h)
          where
            last : Contains (list_at t.lists z) m ⊎ (n ≡ m) → IsFull K m
            last (inl x) = s.listed.within (code z) (list_at t.lists z) m at_z x
            last (inr x) = subst (λ (y : ℕ). IsFull K y) x (at_c.0, λ a. nonempty (At-one K n c₀ [] at_c a))

        inner : ((i ≡ code z) × (ns ≡ list_at t.lists z ++ n ∷ [])) ⊎ ((i ≢ code z) × At t.lists i ns) → IsFull K m
        inner (inl (e, f)) = pushed (subst (λ (xs : List ℕ). Contains xs m) f b)
        inner (inr (e, x)) = s.listed.within i ns m x b

        outer : ((i ≡ code g) × (ns ≡ without_nth (list_at t.lists g) j)) ⊎ ((i ≢ code g) × At (set t.lists (code z) (list_at t.lists z ++ n ∷ [])) i ns) → IsFull K m
        outer (inl (e, f)) = s.listed.within (code g) (list_at t.lists g) m at_g (Contains-of_without (list_at t.lists g) j m at_n.0 (subst (λ (xs : List ℕ). Contains xs m) f b))
        outer (inr (e, x)) = inner (At-set t.lists (code z) (list_at t.lists z ++ n ∷ []) i ns x)

    before : (m : ℕ) → m < current_level T → (i : ℕ) (c : Clause) (v : Watched) → At K i c → ((i ≡ n) × (v ≡ both k z)) ⊎ ((i ≢ n) × At t.pairs i v) → (c ≡ [] → ⊥) × IsWatched K i (literals (take floor (up_to T m))) (literals (up_to T m)) v
    before m h i c v a (inl (e, f)) =
        let r = s.earlier m h n c w (rw (← e) a) at_w in
        (r.0, rw (e, f) (IsWatched-move K n (literals (take floor (up_to T m))) (literals (up_to T m)) (literals T) w g k z ok beside (cuts m h) gone free k_z (λ l x. cuts m h l (Includes-take (up_to T m) floor l x)) r.1))
    before m h i c v a (inr (o, b)) = s.earlier m h i c v a b
