-- Entries and clauses that are cut off.
use Rattle.std.proofs.Common.{◌≡◌, ◌≢◌, ℕ, suc, zero, ◌+◌, ◌-◌, ◌<◌, ◌≤◌, List, [], ◌∷◌, ◌++◌, length, get_or, set, take, refl, ap, sym, subst, ◌∙◌, ◌⊎◌, inl, inr, arith}
use Rattle.std.proofs.lemmas.List.{map-set, length-map, length-set, length-take-le, get_or-take, take-map, take_more, get_or-set_same, get_or-set_other, get_or_default}
use Rattle.std.proofs.Math.ListN.{get_or-map}
use Rattle.std.proofs.lemmas.Bool.{cases_eq}
use Rattle.std.specs.List.{Contains, swap_remove}
use Rattle.std.specs.List.Sorted.{IsPermutation}
use Rattle.std.proofs.lemmas.List.Sorted.{Contains-permutation, IsPermutation-trans, IsPermutation-cons, IsPermutation-append_comm}
use Rattle.std.proofs.lemmas.List.Elements.{Contains-append_left, Contains-push, Contains-push_cases}
use Rattle.kernel.specs.declared.watches.watch.Watched.{Watched}
use Rattle.kernel.specs.declared.watches.watch.Watch.{Watch}
use Rattle.cnf.specs.Lits.{code}
use Rattle.kernel.specs.Watching.{At}
use Rattle.kernel.specs.Visiting.{places}
use Rattle.kernel.specs.Cutting.{IsKeptBelow, AreKeptBelow, AreCodesOf}
use Rattle.kernel.proofs.Places.{At-one, At-get, At-set, swap_remove-once, Contains-swap_remove}
use Rattle.kernel.proofs.Turns.{At-places}

take-take : {X : Type 0} (xs : List X) (m : ℕ) → take m (take (suc m) xs) ≡ take m xs
take-take [] zero = refl
take-take [] (suc m) = refl
take-take (x ∷ xs) zero = refl
take-take (x ∷ xs) (suc m) = ap (λ ys. x ∷ ys) (take-take xs m)

-- a write into a front, of which less is looked at
take-set-take : {X : Type 0} (xs : List X) (m i : ℕ) (v : X) → take m (set (take (suc m) xs) i v) ≡ take m (set xs i v)
take-set-take [] m i v = refl
take-set-take (x ∷ xs) zero zero v = refl
take-set-take (x ∷ xs) zero (suc i) v = refl
take-set-take (x ∷ xs) (suc m) zero v = ap (λ ys. v ∷ ys) (take-take xs m)
take-set-take (x ∷ xs) (suc m) (suc i) v = ap (λ ys. x ∷ ys) (take-set-take xs m i v)

-- the entries once the one at the place j left, and the last of the first m + 1 took its place
abbrev pub left : List Watch → ℕ → ℕ → Watch → List Watch
left ws m j d = take m (set ws j (get_or ws m d))

-- their places
left-places : (ws : List Watch) (m j n : ℕ) (d : Watch) → m < length ws → places (take m (set ws j (get_or ws m d))) ≡ swap_remove (places (take (m + 1) ws)) j n
left-places ws m j n d h =
    sym (take-map (λ (e : Watch). e.clause) m (set ws j (get_or ws m d)))
    ∙ ap (take m) (map-set (λ (e : Watch). e.clause) ws j (get_or ws m d))
    ∙ sym (take-set-take (places ws) m j (get_or ws m d).clause)
    ∙ ap (λ k. take m (set (take k (places ws)) j (get_or ws m d).clause)) one
    ∙ (λ i. take (size i) (set (front i) j (last i)))
  where
    one : suc m ≡ m + 1
    one = omega arith

    front : take (m + 1) (places ws) ≡ places (take (m + 1) ws)
    front = take-map (λ (e : Watch). e.clause) (m + 1) ws

    long : length (places (take (m + 1) ws)) ≡ m + 1
    long = length-map (take (m + 1) ws) (λ (e : Watch). e.clause) ∙ length-take-le (m + 1) ws (omega (arith, h))

    size : m ≡ length (places (take (m + 1) ws)) - 1
    size = omega (arith, long)

    last : (get_or ws m d).clause ≡ get_or (places (take (m + 1) ws)) (length (places (take (m + 1) ws)) - 1) n
    last =
        sym (get_or-map (λ (e : Watch). e.clause) ws m d)
        ∙ get_or_default (places ws) m d.clause n (subst (λ k. m < k) (sym (length-map ws (λ (e : Watch). e.clause))) h)
        ∙ sym (get_or-take (m + 1) (places ws) m n (omega arith))
        ∙ (λ i. get_or (front i) (size i) n)

-- each of them was there
left-was : (ws : List Watch) (m j q : ℕ) (d x : Watch) → m < length ws → At (take m (set ws j (get_or ws m d))) q x → (p : ℕ) × At (take (m + 1) ws) p x
left-was ws m j q d x h a = go (At-set ws j (get_or ws m d) q x inner)
  where
    size : length (take m (set ws j (get_or ws m d))) ≡ m
    size = length-take-le m (set ws j (get_or ws m d)) (omega (arith, h, length-set ws j (get_or ws m d)))

    below : q < m
    below = omega (arith, size, a.0)

    inner : At (set ws j (get_or ws m d)) q x
    inner = (omega (arith, below, h, length-set ws j (get_or ws m d)), sym (get_or-take m (set ws j (get_or ws m d)) q x below) ∙ a.1)

    long : length (take (m + 1) ws) ≡ m + 1
    long = length-take-le (m + 1) ws (omega (arith, h))

    front : (p : ℕ) → p ≤ m → At ws p x → At (take (m + 1) ws) p x
    front p l b = (omega (arith, long, l), get_or-take (m + 1) ws p x (omega (arith, l)) ∙ b.1)

    go : ((q ≡ j) × (x ≡ get_or ws m d)) ⊎ ((q ≢ j) × At ws q x) → (p : ℕ) × At (take (m + 1) ws) p x
    go (inl (e, f)) = (m, front m (omega arith) (h, get_or_default ws m x d h ∙ sym f))
    go (inr (ne, b)) = (q, front q (omega (arith, below)) b)

-- what is read of them
pub front-at : (list : List Watch) (end place : ℕ) (e : Watch) → place < end → end ≤ length list → e ≡ get_or list place e → At (take end list) place e
front-at list end place e low high read = (omega (arith, low, high, length-take-le end list high), get_or-take end list place e low ∙ sym read)

pub left-list : (list : List Watch) (end place : ℕ) (x : Watch) → place < end → end ≤ length list → x ≡ get_or list (end - 1) x → take (end - 1) (set list place x) ≡ left list (end - 1) place x
left-list list end place x low high read = ap (λ (y : Watch). take (end - 1) (set list place y)) read

pub left-places-at : (list : List Watch) (end place n : ℕ) (x : Watch) → place < end → end ≤ length list → places (left list (end - 1) place x) ≡ swap_remove (places (take end list)) place n
left-places-at list end place n x low high =
    left-places list (end - 1) place n x (omega (arith, low, high)) ∙ ap (λ k. swap_remove (places (take k list)) place n) (let z : end - 1 + 1 ≡ end = omega (arith, low) in z)

pub left-was-at : (list : List Watch) (end place q : ℕ) (x y : Watch) → place < end → end ≤ length list → At (left list (end - 1) place x) q y → (p : ℕ) × At (take end list) p y
left-was-at list end place q x y low high a =
    let r = left-was list (end - 1) place q x y (omega (arith, low, high)) a in
    (r.0, subst (λ k. At (take k list) r.0 y) (let z : end - 1 + 1 ≡ end = omega (arith, low) in z) r.1)

-- the search in a list: those before the place are below `first`
pub record IsKeeping (first : ℕ) (old now : List Watch) (place : ℕ) : Type 0 where
  pub below : (p : ℕ) (x : Watch) → p < place → At now p x → x.clause < first
  pub was : (p : ℕ) (x : Watch) → At now p x → (q : ℕ) × At old q x
  pub stays : (p : ℕ) (x : Watch) → At old p x → x.clause < first → Contains (places now) x.clause
  pub once : (n : ℕ) → ((a b : ℕ) → At (places old) a n → At (places old) b n → a ≡ b) → (a b : ℕ) → At (places now) a n → At (places now) b n → a ≡ b

pub keeping-begins : (first : ℕ) (old : List Watch) → IsKeeping first old old 0
keeping-begins first old = record {
  below = λ p x h. absurd (omega (arith, h));
  was = λ p x a. (p, a);
  stays = λ p x a h. let b = At-places old p x a in (p, b.0, b.1);
  once = λ n h a b. h a b;
}

-- the entry at the place is taken out, and the last takes its place
pub keeping-drops : (first : ℕ) (old list : List Watch) (end place : ℕ) (e last : Watch) → place < end → end ≤ length list → At (take end list) place e → first ≤ e.clause → IsKeeping first old (take end list) place
    → IsKeeping first old (left list (end - 1) place last) place
keeping-drops first old list end place e last low high at out k = record {
  below = λ p x h a. below p x h a;
  was = λ p x a. let r = left-was-at list end place p last x low high a in k.was r.0 x r.1;
  stays = λ p x a h. stays x h (k.stays p x a h);
  once = λ n h a b p q. swap_remove-once (places (take end list)) place e.clause n (inside) (λ i j. k.once n h i j) a b (moved n a p) (moved n b q);
}
  where
    same_places : places (left list (end - 1) place last) ≡ swap_remove (places (take end list)) place e.clause
    same_places = left-places-at list end place e.clause last low high

    inside : place < length (places (take end list))
    inside = subst (λ n. place < n) (sym (length-map (take end list) (λ (x : Watch). x.clause))) at.0

    moved : (n a : ℕ) → At (places (left list (end - 1) place last)) a n → At (swap_remove (places (take end list)) place e.clause) a n
    moved n a h = subst (λ (ns : List ℕ). At ns a n) same_places h

    stays : (x : Watch) → x.clause < first → Contains (places (take end list)) x.clause → Contains (places (left list (end - 1) place last)) x.clause
    stays x h c =
        subst (λ (ns : List ℕ). Contains ns x.clause) (sym same_places)
        (Contains-swap_remove (places (take end list)) place e.clause e.clause x.clause (At-places (take end list) place e at) (λ f. omega (arith, f, h, out)) c)

    size : length (take (end - 1) (set list place (get_or list (end - 1) last))) ≡ end - 1
    size = length-take-le (end - 1) (set list place (get_or list (end - 1) last)) (omega (arith, low, high, length-set list place (get_or list (end - 1) last)))

    below : (p : ℕ) (x : Watch) → p < place → At (left list (end - 1) place last) p x → x.clause < first
    below p x h a =
        let inner : At (set list place (get_or list (end - 1) last)) p x = (omega (arith, h, low, high, length-set list place (get_or list (end - 1) last)), sym (get_or-take (end - 1) (set list place (get_or list (end - 1) last)) p x (omega (arith, h, low))) ∙ a.1) in
        go (At-set list place (get_or list (end - 1) last) p x inner)
      where
        go : ((p ≡ place) × (x ≡ get_or list (end - 1) last)) ⊎ ((p ≢ place) × At list p x) → x.clause < first
        go (inl (f, _)) = absurd (omega (arith, f, h))
        go (inr (_, b)) = k.below p x h ((omega (arith, h, low, high, length-take-le end list high)), get_or-take end list p x (omega (arith, h, low)) ∙ b.1)

-- what is kept of what was kept
pub kept-kept : (first : ℕ) (a b c : List Watch) → IsKeptBelow first a b → IsKeptBelow first b c → IsKeptBelow first a c
kept-kept first a b c r s = record {
  below = s.below;
  was = λ p x h. let q = s.was p x h in r.was q.0 x q.1;
  stays = λ p x h low. again x low (r.stays p x h low);
  once = λ n h i j. s.once n (λ k m. r.once n h k m) i j;
}
  where
    again : (x : Watch) → x.clause < first → Contains (places b) x.clause → Contains (places c) x.clause
    again x low (q, inside, read) =
        let within : q < length b = subst (λ n. q < n) (length-map b (λ (y : Watch). y.clause)) inside in
        let y : Watch = get_or b q x in
        let is : y.clause ≡ x.clause = sym (get_or-map (λ (z : Watch). z.clause) b q x) ∙ read in
        subst (λ n. Contains (places c) n) is (s.stays q y (At-get b q x within) (subst (λ n. n < first) (sym is) low))

-- the codes of the clauses from `first` up to a place
abbrev pub AreCodesUpTo : ℕ → ℕ → List Watched → List ℕ → Type 0
AreCodesUpTo first end pairs codes = (n : ℕ) (w : Watched) → first ≤ n → n < end → At pairs n w → Contains codes (code w.first) × Contains codes (code w.second)

pub codes-more : (first end : ℕ) (pairs : List Watched) (codes : List ℕ) (v : Watched) (a b : ℕ) → end < length pairs → v ≡ get_or pairs end v → a ≡ code v.first → b ≡ code v.second → AreCodesUpTo first end pairs codes → AreCodesUpTo first (end + 1) pairs ((codes ++ a ∷ []) ++ b ∷ [])
codes-more first end pairs codes v a b inside read ea eb all n w low high h = go (cases_eq n end)
  where
    longer : (m : ℕ) → Contains codes m → Contains ((codes ++ a ∷ []) ++ b ∷ []) m
    longer m c = Contains-append_left (codes ++ a ∷ []) (b ∷ []) m (Contains-append_left codes (a ∷ []) m c)

    go : (n ≡ end) ⊎ (n ≢ end) → Contains ((codes ++ a ∷ []) ++ b ∷ []) (code w.first) × Contains ((codes ++ a ∷ []) ++ b ∷ []) (code w.second)
    go (inl e) =
        let one : w ≡ v = At-one pairs end w v (subst (λ i. At pairs i w) e h) (inside, sym read) in
        rw (one, ← ea, ← eb) (Contains-append_left (codes ++ a ∷ []) (b ∷ []) a (Contains-push codes a), Contains-push (codes ++ a ∷ []) b)
    go (inr ne) = let r = all n w low (omega (arith, high, ne)) h in (longer (code w.first) r.0, longer (code w.second) r.1)

pub codes-sorted : (first : ℕ) (pairs : List Watched) (codes sorted : List ℕ) (end : ℕ) → length pairs ≤ end → IsPermutation codes sorted → AreCodesUpTo first end pairs codes → AreCodesOf first pairs sorted
codes-sorted first pairs codes sorted end whole p all n w low a =
    let r = all n w low (omega (arith, a.0, whole)) a in
    (Contains-permutation codes sorted (code w.first) p r.0, Contains-permutation codes sorted (code w.second) p r.1)

front-contains : (codes : List ℕ) (at n m : ℕ) → n ≡ get_or codes at n → at < length codes → Contains (take (at + 1) codes) m → (m ≡ n) ⊎ Contains (take at codes) m
front-contains codes at n m read inside c = go (Contains-push_cases (take at codes) n m (subst (λ (xs : List ℕ). Contains xs m) (take_more codes at n inside ∙ ap (λ y. take at codes ++ y ∷ []) (sym read)) c))
  where
    go : Contains (take at codes) m ⊎ (n ≡ m) → (m ≡ n) ⊎ Contains (take at codes) m
    go (inl h) = inr h
    go (inr h) = inl (sym h)

pub front-longer : (codes : List ℕ) (at m : ℕ) → at < length codes → Contains (take at codes) m → Contains (take (at + 1) codes) m
front-longer codes at m inside c = subst (λ (xs : List ℕ). Contains xs m) (sym (take_more codes at m inside)) (Contains-append_left (take at codes) (get_or codes at m ∷ []) m c)

pub front-last : (codes : List ℕ) (at n : ℕ) → n ≡ get_or codes at n → at < length codes → Contains (take (at + 1) codes) n
front-last codes at n read inside = subst (λ (xs : List ℕ). Contains xs n) (sym (take_more codes at n inside ∙ ap (λ y. take at codes ++ y ∷ []) (sym read))) (Contains-push (take at codes) n)

pub below-more : (first : ℕ) (codes : List ℕ) (at n : ℕ) (old now new : List (List Watch)) (ws : List Watch) → n ≡ get_or codes at n → at < length codes → n < length now → new ≡ set now n ws → IsKeptBelow first (get_or now n []) ws → AreKeptBelow first (take at codes) old now → AreKeptBelow first (take (at + 1) codes) old new
below-more first codes at n old now new ws read inside within is kept all i = go (cases_eq i n) (all i)
  where
    here : get_or (set now n ws) n [] ≡ ws
    here = get_or-set_same now n ws [] within

    go : (i ≡ n) ⊎ (i ≢ n) → (IsKeptBelow first (get_or old i []) (get_or now i [])) ⊎ ((Contains (take at codes) i → ⊥) × (get_or now i [] ≡ get_or old i []))
        → (IsKeptBelow first (get_or old i []) (get_or new i [])) ⊎ ((Contains (take (at + 1) codes) i → ⊥) × (get_or new i [] ≡ get_or old i []))
    go (inl e) (inl r) = inl (rw (is, e, here) (kept-kept first (get_or old n []) (get_or now n []) ws (subst (λ k. IsKeptBelow first (get_or old k []) (get_or now k [])) e r) kept))
    go (inl e) (inr r) = inl (rw (is, e, here) (subst (λ (xs : List Watch). IsKeptBelow first xs ws) (subst (λ k. get_or now k [] ≡ get_or old k []) e r.1) kept))
    go (inr ne) (inl r) = inl (rw (is, get_or-set_other now n i ws [] ne) r)
    go (inr ne) (inr r) = inr ((λ c. both (front-contains codes at n i read inside c)), rw (is, get_or-set_other now n i ws [] ne) r.1)
      where
        both : (i ≡ n) ⊎ Contains (take at codes) i → ⊥
        both (inl e) = ne e
        both (inr c) = r.0 c

pub below-same : (first : ℕ) (codes : List ℕ) (at n : ℕ) (old now : List (List Watch)) → n ≡ get_or codes at n → at < length codes → Contains (take at codes) n → AreKeptBelow first (take at codes) old now → AreKeptBelow first (take (at + 1) codes) old now
below-same first codes at n old now read inside there all i = go (all i)
  where
    go : (IsKeptBelow first (get_or old i []) (get_or now i [])) ⊎ ((Contains (take at codes) i → ⊥) × (get_or now i [] ≡ get_or old i [])) → (IsKeptBelow first (get_or old i []) (get_or now i [])) ⊎ ((Contains (take (at + 1) codes) i → ⊥) × (get_or now i [] ≡ get_or old i []))
    go (inl r) = inl r
    go (inr r) = inr ((λ c. both (front-contains codes at n i read inside c)), r.1)
      where
        both : (i ≡ n) ⊎ Contains (take at codes) i → ⊥
        both (inl e) = r.0 (subst (λ k. Contains (take at codes) k) (sym e) there)
        both (inr c) = r.0 c

-- numbers that wait
pub waits-more : (xs us new : List ℕ) (at x : ℕ) → x ≡ get_or xs at x → at < length xs → IsPermutation (take at xs) us → IsPermutation (x ∷ us) new → IsPermutation (take (at + 1) xs) new
waits-more xs us new at x read inside p q =
    subst (λ (ys : List ℕ). IsPermutation ys new) (sym (take_more xs at x inside ∙ ap (λ y. take at xs ++ y ∷ []) (sym read)))
    (IsPermutation-trans (take at xs ++ x ∷ []) (x ∷ take at xs) new (IsPermutation-append_comm (take at xs) (x ∷ [])) (IsPermutation-trans (x ∷ take at xs) (x ∷ us) new (IsPermutation-cons x (take at xs) us p) q))
