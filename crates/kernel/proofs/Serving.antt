-- The steps of a walk over the clauses that watch a literal.
use Rattle.std.proofs.Common.{◌≡◌, ◌≢◌, ℕ, ◌+◌, ◌<◌, ◌≤◌, Bool, true, false, List, [], ◌∷◌, ◌++◌, length, get_or, set, Option, refl, sym, subst, ◌∙◌, ◌⊎◌, inl, inr, arith}
use Rattle.std.specs.List.{Contains}
use Rattle.std.proofs.lemmas.Bool.{cases_eq}
use Rattle.theory.specs.Literals.{Literal, Clause, same, has, has_both_signs, negated}
use Rattle.theory.proofs.literals.LiteralLemmas.{same-eq}
use Rattle.kernel.specs.Watching.{apart, first_true, second_true, other_true, both_signs, Reached, Good, held, waits, reached, spared, At, StandsFrom, Tending, GoodBut, AllGood, list_at, IsListed, IsFound, without_nth}
use Rattle.kernel.specs.declared.watches.watch.Watched.{Watched}
use Rattle.kernel.proofs.LiteralFacts.{or_false, has-push, same-negated, negated-negated}
use Rattle.kernel.proofs.Places.{At-one, At-get, At-set}
use Rattle.kernel.proofs.Removing.{without-place}

pub Reached-more : (f g : Option ℕ) (n : ℕ) → ((m : ℕ) → Reached f m → Reached g m) → Reached f n → Reached g n
Reached-more f g n more h = more n h

-- more clauses found
pub Good-more : (K : List Clause) (S P : List Literal) (H J : List ℕ) (f g : Option ℕ) (w : Watched) (n : ℕ) → ((m : ℕ) → Contains H m → Contains J m) → ((m : ℕ) → Reached f m → Reached g m) → Good K S P H f w n → Good K S P J g w n
Good-more K S P H J f g w n units least (held h) = held h
Good-more K S P H J f g w n units least (waits m s) = waits (units n m) s
Good-more K S P H J f g w n units least (reached r) = reached (least n r)
Good-more K S P H J f g w n units least (spared m r s) = spared m (least m r) s

-- a literal that isn't the negation of l is false as little as before
pub not-served : (S : List Literal) (l k : Literal) → same k (negated l) ≡ false → has S (negated k) ≡ false → has (S ++ l ∷ []) (negated k) ≡ false
not-served S l k d h =
    let e : same (negated k) l ≡ false = rw (← negated-negated l) (rw same-negated d) in
    has-push S l (negated k) ∙ or_false (has S (negated k)) (same (negated k) l) h e

-- a clause that doesn't watch the negation of l
pub Good-untouched : (K : List Clause) (S P : List Literal) (l : Literal) (H : List ℕ) (f : Option ℕ) (w : Watched) (n : ℕ) → same w.first (negated l) ≡ false → same w.second (negated l) ≡ false → Good K S P H f w n → Good K (S ++ l ∷ []) P H f w n
Good-untouched K S P l H f w n d e (held (apart x a b)) = held (apart x (not-served S l w.first d a) (not-served S l w.second e b))
Good-untouched K S P l H f w n d e (held (first_true t)) = held (first_true t)
Good-untouched K S P l H f w n d e (held (second_true t)) = held (second_true t)
Good-untouched K S P l H f w n d e (held (other_true c y a m t)) = held (other_true c y a m t)
Good-untouched K S P l H f w n d e (held (both_signs c a b)) = held (both_signs c a b)
Good-untouched K S P l H f w n d e (waits m (inl a)) = waits m (inl (not-served S l w.first d a))
Good-untouched K S P l H f w n d e (waits m (inr b)) = waits m (inr (not-served S l w.second e b))
Good-untouched K S P l H f w n d e (reached r) = reached r
Good-untouched K S P l H f w n d e (spared m r (inl a)) = spared m r (inl (not-served S l w.first d a))
Good-untouched K S P l H f w n d e (spared m r (inr b)) = spared m r (inr (not-served S l w.second e b))

-- the clause at the place j is good now, and the others only found more
pub GoodBut-pass : (K : List Clause) (S : List Literal) (l : Literal) (P : List Literal) (t u : Tending) (ns : List ℕ) (j n : ℕ) (w : Watched) → u.pairs ≡ t.pairs → ((m : ℕ) → Contains t.units m → Contains u.units m) → ((m : ℕ) → Reached t.least m → Reached u.least m)
    → At ns j n → At t.pairs n w → Good K (S ++ l ∷ []) P u.units u.least w n → GoodBut K S l P t ns j → GoodBut K S l P u ns (j + 1)
GoodBut-pass K S l P t u ns j n w same_pairs units least here pair good all m v a = go (all m v (rw (← same_pairs) a))
  where
    there : At t.pairs m v
    there = rw (← same_pairs) a

    step : (s : StandsFrom j ns m) → Good K S P t.units t.least v m → (s.0 ≡ j) ⊎ (s.0 ≢ j) → Good K (S ++ l ∷ []) P u.units u.least v m ⊎ (StandsFrom (j + 1) ns m × Good K S P u.units u.least v m)
    step s g (inl e) =
        let at : At ns j m = ((let b : j < length ns = omega (arith, s.2, e) in b), rw (← e) s.3) in
        let one : n ≡ m = At-one ns j n m here at in
        let wv : w ≡ v = At-one t.pairs m w v (rw (← one) pair) there in
        inl (rw (← one, ← wv) good)
    step s g (inr e) = inr ((s.0, (let b : j + 1 ≤ s.0 = omega (arith, s.1, e) in b), s.2, s.3), Good-more K S P t.units u.units t.least u.least v m units least g)

    go : Good K (S ++ l ∷ []) P t.units t.least v m ⊎ (StandsFrom j ns m × Good K S P t.units t.least v m) → Good K (S ++ l ∷ []) P u.units u.least v m ⊎ (StandsFrom (j + 1) ns m × Good K S P u.units u.least v m)
    go (inl g) = inl (Good-more K (S ++ l ∷ []) P t.units u.units t.least u.least v m units least g)
    go (inr (s, g)) = step s g (cases_eq s.0 j)

-- the clause at the place j watches another literal now, is good, and left the list
pub GoodBut-move : (K : List Clause) (S : List Literal) (l : Literal) (P : List Literal) (t u : Tending) (ns : List ℕ) (j n : ℕ) (w : Watched) → u.pairs ≡ set t.pairs n w → u.units ≡ t.units → u.least ≡ t.least
    → At ns j n → Good K (S ++ l ∷ []) P t.units t.least w n → GoodBut K S l P t ns j → GoodBut K S l P u (without_nth ns j) j
GoodBut-move K S l P t u ns j n w pairs units least here good all m v a = rw (units, least) (go (At-set t.pairs n w m v (rw (← pairs) a)))
  where
    old : (m ≢ n) → Good K (S ++ l ∷ []) P t.units t.least v m ⊎ (StandsFrom j ns m × Good K S P t.units t.least v m) → Good K (S ++ l ∷ []) P t.units t.least v m ⊎ (StandsFrom j (without_nth ns j) m × Good K S P t.units t.least v m)
    old ne (inl g) = inl g
    old ne (inr (s, g)) =
        let other : s.0 ≢ j = λ e. ne (At-one ns j m n ((let b : j < length ns = omega (arith, s.2, e) in b), rw (← e) s.3) here) in
        let q = without-place ns j s.0 m here.0 s.2 other s.3 in
        inr ((q.0, q.3 s.1, q.1, q.2), g)

    go : ((m ≡ n) × (v ≡ w)) ⊎ ((m ≢ n) × At t.pairs m v) → Good K (S ++ l ∷ []) P t.units t.least v m ⊎ (StandsFrom j (without_nth ns j) m × Good K S P t.units t.least v m)
    go (inl (e, f)) = inl (rw (e, f) good)
    go (inr (ne, b)) = old ne (all m v b)

-- all were visited
pub GoodBut-end : (K : List Clause) (S : List Literal) (l : Literal) (P : List Literal) (t : Tending) (ns : List ℕ) (j : ℕ) → length ns ≤ j → GoodBut K S l P t ns j → AllGood K (S ++ l ∷ []) P t
GoodBut-end K S l P t ns j end all n w a = go (all n w a)
  where
    go : Good K (S ++ l ∷ []) P t.units t.least w n ⊎ (StandsFrom j ns n × Good K S P t.units t.least w n) → Good K (S ++ l ∷ []) P t.units t.least w n
    go (inl g) = g
    go (inr (s, g)) = absurd (omega (arith, s.1, s.2, end))

-- none was visited
pub GoodBut-start : (K : List Clause) (S : List Literal) (l : Literal) (P : List Literal) (t : Tending) → IsListed K t → IsFound K P t → AllGood K S P t → GoodBut K S l P t (list_at t.lists (negated l)) 0
GoodBut-start K S l P t listed found all n w a = go (get_or K n []) refl
  where
    at : At K n (get_or K n [])
    at = At-get K n [] (rw (← listed.length_pairs) a.0)

    watching : (k : Literal) → same k (negated l) ≡ true → Contains (list_at t.lists k) n → StandsFrom 0 (list_at t.lists (negated l)) n
    watching k e h = subst (λ (x : Literal). StandsFrom 0 (list_at t.lists x) n) (same-eq k (negated l) e) (h.0, (let z : 0 ≤ h.0 = omega arith in z), h.1, h.2)

    by : (b d : Bool) → same w.first (negated l) ≡ b → same w.second (negated l) ≡ d → (get_or K n [] ≡ [] → ⊥) → has_both_signs (get_or K n []) ≡ false → Good K (S ++ l ∷ []) P t.units t.least w n ⊎ (StandsFrom 0 (list_at t.lists (negated l)) n × Good K S P t.units t.least w n)
    by true d e f ne one = inr (watching w.first e (listed.listed n (get_or K n []) w at a ne one).0, all n w a)
    by false true e f ne one = inr (watching w.second f (listed.listed n (get_or K n []) w at a ne one).1, all n w a)
    by false false e f ne one = inl (Good-untouched K S P l t.units t.least w n e f (all n w a))

    signs : (b : Bool) → has_both_signs (get_or K n []) ≡ b → (get_or K n [] ≡ [] → ⊥) → Good K (S ++ l ∷ []) P t.units t.least w n ⊎ (StandsFrom 0 (list_at t.lists (negated l)) n × Good K S P t.units t.least w n)
    signs true e ne = inl (held (both_signs (get_or K n []) at e))
    signs false e ne = by (same w.first (negated l)) (same w.second (negated l)) refl refl ne e

    go : (c : Clause) → get_or K n [] ≡ c → Good K (S ++ l ∷ []) P t.units t.least w n ⊎ (StandsFrom 0 (list_at t.lists (negated l)) n × Good K S P t.units t.least w n)
    go [] e = inl (reached (found.empties n (rw (← e) at)))
    go (k ∷ c) e = signs (has_both_signs (get_or K n [])) refl (λ z. let f : k ∷ c ≡ [] = sym e ∙ z in absurd (cc))
