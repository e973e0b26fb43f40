-- Clauses that wait elsewhere, or in another order; and what waits with the place of its last false
-- literal.
use Rattle.std.proofs.Common.{◌≡◌, ℕ, suc, zero, ◌+◌, ◌<◌, ◌≤◌, Bool, true, false, ◌||◌, List, [], ◌∷◌, ◌++◌, length, map, take, nat_eq, eq-eqb, Option, Some, None, option_map, refl, ap, sym, subst, ◌∙◌, ◌⊎◌, inl, inr, append-nil, arith, All}
use Rattle.std.specs.List.{AllByRecursion, Contains}
use Rattle.std.specs.List.Sorted.{IsPermutation}
use Rattle.std.specs.Ordering.{is_lt, nat_cmp, ordering_then}
use Rattle.std.specs.declared.cmp.Reverse.{Reverse}
use Rattle.std.specs.declared.cmp.Ordering.{Ordering}
use Rattle.std.specs.declared.cmp.Ordering.TheVariants.{Less, Equal, Greater}
use Rattle.std.proofs.lemmas.Map.Keys.{ge_from_not_lt}
use Rattle.std.proofs.lemmas.Cmp.{ranked}
use Rattle.std.proofs.lemmas.List.{length-map}
use Rattle.std.proofs.Math.ListN.{get_or-map}
use Rattle.std.proofs.lemmas.List.Elements.{All-from_recursion, All-contains, Contains-append_right}
use Rattle.std.proofs.lemmas.List.Sorted.{Contains-permutation, IsPermutation-sym, IsPermutation-trans, IsPermutation-middle, IsPermutation-append_right, IsPermutation-append_left, IsPermutation-map}
use Rattle.theory.specs.Literals.{Literal, Clause, same, has, has_var, negated}
use Rattle.theory.specs.Status.{unit_literal, others_false}
use Rattle.theory.specs.Trails.{Entry, Trail, literals}
use Rattle.theory.specs.Propagation.{IsRule, last_false, by_number, by_place, Placed}
use Rattle.theory.proofs.literals.LiteralLemmas.{or-left, or-right}
use Rattle.theory.proofs.searching.Rules.{IsRule-by_number, IsRule-by_place}
use Rattle.theory.proofs.literals.LiteralSets.{false_unless}
use Rattle.kernel.specs.declared.units.unit_queue.Waiting.{Waiting}
use Rattle.kernel.specs.Watching.{At, Good, held, waits, reached, spared, Reached, Tending, IsServed}
use Rattle.kernel.specs.declared.watches.watch.Watched.{Watched}
use Rattle.kernel.specs.Visiting.{WatchLists, tending}
use Rattle.kernel.proofs.LiteralFacts.{true_false, free-not, free-not_negated, negated-negated, has-push}
use Rattle.kernel.proofs.TrailFacts.{literals-push}
use Rattle.kernel.proofs.Serving.{Good-more}
use Rattle.kernel.proofs.AtRest.{other-false}
use Rattle.kernel.proofs.LeastClauses.{IsUnitIn, unit_literal-says, unit_literal-is, least_unit-some, least_unit-none}
use Rattle.kernel.proofs.LastLiterals.{all-false-but}
use Rattle.kernel.proofs.LastFalse.{last_false-push}
use Rattle.kernel.proofs.NearestClauses.{NoLater, nearest-some, nearest-none}
use Rattle.kernel.specs.declared.order.Order.{Order}
use Rattle.kernel.specs.declared.order.Order.TheVariants.{ByNumber, ByPlace}
use Rattle.kernel.specs.Rules.{rule_of}
use Rattle.kernel.specs.Placing.{clauses_of, GoesFirst, place_in, IsLastOf, AreInLine, also}

has_var-front : (P Q : List Literal) (v : ℕ) → has_var P v ≡ true → has_var (P ++ Q) v ≡ true
has_var-front [] Q v h = absurd (cc)
has_var-front (k ∷ P) Q v h = go (nat_eq v k.var) h (has_var-front P Q v)
  where
    go : (b : Bool) → b || has_var P v ≡ true → (has_var P v ≡ true → has_var (P ++ Q) v ≡ true) → b || has_var (P ++ Q) v ≡ true
    go true h more = refl
    go false h more = more h

has_var-last : (P : List Literal) (l : Literal) → has_var (P ++ l ∷ []) l.var ≡ true
has_var-last [] l = or-left (nat_eq l.var l.var) false (eq-eqb l.var l.var refl)
has_var-last (k ∷ P) l = or-right (nat_eq l.var k.var) (has_var (P ++ l ∷ []) l.var) (has_var-last P l)

-- what a heap of reversed ones answers goes first
goes_first : (a b : Waiting) → is_lt (ordering_then (nat_cmp b.place a.place) (nat_cmp b.clause a.clause)) ≡ false → GoesFirst a b
goes_first a b h = go (nat_cmp b.place a.place) refl h
  where
    go : (o : Ordering) → nat_cmp b.place a.place ≡ o → is_lt (ordering_then o (nat_cmp b.clause a.clause)) ≡ false → GoesFirst a b
    go Less e x = absurd (cc)
    go Equal e x = inr (sym (ranked b.place a.place Equal (sym e)), ge_from_not_lt b.clause a.clause x)
    go Greater e x = inl (ranked b.place a.place Greater (sym e))

all-go_after : (x : Reverse Waiting) (xs : List (Reverse Waiting)) → AllByRecursion (λ y. is_lt (ordering_then (nat_cmp y.0.place x.0.place) (nat_cmp y.0.clause x.0.clause)) ≡ false) xs → AllByRecursion (λ v. GoesFirst x.0 v) (map (λ r. r.0) xs)
all-go_after x [] h = tt
all-go_after x (y ∷ xs) h = (goes_first x.0 y.0 h.0, all-go_after x xs h.1)

pub All-goes_first : (x : Reverse Waiting) (xs : List (Reverse Waiting)) → AllByRecursion (λ y. is_lt (ordering_then (nat_cmp y.0.place x.0.place) (nat_cmp y.0.clause x.0.clause)) ≡ false) xs → All (λ v. GoesFirst x.0 v) (map (λ r. r.0) xs)
All-goes_first x xs h = All-from_recursion (λ v. GoesFirst x.0 v) (map (λ r. r.0) xs) (all-go_after x xs h)

-- the same clauses wait, in another order
pub IsServed-permuted : (floor : ℕ) (K : List Clause) (T : Trail) (n : ℕ) (t u : Tending) → u.pairs ≡ t.pairs → u.lists ≡ t.lists → u.least ≡ t.least → IsPermutation t.units u.units → IsServed floor K T n t → IsServed floor K T n u
IsServed-permuted floor K T n t u pairs lists least units s = record {
  tends = record {
    listed = record {
      length_pairs = rw pairs s.tends.listed.length_pairs;
      pairs = λ m d v a b ne. s.tends.listed.pairs m d v a (rw (← pairs) b) ne;
      listed = λ m d v a b ne one. rw lists (s.tends.listed.listed m d v a (rw (← pairs) b) ne one);
      within = λ k ns m a b. s.tends.listed.within k ns m (rw (← lists) a) b;
    };
    exact = rw (pairs, lists) s.tends.exact;
    found = record {
      units = λ m h. s.tends.found.units m (Contains-permutation u.units t.units m (IsPermutation-sym t.units u.units units) h);
      least = λ m e. s.tends.found.least m (sym least ∙ e);
      empties = λ m a. rw least (s.tends.found.empties m a);
    };
    earlier = λ m h i d v a b. s.tends.earlier m h i d v a (rw (← pairs) b);
  };
  good = λ m v a. rw least (Good-more K (literals (take n T)) (literals T) t.units u.units t.least t.least v m (λ i h. Contains-permutation t.units u.units i units h) (λ i h. h) (s.good m v (rw (← pairs) a)));
}

-- one of the clauses that wait, by its number
pub waiting-of : (ws : List Waiting) (n : ℕ) → Contains (clauses_of ws) n → (w : Waiting) × Contains ws w × (w.clause ≡ n)
waiting-of [] n h = absurd (omega (arith, h.1))
waiting-of (w ∷ ws) n (zero, l, e) = (w, (0, (let z : 0 < length (w ∷ ws) = omega arith in z), refl), e)
waiting-of (w ∷ ws) n (suc p, l, e) =
    let r = waiting-of ws n (p, (let z : p < length (clauses_of ws) = omega (arith, l) in z), e) in
    (r.0, (suc r.1.0, (let z : suc r.1.0 < length (w ∷ ws) = omega (arith, r.1.1) in z), r.1.2), r.2)

pub number-of : (ws : List Waiting) (w : Waiting) → Contains ws w → Contains (clauses_of ws) w.clause
number-of ws w h = (h.0, subst (λ m. h.0 < m) (sym (length-map ws (λ (v : Waiting). v.clause))) h.1, get_or-map (λ (v : Waiting). v.clause) ws h.0 w ∙ ap (λ (v : Waiting). v.clause) h.2)

-- one more
pub AreInLine-push : (o : Order) (K : List Clause) (T : Trail) (ws vs : List Waiting) (w : Waiting) → ((c : Clause) → At K w.clause c → IsLastOf (literals T) c w.lit × (w.place ≡ place_in o T c)) → IsPermutation (w ∷ ws) vs → AreInLine o K T ws → AreInLine o K T vs
AreInLine-push o K T ws vs w lined perm all = record {
  last = λ v d m a. last v d (there v m) a;
  placed = λ v d l m a u. placed v d l (there v m) a u;
}
  where
    there : (v : Waiting) → Contains vs v → Contains (w ∷ ws) v
    there v m = Contains-permutation vs (w ∷ ws) v (IsPermutation-sym (w ∷ ws) vs perm) m

    last : (v : Waiting) (d : Clause) → Contains (w ∷ ws) v → At K v.clause d → IsLastOf (literals T) d v.lit
    last v d (zero, x, e) a = subst (λ (y : Waiting). IsLastOf (literals T) d y.lit) e (lined d (subst (λ (y : Waiting). At K y.clause d) (sym e) a)).0
    last v d (suc p, x, e) a = all.last v d (p, (let z : p < length ws = omega (arith, x) in z), e) a

    placed : (v : Waiting) (d : Clause) (l : Literal) → Contains (w ∷ ws) v → At K v.clause d → unit_literal (literals T) d ≡ Some l → place_in o T d ≡ v.place
    placed v d l (zero, x, e) a u = sym (lined d (subst (λ (y : Waiting). At K y.clause d) (sym e) a)).1 ∙ ap (λ (y : Waiting). y.place) e
    placed v d l (suc p, x, e) a u = all.placed v d l (p, (let z : p < length ws = omega (arith, x) in z), e) a u

-- one less
pub AreInLine-pop : (o : Order) (K : List Clause) (T : Trail) (ws vs : List Waiting) (w : Waiting) → IsPermutation ws (w ∷ vs) → AreInLine o K T ws → AreInLine o K T vs
AreInLine-pop o K T ws vs w perm all = record {
  last = λ v d m a. all.last v d (there v m) a;
  placed = λ v d l m a u. all.placed v d l (there v m) a u;
}
  where
    there : (v : Waiting) → Contains vs v → Contains ws v
    there v m = Contains-permutation (w ∷ vs) ws v (IsPermutation-sym ws (w ∷ vs) perm) (suc m.0, (let z : suc m.0 < length (w ∷ vs) = omega (arith, m.1) in z), m.2)

-- an entry more
module _ (T : Trail) (e : Entry) (fresh : has_var (literals T) e.lit.var ≡ false) (c : Clause) (k : Literal) (last : IsLastOf (literals T) c k) where
  more : (l : Literal) → has (literals T) l ≡ true → has (literals (T ++ e ∷ [])) l ≡ true
  more l h = subst (λ (P : List Literal). has P l ≡ true) (sym (literals-push T e)) (has-push (literals T) e.lit l ∙ or-left (has (literals T) l) (same l e.lit) h)

  pub last-grow : IsLastOf (literals (T ++ e ∷ [])) c k
  last-grow = (last.0, λ l m ne. more (negated l) (last.1 l m ne))

  module _ (l : Literal) (is_unit : unit_literal (literals (T ++ e ∷ [])) c ≡ Some l) where
    says : IsUnitIn (literals T ++ e.lit ∷ []) c l
    says = unit_literal-says (literals T ++ e.lit ∷ []) c l (subst (λ (P : List Literal). unit_literal P c ≡ Some l) (literals-push T e) is_unit)

    free : has_var (literals T) l.var ≡ false
    free = false_unless (has_var (literals T) l.var) (λ h. true_false (has_var (literals T ++ e.lit ∷ []) l.var) (has_var-front (literals T) (e.lit ∷ []) l.var h) says.free)

    one : k ≡ l
    one = go (other-false (literals T) c k l (all-false-but (literals T) c k last.1) says.member)
      where
        go : (k ≡ l) ⊎ (has (literals T) (negated l) ≡ true) → k ≡ l
        go (inl f) = f
        go (inr f) = absurd (free-not_negated (literals T) l free f)

    others : others_false (literals T) c l ≡ true
    others = subst (λ (y : Literal). others_false (literals T) c y ≡ true) one (all-false-but (literals T) c k last.1)

    pub was-unit : unit_literal (literals T) c ≡ Some l
    was-unit = unit_literal-is (literals T) c l says.member free others

    pub apart : has c (negated e.lit) ≡ false
    apart = false_unless (has c (negated e.lit)) (λ h. go (other-false (literals T) c l (negated e.lit) others h))
      where
        go : (l ≡ negated e.lit) ⊎ (has (literals T) (negated (negated e.lit)) ≡ true) → ⊥
        go (inl f) = true_false (has_var (literals T ++ e.lit ∷ []) l.var) (subst (λ (y : Literal). has_var (literals T ++ e.lit ∷ []) y.var ≡ true) (sym f) (has_var-last (literals T) e.lit)) says.free
        go (inr f) = free-not (literals T) e.lit fresh (subst (λ (y : Literal). has (literals T) y ≡ true) (negated-negated e.lit) f)

pub AreInLine-grow : (o : Order) (K : List Clause) (T : Trail) (ws : List Waiting) (e : Entry) → has_var (literals T) e.lit.var ≡ false → AreInLine o K T ws → AreInLine o K (T ++ e ∷ []) ws
AreInLine-grow o K T ws e fresh all = record {
  last = λ w c m a. last-grow T e fresh c w.lit (all.last w c m a);
  placed = λ w c l m a u. go o c w.place (all.placed w c l m a (was-unit T e fresh c w.lit (all.last w c m a) l u)) (last_false-push T e c (apart T e fresh c w.lit (all.last w c m a) l u));
}
  where
    go : (o : Order) (c : Clause) (p : ℕ) → place_in o T c ≡ p → last_false (T ++ e ∷ []) c ≡ last_false T c → place_in o (T ++ e ∷ []) c ≡ p
    go ByNumber c p h f = h
    go ByPlace c p h f = f ∙ h

-- the one that goes first is the nearest
pub first-by_place : (K : List Clause) (T : Trail) (ws : List Waiting) (w : Waiting) (c : Clause) (l : Literal) → AreInLine ByPlace K T ws → Contains ws w → All (λ v. GoesFirst w v) ws → At K w.clause c → unit_literal (literals T) c ≡ Some l
    → ((m : ℕ) (d : Clause) (k : Literal) → At K m d → unit_literal (literals T) d ≡ Some k → Contains (clauses_of ws) m) → by_place T K ≡ Some (w.clause + 1, l)
first-by_place K T ws w c l all in_line first at is_unit waiting = ap (option_map (λ (p : Placed). p.unit)) (nearest-some T K w.clause c l at is_unit least)
  where
    least : (m : ℕ) (d : Clause) (k : Literal) → At K m d → unit_literal (literals T) d ≡ Some k → NoLater (last_false T c) w.clause (last_false T d) m
    least m d k a h =
        let v = waiting-of ws m (waiting m d k a h) in
        let there : At K v.0.clause d = subst (λ i. At K i d) (sym v.2) a in
        by v.0 (all.placed w c l in_line at is_unit) (all.placed v.0 d k v.1 there h) v.2 (All-contains (λ y. GoesFirst w y) ws v.0 first v.1)
      where
        by : {p q i : ℕ} (v : Waiting) → p ≡ w.place → q ≡ v.place → v.clause ≡ i → GoesFirst w v → NoLater p w.clause q i
        by v e f g (inl h) = inl (omega (arith, e, f, h))
        by v e f g (inr h) = inr ((let x = h.0 in omega (arith, e, f, x)), (let y = h.1 in omega (arith, g, y)))

-- and by number the one of least number
pub first-by_number : (K : List Clause) (T : Trail) (ws : List Waiting) (w : Waiting) (c : Clause) (l : Literal) → AreInLine ByNumber K T ws → Contains ws w → All (λ v. GoesFirst w v) ws → At K w.clause c → unit_literal (literals T) c ≡ Some l
    → ((m : ℕ) (d : Clause) (k : Literal) → At K m d → unit_literal (literals T) d ≡ Some k → Contains (clauses_of ws) m) → by_number T K ≡ Some (w.clause + 1, l)
first-by_number K T ws w c l all in_line first at is_unit waiting = least_unit-some (literals T) K w.clause c l at is_unit before
  where
    later : {p q i : ℕ} (v : Waiting) → p ≡ w.place → q ≡ v.place → p ≡ q → v.clause ≡ i → i < w.clause → GoesFirst w v → ⊥
    later v e f g h less (inl x) = omega (arith, e, f, g, x)
    later v e f g h less (inr x) = (let y = x.1 in omega (arith, h, less, y))

    before : (m : ℕ) (d : Clause) → m < w.clause → At K m d → unit_literal (literals T) d ≡ None
    before m d less a = go (unit_literal (literals T) d) refl
      where
        go : (q : Option Literal) → unit_literal (literals T) d ≡ q → unit_literal (literals T) d ≡ None
        go None e = e
        go (Some k) e =
            let v = waiting-of ws m (waiting m d k a e) in
            let there : At K v.0.clause d = subst (λ i. At K i d) (sym v.2) a in
            absurd (later v.0 (all.placed w c l in_line at is_unit) (all.placed v.0 d k v.1 there e) refl v.2 less (All-contains (λ y. GoesFirst w y) ws v.0 first v.1))

pub first-by : (o : Order) (K : List Clause) (T : Trail) (ws : List Waiting) (w : Waiting) (c : Clause) (l : Literal) → AreInLine o K T ws → Contains ws w → All (λ v. GoesFirst w v) ws → At K w.clause c → unit_literal (literals T) c ≡ Some l
    → ((m : ℕ) (d : Clause) (k : Literal) → At K m d → unit_literal (literals T) d ≡ Some k → Contains (clauses_of ws) m) → rule_of o T K ≡ Some (w.clause + 1, l)
first-by ByNumber K T ws w c l all there first at is_unit waiting = first-by_number K T ws w c l all there first at is_unit waiting
first-by ByPlace K T ws w c l all there first at is_unit waiting = first-by_place K T ws w c l all there first at is_unit waiting

pub none-by_place : (K : List Clause) (T : Trail) → ((n : ℕ) (c : Clause) → At K n c → unit_literal (literals T) c ≡ None) → by_place T K ≡ None
none-by_place K T h = ap (option_map (λ (p : Placed). p.unit)) (nearest-none T K h)

pub none-by : (o : Order) (K : List Clause) (T : Trail) → ((n : ℕ) (c : Clause) → At K n c → unit_literal (literals T) c ≡ None) → rule_of o T K ≡ None
none-by ByNumber K T h = least_unit-none (literals T) K h
none-by ByPlace K T h = none-by_place K T h

-- a clause that was found is put in line
pub lined : (all line found rest longer : List ℕ) (n : ℕ) → IsPermutation all (line ++ found) → IsPermutation found (n ∷ rest) → IsPermutation (n ∷ line) longer → IsPermutation all (longer ++ rest)
lined all line found rest longer n h k m =
    IsPermutation-trans all (line ++ found) (longer ++ rest) h
    (IsPermutation-trans (line ++ found) (line ++ n ∷ rest) (longer ++ rest) (IsPermutation-append_right line found (n ∷ rest) k)
    (IsPermutation-trans (line ++ n ∷ rest) (n ∷ (line ++ rest)) (longer ++ rest) (IsPermutation-middle line n rest) (IsPermutation-append_left rest (n ∷ line) longer m)))

-- a clause more waits in line, or the same ones, and the others as before
pub lengthened : (line longer us vs : List ℕ) (n : ℕ) → vs ≡ us → IsPermutation (n ∷ line) longer → IsPermutation (n ∷ (line ++ us)) (longer ++ vs)
lengthened line longer us vs n e h = subst (λ xs. IsPermutation (n ∷ (line ++ us)) (longer ++ xs)) (sym e) (IsPermutation-append_left us (n ∷ line) longer h)

pub joined : (line other us vs : List ℕ) → other ≡ line → vs ≡ us → other ++ vs ≡ line ++ us
joined line other us vs e f = rw (e, f) refl

pub lined-up : (ws vs : List Waiting) (w : Waiting) (n : ℕ) → w.clause ≡ n → IsPermutation (w ∷ ws) vs → IsPermutation (n ∷ clauses_of ws) (clauses_of vs)
lined-up ws vs w n e h = subst (λ m. IsPermutation (m ∷ clauses_of ws) (clauses_of vs)) e (IsPermutation-map (λ v. v.clause) _ _ h)

-- nothing waits but in line
module _ (floor : ℕ) (K : List Clause) (T : Trail) (n : ℕ) (k : WatchLists) (ns : List ℕ) (none : k.units ≡ []) where
  alone : ns ++ k.units ≡ ns
  alone = ap (λ us. ns ++ us) none ∙ append-nil ns

  pub IsServed-line : IsServed floor K T n (tending (also ns k)) → IsServed floor K T n (record (tending k) { units = ns })
  IsServed-line s = subst (λ (us : List ℕ). IsServed floor K T n (record (tending k) { units = us })) alone s

  pub IsServed-also : IsServed floor K T n (record (tending k) { units = ns }) → IsServed floor K T n (tending (also ns k))
  IsServed-also s = subst (λ (us : List ℕ). IsServed floor K T n (record (tending k) { units = us })) (sym alone) s

-- once a clause is false, none has to wait in line
pub IsServed-clashed : (floor : ℕ) (K : List Clause) (T : Trail) (n : ℕ) (k : WatchLists) (ns : List ℕ) (m : ℕ) → k.least ≡ Some m → IsServed floor K T n (tending (also ns k)) → IsServed floor K T n (tending k)
IsServed-clashed floor K T n k ns m least s = record {
  tends = record {
    listed = record {
      length_pairs = s.tends.listed.length_pairs;
      pairs = s.tends.listed.pairs;
      listed = s.tends.listed.listed;
      within = s.tends.listed.within;
    };
    exact = s.tends.exact;
    found = record {
      units = λ i h. s.tends.found.units i (Contains-append_right ns k.units i h);
      least = s.tends.found.least;
      empties = s.tends.found.empties;
    };
    earlier = s.tends.earlier;
  };
  good = λ i w a. go i w (s.good i w a);
}
  where
    false_one : Reached k.least m
    false_one = subst (λ o. Reached o m) (sym least) (let z : m ≤ m = omega arith in z)

    go : (i : ℕ) (w : Watched) → Good K (literals (take n T)) (literals T) (ns ++ k.units) k.least w i → Good K (literals (take n T)) (literals T) k.units k.least w i
    go i w (held h) = held h
    go i w (waits h z) = spared m false_one z
    go i w (reached r) = reached r
    go i w (spared j r z) = spared j r z

pub taken-there : (ns rest : List ℕ) (n : ℕ) → IsPermutation ns (n ∷ rest) → Contains ns n
taken-there ns rest n h = Contains-permutation (n ∷ rest) ns n (IsPermutation-sym ns (n ∷ rest) h) (0, (let z : 0 < length (n ∷ rest) = omega arith in z), refl)

pub rest-there : (ns rest : List ℕ) (n m : ℕ) → IsPermutation ns (n ∷ rest) → Contains rest m → Contains ns m
rest-there ns rest n m h x = Contains-permutation (n ∷ rest) ns m (IsPermutation-sym ns (n ∷ rest) h) (suc x.0, (let z : suc x.0 < length (n ∷ rest) = omega (arith, x.1) in z), x.2)

pub in-line : (ws rest : List Waiting) (w : Waiting) → IsPermutation ws (w ∷ rest) → Contains ws w
in-line ws rest w h = Contains-permutation (w ∷ rest) ws w (IsPermutation-sym ws (w ∷ rest) h) (0, (let z : 0 < length (w ∷ rest) = omega arith in z), refl)

pub IsRule-by : (o : Order) → IsRule (rule_of o)
IsRule-by ByNumber = IsRule-by_number
IsRule-by ByPlace = IsRule-by_place

pub AreInLine-none : (o : Order) (K : List Clause) (T : Trail) → AreInLine o K T []
AreInLine-none o K T = record {
  last = λ w c m a. absurd (omega (arith, m.1));
  placed = λ w c l m a u. absurd (omega (arith, m.1));
}
