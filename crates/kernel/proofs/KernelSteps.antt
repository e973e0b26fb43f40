-- What a kernel's calls keep of the watches.
use Rattle.std.proofs.Common.{◌≡◌, ℕ, suc, zero, ◌+◌, ◌<◌, ◌≤◌, Bool, true, false, not, nat_le, nat_eq, eqb-true, eq-eqb, leb-true, List, [], ◌∷◌, ◌++◌, length, take, map, min, Option, Some, None, refl, ap, sym, subst, ◌∙◌, ◌⊎◌, inl, inr, arith, cond}
use Rattle.std.proofs.lemmas.List.{length_push, length-map, take_all}
use Rattle.std.proofs.lemmas.List.Sorted.{Contains-permutation, IsPermutation-sym}
use Rattle.std.specs.List.{Contains}
use Rattle.std.specs.List.Sorted.{IsPermutation}
use Rattle.theory.specs.Literals.{Literal, Clause, same, has, has_var, negated, are_distinct}
use Rattle.theory.specs.Truth.{IsOver}
use Rattle.theory.specs.Trails.{Entry, Trail, literals, current_level, up_to, level_of, level_at, entry_of}
use Rattle.theory.specs.Propagation.{Rule, IsRule, Propagates, quiet, grows, rests, least_false}
use Rattle.theory.specs.Learnable.{IsLearnable}
use Rattle.theory.proofs.searching.Rules.{IsRule-by_number, IsRule-by_place}
use Rattle.kernel.specs.declared.order.Order.{Order}
use Rattle.kernel.specs.declared.order.Order.TheVariants.{ByNumber, ByPlace}
use Rattle.kernel.specs.Rules.{rule_of}
use Rattle.theory.proofs.literals.LiteralLemmas.{and-left, and-right, or-cases, true_or_false, not_true, same-eq}
use Rattle.theory.proofs.literals.LiteralSets.{false_unless}
use Rattle.kernel.specs.declared.watches.watch.Watched.{Watched}
use Rattle.trail.specs.TrailOver.{IsOrdered}
use Rattle.cnf.specs.Lits.{code}
use Rattle.kernel.specs.Watching.{At, IsPair, IsWatched, apart, waits, Includes, WasUnit, listed_both}
use Rattle.kernel.specs.Visiting.{WatchLists, places, tending}
use Rattle.kernel.specs.Attaching.{attached, IsBase, IsWatching}
use Rattle.kernel.proofs.LiteralFacts.{true_false, all-member, has-var, free-not_negated}
use Rattle.kernel.proofs.Places.{At-push}
use Rattle.kernel.proofs.TrailFacts.{Includes-take, Includes-up_to}
use Rattle.kernel.proofs.LeastClauses.{unit_literal-says}
use Rattle.kernel.proofs.Backtracking.{decided, none-each, went_back, Includes-take-le}
use Rattle.kernel.proofs.Beginning.{no-literal}
use Rattle.kernel.proofs.Adding.{added, At-longer}
use Rattle.kernel.proofs.Attached.{attached-places, attached-entries}
use Rattle.kernel.proofs.Visits.{code-within, over-var}

pub IsRule-of : (order : Order) → IsRule (rule_of order)
IsRule-of ByNumber = IsRule-by_number
IsRule-of ByPlace = IsRule-by_place

-- where propagation leaves the trail as it is, no clause is false or unit
pub at-rest : (rule : Rule) (K : List Clause) (T U : Trail) → Propagates rule K T quiet U → (least_false (literals U) K ≡ None) × (rule U K ≡ None)
at-rest rule K T U (rests a b) = (a, b)
at-rest rule K T U (grows {u = u} a b h) = at-rest rule K _ U h

-- an entry that is still there at an earlier level is of at most that level
pub up_to-level_of : (T : Trail) (m : ℕ) (l : Literal) → are_distinct (literals T) ≡ true → has (literals (up_to T m)) l ≡ true → level_of T l ≤ m
up_to-level_of [] m l d h = absurd (cc)
up_to-level_of (e ∷ T) m l d h = go (nat_le e.level m) refl h (up_to-level_of T m l (and-right (not (has_var (literals T) e.lit.var)) (are_distinct (literals T)) d))
  where
    fresh : has_var (literals T) e.lit.var ≡ false
    fresh = not_true (has_var (literals T) e.lit.var) (and-left (not (has_var (literals T) e.lit.var)) (are_distinct (literals T)) d)

    behind : has (literals (up_to T m)) l ≡ true → level_of T l ≤ m → level_at (cond (nat_eq e.lit.var l.var) (Some e) (entry_of T l.var)) ≤ m
    behind x low = by (nat_eq e.lit.var l.var) refl
      where
        by : (b : Bool) → nat_eq e.lit.var l.var ≡ b → level_at (cond b (Some e) (entry_of T l.var)) ≤ m
        by true y =
            let there : has_var (literals T) l.var ≡ true = has-var (literals T) l (Includes-up_to T m l x) in
            absurd (true_false (has_var (literals T) e.lit.var) (subst (λ v. has_var (literals T) v ≡ true) (sym (eqb-true e.lit.var l.var y)) there) fresh)
        by false y = low

    go : (b : Bool) → nat_le e.level m ≡ b → has (literals (cond b (e ∷ up_to T m) (up_to T m))) l ≡ true → (has (literals (up_to T m)) l ≡ true → level_of T l ≤ m) → level_of (e ∷ T) l ≤ m
    go true x y more = by (or-cases (same l e.lit) (has (literals (up_to T m)) l) y)
      where
        by : (same l e.lit ≡ true) ⊎ (has (literals (up_to T m)) l ≡ true) → level_of (e ∷ T) l ≤ m
        by (inl z) =
            let v : nat_eq e.lit.var l.var ≡ true = eq-eqb e.lit.var l.var (ap (λ (k : Literal). k.var) (sym (same-eq l e.lit z))) in
            rw v (leb-true e.level m x)
        by (inr z) = behind z (more z)
    go false x y more = behind y (more y)

-- a decision
pub decide-watching : (rule : Rule) → IsRule rule → (V first : ℕ) (K : List Clause) (T : Trail) (at floor low : ℕ) (k : WatchLists) (single : List ℕ) (empty : Option ℕ) (e : Entry) → IsOrdered V T → Propagates rule K T quiet T → e.level ≡ current_level T + 1 → ((at ≡ length T) × (low ≡ floor)) ⊎ ((low ≤ at) × (low ≤ floor))
    → IsWatching V first K T at floor k single empty → IsWatching V first K (T ++ e ∷ []) at low k single empty
decide-watching rule is V first K T at floor low k single empty e ordered closes level which s = record {
  lists = s.lists;
  served =
      let r = at-rest rule K T T closes in
      decided floor low K T e at (tending k) ordered.rising r.0 (none-each rule is K T r.1) s.within (less which) (sub which) level s.served;
  entries = s.entries;
  within = omega (arith, s.within, length_push T e);
  base = s.base;
}
  where
    less : ((at ≡ length T) × (low ≡ floor)) ⊎ ((low ≤ at) × (low ≤ floor)) → low ≤ floor
    less (inl (_, f)) = omega (arith, f)
    less (inr (_, f)) = f

    sub : ((at ≡ length T) × (low ≡ floor)) ⊎ ((low ≤ at) × (low ≤ floor)) → Includes (literals (take at T)) (literals (take low T))
    sub (inl (f, _)) l h =
        let whole : take at T ≡ T = ap (λ n. take n T) f ∙ take_all (length T) T (let z : length T ≤ length T = omega arith in z) in
        subst (λ (U : Trail). has (literals U) l ≡ true) (sym whole) (Includes-take T low l h)
    sub (inr (f, _)) l h = Includes-take-le T low at f l h

-- going back
pub back-watching : (V first : ℕ) (K : List Clause) (T : Trail) (at floor m : ℕ) (k u : WatchLists) (single : List ℕ) (empty : Option ℕ) → m < current_level T → u.pairs ≡ k.pairs → u.lists ≡ k.lists → u.units ≡ [] → u.least ≡ None
    → IsWatching V first K T at floor k single empty → IsWatching V first K (up_to T m) (min floor (length (up_to T m))) floor u single empty
back-watching V first K T at floor m k u single empty below pairs lists units least s = record {
  lists = rw lists s.lists;
  served = went_back floor K T m (tending k) (tending u) below pairs (ap (map places) lists) units least s.served.tends;
  entries = rw (pairs, lists) s.entries;
  within = omega arith;
  base = s.base;
}

-- a clause more, behind the first ones
pub base-more : (first : ℕ) (K : List Clause) (c : Clause) (single : List ℕ) (empty : Option ℕ) → first ≤ length K → (c ≡ [] → ⊥) → IsBase first K single empty → IsBase first (K ++ c ∷ []) single empty
base-more first K c single empty within some b = record {
  all_singles = λ n d y h a m all. b.all_singles n d y h (front n d (omega (arith, h, within)) a) m all;
  singles = λ n h. let r = b.singles n h in (r.0, λ d a. r.1 d (front n d (omega (arith, r.0, within)) a));
  empty = λ n h. let r = b.empty n h in (r.0, At-longer K c [] n r.1);
  empties = λ n h a. b.empties n h (front n [] (omega (arith, h, within)) a);
  learnt = λ n h a. never n h (At-push K c n [] a);
}
  where
    front : (n : ℕ) (d : Clause) → n < length K → At (K ++ c ∷ []) n d → At K n d
    front n d h a = go (At-push K c n d a)
      where
        go : At K n d ⊎ ((n ≡ length K) × (d ≡ c)) → At K n d
        go (inl a) = a
        go (inr (f, _)) = absurd (omega (arith, f, h))

    never : (n : ℕ) → first ≤ n → At K n [] ⊎ ((n ≡ length K) × ([] ≡ c)) → ⊥
    never n h (inl a) = b.learnt n h a
    never n h (inr (_, f)) = some (sym f)

-- a learnt clause
pub learnt-watching : (V first : ℕ) (K : List Clause) (T : Trail) (at floor : ℕ) (k u : WatchLists) (single : List ℕ) (empty : Option ℕ) (c : Clause) (w : Watched) → first ≤ length K → IsOrdered V T → IsOver V c → (learnable : IsLearnable T c)
    → w.first ≡ learnable.free → IsPair c w → ((l : Literal) → has c l ≡ true → same learnable.free l ≡ false → level_of T l ≤ level_of T w.second)
    → u.pairs ≡ k.pairs ++ w ∷ [] → u.lists ≡ attached k.lists w (length K) (nat_le (length c) 2) → length u.lists ≡ length k.lists → IsPermutation (length K ∷ k.units) u.units → u.least ≡ k.least
    → IsWatching V first K T at floor k single empty → IsWatching V first (K ++ c ∷ []) T at floor u single empty
learnt-watching V first K T at floor k u single empty c w within ordered over learnable first_is pair greatest pairs lists long units least s = record {
  lists = long ∙ s.lists;
  served = added floor K T at c w (tending k) (tending u) pair (inside w.first ha) (inside w.second hb) earlier pairs placed least more was (waits here (inl (free (take at T) (Includes-take T at)))) s.served;
  entries = λ l. rw (pairs, lists) (attached-entries K k c w s.served.tends.listed pair ha hb s.entries l);
  within = s.within;
  base = base-more first K c single empty within (λ f. no-literal w.first (subst (λ (d : Clause). has d w.first ≡ true) f pair.first_in)) s.base;
}
  where
    ha : code w.first < length k.lists
    ha = code-within w.first V (length k.lists) (over-var V c w.first over pair.first_in) s.lists

    hb : code w.second < length k.lists
    hb = code-within w.second V (length k.lists) (over-var V c w.second over pair.second_in) s.lists

    inside : (l : Literal) → code l < length k.lists → code l < length (tending k).lists
    inside l h = subst (λ n. code l < n) (sym (length-map k.lists places)) h

    placed : (tending u).lists ≡ listed_both (tending k).lists w (length K)
    placed = ap (map places) lists ∙ attached-places k.lists w (length K) (nat_le (length c) 2)

    free : (U : Trail) → Includes (literals T) (literals U) → has (literals U) (negated w.first) ≡ false
    free U sub = false_unless (has (literals U) (negated w.first)) (λ h. free-not_negated (literals T) w.first (rw first_is (unit_literal-says (literals T) c learnable.free learnable.unit).free) (sub (negated w.first) h))

    here : Contains u.units (length K)
    here = Contains-permutation (length K ∷ k.units) u.units (length K) units (0, (let z : 0 < length (length K ∷ k.units) = omega arith in z), refl)

    more : (m : ℕ) → Contains k.units m → Contains u.units m
    more m h = Contains-permutation (length K ∷ k.units) u.units m units (suc h.0, (let z : suc h.0 < length (length K ∷ k.units) = omega (arith, h.1) in z), h.2)

    unit : WasUnit (literals T) c
    unit = let r = unit_literal-says (literals T) c learnable.free learnable.unit in (learnable.free, r.member, r.others)

    was : (m : ℕ) → Contains u.units m → ((m ≡ length K) × WasUnit (literals T) c) ⊎ Contains k.units m
    was m h = split (Contains-permutation u.units (length K ∷ k.units) m (IsPermutation-sym (length K ∷ k.units) u.units units) h)
      where
        split : Contains (length K ∷ k.units) m → ((m ≡ length K) × WasUnit (literals T) c) ⊎ Contains k.units m
        split (zero, l, f) = inl (sym f, unit)
        split (suc p, l, f) = inr (p, (let z : p < length k.units = omega (arith, l) in z), f)

    earlier : (m : ℕ) → m < current_level T → IsWatched (K ++ c ∷ []) (length K) (literals (take floor (up_to T m))) (literals (up_to T m)) w
    earlier m h = go learnable.latest
      where
        cut : Includes (literals T) (literals (take floor (up_to T m)))
        cut l x = Includes-up_to T m l (Includes-take (up_to T m) floor l x)

        two : (l : Literal) → has c l ≡ true → same learnable.free l ≡ false → same w.first w.second ≡ false
        two l m ne = by (true_or_false (same w.first w.second))
          where
            by : (same w.first w.second ≡ true) ⊎ (same w.first w.second ≡ false) → same w.first w.second ≡ false
            by (inl x) = absurd (true_false (same learnable.free l) (rw (← first_is) (all-member (same w.first) c l (pair.single x) m)) ne)
            by (inr x) = x

        go : (current_level T ≡ 0) ⊎ ((l : Literal) × (has c l ≡ true) × (same learnable.free l ≡ false) × (level_of T l ≡ current_level T)) → IsWatched (K ++ c ∷ []) (length K) (literals (take floor (up_to T m))) (literals (up_to T m)) w
        go (inl z) = absurd (omega (arith, h, z))
        go (inr (l, m_in, ne, level)) = apart (two l m_in ne) (free (take floor (up_to T m)) cut) (false_unless (has (literals (take floor (up_to T m))) (negated w.second)) never)
          where
            never : has (literals (take floor (up_to T m))) (negated w.second) ≡ true → ⊥
            never x =
                let low : level_of T (negated w.second) ≤ m = up_to-level_of T m (negated w.second) ordered.distinct (Includes-take (up_to T m) floor (negated w.second) x) in
                let high : level_of T l ≤ level_of T w.second = greatest l m_in ne in
                omega (arith, low, high, level, h)
