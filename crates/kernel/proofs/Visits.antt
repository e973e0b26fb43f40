-- What is found in the visit of a clause.
use Rattle.std.proofs.Common.{◌≡◌, ◌≢◌, ℕ, suc, zero, ◌+◌, ◌*◌, ◌<◌, ◌≤◌, Bool, true, false, List, [], ◌∷◌, ◌++◌, length, get_or, set, Option, Some, None, refl, ap, sym, subst, ◌∙◌, ◌⊎◌, inl, inr, arith, cond, All, slice_get, is_some as has_value}
use Rattle.std.proofs.lemmas.Option.{get_or_from_slice_get}
use Rattle.theory.specs.Literals.{Literal, Clause, same, has, has_var, negated}
use Rattle.theory.specs.Truth.{IsOver}
use Rattle.theory.proofs.literals.LiteralLemmas.{or-cases, or-left, or-right, true_or_false, same-eq, same-refl}
use Rattle.theory.proofs.literals.OverVariables.{AreOver-from_IsOver}
use Rattle.kernel.specs.declared.watches.watch.Watched.{Watched}
use Rattle.kernel.specs.declared.watches.watch.Watch.{Watch}
use Rattle.cnf.specs.Lits.{code}
use Rattle.kernel.specs.Watching.{At, IsConsistent, IsPair, IsBeside, lesser}
use Rattle.std.proofs.Math.Bool.{beq}
use Rattle.std.specs.Option.{option_eq}
use Rattle.std.specs.List.Sorted.{IsPermutation}
use Rattle.theory.proofs.literals.ClauseWalks.{beq-same, beq-other}
use Rattle.trail.specs.Tables.{IsTruth}
use Rattle.kernel.specs.Visiting.{IsLast, Replaces, CanVisit, IsStay, IsVisit, unit, needless, clashes, moves, WatchLists, entries_at}
use Rattle.kernel.specs.Placing.{IsLastOf}
use Rattle.kernel.proofs.LiteralFacts.{all-member, has-var}
use Rattle.theory.proofs.literals.LiteralSets.{false_unless}
use Rattle.kernel.proofs.LiteralFacts.{true_false, free-not_negated}
use Rattle.kernel.proofs.Places.{At-one, At-get}

pub has-get : (c : Clause) (k : ℕ) (d : Literal) → k < length c → has c (get_or c k d) ≡ true
has-get [] k d h = absurd (omega (arith, h))
has-get (x ∷ c) zero d h = or-left (same x x) (has c x) (same-refl x)
has-get (x ∷ c) (suc k) d h = or-right (same (get_or c k d) x) (has c (get_or c k d)) (has-get c k d (let z : k < length c = omega (arith, h) in z))

pub over-var : (V : ℕ) (c : Clause) (l : Literal) → IsOver V c → has c l ≡ true → l.var ≤ V
over-var V c l over m = (AreOver-from_IsOver V c over l m).1

pub not-false : (P : List Literal) (l : Literal) (o : Option Bool) → IsConsistent P → IsTruth P l o → o ≢ Some false → has P (negated l) ≡ false
not-false P l o ok says ne = go o says ne (true_or_false (has P (negated l)))
  where
    go : (o : Option Bool) → IsTruth P l o → o ≢ Some false → (has P (negated l) ≡ true) ⊎ (has P (negated l) ≡ false) → has P (negated l) ≡ false
    go o says ne (inr e) = e
    go None says ne (inl e) = absurd (free-not_negated P l says e)
    go (Some true) says ne (inl e) = absurd (ok l says e)
    go (Some false) says ne (inl e) = absurd (ne refl)

pub is-some : (o : Option Bool) (b : Bool) → option_eq beq o (Some b) ≡ true → o ≡ Some b
is-some None b h = absurd (cc)
is-some (Some a) b h = ap (λ x. Some x) (beq-same a b h)

pub isnt-some : (o : Option Bool) (b : Bool) → option_eq beq o (Some b) ≡ false → o ≢ Some b
isnt-some None b h e = absurd (cc)
isnt-some (Some a) b h e = let f : a ≡ b = cc in beq-other a b h f

pub truth-none : (P : List Literal) (l : Literal) (o : Option Bool) → IsTruth P l o → has_value o ≡ false → has_var P l.var ≡ false
truth-none P l None says h = says
truth-none P l (Some b) says h = absurd (cc)

pub truth-found : (P : List Literal) (l : Literal) (o : Option Bool) → IsTruth P l o → has_value o ≡ true → has_var P l.var ≡ true
truth-found P l None says h = absurd (cc)
truth-found P l (Some true) says h = has-var P l says
truth-found P l (Some false) says h = has-var P (negated l) says

-- a clause of at most two literals has no other than those watched
pub short-is : (c : Clause) (w : Watched) (l : Literal) → length c ≤ 2 → IsPair c w → has c l ≡ true → (l ≡ w.first) ⊎ (l ≡ w.second)
short-is c w l short pair m = by (same w.first w.second) refl
  where
    one_of : (a : Literal) → (x : Literal) → has (a ∷ []) x ≡ true → x ≡ a
    one_of a x h = go (or-cases (same x a) false h)
      where
        go : (same x a ≡ true) ⊎ (false ≡ true) → x ≡ a
        go (inl e) = same-eq x a e
        go (inr e) = absurd (cc)

    two_of : (a b : Literal) → (x : Literal) → has (a ∷ b ∷ []) x ≡ true → (x ≡ a) ⊎ (x ≡ b)
    two_of a b x h = go (or-cases (same x a) (has (b ∷ []) x) h)
      where
        go : (same x a ≡ true) ⊎ (has (b ∷ []) x ≡ true) → (x ≡ a) ⊎ (x ≡ b)
        go (inl e) = inl (same-eq x a e)
        go (inr e) = inr (one_of b x e)

    clash : w.first ≡ w.second → same w.first w.second ≡ false → ⊥
    clash e h = true_false (same w.first w.second) (subst (λ (x : Literal). same w.first x ≡ true) e (same-refl w.first)) h

    pick : (a b : Literal) → same w.first w.second ≡ false → (l ≡ a) ⊎ (l ≡ b) → (w.first ≡ a) ⊎ (w.first ≡ b) → (w.second ≡ a) ⊎ (w.second ≡ b) → (l ≡ w.first) ⊎ (l ≡ w.second)
    pick a b h (inl e) (inl f) g = inl (e ∙ sym f)
    pick a b h (inl e) (inr f) (inl g) = inr (e ∙ sym g)
    pick a b h (inl e) (inr f) (inr g) = absurd (clash (f ∙ sym g) h)
    pick a b h (inr e) (inr f) g = inl (e ∙ sym f)
    pick a b h (inr e) (inl f) (inr g) = inr (e ∙ sym g)
    pick a b h (inr e) (inl f) (inl g) = absurd (clash (f ∙ sym g) h)

    apart : same w.first w.second ≡ false → (d : Clause) → c ≡ d → (l ≡ w.first) ⊎ (l ≡ w.second)
    apart h [] e = let x : has [] l ≡ true = subst (λ (d : Clause). has d l ≡ true) e m in absurd (cc)
    apart h (a ∷ []) e = inl (one_of a l (subst (λ (d : Clause). has d l ≡ true) e m) ∙ sym (one_of a w.first (subst (λ (d : Clause). has d w.first ≡ true) e pair.first_in)))
    apart h (a ∷ b ∷ []) e =
        pick a b h (two_of a b l (subst (λ (d : Clause). has d l ≡ true) e m)) (two_of a b w.first (subst (λ (d : Clause). has d w.first ≡ true) e pair.first_in))
        (two_of a b w.second (subst (λ (d : Clause). has d w.second ≡ true) e pair.second_in))
    apart h (a ∷ b ∷ x ∷ d) e = absurd (let long : length (a ∷ b ∷ x ∷ d) ≤ 2 = subst (λ (y : Clause). length y ≤ 2) e short in omega (arith, long))

    by : (b : Bool) → same w.first w.second ≡ b → (l ≡ w.first) ⊎ (l ≡ w.second)
    by true h = inl (sym (same-eq w.first l (all-member (same w.first) c l (pair.single h) m)))
    by false h = apart h c refl

-- what is read at a place
pub read-At : {X : Type 0} (xs : List X) (n : ℕ) (x : X) → n < length xs → slice_get xs n ≡ Some x → At xs n x
read-At xs n x inside h = (inside, get_or_from_slice_get xs n x x h)

pub code-within : (l : Literal) (V n : ℕ) → l.var ≤ V → n ≡ 2 * V + 2 → code l < n
code-within l V n h e = go l.positive
  where
    go : (b : Bool) → 2 * l.var + cond b 1 0 < n
    go true = omega (arith, h, e)
    go false = omega (arith, h, e)

module _ (K : List Clause) (P : List Literal) (g : Literal) (e : Watch) (s : WatchLists) (v : CanVisit K P g e s) where
  pub pair-inside : e.clause < length s.pairs
  pair-inside = omega (arith, v.within, v.length_pairs)

  -- the literal that is watched beside g
  pub beside-is : (w : Watched) → At s.pairs e.clause w → IsBeside w g (cond (same w.first g) w.second w.first)
  beside-is w a = go (same w.first g) refl (v.pair (get_or K e.clause []) w (At-get K e.clause [] v.within) a).1
    where
      go : (b : Bool) → same w.first g ≡ b → (w.first ≡ g) ⊎ (w.second ≡ g) → IsBeside w g (cond b w.second w.first)
      go true h x = inl (same-eq w.first g h, refl)
      go false h (inl x) = absurd (true_false (same w.first g) (rw x (same-refl g)) h)
      go false h (inr x) = inr (x, refl)

  pub beside-one : (w u : Watched) (k : Literal) → At s.pairs e.clause w → At s.pairs e.clause u → IsBeside w g k → IsBeside u g k
  beside-one w u k a b h = subst (λ (x : Watched). IsBeside x g k) (At-one s.pairs e.clause w u a b) h

  pub beside-in : (w : Watched) (k : Literal) → At s.pairs e.clause w → IsBeside w g k → (c : Clause) → At K e.clause c → has c k ≡ true
  beside-in w k a h c b = go h
    where
      p : IsPair c w
      p = (v.pair c w b a).0

      go : IsBeside w g k → has c k ≡ true
      go (inl (x, y)) = subst (λ (l : Literal). has c l ≡ true) y p.second_in
      go (inr (x, y)) = subst (λ (l : Literal). has c l ≡ true) y p.first_in

  pub gone-in : (c : Clause) → At K e.clause c → has c g ≡ true
  gone-in c a = go p.1
    where
      w : Watched
      w = get_or s.pairs e.clause record { first = g; second = g }

      p : IsPair c w × ((w.first ≡ g) ⊎ (w.second ≡ g))
      p = v.pair c w a (At-get s.pairs e.clause record { first = g; second = g } pair-inside)

      go : (w.first ≡ g) ⊎ (w.second ≡ g) → has c g ≡ true
      go (inl x) = subst (λ (l : Literal). has c l ≡ true) x p.0.first_in
      go (inr x) = subst (λ (l : Literal). has c l ≡ true) x p.0.second_in

  pub clause-is : (c d : Clause) → At K e.clause c → At K e.clause d → c ≡ d
  clause-is c d a b = At-one K e.clause c d a b

  pub over-of : (V : ℕ) (l : Literal) → All (IsOver V) K → ((c : Clause) → At K e.clause c → has c l ≡ true) → l.var ≤ V
  over-of V l over m = over-var V (get_or K e.clause []) l (over e.clause [] v.within) (m (get_or K e.clause []) (At-get K e.clause [] v.within))

  pub stay-long : (b : Literal) → e.is_short ≡ false → ((c : Clause) → At K e.clause c → has c b ≡ true) → IsStay K e b
  stay-long b long m = record { blocker_in = m; short = λ h. absurd (true_false e.is_short h long) }

  pub stay-same : IsStay K e e.blocker
  stay-same = record { blocker_in = v.entry.blocker_in; short = λ h. refl }

  -- what is known of the literal k beside g, once the watched literals w were read
  pub record Looked (w : Watched) (k : Literal) : Type 0 where
    pub at : At s.pairs e.clause w
    pub beside : IsBeside w g k
    pub member : (c : Clause) → At K e.clause c → has c k ≡ true

  pub looked : (w : Watched) (k : Literal) → w ≡ get_or s.pairs e.clause w → k ≡ cond (same w.first g) w.second w.first → Looked w k
  looked w k read is = record { at = at; beside = beside; member = beside-in w k at beside }
    where
      at : At s.pairs e.clause w
      at = (pair-inside, sym read)

      beside : IsBeside w g k
      beside = subst (λ (l : Literal). IsBeside w g l) (sym is) (beside-is w at)

  pub looked-stays : (w : Watched) (k : Literal) → e.is_short ≡ false → Looked w k → IsStay K e k
  looked-stays w k long l = stay-long k long l.member

  -- all other literals than k are false
  pub looked-last : (w : Watched) (k : Literal) (c : Clause) → Looked w k → At K e.clause c → IsLast P c k → (d : Clause) (u : Watched) → At K e.clause d → At s.pairs e.clause u → IsBeside u g k × IsLast P d k
  looked-last w k c l a last d u b at = (beside-one w u k l.at at l.beside, subst (λ (x : Clause). IsLast P x k) (clause-is c d a b) last)

  -- another literal z is watched
  pub looked-moves : (u : WatchLists) (w : Watched) (k z : Literal) (c : Clause) → e.is_short ≡ false → Looked w k → At K e.clause c → Replaces P c k z
      → u ≡ record s { pairs = set s.pairs e.clause record { first = k; second = z }; lists = set s.lists (code z) (entries_at s.lists z ++ record { clause = e.clause; blocker = k; is_short = false } ∷ []) }
      → IsVisit K P g e s u None
  looked-moves u w k z c long l a r is =
      moves {k = k} {z = z} long (λ d v b at. (beside-one w v k l.at at l.beside, l.member d b, subst (λ (x : Clause). Replaces P x k z) (clause-is c d a b) r))
      (ap (λ (x : WatchLists). x.pairs) is) (ap (λ (x : WatchLists). x.lists) is) (ap (λ (x : WatchLists). x.units) is) (ap (λ (x : WatchLists). x.least) is)

  pub clause-read : (c : Clause) → slice_get K e.clause ≡ Some c → At K e.clause c
  clause-read c h = read-At K e.clause c v.within h

  pub clause-over : (V : ℕ) (c : Clause) → All (IsOver V) K → At K e.clause c → IsOver V c
  clause-over V c over a = subst (λ (x : Clause). IsOver V x) (clause-is (get_or K e.clause []) c (At-get K e.clause [] v.within) a) (over e.clause [] v.within)

  -- of a short clause all literals but the blocker are false
  pub short-last : e.is_short ≡ true → (c : Clause) (w : Watched) → At K e.clause c → At s.pairs e.clause w → IsBeside w g e.blocker × IsLast P c e.blocker
  short-last h c w a b = (beside, last)
    where
      beside : IsBeside w g e.blocker
      beside = (v.entry.short h c w a b).1

      last : IsLast P c e.blocker
      last l m ne = go beside (short-is c w l (v.entry.short h c w a b).0 (v.pair c w a b).0 m)
        where
          not_it : l ≡ e.blocker → ⊥
          not_it f = true_false (same e.blocker l) (rw f (same-refl e.blocker)) ne

          is_g : l ≡ g → has P (negated l) ≡ true
          is_g f = rw f v.gone

          go : IsBeside w g e.blocker → (l ≡ w.first) ⊎ (l ≡ w.second) → has P (negated l) ≡ true
          go (inl (x, y)) (inl f) = is_g (f ∙ x)
          go (inl (x, y)) (inr f) = absurd (not_it (f ∙ y))
          go (inr (x, y)) (inl f) = absurd (not_it (f ∙ y))
          go (inr (x, y)) (inr f) = is_g (f ∙ x)

  pub short-in : e.is_short ≡ true → (c : Clause) → At K e.clause c → IsLastOf P c e.blocker
  short-in h c a = (v.entry.blocker_in c a, (short-last h c (get_or s.pairs e.clause record { first = g; second = g }) a (At-get s.pairs e.clause record { first = g; second = g } pair-inside)).1)

  -- all literals but one are false, and that one isn't true
  pub noted : (u : WatchLists) (b : Literal) (o : Option Bool) → IsStay K e b → ((c : Clause) (w : Watched) → At K e.clause c → At s.pairs e.clause w → IsBeside w g b × IsLast P c b) → IsTruth P b o → o ≢ Some true
      → (o ≡ None → s.least ≡ None → IsPermutation (e.clause ∷ s.units) u.units × (u.least ≡ s.least)) → ((m : ℕ) → o ≡ None → s.least ≡ Some m → (u.units ≡ s.units) × (u.least ≡ s.least))
      → ((x : Bool) → o ≡ Some x → (u.units ≡ s.units) × (u.least ≡ Some (lesser s.least e.clause))) → u.pairs ≡ s.pairs → u.lists ≡ s.lists → IsVisit K P g e s u (Some b)
  noted u b o stay last says ne free_one spared_one false_one pairs lists = go o refl says
    where
      unassigned : o ≡ None → has P (negated b) ≡ false → (f : Option ℕ) → s.least ≡ f → IsVisit K P g e s u (Some b)
      unassigned h free None e = let r = free_one h e in unit stay last free r.0 pairs lists r.1
      unassigned h free (Some m) e = let r = spared_one m h e in needless {m = m} stay last free e (λ i. record { pairs = pairs i; lists = lists i; units = r.0 i; least = r.1 i })

      go : (x : Option Bool) → o ≡ x → IsTruth P b x → IsVisit K P g e s u (Some b)
      go None f t = unassigned f (false_unless (has P (negated b)) (λ h. free-not_negated P b t h)) s.least refl
      go (Some true) f t = absurd (ne f)
      go (Some false) f t =
          let r = false_one false f in
          clashes stay (λ c a. (last c (get_or s.pairs e.clause record { first = g; second = g }) a (At-get s.pairs e.clause record { first = g; second = g } pair-inside)).1) t
          (λ i. record { pairs = pairs i; lists = lists i; units = r.0 i; least = r.1 i })
