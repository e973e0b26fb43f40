-- A decision, and the way back to an earlier level.
use Rattle.std.proofs.Common.{◌≡◌, ℕ, suc, zero, ◌+◌, ◌-◌, ◌<◌, ◌≤◌, Bool, true, false, ◌||◌, List, [], ◌∷◌, ◌++◌, length, get_or, take, Option, Some, None, refl, ap, sym, subst, ◌∙◌, ◌⊎◌, inl, inr, arith, cond, nat_le, leb-true, slice_get, min}
use Rattle.std.proofs.lemmas.Bool.{cases_lt, leb-false}
use Rattle.std.proofs.lemmas.Option.{slice_get-get_or}
use Rattle.std.specs.List.{Contains}
use Rattle.theory.specs.Literals.{Literal, Clause, same, has, has_var, negated}
use Rattle.theory.specs.Trails.{Entry, Trail, literals, current_level, level_at, up_to}
use Rattle.theory.proofs.literals.LiteralLemmas.{or-cases, or-left, or-right, true_or_false}
use Rattle.kernel.specs.Watching.{At, IsWatched, Reached, Good, held, waits, reached, spared, Tending, Includes, AreWatchedIn, Tends, AllGood, IsServed, other_true, both_signs, apart, first_true, second_true, WasUnit}
use Rattle.kernel.specs.declared.watches.watch.Watched.{Watched}
use Rattle.trail.specs.TrailOver.{IsRisingFrom}
use Rattle.trail.proofs.Ordered.{rising-at}
use Rattle.kernel.proofs.LiteralFacts.{true_false, has-push}
use Rattle.kernel.proofs.Places.{At-get}
use Rattle.kernel.proofs.TrailFacts.{literals-push, up_to-push, current_level-push}
use Rattle.kernel.proofs.Popping.{Good-grow, has_var-has, all-more}
use Rattle.kernel.proofs.Walking.{all-from}
use Rattle.kernel.proofs.AtRest.{other-false}
use Rattle.kernel.proofs.Steps.{not-in}
use Rattle.kernel.proofs.LeastClauses.{unit_literal-is}
use Rattle.theory.specs.Status.{is_false, unit_literal}
use Rattle.theory.specs.Propagation.{Rule, IsRule, least_false}
use Rattle.std.proofs.lemmas.List.{take-append-le, take_min}
use Rattle.std.specs.Option.{unwrap_or}
use Rattle.theory.specs.Propagation.{clause_at}
use Rattle.theory.proofs.trails.LawfulTrails.{least_false-none}

pub least_false-each : (P : List Literal) (K : List Clause) (n : ℕ) (c : Clause) → least_false P K ≡ None → At K n c → is_false P c ≡ false
least_false-each P K n c h a = subst (λ (d : Clause). is_false P d ≡ false) one (least_false-none P K (n + 1) h (omega arith) (omega (arith, a.0)))
  where
    here : n + 1 - 1 ≡ n
    here = omega arith

    one : clause_at K (n + 1) ≡ c
    one = ap (λ i. unwrap_or (slice_get K i) []) here ∙ ap (λ o. unwrap_or o []) (slice_get-get_or K n c a.0) ∙ a.1

-- where a rule gives none, no clause is unit
pub none-each : (rule : Rule) → IsRule rule → (K : List Clause) (T : Trail) → rule T K ≡ None → (n : ℕ) (c : Clause) → At K n c → unit_literal (literals T) c ≡ None
none-each rule is K T h n c a = subst (λ (d : Clause). unit_literal (literals T) d ≡ None) one (is.none T K (n + 1) h (omega arith) (omega (arith, a.0)))
  where
    here : n + 1 - 1 ≡ n
    here = omega arith

    one : clause_at K (n + 1) ≡ c
    one = ap (λ i. unwrap_or (slice_get K i) []) here ∙ ap (λ o. unwrap_or o []) (slice_get-get_or K n c a.0) ∙ a.1

-- where no clause is false or unit, each is held
rest-held : (floor : ℕ) (K : List Clause) (T : Trail) (served : ℕ) (t : Tending) → least_false (literals T) K ≡ None → ((n : ℕ) (c : Clause) → At K n c → unit_literal (literals T) c ≡ None) → IsServed floor K T served t → AreWatchedIn (literals (take served T)) (literals T) K t.pairs
rest-held floor K T served t none_false none_unit s n c w a b = (nonempty, go (s.good n w b))
  where
    not_false : (m : ℕ) (d : Clause) → At K m d → is_false (literals T) d ≡ true → ⊥
    not_false m d x h = true_false (is_false (literals T) d) h (least_false-each (literals T) K m d none_false x)

    nonempty : c ≡ [] → ⊥
    nonempty e = not_false n c a (rw e refl)

    true_one : WasUnit (literals T) c → IsWatched K n (literals (take served T)) (literals T) w
    true_one (y, m, others) = by (true_or_false (has_var (literals T) y.var))
      where
        all_false : has (literals T) (negated y) ≡ true → is_false (literals T) c ≡ true
        all_false h = all-from (λ l. has (literals T) (negated l)) c (λ l i. one l (other-false (literals T) c y l others i))
          where
            one : (l : Literal) → (y ≡ l) ⊎ (has (literals T) (negated l) ≡ true) → has (literals T) (negated l) ≡ true
            one l (inl e) = subst (λ (x : Literal). has (literals T) (negated x) ≡ true) e h
            one l (inr e) = e

        by : (has_var (literals T) y.var ≡ true) ⊎ (has_var (literals T) y.var ≡ false) → IsWatched K n (literals (take served T)) (literals T) w
        by (inl h) = sign (has_var-has (literals T) y h)
          where
            sign : (has (literals T) y ≡ true) ⊎ (has (literals T) (negated y) ≡ true) → IsWatched K n (literals (take served T)) (literals T) w
            sign (inl e) = other_true c y a m e
            sign (inr e) = absurd (not_false n c a (all_false e))
        by (inr h) =
            let e : unit_literal (literals T) c ≡ Some y = unit_literal-is (literals T) c y m h others in
            let f : unit_literal (literals T) c ≡ None = none_unit n c a in
            absurd (cc)

    unreached : (m : ℕ) (o : Option ℕ) → t.least ≡ o → Reached o m → ⊥
    unreached m None e x = x
    unreached m (Some i) e x = let f = s.tends.found.least i e in (not_false i (get_or K i []) (At-get K i [] f.0) (f.1 (get_or K i []) (At-get K i [] f.0)))

    go : Good K (literals (take served T)) (literals T) t.units t.least w n → IsWatched K n (literals (take served T)) (literals T) w
    go (held h) = h
    go (waits m z) = true_one ((s.tends.found.units n m).1 c a)
    go (reached r) = absurd (unreached n t.least refl r)
    go (spared m r z) = absurd (unreached m t.least refl r)

-- less was served
IsWatched-less : (K : List Clause) (n : ℕ) (R S P : List Literal) (w : Watched) → Includes S R → IsWatched K n S P w → IsWatched K n R P w
IsWatched-less K n R S P w sub (apart d a b) = apart d (not-in S R (negated w.first) sub a) (not-in S R (negated w.second) sub b)
IsWatched-less K n R S P w sub (first_true t) = first_true t
IsWatched-less K n R S P w sub (second_true t) = second_true t
IsWatched-less K n R S P w sub (other_true c y a m t) = other_true c y a m t
IsWatched-less K n R S P w sub (both_signs c a b) = both_signs c a b

pub Includes-take-le : (T : Trail) (a b : ℕ) → a ≤ b → Includes (literals (take b T)) (literals (take a T))
Includes-take-le [] zero zero le l h = h
Includes-take-le [] zero (suc b) le l h = h
Includes-take-le [] (suc a) zero le l h = h
Includes-take-le [] (suc a) (suc b) le l h = h
Includes-take-le (e ∷ T) zero b le l h = absurd (cc)
Includes-take-le (e ∷ T) (suc a) zero le l h = absurd (omega (arith, le))
Includes-take-le (e ∷ T) (suc a) (suc b) le l h = go (or-cases (same l e.lit) (has (literals (take a T)) l) h) (Includes-take-le T a b (omega (arith, le)) l)
  where
    go : (same l e.lit ≡ true) ⊎ (has (literals (take a T)) l ≡ true) → (has (literals (take a T)) l ≡ true → has (literals (take b T)) l ≡ true) → same l e.lit || has (literals (take b T)) l ≡ true
    go (inl x) more = or-left (same l e.lit) (has (literals (take b T)) l) x
    go (inr x) more = or-right (same l e.lit) (has (literals (take b T)) l) (more x)

-- the level of each entry is at most the current one
last-entry : (T : Trail) (d : Entry) → 0 < length T → current_level T ≡ (get_or T (length T - 1) d).level
last-entry T d h = ap level_at (slice_get-get_or T (length T - 1) d (omega (arith, h)))

rising-le : (low : ℕ) (T : Trail) (i j : ℕ) (d : Entry) → IsRisingFrom low T → i ≤ j → j < length T → (get_or T i d).level ≤ (get_or T j d).level
rising-le low [] i j d h k l = absurd (omega (arith, l))
rising-le low (e ∷ T) zero zero d h k l = omega arith
rising-le low (e ∷ T) zero (suc j) d h k l = rising-at e.level T j d h.1 (omega (arith, l))
rising-le low (e ∷ T) (suc i) zero d h k l = absurd (omega (arith, k))
rising-le low (e ∷ T) (suc i) (suc j) d h k l = rising-le e.level T i j d h.1 (omega (arith, k)) (omega (arith, l))

pub level-le : (T : Trail) (i : ℕ) (e : Entry) → IsRisingFrom 0 T → At T i e → e.level ≤ current_level T
level-le T i e lawful a =
    let some : 0 < length T = omega (arith, a.0) in
    let h : (get_or T i e).level ≤ (get_or T (length T - 1) e).level = rising-le 0 T i (length T - 1) e lawful (omega (arith, a.0)) (omega (arith, some)) in
    rw (last-entry T e some) (subst (λ (x : Entry). x.level ≤ (get_or T (length T - 1) e).level) a.1 h)

up_to-all : (T : Trail) (m : ℕ) → ((i : ℕ) (e : Entry) → At T i e → e.level ≤ m) → up_to T m ≡ T
up_to-all [] m h = refl
up_to-all (e ∷ T) m h =
    let here : e.level ≤ m = h 0 e ((let z : 0 < length (e ∷ T) = omega arith in z), refl) in
    let rest : up_to T m ≡ T = up_to-all T m (λ i f a. h (suc i) f ((let z : suc i < length (e ∷ T) = omega (arith, a.0) in z), a.1)) in
    step here rest
  where
    step : e.level ≤ m → up_to T m ≡ T → cond (nat_le e.level m) (e ∷ up_to T m) (up_to T m) ≡ e ∷ T
    step h r = go (nat_le e.level m) refl
      where
        go : (b : Bool) → nat_le e.level m ≡ b → cond b (e ∷ up_to T m) (up_to T m) ≡ e ∷ T
        go true x = ap (λ y. e ∷ y) r
        go false x = absurd (omega (arith, leb-false e.level m x, h))

pub up_to-current : (T : Trail) (m : ℕ) → IsRisingFrom 0 T → current_level T ≤ m → up_to T m ≡ T
up_to-current T m lawful h = up_to-all T m (λ i e a. omega (arith, level-le T i e lawful a, h))

pub up_to-up_to : (T : Trail) (m k : ℕ) → k ≤ m → up_to (up_to T m) k ≡ up_to T k
up_to-up_to [] m k h = refl
up_to-up_to (e ∷ T) m k h = go (nat_le e.level m) refl (nat_le e.level k) refl (up_to-up_to T m k h)
  where
    go : (a : Bool) → nat_le e.level m ≡ a → (b : Bool) → nat_le e.level k ≡ b → up_to (up_to T m) k ≡ up_to T k → up_to (cond a (e ∷ up_to T m) (up_to T m)) k ≡ cond b (e ∷ up_to T k) (up_to T k)
    go true x true y r = rw y (ap (λ z. e ∷ z) r)
    go true x false y r = rw y r
    go false x true y r = absurd (omega (arith, leb-false e.level m x, leb-true e.level k y, h))
    go false x false y r = r

-- a decision where propagation has nothing more to find; what was served until then may be less
-- than the trail
pub decided : (floor low : ℕ) (K : List Clause) (T : Trail) (e : Entry) (served : ℕ) (t : Tending) → IsRisingFrom 0 T → least_false (literals T) K ≡ None → ((n : ℕ) (c : Clause) → At K n c → unit_literal (literals T) c ≡ None) → served ≤ length T → low ≤ floor
    → Includes (literals (take served T)) (literals (take low T)) → e.level ≡ current_level T + 1 → IsServed floor K T served t → IsServed low K (T ++ e ∷ []) served t
decided floor low K T e served t rising none_false none_unit within less sub level s = record {
  tends = record {
    listed = s.tends.listed;
    exact = s.tends.exact;
    found = record {
      units = λ n h. let f = s.tends.found.units n h in (f.0, λ c a. let u = f.1 c a in (u.0, u.1, all-more (λ l. same u.0 l || has (literals T) (negated l)) (λ l. same u.0 l || has (literals (T ++ e ∷ [])) (negated l)) c (λ l m. one u.0 l (or-cases (same u.0 l) (has (literals T) (negated l)) m)) u.2));
      least = λ n h. let f = s.tends.found.least n h in (f.0, λ c a. all-more (λ l. has (literals T) (negated l)) (λ l. has (literals (T ++ e ∷ [])) (negated l)) c (λ l m. more (negated l) m) (f.1 c a));
      empties = s.tends.found.empties;
    };
    earlier = λ m h n c w a b. subst (λ (U : Trail). (c ≡ [] → ⊥) × IsWatched K n (literals (take low U)) (literals U) w) (sym (up_to-push T e m (high m h))) (below m n c w a b (cases_lt m (current_level T)));
  };
  good = subst (λ (U : Trail). AllGood K (literals U) (literals (T ++ e ∷ [])) t) (sym (take-append-le served T (e ∷ []) within))
      (λ n w a. Good-grow K (literals (take served T)) (literals T) (literals (T ++ e ∷ [])) t.units t.least w n more (s.good n w a));
}
  where
    high : (m : ℕ) → m < current_level (T ++ e ∷ []) → m < e.level
    high m h = subst (λ x. m < x) (current_level-push T e) h

    more : Includes (literals (T ++ e ∷ [])) (literals T)
    more l h = subst (λ (P : List Literal). has P l ≡ true) (sym (literals-push T e)) (has-push (literals T) e.lit l ∙ or-left (has (literals T) l) (same l e.lit) h)

    one : (y l : Literal) → (same y l ≡ true) ⊎ (has (literals T) (negated l) ≡ true) → same y l || has (literals (T ++ e ∷ [])) (negated l) ≡ true
    one y l (inl f) = or-left (same y l) (has (literals (T ++ e ∷ [])) (negated l)) f
    one y l (inr f) = or-right (same y l) (has (literals (T ++ e ∷ [])) (negated l)) (more (negated l) f)

    below : (m n : ℕ) (c : Clause) (w : Watched) → At K n c → At t.pairs n w → (m < current_level T) ⊎ (current_level T ≤ m) → (c ≡ [] → ⊥) × IsWatched K n (literals (take low (up_to T m))) (literals (up_to T m)) w
    below m n c w a b (inl x) =
        let r = s.tends.earlier m x n c w a b in
        (r.0, IsWatched-less K n (literals (take low (up_to T m))) (literals (take floor (up_to T m))) (literals (up_to T m)) w (Includes-take-le (up_to T m) low floor less) r.1)
    below m n c w a b (inr x) =
        let r = rest-held floor K T served t none_false none_unit s n c w a b in
        subst (λ (U : Trail). (c ≡ [] → ⊥) × IsWatched K n (literals (take low U)) (literals U) w) (sym (up_to-current T m rising x)) (r.0, IsWatched-less K n (literals (take low T)) (literals (take served T)) (literals T) w sub r.1)

-- the level of an earlier state
up_to-le : (T : Trail) (m i : ℕ) (e : Entry) → At (up_to T m) i e → e.level ≤ m
up_to-le [] m i e a = absurd (omega (arith, a.0))
up_to-le (f ∷ T) m i e a = go (nat_le f.level m) refl i a (λ k b. up_to-le T m k e b)
  where
    go : (b : Bool) → nat_le f.level m ≡ b → (k : ℕ) → At (cond b (f ∷ up_to T m) (up_to T m)) k e → ((j : ℕ) → At (up_to T m) j e → e.level ≤ m) → e.level ≤ m
    go true x zero c more = subst (λ (y : Entry). y.level ≤ m) c.1 (leb-true f.level m x)
    go true x (suc k) c more = more k ((let z : k < length (up_to T m) = omega (arith, c.0) in z), c.1)
    go false x k c more = more k c

pub up_to-level : (T : Trail) (m : ℕ) → current_level (up_to T m) ≤ m
up_to-level T m = go (cases_lt 0 (length (up_to T m)))
  where
    d : Entry
    d = record { lit = record { var = 0; positive = true }; reason = None; level = 0 }

    go : (0 < length (up_to T m)) ⊎ (length (up_to T m) ≤ 0) → current_level (up_to T m) ≤ m
    go (inl h) = rw (last-entry (up_to T m) d h) (up_to-le T m (length (up_to T m) - 1) (get_or (up_to T m) (length (up_to T m) - 1) d) (At-get (up_to T m) (length (up_to T m) - 1) d (omega (arith, h))))
    go (inr h) = nil (up_to T m) h
      where
        nil : (U : Trail) → length U ≤ 0 → current_level U ≤ m
        nil [] x = omega arith
        nil (e ∷ U) x = absurd (omega (arith, x))

-- back at an earlier level, from which a decision was made
pub went_back : (floor : ℕ) (K : List Clause) (T : Trail) (m : ℕ) (t u : Tending) → m < current_level T → u.pairs ≡ t.pairs → u.lists ≡ t.lists → u.units ≡ [] → u.least ≡ None → Tends floor K T t
    → IsServed floor K (up_to T m) (min floor (length (up_to T m))) u
went_back floor K T m t u h pairs lists units least s = record {
  tends = record {
    listed = record {
      length_pairs = rw pairs s.listed.length_pairs;
      pairs = λ n c w a b ne. s.listed.pairs n c w a (rw (← pairs) b) ne;
      listed = λ n c w a b ne one. rw lists (s.listed.listed n c w a (rw (← pairs) b) ne one);
      within = λ k ns n a b. s.listed.within k ns n (rw (← lists) a) b;
    };
    exact = rw (pairs, lists) s.exact;
    found = record {
      units = λ n x. let y : Contains [] n = subst (λ (xs : List ℕ). Contains xs n) units x in absurd (omega (arith, y.1));
      least = λ n x. let y : None ≡ Some n = sym least ∙ x in absurd (cc);
      empties = λ n a. absurd ((s.earlier m h n [] (get_or t.pairs n d) a (At-get t.pairs n d (rw s.listed.length_pairs a.0))).0 refl);
    };
    earlier = λ k x n c w a b.
        let low : k < m = omega (arith, x, up_to-level T m) in
        subst (λ (U : Trail). (c ≡ [] → ⊥) × IsWatched K n (literals (take floor U)) (literals U) w) (sym (up_to-up_to T m k (omega (arith, low)))) (s.earlier k (omega (arith, low, h)) n c w a (rw (← pairs) b));
  };
  good = λ n w a. held (subst (λ (U : Trail). IsWatched K n (literals U) (literals (up_to T m)) w) (sym (take_min floor (up_to T m))) (s.earlier m h n (get_or K n []) w (At-get K n [] (bound n w a)) (rw (← pairs) a)).1);
}
  where
    d : Watched
    d = record { first = record { var = 0; positive = true }; second = record { var = 0; positive = true } }

    bound : (n : ℕ) (w : Watched) → At u.pairs n w → n < length K
    bound n w a = let x : At t.pairs n w = rw (← pairs) a in omega (arith, x.0, s.listed.length_pairs)
