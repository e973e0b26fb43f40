-- A line with what is removable resolved has no literal but those that the walk over the current
-- level leaves, and none of level 0.
use Rattle.std.proofs.Common.{◌≡◌, ℕ, ◌-◌, ◌<◌, ◌≤◌, Bool, true, false, not, ◌&&◌, ◌||◌, List, [], ◌∷◌, ◌++◌, cond, refl, ap, sym, subst, ◌∙◌, nat_eq, nat_le, nat_lt, eqb-true, eq-eqb, leb-true, ltb-true, ◌⊎◌, inl, inr, Option, Some, None, is_some, append_assoc, append-nil, arith, if◌then◌else◌}
use Rattle.theory.specs.Literals.{Literal, Clause, negated, same, has, has_var, without}
use Rattle.theory.specs.Trails.{Entry, Trail, literals, current_level, entry_of, level_of, is_given, up_to}
use Rattle.theory.specs.Propagation.{clause_at, least_false}
use Rattle.theory.specs.Lawful.{IsReason, IsLawful}
use Rattle.theory.specs.Learning.{with_literals, resolved, reason_used, resolved_by, walk, is_of_cube}
use Rattle.theory.specs.Removing.{latest, first_walk, is_covered, is_removable, removable, learn_short}
use Rattle.theory.proofs.literals.LiteralLemmas.{not_true, and-left, and-right, or-cases}
use Rattle.theory.proofs.literals.LiteralSets.{Refutes, true_false, and-true, other-same, has-tail, has-cases, has_var-has, has-from_resolved, has-from_filter, list_all-has}
use Rattle.theory.proofs.trails.LawfulTrails.{least_false-at}
use Rattle.theory.proofs.trails.TrailEntries.{IsAt, entry_of-at}
use Rattle.theory.proofs.trails.TrailLevels.{level_of-at, has-up_to, level_of-before}
use Rattle.theory.proofs.searching.WalkParts.{walk-append, AreOfLevel, walk-latest, split-latest}
use Rattle.theory.proofs.searching.Walks.{walk-keeps, at-place, reason_used-reason, reason_used-resolved, reason_used-none, resolved-at_zero, resolved-at_removable, resolved-below, grounded-place, Refutes-others, Refutes-resolved, Refutes-begin}
use Rattle.theory.proofs.searching.SearchSteps.{above_zero}
use Rattle.theory.proofs.searching.EmptyLines.{push-cases, negation-of_entry}

-- what it is to be removable: by an entry between level 0 and the current one, whose reason's other
-- literals are of level 0, in S, or removable
record Covered (K : List Clause) (T : Trail) (S : Clause) (R : List Literal) (r : Literal) : Type 0 where
  entry : Entry
  on_trail : IsAt T entry
  is_it : r ≡ negated entry.lit
  above : 1 ≤ entry.level
  lower : entry.level < current_level T
  number : ℕ
  reason : entry.reason ≡ Some number
  others : (k : Literal) → has (without (clause_at K number) entry.lit) k ≡ true → (level_of T k ≡ 0) ⊎ ((has S k ≡ true) ⊎ (has R k ≡ true))

AreCovered : List Clause → Trail → Clause → List Literal → Type 0
AreCovered K T S R = (r : Literal) → has R r ≡ true → Covered K T S R r

removable-covered : (K : List Clause) (T : Trail) (S : Clause) (before es : Trail) (R : List Literal) → T ≡ before ++ es → AreCovered K T S R → AreCovered K T S (removable K T S es R)
unfolding AreCovered
removable-covered K T S before [] R place h = h
removable-covered K T S before (e ∷ es) R place h = go (is_removable K T S R e) refl (λ U. removable-covered K T S (before ++ e ∷ []) es U (place ∙ sym (append_assoc before (e ∷ []) es)))
  where
    longer : (k r : Literal) → Covered K T S R r → Covered K T S (k ∷ R) r
    longer k r c = record {
      entry = c.entry;
      on_trail = c.on_trail;
      is_it = c.is_it;
      above = c.above;
      lower = c.lower;
      number = c.number;
      reason = c.reason;
      others = λ j a. elim (c.others j a) [ inl z ↦ inl z | inr (inl s) ↦ inr (inl s) | inr (inr s) ↦ inr (inr (has-tail k j R s)) ];
    }

    here : (o : Option ℕ) → e.reason ≡ o → nat_lt 0 e.level && (nat_lt e.level (current_level T) && is_covered K T S R e.lit o) ≡ true → Covered K T S (negated e.lit ∷ R) (negated e.lit)
    here None q t = absurd (true_false (is_covered K T S R e.lit None) (and-right (nat_lt e.level (current_level T)) (is_covered K T S R e.lit None) (and-right (nat_lt 0 e.level) _ t)) refl)
    here (Some n) q t =
        let inner = and-right (nat_lt 0 e.level) (nat_lt e.level (current_level T) && is_covered K T S R e.lit (Some n)) t in
        record {
          entry = e;
          on_trail = at-place T before e es place;
          is_it = refl;
          above = ltb-true 0 e.level (and-left (nat_lt 0 e.level) _ t);
          lower = ltb-true e.level (current_level T) (and-left (nat_lt e.level (current_level T)) (is_covered K T S R e.lit (Some n)) inner);
          number = n;
          reason = q;
          others = λ k a. which k (list_all-has (λ j. nat_eq (level_of T j) 0 || (has S j || has R j)) (without (clause_at K n) e.lit) k (and-right (nat_lt e.level (current_level T)) (is_covered K T S R e.lit (Some n)) inner) a);
        }
      where
        which : (k : Literal) → nat_eq (level_of T k) 0 || (has S k || has R k) ≡ true → (level_of T k ≡ 0) ⊎ ((has S k ≡ true) ⊎ (has (negated e.lit ∷ R) k ≡ true))
        which k v = elim (or-cases (nat_eq (level_of T k) 0) (has S k || has R k) v) [
          | inl z ↦ inl (eqb-true (level_of T k) 0 z)
          | inr more ↦ elim (or-cases (has S k) (has R k) more) [ inl s ↦ inr (inl s) | inr s ↦ inr (inr (has-tail (negated e.lit) k R s)) ]
        ]

    with_it : is_removable K T S R e ≡ true → (r : Literal) → has (negated e.lit ∷ R) r ≡ true → Covered K T S (negated e.lit ∷ R) r
    with_it t r a = elim (has-cases (negated e.lit) r R a) [
      | inl i ↦ subst (Covered K T S (negated e.lit ∷ R)) (sym i) (here e.reason refl t)
      | inr b ↦ longer (negated e.lit) r (h r b)
    ]

    go : (b : Bool) → is_removable K T S R e ≡ b → ((U : List Literal) → ((r : Literal) → has U r ≡ true → Covered K T S U r) → (r : Literal) → has (removable K T S es U) r ≡ true → Covered K T S (removable K T S es U) r)
        → (r : Literal) → has (removable K T S es (if b then negated e.lit ∷ R else R)) r ≡ true → Covered K T S (removable K T S es (if b then negated e.lit ∷ R else R)) r
    go true t more = more (negated e.lit ∷ R) (with_it t)
    go false t more = more R h

-- the walk below the current level, over entries es with the trail's rest behind them
walk-on : (K : List Clause) (T : Trail) (R : List Literal) (I : Trail → Clause × List ℕ → Type 0)
    → ((before : Trail) (e : Entry) (es : Trail) (w : Clause × List ℕ) → T ≡ before ++ e ∷ es → e.level < current_level T → reason_used T R w.0 e ≡ None → I (before ++ e ∷ []) w → I before w)
    → ((before : Trail) (e : Entry) (es : Trail) (w : Clause × List ℕ) (n : ℕ) → T ≡ before ++ e ∷ es → e.level < current_level T → reason_used T R w.0 e ≡ Some n → I (before ++ e ∷ []) w
    → I before (resolved w.0 e.lit (clause_at K n), n ∷ w.1))
    → (before es rest : Trail) (S : Clause) (hints : List ℕ) → T ≡ before ++ (es ++ rest) → ((e : Entry) → IsAt es e → e.level < current_level T) → I (before ++ es) (S, hints) → I before (walk K T R es S hints)
walk-on K T R I pass resolve before [] rest S hints place lower start = subst (λ x. I x (S, hints)) (append-nil before) start
walk-on K T R I pass resolve before (e ∷ es) rest S hints place lower start =
    go (reason_used T R w.0 e) refl (walk-on K T R I pass resolve (before ++ e ∷ []) es rest S hints (place ∙ sym (append_assoc before (e ∷ []) (es ++ rest)))
    (λ f a. lower f (record { before = e ∷ a.before; behind = a.behind; split = ap (λ U. e ∷ U) a.split })) (subst (λ x. I x (S, hints)) (sym (append_assoc before (e ∷ []) es)) start))
  where
    w : Clause × List ℕ
    w = walk K T R es S hints

    low : e.level < current_level T
    low = lower e (record { before = []; behind = es; split = refl })

    go : (r : Option ℕ) → reason_used T R w.0 e ≡ r → I (before ++ e ∷ []) w → I before (resolved_by K e w r)
    go None h i = pass before e (es ++ rest) w place low h i
    go (Some n) h i = resolve before e (es ++ rest) w n place low h i

-- an entry of a trail up to a level is at most of that level
up_to-level : (T : Trail) (b : ℕ) (A : Trail) (e : Entry) (B : Trail) → up_to T b ≡ A ++ e ∷ B → e.level ≤ b
up_to-level [] b [] e B h = absurd (cc)
up_to-level [] b (a ∷ A) e B h = absurd (cc)
up_to-level (x ∷ T) b A e B h = go (nat_le x.level b) refl A h (λ C k. up_to-level T b C e B k)
  where
    go : (t : Bool) → nat_le x.level b ≡ t → (A : Trail) → cond t (x ∷ up_to T b) (up_to T b) ≡ A ++ e ∷ B → ((C : Trail) → up_to T b ≡ C ++ e ∷ B → e.level ≤ b) → e.level ≤ b
    go true t [] k more = let it : x ≡ e = cc in subst (λ (y : Entry). y.level ≤ b) it (leb-true x.level b t)
    go true t (a ∷ A) k more = more A (let it : up_to T b ≡ A ++ e ∷ B = cc in it)
    go false t A k more = more A k

module _ (K : List Clause) (T : Trail) (S : Clause) (R : List Literal) (lawful : IsLawful K T) (covered : AreCovered K T S R) where
  -- where a literal of the walk's set comes from, behind the entries before
  ComesFrom : Trail → Literal → Type 0
  ComesFrom before l = (is_of_cube T l ≡ true) ⊎ (((has S l ≡ true) × (1 ≤ level_of T l)) ⊎ (((level_of T l ≡ 0) ⊎ (has R l ≡ true)) × (has_var (literals before) l.var ≡ true)))

  record Shortens (before : Trail) (w : Clause × List ℕ) : Type 0 where
    refuted : Refutes (literals T) w.0
    comes : (l : Literal) → has w.0 l ≡ true → ComesFrom before l

  -- the removable literal of an entry is removable by it
  same-entry : (e f : Entry) → IsAt T e → IsAt T f → e.lit.var ≡ f.lit.var → e ≡ f
  same-entry e f a b v =
      let one : entry_of T e.lit.var ≡ Some e = entry_of-at K T e lawful a in
      let other : entry_of T e.lit.var ≡ Some f = ap (entry_of T) v ∙ entry_of-at K T f lawful b in
      let both : Some e ≡ Some f = sym one ∙ other in
      cc

  Shortens-pass : (before : Trail) (e : Entry) (es : Trail) (w : Clause × List ℕ) → T ≡ before ++ e ∷ es → e.level < current_level T → reason_used T R w.0 e ≡ None → Shortens (before ++ e ∷ []) w → Shortens before w
  unfolding AreCovered ComesFrom
  Shortens-pass before e es w place low none i = record { refuted = i.refuted; comes = λ l a. first l a (i.comes l a) }
    where
      at : IsAt T e
      at = at-place T before e es place

      -- at level 0 it has no reason
      zeroth : (l : Literal) → has w.0 l ≡ true → e.lit.var ≡ l.var → l ≡ negated e.lit → level_of T l ≡ 0 → is_of_cube T l ≡ true
      zeroth l a v it z =
          let level : e.level ≡ 0 = sym (level_of-at K T e l lawful at v) ∙ z in
          let zero_level : nat_eq e.level 0 ≡ true = eq-eqb e.level 0 level in
          let met : has w.0 (negated e.lit) ≡ true = subst (λ x. has w.0 x ≡ true) it a in
          let bare : e.reason ≡ None = reason_used-none T R w.0 e none (resolved-at_zero T R w.0 e met zero_level) in
          let found : entry_of T e.lit.var ≡ Some e = entry_of-at K T e lawful at in
          let here : is_given (entry_of T e.lit.var) ≡ true = ap is_given found ∙ and-true (nat_eq e.level 0) (not (is_some e.reason)) zero_level (ap (λ o. not (is_some o)) bare) in
          subst (λ n. is_given (entry_of T n) ≡ true) v here

      -- where it is removable, it is resolved
      removed : (l : Literal) → has w.0 l ≡ true → l ≡ negated e.lit → has R l ≡ true → ⊥
      removed l a it r =
          let c = covered l r in
          let same_var : e.lit.var ≡ c.entry.lit.var = ap (λ (x : Literal). x.var) (sym it ∙ c.is_it) in
          let one : e ≡ c.entry = same-entry e c.entry at c.on_trail same_var in
          let met : has w.0 (negated e.lit) ≡ true = subst (λ x. has w.0 x ≡ true) it a in
          let in_r : has R (negated e.lit) ≡ true = subst (λ x. has R x ≡ true) it r in
          let bare : e.reason ≡ None = reason_used-none T R w.0 e none (resolved-at_removable T R w.0 e met in_r low) in
          let reason : e.reason ≡ Some c.number = ap (λ (x : Entry). x.reason) one ∙ c.reason in
          cc

      first : (l : Literal) → has w.0 l ≡ true → ComesFrom (before ++ e ∷ []) l → ComesFrom before l
      first l a (inl g) = inl g
      first l a (inr (inl g)) = inr (inl g)
      first l a (inr (inr g)) = elim (push-cases before e l.var g.1) [
        | inl j ↦ inr (inr (g.0, j))
        | inr j ↦ (
            let it = negation-of_entry K T e w.0 l lawful at i.refuted a j in
            elim g.0 [ inl z ↦ inl (zeroth l a j it z) | inr r ↦ absurd (removed l a it r) ]
            )
      ]

  Shortens-resolve : (before : Trail) (e : Entry) (es : Trail) (w : Clause × List ℕ) (n : ℕ) → T ≡ before ++ e ∷ es → e.level < current_level T → reason_used T R w.0 e ≡ Some n → Shortens (before ++ e ∷ []) w
      → Shortens before (resolved w.0 e.lit (clause_at K n), n ∷ w.1)
  unfolding AreCovered ComesFrom
  Shortens-resolve before e es w n place low used i = record {
    refuted = Refutes-resolved K T R before e es w.0 n lawful place used i.refuted;
    comes = λ l a. elim (has-from_resolved w.0 (clause_at K n) e.lit l a) [ inl b ↦ old l b (i.comes l b.0) | inr b ↦ new l b ];
  }
    where
      at : IsAt T e
      at = at-place T before e es place

      grounded : (e.level ≡ current_level before) × IsReason K (literals before) e.lit n
      grounded = grounded-place K T R before e es w.0 n lawful place used

      old : (l : Literal) → (has w.0 l ≡ true) × (same (negated e.lit) l ≡ false) → ComesFrom (before ++ e ∷ []) l → ComesFrom before l
      old l b (inl g) = inl g
      old l b (inr (inl g)) = inr (inl g)
      old l b (inr (inr g)) = elim (push-cases before e l.var g.1) [
        | inl j ↦ inr (inr (g.0, j))
        | inr j ↦ absurd (other-same (negated e.lit) l b.1 (sym (negation-of_entry K T e w.0 l lawful at i.refuted b.0 j)))
      ]

      new : (l : Literal) → has (without (clause_at K n) e.lit) l ≡ true → ComesFrom before l
      new l b = go (resolved-below T R w.0 e low (reason_used-resolved T R w.0 e n used))
        where
          there : has_var (literals before) l.var ≡ true
          there = has_var-has (literals before) (negated l) (Refutes-others K (literals before) e.lit n grounded.1 l b)

          from_set : has S l ≡ true → ComesFrom before l
          from_set s = level (nat_eq (level_of T l) 0) refl
            where
              level : (x : Bool) → nat_eq (level_of T l) 0 ≡ x → ComesFrom before l
              level true x = inr (inr (inl (eqb-true (level_of T l) 0 x), there))
              level false x = inr (inl (s, above_zero (level_of T l) x))

          by_entry : has R (negated e.lit) ≡ true → ComesFrom before l
          by_entry r =
              let c = covered (negated e.lit) r in
              let same_var : e.lit.var ≡ c.entry.lit.var = ap (λ (x : Literal). x.var) c.is_it in
              let one : e ≡ c.entry = same-entry e c.entry at c.on_trail same_var in
              let reason : Some n ≡ Some c.number = sym (reason_used-reason T R w.0 e n used) ∙ (ap (λ (x : Entry). x.reason) one ∙ c.reason) in
              let number : n ≡ c.number = cc in
              let here : has (without (clause_at K c.number) c.entry.lit) l ≡ true
              = subst (λ (x : Entry). has (without (clause_at K c.number) x.lit) l ≡ true) one (subst (λ m. has (without (clause_at K m) e.lit) l ≡ true) number b) in
              elim (c.others l here) [ inl z ↦ inr (inr (inl z, there)) | inr (inl s) ↦ from_set s | inr (inr s) ↦ inr (inr (inr s, there)) ]

          go : (e.level ≡ 0) ⊎ (has R (negated e.lit) ≡ true) → ComesFrom before l
          go (inl z) =
              let most : level_of T l ≤ current_level before = level_of-before K T before (e ∷ es) l lawful place there in
              let level = grounded.0 in
              inr (inr (inl (omega (arith, most, level, z)), there))
          go (inr r) = by_entry r

-- Each literal of the shorter line is above level 0, and one of those that the walk over the
-- current level leaves.
pub learn_short-part : (K : List Clause) (T : Trail) (n : ℕ) → IsLawful K T → 1 ≤ current_level T → least_false (literals T) K ≡ Some n
    → (l : Literal) → has (learn_short K T n).clause l ≡ true → (has (first_walk K T n).0 l ≡ true) × (1 ≤ level_of T l)
unfolding ComesFrom AreCovered
learn_short-part K T n lawful above clash l a = last (done.comes l (has-from_filter (λ k. not (is_of_cube T k)) (walk K T R T S0 (n ∷ [])).0 l a).0)
  where
    c : ℕ
    c = current_level T

    S0 : Clause
    S0 = with_literals (clause_at K n) []

    A : Trail
    A = up_to T (c - 1)

    B : Trail
    B = latest T

    S : Clause
    S = (first_walk K T n).0

    R : List Literal
    R = removable K T S T []

    split : (T ≡ A ++ B) × AreOfLevel c B
    split = split-latest K [] T c lawful refl above

    parted : walk K T R T S0 (n ∷ []) ≡ walk K T R A S (first_walk K T n).1
    parted = ap (λ (U : Trail). walk K T R U S0 (n ∷ [])) split.0
        ∙ (walk-append K T R A B S0 (n ∷ []) ∙ ap (λ (w : Clause × List ℕ). walk K T R A w.0 w.1) (walk-latest K T R B S0 (n ∷ []) split.1))

    false_set : Refutes (literals T) S
    false_set = walk-keeps K T [] (λ before w. Refutes (literals T) w.0) (λ before e es w place h i. i) (λ before e es w m place h i. Refutes-resolved K T [] before e es w.0 m lawful place h i)
        A B S0 (n ∷ []) split.0 (Refutes-begin K T n (least_false-at (literals T) K n clash).2)

    lower : (e : Entry) → IsAt A e → e.level < c
    lower e at = let most = up_to-level T (c - 1) at.before e at.behind at.split in omega (arith, most, above)

    start : Shortens K T S R lawful (removable-covered K T S [] T [] refl (λ r h. absurd (cc))) A (S, (first_walk K T n).1)
    start = record { refuted = false_set; comes = λ k b. level k b (nat_eq (level_of T k) 0) refl }
      where
        level : (k : Literal) → has S k ≡ true → (x : Bool) → nat_eq (level_of T k) 0 ≡ x → ComesFrom K T S R lawful (removable-covered K T S [] T [] refl (λ r h. absurd (cc))) A k
        level k b true x =
            let z : level_of T k ≡ 0 = eqb-true (level_of T k) 0 x in
            inr (inr (inl z, has_var-has (literals A) (negated k) (has-up_to K T (c - 1) (negated k) lawful (false_set k b) (omega (arith, z)))))
        level k b false x = inr (inl (b, above_zero (level_of T k) x))

    done : Shortens K T S R lawful (removable-covered K T S [] T [] refl (λ r h. absurd (cc))) [] (walk K T R T S0 (n ∷ []))
    done = subst (Shortens K T S R lawful (removable-covered K T S [] T [] refl (λ r h. absurd (cc))) []) (sym parted)
        (walk-on K T R (Shortens K T S R lawful (removable-covered K T S [] T [] refl (λ r h. absurd (cc)))) (Shortens-pass K T S R lawful (removable-covered K T S [] T [] refl (λ r h. absurd (cc))))
        (Shortens-resolve K T S R lawful (removable-covered K T S [] T [] refl (λ r h. absurd (cc)))) [] A B S (first_walk K T n).1 split.0 lower start)

    kept : is_of_cube T l ≡ false
    kept = not_true (is_of_cube T l) (has-from_filter (λ k. not (is_of_cube T k)) (walk K T R T S0 (n ∷ [])).0 l a).1

    last : ComesFrom K T S R lawful (removable-covered K T S [] T [] refl (λ r h. absurd (cc))) [] l → (has S l ≡ true) × (1 ≤ level_of T l)
    last (inl g) = true_false (is_of_cube T l) g kept
    last (inr (inl g)) = g
    last (inr (inr g)) = absurd (let none = g.1 in cc)
