-- The line of a unit of level 0 passes the checker by its hints.
use Rattle.std.proofs.Common.{◌≡◌, ℕ, Bool, true, false, not, ◌||◌, List, [], ◌∷◌, ◌++◌, refl, ap, sym, subst, ◌∙◌, nat_eq, eqb-true, eq-eqb, ◌⊎◌, inl, inr, Option, Some, None, is_some, append_assoc, append-nil, arith, if◌then◌else◌}
use Rattle.std.specs.List.{list_any}
use Rattle.theory.specs.Literals.{Literal, Clause, negated, negations, same, has, has_var, has_both_signs, without}
use Rattle.theory.specs.Trails.{Entry, Trail, literals, current_level, entry_of, is_given}
use Rattle.theory.specs.Propagation.{clause_at}
use Rattle.theory.specs.Lawful.{IsReason, IsGrounded, IsLawfulEntry, IsLawful, cube_of}
use Rattle.theory.specs.Learning.{is_of_cube}
use Rattle.theory.specs.Checking.{Numbered, clause_of, unit_in, hint, take_hints, conflicts}
use Rattle.theory.specs.Replaying.{carrying_from, Passes}
use Rattle.theory.specs.Units.{has_two, reason_against, with_number, reasons_against, unit_line, IsUnit, AreUnits}
use Rattle.theory.proofs.literals.LiteralLemmas.{and-right, or-cases, or-left}
use Rattle.theory.proofs.literals.LiteralSets.{Refutes, true_false, false_unless, and-true, not-false, other-same, one_or_other, negated-negated, negated-other, has-head, has-tail, has-cases, has-equal, has_var-has, has_var-none, literal_of_var, has-negations, has-from_negations, Refutes-negations, has_both_signs-none, has-without}
use Rattle.theory.proofs.checker.Hints.{hint-false, hint-unit, take_hints-false, take_hints-unit}
use Rattle.theory.proofs.trails.TrailEntries.{IsAt, has-literals_at, entry_of-at, level-at, literals-consistent, has-from_cube_of, has-cube_of}
use Rattle.theory.proofs.searching.Walks.{at-place, entry-place, has-before, Refutes-others}
use Rattle.theory.proofs.searching.EmptyLines.{push-cases, negation-of_entry}
use Rattle.theory.proofs.searching.LearntLines.{AreThere, AreThere-carrying}

-- a clause of which no two literals differ has one
pub has_two-one : (c : Clause) (k l : Literal) → has_two c ≡ false → has c k ≡ true → has c l ≡ true → k ≡ l
has_two-one [] k l h a b = absurd (cc)
has_two-one (j ∷ c) k l h a b = first k a ∙ sym (first l b)
  where
    rest : (d : Clause) (x : Literal) → list_any (λ y. not (same j y)) d ≡ false → has d x ≡ true → x ≡ j
    rest [] x n i = absurd (cc)
    rest (y ∷ d) x n i = go (one_or_other j y) n (has-cases y x d i) (rest d x)
      where
        go : (j ≡ y) ⊎ (same j y ≡ false) → not (same j y) || list_any (λ z. not (same j z)) d ≡ false → (x ≡ y) ⊎ (has d x ≡ true)
            → (list_any (λ z. not (same j z)) d ≡ false → has d x ≡ true → x ≡ j) → x ≡ j
        go (inl e) m (inl i) more = i ∙ sym e
        go (inl e) m (inr i) more = more (tail (not (same j y)) m) i
          where
            tail : (b : Bool) → b || list_any (λ z. not (same j z)) d ≡ false → list_any (λ z. not (same j z)) d ≡ false
            tail false q = q
            tail true q = absurd (cc)
        go (inr e) m i more = absurd (true_false (not (same j y) || list_any (λ z. not (same j z)) d) (or-left (not (same j y)) (list_any (λ z. not (same j z)) d) (not-false (same j y) e)) m)

    first : (x : Literal) → has (j ∷ c) x ≡ true → x ≡ j
    first x i = elim (has-cases j x c i) [ inl e ↦ e | inr r ↦ rest c x h r ]

-- where two literals differ, there is one beside each
pub has_two-other : (c : Clause) (l : Literal) → has_two c ≡ true → has c l ≡ true → ((k : Literal) → has c k ≡ true → k ≡ l) → ⊥
has_two-other [] l h a one = cc
has_two-other (j ∷ c) l h a one =
    let found = other c h in
    other-same j found.0 found.2 (one j (has-head j c) ∙ sym (one found.0 (has-tail j found.0 c found.1)))
  where
    other : (d : Clause) → list_any (λ k. not (same j k)) d ≡ true → (x : Literal) × (has d x ≡ true) × (same j x ≡ false)
    other [] n = absurd (cc)
    other (y ∷ d) n = go (one_or_other j y) (or-cases (not (same j y)) (list_any (λ k. not (same j k)) d) n) (other d)
      where
        later : ((x : Literal) × (has d x ≡ true) × (same j x ≡ false)) → (x : Literal) × (has (y ∷ d) x ≡ true) × (same j x ≡ false)
        later f = (f.0, has-tail y f.0 d f.1, f.2)

        go : (j ≡ y) ⊎ (same j y ≡ false) → (not (same j y) ≡ true) ⊎ (list_any (λ k. not (same j k)) d ≡ true)
            → (list_any (λ k. not (same j k)) d ≡ true → (x : Literal) × (has d x ≡ true) × (same j x ≡ false)) → (x : Literal) × (has (y ∷ d) x ≡ true) × (same j x ≡ false)
        go (inr e) n more = (y, has-head y d, e)
        go (inl e) (inr r) more = later (more r)
        go (inl e) (inl n) more = absurd (let m : not (same j j) ≡ true = subst (λ (x : Literal). not (same j x) ≡ true) (sym e) n in
            elim (one_or_other j j) [ inl q ↦ go_on (same j j) m (λ f. other-same j j f refl) | inr f ↦ other-same j j f refl ])
          where
            go_on : (b : Bool) → not b ≡ true → (b ≡ false → ⊥) → ⊥
            go_on false p f = f refl
            go_on true p f = cc

-- behind the entries done: with the literals P0 hold at most those of these entries, and each
-- literal of c of their variables is the cube's or false
record Led (T : Trail) (done : Trail) (c : Clause) (P0 P : List Literal) : Type 0 where
  more : (l : Literal) → has P0 l ≡ true → has P l ≡ true
  few : (v : ℕ) → has_var P v ≡ true → (has_var P0 v ≡ true) ⊎ (has_var (literals done) v ≡ true)
  told : (l : Literal) → has c l ≡ true → has_var (literals done) l.var ≡ true → (is_of_cube T l ≡ true) ⊎ (has P (negated l) ≡ true)

module _ (K : List Clause) (T : Trail) (Q : List Literal) (there : Numbered) (c : Clause) (P0 : List Literal) (ns : List ℕ) (lawful : IsLawful K T) (level : current_level T ≡ 0)
    (all : AreThere K Q there (λ n. n)) (false_cube : Refutes P0 (negations Q)) (false_here : Refutes (literals T) c)
    (new : (e : Entry) (n : ℕ) → IsAt T e → has c (negated e.lit) ≡ true → e.reason ≡ Some n → has_var P0 e.lit.var ≡ false) where
  -- an entry that has no literal of c to make false, or no reason
  Led-pass : (done : Trail) (e : Entry) (es : Trail) (P : List Literal) → T ≡ done ++ e ∷ es → reason_against c e ≡ None → Led T done c P0 P → Led T (done ++ e ∷ []) c P0 P
  Led-pass done e es P place none i = record {
    more = i.more;
    few = λ v h. elim (i.few v h) [ inl a ↦ inl a | inr a ↦ inr (longer v a) ];
    told = λ l a h. elim (push-cases done e l.var h) [ inl b ↦ i.told l a b | inr b ↦ inl (given l a b (has c (negated e.lit)) refl e.reason refl none) ];
  }
    where
      at : IsAt T e
      at = at-place T done e es place

      longer : (v : ℕ) → has_var (literals done) v ≡ true → has_var (literals (done ++ e ∷ [])) v ≡ true
      longer v a =
          let f = literal_of_var (literals done) v a in
          subst (λ n. has_var (literals (done ++ e ∷ [])) n ≡ true) f.2 (has_var-has (literals (done ++ e ∷ [])) f.0 (has-before (done ++ e ∷ []) done e [] f.0 refl f.1))

      given : (l : Literal) → has c l ≡ true → e.lit.var ≡ l.var → (b : Bool) → has c (negated e.lit) ≡ b → (r : Option ℕ) → e.reason ≡ r → (if b then e.reason else None) ≡ None → is_of_cube T l ≡ true
      given l a v false m r q h = absurd (true_false (has c (negated e.lit)) (subst (λ x. has c x ≡ true) (negation-of_entry K T e c l lawful at false_here a v) a) m)
      given l a v true m (Some n) q h = absurd (cc)
      given l a v true m None q h =
          let found : entry_of T e.lit.var ≡ Some e = entry_of-at K T e lawful at in
          let top = level-at K T e lawful at in
          let zeroth : nat_eq e.level 0 ≡ true = eq-eqb e.level 0 (omega (arith, top, level)) in
          let here : is_given (entry_of T e.lit.var) ≡ true = ap is_given found ∙ and-true (nat_eq e.level 0) (not (is_some e.reason)) zeroth (ap (λ o. not (is_some o)) q) in
          subst (λ n. is_given (entry_of T n) ≡ true) v here

  -- an entry whose reason is a hint
  Led-hint : (done : Trail) (e : Entry) (es : Trail) (P : List Literal) (n : ℕ) → T ≡ done ++ e ∷ es → has c (negated e.lit) ≡ true → e.reason ≡ Some n
      → Led T done c P0 P → Led T (done ++ e ∷ []) c P0 (e.lit ∷ P)
  Led-hint done e es P n place met reason i = record {
    more = λ l a. has-tail e.lit l P (i.more l a);
    few = λ v h. elim (or-cases (nat_eq v e.lit.var) (has_var P v) h) [
      | inl a ↦ inr (here v a)
      | inr a ↦ elim (i.few v a) [ inl b ↦ inl b | inr b ↦ inr (longer v b) ]
    ];
    told = λ l a h. elim (push-cases done e l.var h) [
      | inl b ↦ elim (i.told l a b) [ inl g ↦ inl g | inr g ↦ inr (has-tail e.lit (negated l) P g) ]
      | inr b ↦ inr (has-equal e.lit (negated l) P (ap negated (negation-of_entry K T e c l lawful at false_here a b) ∙ negated-negated e.lit))
    ];
  }
    where
      at : IsAt T e
      at = at-place T done e es place

      longer : (v : ℕ) → has_var (literals done) v ≡ true → has_var (literals (done ++ e ∷ [])) v ≡ true
      longer v a =
          let f = literal_of_var (literals done) v a in
          subst (λ n. has_var (literals (done ++ e ∷ [])) n ≡ true) f.2 (has_var-has (literals (done ++ e ∷ [])) f.0 (has-before (done ++ e ∷ []) done e [] f.0 refl f.1))

      here : (v : ℕ) → nat_eq v e.lit.var ≡ true → has_var (literals (done ++ e ∷ [])) v ≡ true
      here v a = subst (λ n. has_var (literals (done ++ e ∷ [])) n ≡ true) (sym (eqb-true v e.lit.var a))
          (has_var-has (literals (done ++ e ∷ [])) e.lit (has-literals_at (done ++ e ∷ []) e (record { before = done; behind = []; split = refl })))

  -- an entry's reason is unit, where its variable is new
  unit-hint : (e : Entry) (P : List Literal) (n : ℕ) → IsUnit K e.lit (Some n) → has_var P e.lit.var ≡ false → ((l : Literal) → has P0 l ≡ true → has P l ≡ true) → hint P (clause_of there n) ≡ unit_in e.lit
  unit-hint e P n unit free more =
      let d = all n unit.0 unit.1 in
      ap (hint P) d.1 ∙ hint-unit P d.0 e.lit (d.2.within e.lit unit.2) free (λ k a s. elim (d.2.besides k a) [
        | inl i ↦ absurd (other-same e.lit k s (has_two-one (clause_at K n) e.lit k unit.3 unit.2 i))
        | inr i ↦ more (negated k) (false_cube k i)
      ])

  -- from the entries that are left of those before, the hints lead to what is behind them
  lead : (before rest done es : Trail) (P : List Literal) → T ≡ before ++ rest → before ≡ done ++ es → AreUnits K es → Led T done c P0 P
      → ((R : List Literal) → Led T before c P0 R → take_hints there R ns ≡ conflicts) → take_hints there P (reasons_against es c ++ ns) ≡ conflicts
  lead before rest done [] P whole place units i end = end P (subst (λ (x : Trail). Led T x c P0 P) (sym (place ∙ append-nil done)) i)
  lead before rest done (e ∷ es) P whole place units i end = go (has c (negated e.lit)) refl e.reason refl units.0 (λ R. lead before rest (done ++ e ∷ []) es R whole next units.1)
    where
      next : before ≡ (done ++ e ∷ []) ++ es
      next = place ∙ sym (append_assoc done (e ∷ []) es)

      here : T ≡ done ++ e ∷ (es ++ rest)
      here = whole ∙ (ap (λ (x : Trail). x ++ rest) place ∙ append_assoc done (e ∷ es) rest)

      More : List Literal → Type 0
      More R = Led T (done ++ e ∷ []) c P0 R → ((S : List Literal) → Led T before c P0 S → take_hints there S ns ≡ conflicts) → take_hints there R (reasons_against es c ++ ns) ≡ conflicts

      free : (n : ℕ) → has c (negated e.lit) ≡ true → e.reason ≡ Some n → has_var P e.lit.var ≡ false
      free n met reason = false_unless (has_var P e.lit.var) (λ t. elim (i.few e.lit.var t) [
        | inl a ↦ true_false (has_var P0 e.lit.var) a (new e n (at-place T done e (es ++ rest) here) met reason)
        | inr a ↦ true_false (has_var (literals done) e.lit.var) a (entry-place K T done e (es ++ rest) lawful here).is_new
      ])

      go : (b : Bool) → has c (negated e.lit) ≡ b → (r : Option ℕ) → e.reason ≡ r → IsUnit K e.lit r → ((R : List Literal) → More R)
          → take_hints there P (with_number (if b then r else None) (reasons_against es c) ++ ns) ≡ conflicts
      go false m r q unit more = more P (Led-pass done e (es ++ rest) P here (rw m refl) i) end
      go true m None q unit more = more P (Led-pass done e (es ++ rest) P here (rw m q) i) end
      go true m (Some n) q unit more =
          take_hints-unit there P n (reasons_against es c ++ ns) e.lit conflicts (unit-hint e P n unit (free n m q) i.more) (more (e.lit ∷ P) (Led-hint done e (es ++ rest) P n here m q i) end)

-- The line of a unit, with the negations of the cube, passes by its hints.
pub Passes-unit_line : (N : ℕ) (K : List Clause) (T before : Trail) (e : Entry) (es : Trail) (n : ℕ) → IsLawful K T → current_level T ≡ 0 → T ≡ before ++ e ∷ es → e.reason ≡ Some n → AreUnits K before
    → Passes N (cube_of T) K (unit_line K before e.lit n)
Passes-unit_line N K T before e es n lawful level place reason units =
    lead K T Q there c P0 (n ∷ []) lawful level all false_cube false_here new before (e ∷ es) [] before P0 place refl units
    (record { more = λ l a. a; few = λ v h. inl h; told = λ l a h. absurd (cc) }) end
  where
    Q : List Literal
    Q = cube_of T

    there : Numbered
    there = carrying_from 1 N Q K

    all : AreThere K Q there (λ n. n)
    all = AreThere-carrying N Q K

    c : Clause
    c = without (clause_at K n) e.lit

    d : Clause
    d = e.lit ∷ negations Q

    P0 : List Literal
    P0 = negations d

    entry : IsLawfulEntry K before e
    entry = entry-place K T before e es lawful place

    is_reason : IsReason K (literals before) e.lit n
    is_reason = (subst (IsGrounded K before e) reason entry.grounded).1

    false_before : Refutes (literals before) c
    false_before = Refutes-others K (literals before) e.lit n is_reason

    false_here : Refutes (literals T) c
    false_here l a = has-before T before e es (negated l) place (false_before l a)

    false_cube : Refutes P0 (negations Q)
    false_cube l a = Refutes-negations d l (has-tail e.lit l (negations Q) a)

    new : (f : Entry) (m : ℕ) → IsAt T f → has c (negated f.lit) ≡ true → f.reason ≡ Some m → has_var P0 f.lit.var ≡ false
    new f m at a r = has_var-none P0 f.lit.var (λ k b i. clash k (has-cases e.lit (negated k) (negations Q) (has-from_negations d k b)) i)
      where
        there_before : has_var (literals before) f.lit.var ≡ true
        there_before = has_var-has (literals before) f.lit (subst (λ x. has (literals before) x ≡ true) (negated-negated f.lit) (false_before (negated f.lit) a))

        clash : (k : Literal) → (negated k ≡ e.lit) ⊎ (has (negations Q) (negated k) ≡ true) → k.var ≡ f.lit.var → ⊥
        clash k (inl i) v = true_false (has_var (literals before) f.lit.var) there_before (subst (λ n. has_var (literals before) n ≡ false) (sym (ap (λ (x : Literal). x.var) i) ∙ v) entry.is_new)
        clash k (inr i) v =
            let in_cube : has Q k ≡ true = subst (λ y. has Q y ≡ true) (negated-negated k) (has-from_negations Q (negated k) i) in
            let given : is_given (entry_of T k.var) ≡ true = (has-from_cube_of K T k lawful in_cube).1 in
            let found : entry_of T f.lit.var ≡ Some f = entry_of-at K T f lawful at in
            let it : is_given (Some f) ≡ true = sym (ap is_given found) ∙ subst (λ n. is_given (entry_of T n) ≡ true) v given in
            let none : not (is_some f.reason) ≡ false = ap (λ o. not (is_some o)) r in
            true_false (not (is_some f.reason)) (and-right (nat_eq f.level 0) (not (is_some f.reason)) it) none

    end : (R : List Literal) → Led T before c P0 R → take_hints there R (n ∷ []) ≡ conflicts
    end R i =
        let found = all n is_reason.numbered.0 is_reason.numbered.1 in
        take_hints-false there R n (ap (hint R) found.1 ∙ hint-false R found.0 (λ k a. elim (found.2.besides k a) [
          | inl b ↦ own k b (one_or_other e.lit k)
          | inr b ↦ i.more (negated k) (false_cube k b)
        ]))
      where
        own : (k : Literal) → has (clause_at K n) k ≡ true → (e.lit ≡ k) ⊎ (same e.lit k ≡ false) → has R (negated k) ≡ true
        own k b (inl s) = i.more (negated k) (has-negations d k (has-equal e.lit k (negations Q) (sym s)))
        own k b (inr s) =
            let in_c : has c k ≡ true = has-without (clause_at K n) e.lit k b s in
            elim (i.told k in_c (has_var-has (literals before) (negated k) (false_before k in_c))) [
              | inl g ↦ (
                  let on : has Q (negated k) ≡ true = has-cube_of K T (negated k) lawful (false_here k in_c) g in
                  let negation : has (negations Q) k ≡ true = subst (λ x. has (negations Q) x ≡ true) (negated-negated k) (has-negations Q (negated k) on) in
                  i.more (negated k) (false_cube k negation)
                  )
              | inr g ↦ g
            ]

-- no variable stands in both signs in it
pub has_both_signs-unit_line : (K : List Clause) (T before : Trail) (e : Entry) (es : Trail) (n : ℕ) → IsLawful K T → T ≡ before ++ e ∷ es → e.reason ≡ Some n
    → has_both_signs ((e.lit ∷ []) ++ negations (cube_of T)) ≡ false
has_both_signs-unit_line K T before e es n lawful place reason =
    has_both_signs-none (e.lit ∷ negations (cube_of T)) (λ l a b. clash l (has-cases e.lit l (negations (cube_of T)) a) (has-cases e.lit (negated l) (negations (cube_of T)) b))
  where
    at : IsAt T e
    at = at-place T before e es place

    in_cube : (l : Literal) → has (negations (cube_of T)) l ≡ true → (has (literals T) (negated l) ≡ true) × (is_of_cube T (negated l) ≡ true)
    in_cube l a = has-from_cube_of K T (negated l) lawful (has-from_negations (cube_of T) l a)

    not_given : (l : Literal) → has (negations (cube_of T)) l ≡ true → e.lit.var ≡ l.var → ⊥
    not_given l a v =
        let found : entry_of T e.lit.var ≡ Some e = entry_of-at K T e lawful at in
        let given : is_given (entry_of T l.var) ≡ true = (in_cube l a).1 in
        let it : is_given (Some e) ≡ true = sym (ap is_given found) ∙ subst (λ n. is_given (entry_of T n) ≡ true) (sym v) given in
        let none : not (is_some e.reason) ≡ false = ap (λ o. not (is_some o)) reason in
        true_false (not (is_some e.reason)) (and-right (nat_eq e.level 0) (not (is_some e.reason)) it) none

    clash : (l : Literal) → (l ≡ e.lit) ⊎ (has (negations (cube_of T)) l ≡ true) → (negated l ≡ e.lit) ⊎ (has (negations (cube_of T)) (negated l) ≡ true) → ⊥
    clash l (inl i) (inl j) = negated-other l (i ∙ sym j)
    clash l (inl i) (inr j) = not_given (negated l) j (sym (ap (λ (x : Literal). x.var) i))
    clash l (inr i) (inl j) = not_given l i (sym (ap (λ (x : Literal). x.var) j))
    clash l (inr i) (inr j) = literals-consistent K T (negated l) lawful (in_cube l i).0 (in_cube (negated l) j).0
