-- Where each reason of level 0 is a clause of one literal, a conflict's hints are the reasons of
-- what makes its literals false, and then the conflict.
use Rattle.std.proofs.Common.{◌≡◌, ℕ, Bool, true, false, ◌&&◌, ◌||◌, List, [], ◌∷◌, ◌++◌, refl, ap, sym, subst, ◌∙◌, nat_eq, nat_le, nat_lt, eqb-true, eq-eqb, inl, inr, Option, Some, None, append_assoc, append-nil, arith, if◌then◌else◌}
use Rattle.theory.specs.Literals.{Literal, Clause, negated, has, has_var, without}
use Rattle.theory.specs.Trails.{Entry, Trail, literals, current_level}
use Rattle.theory.specs.Propagation.{clause_at}
use Rattle.theory.specs.Lawful.{IsGrounded, IsLawfulEntry, IsLawfulAfter, IsLawful}
use Rattle.theory.specs.Learning.{with_literals, resolved, at_current_level, reason_used, resolved_by, walk, learn_removing}
use Rattle.theory.specs.Units.{reason_against, with_number, reasons_against, unit_line, IsUnit, AreUnits}
use Rattle.theory.proofs.literals.LiteralSets.{true_false, false_unless, or-none, or-false_left, or-false_right, same-other, other-same, has-append_right, has-head, has_var-append_left, negated-negated, Refutes-from_is_false, has_var-has, literal_of_var, has-with_literals, has-from_with_literals, has-from_without, has-resolved_set, has-from_resolved}
use Rattle.theory.proofs.trails.LawfulTrails.{IsLawfulAfter-at}
use Rattle.theory.proofs.trails.TrailLists.{literals-append}
use Rattle.theory.proofs.trails.TrailEntries.{literals-at, level-at}
use Rattle.theory.proofs.searching.WalkParts.{walk-append}
use Rattle.theory.proofs.searching.Walks.{at-place, entry-place, has-before}
use Rattle.theory.proofs.searching.UnitLines.{has_two-one}

-- two tests that pass for the same reason
both-ways : (a b : Bool) → (a ≡ true → b ≡ true) → (b ≡ true → a ≡ true) → a ≡ b
both-ways true b f g = sym (f refl)
both-ways false true f g = g refl
both-ways false false f g = refl

-- what stands on a lawful trail doesn't stand behind once more
behind-new : (K : List Clause) (before es : Trail) (v : ℕ) → IsLawfulAfter K before es → has_var (literals before) v ≡ true → has_var (literals es) v ≡ false
behind-new K before [] v h a = refl
behind-new K before (e ∷ es) v h a =
    or-none (nat_eq v e.lit.var) (has_var (literals es) v)
    (false_unless (nat_eq v e.lit.var) (λ t. true_false (has_var (literals before) v) a (ap (has_var (literals before)) (eqb-true v e.lit.var t) ∙ h.0.is_new)))
    (behind-new K (before ++ e ∷ []) es v h.1 longer)
  where
    longer : has_var (literals (before ++ e ∷ [])) v ≡ true
    longer =
        let f = literal_of_var (literals before) v a in
        subst (λ n. has_var (literals (before ++ e ∷ [])) n ≡ true) f.2 (has_var-has (literals (before ++ e ∷ [])) f.0 (has-before (before ++ e ∷ []) before e [] f.0 refl f.1))

-- reasons against sets of the same literals
reasons-same : (T : Trail) (c d : Clause) → ((k : Literal) → has c k ≡ has d k) → reasons_against T c ≡ reasons_against T d
reasons-same [] c d h = refl
reasons-same (e ∷ T) c d h =
    ap (λ b. with_number (if b then e.reason else None) (reasons_against T c)) (h (negated e.lit)) ∙ ap (with_number (reason_against d e)) (reasons-same T c d h)

-- a set made of a clause alone has its literals
has-with_none : (c : Clause) (k : Literal) → has (with_literals c []) k ≡ has c k
has-with_none c k = both-ways (has (with_literals c []) k) (has c k) (λ a. elim (has-from_with_literals c [] k a) [ inl b ↦ b | inr none ↦ absurd (cc) ]) (λ a. has-with_literals c [] k (inl a))

-- what a walk over entries leaves of the hints and of other variables' literals
record Gathers (K : List Clause) (T : Trail) (R : List Literal) (es : Trail) (S : Clause) (hints : List ℕ) : Type 0 where
  gathered : (walk K T R es S hints).1 ≡ reasons_against es S ++ hints
  others : (k : Literal) → has_var (literals es) k.var ≡ false → has (walk K T R es S hints).0 k ≡ has S k

walk-gathers : (K : List Clause) (T : Trail) (R : List Literal) (before es rest : Trail) (S : Clause) (hints : List ℕ) → IsLawful K T → current_level T ≡ 0 → T ≡ before ++ (es ++ rest) → AreUnits K es
    → Gathers K T R es S hints
walk-gathers K T R before [] rest S hints lawful level place units = record { gathered = refl; others = λ k h. refl }
walk-gathers K T R before (e ∷ es) rest S hints lawful level place units =
    go (walk-gathers K T R (before ++ e ∷ []) es rest S hints lawful level (place ∙ sym (append_assoc before (e ∷ []) (es ++ rest))) units.1)
  where
    w : Clause × List ℕ
    w = walk K T R es S hints

    apart : has_var (literals es) e.lit.var ≡ false
    apart =
        let after = (IsLawfulAfter-at K [] before e (es ++ rest) (subst (IsLawful K) place lawful)).1 in
        has_var-append_left (literals es) (literals rest) e.lit.var (subst (λ (P : List Literal). has_var P e.lit.var ≡ false) (literals-append es rest) (behind-new K (before ++ e ∷ []) (es ++ rest) e.lit.var after
        (has_var-has (literals (before ++ e ∷ [])) e.lit (subst (λ c. has c e.lit ≡ true) (sym (literals-at before e [])) (has-append_right (literals before) (e.lit ∷ []) e.lit (has-head e.lit []))))))

    zeroth : nat_eq e.level 0 ≡ true
    zeroth = let top = level-at K T e lawful (at-place T before e (es ++ rest) place) in eq-eqb e.level 0 (omega (arith, top, level))

    go : Gathers K T R es S hints → Gathers K T R (e ∷ es) S hints
    go i = record {
      gathered = ap (λ o. (resolved_by K e w o).1) used ∙ (hinted (reason_against S e) ∙ (ap (with_number (reason_against S e)) i.gathered ∙ carried (reason_against S e)));
      others = λ k h. ap (λ o. has (resolved_by K e w o).0 k) used
          ∙ (stays k (reason_against S e) (or-false_left (nat_eq k.var e.lit.var) (has_var (literals es) k.var) h) (unit_of (has S (negated e.lit)))
          ∙ i.others k (or-false_right (nat_eq k.var e.lit.var) (has_var (literals es) k.var) h));
    }
      where
        whole : (b : Bool) → b && true ≡ b
        whole true = refl
        whole false = refl

        used : reason_used T R w.0 e ≡ reason_against S e
        used = ap (λ z. if has w.0 (negated e.lit) && (z || ((has R (negated e.lit) && nat_lt e.level (current_level T)) || (nat_eq e.level (current_level T) && nat_le 2 (at_current_level T w.0)))) then e.reason else None) zeroth
            ∙ ap (λ b. if b then e.reason else None) (whole (has w.0 (negated e.lit)) ∙ i.others (negated e.lit) apart)

        hinted : (o : Option ℕ) → (resolved_by K e w o).1 ≡ with_number o w.1
        hinted None = refl
        hinted (Some m) = refl

        carried : (o : Option ℕ) → with_number o (reasons_against es S ++ hints) ≡ with_number o (reasons_against es S) ++ hints
        carried None = refl
        carried (Some m) = refl

        unit_of : (b : Bool) → IsUnit K e.lit (if b then e.reason else None)
        unit_of true = units.0
        unit_of false = tt

        stays : (k : Literal) (o : Option ℕ) → nat_eq k.var e.lit.var ≡ false → IsUnit K e.lit o → has (resolved_by K e w o).0 k ≡ has w.0 k
        stays k None v u = refl
        stays k (Some m) v u = both-ways (has (resolved w.0 e.lit (clause_at K m)) k) (has w.0 k)
            (λ a. elim (has-from_resolved w.0 (clause_at K m) e.lit k a) [
              | inl b ↦ b.0
              | inr b ↦ (let c = has-from_without (clause_at K m) e.lit k b in absurd (other-same e.lit k c.1 (has_two-one (clause_at K m) e.lit k u.3 u.2 c.0)))
            ])
            (λ a. has-resolved_set w.0 (clause_at K m) e.lit k a (same-other (negated e.lit) k (λ q. true_false (nat_eq k.var e.lit.var) (eq-eqb k.var e.lit.var (sym (ap (λ (x : Literal). x.var) q))) v)))

-- So it is with what is learnt at level 0, whatever is removable.
pub hints-learn_units : (R : List Literal) (K : List Clause) (T : Trail) (n : ℕ) → IsLawful K T → current_level T ≡ 0 → AreUnits K T
    → (learn_removing R K T n).hints ≡ reasons_against T (clause_at K n) ++ n ∷ []
hints-learn_units R K T n lawful level units =
    (walk-gathers K T R [] T [] (with_literals (clause_at K n) []) (n ∷ []) lawful level (sym (append-nil T)) units).gathered
    ∙ ap (λ (ns : List ℕ). ns ++ n ∷ []) (reasons-same T (with_literals (clause_at K n) []) (clause_at K n) (has-with_none (clause_at K n)))

-- entries are passed whose negations the set doesn't have
walk-passes : (K : List Clause) (T : Trail) (R : List Literal) (es : Trail) (S : Clause) (hints : List ℕ) → ((k : Literal) → has S k ≡ true → has (literals es) (negated k) ≡ false)
    → walk K T R es S hints ≡ (S, hints)
walk-passes K T R [] S hints h = refl
walk-passes K T R (e ∷ es) S hints h =
    let out : has S (negated e.lit) ≡ false = false_unless (has S (negated e.lit)) (λ t. true_false (has (e.lit ∷ literals es) (negated (negated e.lit))) (ap (has (e.lit ∷ literals es)) (negated-negated e.lit) ∙ has-head e.lit (literals es)) (h (negated e.lit) t)) in
    ap (λ (w : Clause × List ℕ). resolved_by K e w (reason_used T R w.0 e)) (walk-passes K T R es S hints (λ k t. or-false_right _ _ (h k t)))
    ∙ ap (λ b. resolved_by K e (S, hints) (if b && (nat_eq e.level 0 || ((has R (negated e.lit) && nat_lt e.level (current_level T)) || (nat_eq e.level (current_level T) && nat_le 2 (at_current_level T S)))) then e.reason else None)) out

-- So it is with a unit's line: the walk from its reason's other literals gathers its hints.
pub hints-unit : (K : List Clause) (before : Trail) (e : Entry) (es : Trail) (n : ℕ) → IsLawful K (before ++ e ∷ es) → current_level (before ++ e ∷ es) ≡ 0 → e.reason ≡ Some n → AreUnits K before
    → (walk K (before ++ e ∷ es) [] (before ++ e ∷ es) (with_literals (without (clause_at K n) e.lit) []) (n ∷ [])).1 ≡ (unit_line K before e.lit n).hints
hints-unit K before e es n lawful level reason units =
    ap (λ (w : Clause × List ℕ). w.1) (walk-append K T [] before (e ∷ es) S (n ∷ []) ∙ ap (λ (w : Clause × List ℕ). walk K T [] before w.0 w.1) (walk-passes K T [] (e ∷ es) S (n ∷ []) behind))
    ∙ ((walk-gathers K T [] [] before (e ∷ es) S (n ∷ []) lawful level refl units).gathered ∙ ap (λ (ns : List ℕ). ns ++ n ∷ []) (reasons-same before S c (has-with_none c)))
  where
    T : Trail
    T = before ++ e ∷ es

    c : Clause
    c = without (clause_at K n) e.lit

    S : Clause
    S = with_literals c []

    entry : IsLawfulEntry K before e
    entry = entry-place K T before e es lawful refl

    behind : (k : Literal) → has S k ≡ true → has (literals (e ∷ es)) (negated k) ≡ false
    behind k t =
        let earlier : has (literals before) (negated k) ≡ true
        = Refutes-from_is_false (literals before) c (subst (IsGrounded K before e) reason entry.grounded).1.others k (sym (has-with_none c k) ∙ t) in
        let later = behind-new K before (e ∷ es) k.var (IsLawfulAfter-at K [] before e es lawful) (has_var-has (literals before) (negated k) earlier) in
        false_unless (has (literals (e ∷ es)) (negated k)) (λ u. true_false (has_var (literals (e ∷ es)) k.var) (has_var-has (literals (e ∷ es)) (negated k) u) later)
