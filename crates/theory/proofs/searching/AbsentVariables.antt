-- In a model the variables are false that no clause holds and that aren't the cube's: what comes on
-- the trail is the cube's, decided among the held ones, or of a clause that is unit.
use Rattle.std.proofs.Common.{◌≡◌, ℕ, zero, suc, ◌+◌, ◌≤◌, Bool, true, false, not, ◌&&◌, List, [], ◌∷◌, ◌++◌, length, nat_eq, nat_le, refl, sym, ap, subst, ◌∙◌, ◌⊎◌, inl, inr, arith, cond, Option, Some, None, append_assoc, eq-eqb, if◌then◌else◌}
use Rattle.std.specs.List.{list_any}
use Rattle.theory.specs.Literals.{Literal, Clause, negated, positive, same, has, has_var, has_both_signs, without, IsVariable, IsCube}
use Rattle.theory.specs.Truth.{Formula, Assignment, value}
use Rattle.theory.specs.Plans.{Constants}
use Rattle.theory.specs.Trails.{Entry, Trail, literals, current_level, cube_trail, up_to}
use Rattle.theory.specs.Held.{is_held, held, least_held}
use Rattle.theory.specs.Propagation.{Closed, quiet, conflict, Rule, IsRule, by_place, clause_at, Propagates, clashes, grows, rests, unit_entry}
use Rattle.theory.specs.Lawful.{IsGrounded, IsLawful, IsLawfulEntry}
use Rattle.theory.specs.Learning.{Line, learn_removing}
use Rattle.theory.specs.Units.{with_reason}
use Rattle.theory.specs.Forgetting.{forgotten, forget}
use Rattle.theory.specs.Search.{model, values}
use Rattle.theory.specs.Focused.{RunsFocused}
use Rattle.theory.specs.Looking.{SplitsInto, ComesTo, Looks}
use Rattle.theory.proofs.literals.LiteralLemmas.{or-left, or-right, same-eq}
use Rattle.theory.proofs.literals.LiteralSets.{Refutes, and-true, true_false, false_unless, negated-negated, has-cases, has-append_left, has_var-has, has-without, has_both_signs-none}
use Rattle.theory.proofs.literals.ClauseLemmas.{clause_at-next}
use Rattle.theory.proofs.trails.TrailLists.{literals-append}
use Rattle.theory.proofs.trails.TrailEntries.{literals-consistent, IsLawful-cube_trail}
use Rattle.theory.proofs.trails.LawfulTrails.{least_false-at, IsLawful-append, IsLawful-up_to, IsLawful-decide, IsLawful-Propagates}
use Rattle.theory.proofs.searching.Walks.{entry-place, Refutes-others}
use Rattle.theory.proofs.searching.LearntLines.{Refutes-learn}
use Rattle.theory.proofs.searching.ForgettingNumbers.{IsLawful-forget}
use Rattle.theory.proofs.searching.KeptUnits.{IsLawful-with_reason}
use Rattle.theory.proofs.searching.ModelLemmas.{value-values}
use Rattle.theory.proofs.searching.Rules.{IsRule-by_place}
use Rattle.theory.proofs.searching.Invariants.{IsInvariant}
use Rattle.theory.proofs.searching.HeldVariables.{held-is}
use Rattle.theory.proofs.searching.FocusedRuns.{RunsFocused-ends}

-- held, or the cube's
abbrev IsKnown : Formula → List Literal → ℕ → Type 0
IsKnown F Q v = (is_held F.clauses v ≡ true) ⊎ (has_var Q v ≡ true)

-- so are the variables of the clause, if it hasn't both signs of one
abbrev AreKnown : Formula → List Literal → Clause → Type 0
AreKnown F Q c = has_both_signs c ≡ false → (l : Literal) → has c l ≡ true → IsKnown F Q l.var

abbrev AllKnown : Formula → List Literal → List Clause → Type 0
AllKnown F Q [] = Unit {0}
AllKnown F Q (c ∷ C) = AreKnown F Q c × AllKnown F Q C

-- and those of the entries without a reason
abbrev AreGiven : Formula → List Literal → Trail → Type 0
AreGiven F Q [] = Unit {0}
AreGiven F Q (e ∷ T) = (e.reason ≡ None → IsKnown F Q e.lit.var) × AreGiven F Q T

known-append : (F : Formula) (Q : List Literal) (C D : List Clause) → AllKnown F Q C → AllKnown F Q D → AllKnown F Q (C ++ D)
known-append F Q [] D h k = k
known-append F Q (c ∷ C) D h k = (h.0, known-append F Q C D h.1 k)

known-forget : (F : Formula) (Q : List Literal) (ns : List ℕ) (n : ℕ) (C : List Clause) → AllKnown F Q C → AllKnown F Q (forget ns n C)
known-forget F Q ns n [] h = tt
known-forget F Q ns n (c ∷ C) h = (go (list_any (nat_eq n) ns), known-forget F Q ns (n + 1) C h.1)
  where
    go : (b : Bool) → AreKnown F Q (if b then forgotten else c)
    go true = λ one l a. absurd (cc)
    go false = h.0

known-at : (F : Formula) (Q : List Literal) (C : List Clause) (n : ℕ) → AllKnown F Q C → 1 ≤ n → n ≤ length C → AreKnown F Q (clause_at C n)
known-at F Q [] n h one end = absurd (omega arith)
known-at F Q (c ∷ C) zero h one end = absurd (omega arith)
known-at F Q (c ∷ C) (suc zero) h one end = h.0
known-at F Q (c ∷ C) (suc (suc n)) h one end =
    let e : suc n + 1 ≡ suc (suc n) = omega arith in
    subst (λ i. AreKnown F Q (clause_at (c ∷ C) i)) e
    (subst (AreKnown F Q) (sym (clause_at-next c C (suc n) (omega arith))) (known-at F Q C (suc n) h.1 (omega arith) (omega arith)))

known-first : (F : Formula) (Q : List Literal) (K : List Clause) → ((v : ℕ) → is_held K v ≡ true → is_held F.clauses v ≡ true) → AllKnown F Q K
known-first F Q [] f = tt
known-first F Q (c ∷ K) f = (
  λ one l a. inl (f l.var (or-left (has_var c l.var && not (has_both_signs c)) (is_held K l.var) (and-true (has_var c l.var) (not (has_both_signs c)) (has_var-has c l a) (ap not one)))),
  known-first F Q K (λ v h. f v (or-right (has_var c v && not (has_both_signs c)) (is_held K v) h)),
)

given-append : (F : Formula) (Q : List Literal) (T U : Trail) → AreGiven F Q T → AreGiven F Q U → AreGiven F Q (T ++ U)
given-append F Q [] U h k = k
given-append F Q (e ∷ T) U h k = (h.0, given-append F Q T U h.1 k)

given-up_to : (F : Formula) (Q : List Literal) (T : Trail) (b : ℕ) → AreGiven F Q T → AreGiven F Q (up_to T b)
given-up_to F Q [] b h = tt
given-up_to F Q (e ∷ T) b h = go (nat_le e.level b) (given-up_to F Q T b h.1)
  where
    go : (x : Bool) → AreGiven F Q (up_to T b) → AreGiven F Q (cond x (e ∷ up_to T b) (up_to T b))
    go true more = (h.0, more)
    go false more = more

given-Propagates : (F : Formula) (Q : List Literal) (rule : Rule) (C : List Clause) (T U : Trail) (a : Closed) → Propagates rule C T a U → AreGiven F Q T → AreGiven F Q U
given-Propagates F Q rule C T U a (clashes h) t = t
given-Propagates F Q rule C T U a (rests h i) t = t
given-Propagates F Q rule C T U a (grows {u = u} h i more) t =
    given-Propagates F Q rule C (T ++ unit_entry T u ∷ []) U a more (given-append F Q T (unit_entry T u ∷ []) t (λ r. absurd (cc), tt))

given-replaced : (F : Formula) (Q : List Literal) (before : Trail) (e : Entry) (es : Trail) (m : ℕ) → AreGiven F Q (before ++ e ∷ es) → AreGiven F Q (before ++ with_reason e m ∷ es)
given-replaced F Q [] e es m h = (λ r. absurd (cc), h.1)
given-replaced F Q (d ∷ before) e es m h = (h.0, given-replaced F Q before e es m h.1)

given-cube : (F : Formula) (Q P : List Literal) → ((v : ℕ) → has_var P v ≡ true → has_var Q v ≡ true) → AreGiven F Q (cube_trail P)
given-cube F Q [] f = tt
given-cube F Q (q ∷ P) f = (
  λ r. inr (f q.var (or-left (nat_eq q.var q.var) (has_var P q.var) (eq-eqb q.var q.var refl))),
  given-cube F Q P (λ v h. f v (or-right (nat_eq v q.var) (has_var P v) h)),
)

-- a reason hasn't both signs of a variable
one_sign : (C : List Clause) (whole before : Trail) (e : Entry) (es : Trail) (n : ℕ) → IsLawful C whole → whole ≡ before ++ e ∷ es → has_var (literals before) e.lit.var ≡ false
    → Refutes (literals before) (without (clause_at C n) e.lit) → has_both_signs (clause_at C n) ≡ false
one_sign C whole before e es n lawful place new r = has_both_signs-none c (λ l a b. clash l (same e.lit l) refl a (same e.lit (negated l)) refl b)
  where
    c : Clause
    c = clause_at C n

    P : List Literal
    P = literals before

    sign : (b : Bool) → b ≡ not b → ⊥
    sign true q = cc
    sign false q = cc

    there : (l : Literal) → has P l ≡ true → has (literals whole) l ≡ true
    there l a = subst (λ (T : Trail). has (literals T) l ≡ true) (sym place) (subst (λ p. has p l ≡ true) (sym (literals-append before (e ∷ es))) (has-append_left P (literals (e ∷ es)) l a))

    fresh : (l : Literal) → e.lit ≡ l → has P l ≡ true → ⊥
    fresh l q a = true_false (has_var P e.lit.var) (has_var-has P e.lit (subst (λ k. has P k ≡ true) (sym q) a)) new

    second : (l : Literal) → has c (negated l) ≡ true → same e.lit (negated l) ≡ false → has P l ≡ true
    second l b q = subst (λ k. has P k ≡ true) (negated-negated l) (r (negated l) (has-without c e.lit (negated l) b q))

    clash : (l : Literal) → (x : Bool) → same e.lit l ≡ x → has c l ≡ true → (y : Bool) → same e.lit (negated l) ≡ y → has c (negated l) ≡ true → ⊥
    clash l true p a true q b = sign l.positive (ap (λ (k : Literal). k.positive) (sym (same-eq e.lit l p) ∙ same-eq e.lit (negated l) q))
    clash l true p a false q b = fresh l (same-eq e.lit l p) (second l b q)
    clash l false p a true q b = fresh (negated l) (same-eq e.lit (negated l) q) (r l (has-without c e.lit l a p))
    clash l false p a false q b = literals-consistent C whole l lawful (there l (second l b q)) (there (negated l) (r l (has-without c e.lit l a p)))

known-entry : (F : Formula) (Q : List Literal) (C : List Clause) (whole before : Trail) (e : Entry) (es : Trail) → IsLawful C whole → whole ≡ before ++ e ∷ es → AllKnown F Q C
    → (e.reason ≡ None → IsKnown F Q e.lit.var) → IsKnown F Q e.lit.var
known-entry F Q C whole before e es lawful place known given = go e.reason refl entry.grounded
  where
    entry : IsLawfulEntry C before e
    entry = entry-place C whole before e es lawful place

    go : (o : Option ℕ) → e.reason ≡ o → IsGrounded C before e o → IsKnown F Q e.lit.var
    go None q g = given q
    go (Some n) q g =
        known-at F Q C n known g.1.numbered.0 g.1.numbered.1 (one_sign C whole before e es n lawful place entry.is_new (Refutes-others C (literals before) e.lit n g.1)) e.lit g.1.holds

known-trail : (F : Formula) (Q : List Literal) (C : List Clause) (whole before T : Trail) → IsLawful C whole → whole ≡ before ++ T → AllKnown F Q C → AreGiven F Q T
    → (l : Literal) → has (literals T) l ≡ true → IsKnown F Q l.var
known-trail F Q C whole before [] lawful place known given l a = absurd (cc)
known-trail F Q C whole before (e ∷ T) lawful place known given l a = elim (has-cases e.lit l (literals T) a) [
  | inl q ↦ subst (λ (k : Literal). IsKnown F Q k.var) (sym q) (known-entry F Q C whole before e T lawful place known given.0)
  | inr r ↦ known-trail F Q C whole (before ++ e ∷ []) T lawful (place ∙ sym (append_assoc before (e ∷ []) T)) known given.1 l r
]

record HasKnown (F : Formula) (Q : List Literal) (C : List Clause) (T : Trail) (lines : List Line) : Type 0 where
  lawful : IsLawful C T
  known : AllKnown F Q C
  given : AreGiven F Q T

on-trail : (F : Formula) (Q : List Literal) (C : List Clause) (T : Trail) (lines : List Line) (l : Literal) → HasKnown F Q C T lines → has (literals T) l ≡ true → IsKnown F Q l.var
on-trail F Q C T lines l i a = known-trail F Q C T [] T i.lawful refl i.known i.given l a

HasKnown-begin : (F : Formula) (Q : List Literal) → IsCube Q → HasKnown F Q F.clauses (cube_trail Q) []
HasKnown-begin F Q cube = record {
  lawful = IsLawful-cube_trail F.clauses Q cube;
  known = known-first F Q F.clauses (λ v h. h);
  given = given-cube F Q Q (λ v h. h);
}

IsInvariant-HasKnown : (rule : Rule) → IsRule rule → (F : Formula) (Q : List Literal) → IsInvariant (Unit {0}) rule (held F) (HasKnown F Q)
IsInvariant-HasKnown rule g F Q = record {
  propagated = λ C T U lines a h i. record { lawful = IsLawful-Propagates rule g C T U a h i.lawful; known = i.known; given = given-Propagates F Q rule C T U a h i.given };
  unit = λ C before e es lines n level reason units i. record {
    lawful = IsLawful-with_reason C before e es n reason i.lawful;
    known = known-append F Q C ((e.lit ∷ []) ∷ []) i.known (λ one l a. known-unit C before e es lines i l a, tt);
    given = given-replaced F Q before e es (length C + 1) i.given;
  };
  decided = λ C T lines l h v f i. record {
    lawful = IsLawful-decide C T l i.lawful f;
    known = i.known;
    given = given-append F Q T (record { lit = l; reason = None; level = current_level T + 1 } ∷ []) i.given (λ r. inl (held-is F l.var v), tt);
  };
  learnt = λ R C T lines n ns level h above low own unused i. record {
    lawful = IsLawful-append (forget ns 1 C) ((learn_removing R C T n).clause ∷ []) (up_to T level) (IsLawful-forget ns C (up_to T level) (unused tt) (IsLawful-up_to C T level i.lawful));
    known = known-append F Q (forget ns 1 C) ((learn_removing R C T n).clause ∷ []) (known-forget F Q ns 1 C i.known)
        (λ one l a. on-trail F Q C T lines (negated l) i (Refutes-learn R C T n i.lawful (least_false-at (literals T) C n h).2 l a), tt);
    given = given-up_to F Q T level i.given;
  };
}
  where
    known-unit : (C : List Clause) (before : Trail) (e : Entry) (es : Trail) (lines : List Line) → HasKnown F Q C (before ++ e ∷ es) lines → (l : Literal) → has (e.lit ∷ []) l ≡ true → IsKnown F Q l.var
    known-unit C before e es lines i l a = elim (has-cases e.lit l [] a) [
      | inl q ↦ subst (λ (k : Literal). IsKnown F Q k.var) (sym q) (known-entry F Q C (before ++ e ∷ es) before e es i.lawful refl i.known (given-of before i.given))
      | inr none ↦ absurd (cc)
    ]
      where
        given-of : (bs : Trail) → AreGiven F Q (bs ++ e ∷ es) → e.reason ≡ None → IsKnown F Q e.lit.var
        given-of [] h = h.0
        given-of (b ∷ bs) h = given-of bs h.1

absent-false : (F : Formula) (Q : List Literal) (C : List Clause) (T : Trail) (lines : List Line) (v : ℕ) → HasKnown F Q C T lines → IsVariable F.vars v → is_held F.clauses v ≡ false → has_var Q v ≡ false
    → value (values F.vars T) v ≡ false
absent-false F Q C T lines v i r lacks out = value-values F.vars T v r ∙ false_unless (has (literals T) (positive v)) (λ t. go (on-trail F Q C T lines (positive v) i t))
  where
    go : IsKnown F Q v → ⊥
    go (inl h) = true_false (is_held F.clauses v) h lacks
    go (inr h) = true_false (has_var Q v) h out

-- In a model of the focused search,
pub RunsFocused-absent : (c : Constants) (F : Formula) (B : ℕ) (Q : List Literal) (M : Assignment) (v : ℕ) → IsCube Q → RunsFocused c F B Q (model M) → IsVariable F.vars v → is_held F.clauses v ≡ false → has_var Q v ≡ false
    → value M v ≡ false
RunsFocused-absent c F B Q M v cube runs r lacks out =
    let e = RunsFocused-ends c F B Q (model M) (Unit {0}) (HasKnown F Q) (IsInvariant-HasKnown by_place IsRule-by_place F Q) (λ h. IsLawful-cube_trail F.clauses Q cube) (HasKnown-begin F Q cube) runs in
    ap (λ (x : Assignment). value x v) e.is_values ∙ absent-false F Q e.clauses e.trail e.lines v e.keeps r lacks out

-- and in one of a look.
pub Looks-absent : (F : Formula) (Q : List Literal) (M : Assignment) (v : ℕ) → IsCube Q → Looks F Q (model M) → IsVariable F.vars v → is_held F.clauses v ≡ false → has_var Q v ≡ false → value M v ≡ false
Looks-absent F Q M v cube h r lacks out = go h.answer h.propagates h.comes_to
  where
    full : HasKnown F Q F.clauses h.trail [] → (x : Option ℕ) → SplitsInto F h.trail x (model M) → value M v ≡ false
    full i None s = let is : M ≡ values F.vars h.trail = cc in ap (λ (x : Assignment). value x v) is ∙ absent-false F Q F.clauses h.trail [] v i r lacks out
    full i (Some x) s = absurd (let it = s.1 in cc)

    go : (a : Closed) → Propagates by_place F.clauses (cube_trail Q) a h.trail → ComesTo F a h.trail (model M) → value M v ≡ false
    go (conflict n) p c = absurd (cc)
    go quiet p c = full ((IsInvariant-HasKnown by_place IsRule-by_place F Q).propagated F.clauses (cube_trail Q) h.trail [] quiet p (HasKnown-begin F Q cube)) (least_held F h.trail) c
