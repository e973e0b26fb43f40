-- A unit of level 0 becomes a clause by its line, and this clause the entry's reason: the trail
-- stays lawful, and what a search keeps is kept.
use Rattle.std.proofs.Common.{◌≡◌, ℕ, ◌+◌, ◌-◌, ◌≤◌, Bool, true, false, not, ◌&&◌, List, [], ◌∷◌, ◌++◌, length, filter, refl, ap, sym, subst, ◌∙◌, nat_eq, eqb-true, if◌then◌else◌, ◌⊎◌, inl, inr, Option, Some, None, is_some, slice_get, unwrap_or, append_assoc, append-nil, length-append, arith}
use Rattle.std.proofs.lemmas.List.{map-append}
use Rattle.std.proofs.lemmas.List.Elements.{filter-append, All-push}
use Rattle.theory.specs.Literals.{Literal, Clause, negated, negations, has, has_var, without, IsVariable}
use Rattle.theory.specs.Truth.{IsOver}
use Rattle.theory.specs.Status.{is_false}
use Rattle.theory.specs.Trails.{Entry, Trail, literals, current_level, is_given}
use Rattle.theory.specs.Propagation.{clause_at, Rule, IsRule}
use Rattle.theory.specs.Lawful.{IsReason, IsGrounded, IsLawfulEntry, IsLawfulAfter, IsLawful, cube_of}
use Rattle.theory.specs.Learning.{Line}
use Rattle.theory.specs.Forgetting.{forgotten}
use Rattle.theory.specs.Deletions.{is_among}
use Rattle.theory.specs.Replaying.{IsReplayed, Passes}
use Rattle.theory.specs.Kept.{clauses_of, AreLeft, IsSearchOf}
use Rattle.theory.specs.Units.{has_two, unit_line, with_reason, with_number, reasons_against, IsUnit, AreUnits}
use Rattle.theory.proofs.literals.ListLemmas.{slice_get-push}
use Rattle.theory.proofs.literals.LiteralLemmas.{same-refl}
use Rattle.theory.proofs.literals.LiteralSets.{true_false, false_unless, or-none, has-head, has-cases, has-from_negations}
use Rattle.theory.proofs.literals.OverVariables.{AreOver, IsOver-from_AreOver, AreOver-from_IsOver, IsOver-left}
use Rattle.theory.proofs.trails.LawfulTrails.{IsLawful-append}
use Rattle.theory.proofs.trails.TrailLists.{current_level-push}
use Rattle.theory.proofs.trails.TrailEntries.{and-false_right, literals-at, has-literals_at, has-from_cube_of}
use Rattle.theory.proofs.searching.Walks.{at-place, entry-place}
use Rattle.theory.proofs.searching.ForgottenClauses.{AreLeft-refl, AreLeft-append, AreLeft-length, AreLeft-at, IsReason-left, IsLawful-left, IsReason-forgotten}
use Rattle.theory.proofs.searching.ForgettingLines.{AreForgetting-line, gone-line}
use Rattle.theory.proofs.searching.KeptSearches.{AreReplayed-push, AreLeft-all, IsSearchOf-Propagates, IsSearchOf-decide, IsSearchOf-learnt}
use Rattle.theory.proofs.searching.Invariants.{IsAmong, IsInvariant}
use Rattle.theory.proofs.searching.UnitLines.{Passes-unit_line, has_both_signs-unit_line}

-- the last clause of a list
pub clause_at-push : (K : List Clause) (c : Clause) → clause_at (K ++ c ∷ []) (length K + 1) ≡ c
clause_at-push K c =
    let n : length K + 1 - 1 ≡ length K = omega arith in
    ap (λ k. unwrap_or (slice_get (K ++ c ∷ []) k) []) n ∙ ap (λ (o : Option Clause). unwrap_or o []) (slice_get-push K c)

-- the current level is that of what stands last
pub current_level-behind : (A : Trail) (b : Entry) (B : Trail) → current_level (A ++ b ∷ B) ≡ current_level (b ∷ B)
current_level-behind A b [] = current_level-push A b ∙ sym (current_level-push [] b)
current_level-behind A b (x ∷ B) =
    ap current_level (sym (append_assoc A (b ∷ []) (x ∷ B))) ∙ (current_level-behind (A ++ b ∷ []) x B ∙ sym (current_level-behind (b ∷ []) x B))

-- an entry in another's place, of the same literal and level
pub current_level-replaced : (A : Trail) (e f : Entry) (B : Trail) → f.level ≡ e.level → current_level (A ++ f ∷ B) ≡ current_level (A ++ e ∷ B)
current_level-replaced A e f [] h = current_level-push A f ∙ (h ∙ sym (current_level-push A e))
current_level-replaced A e f (x ∷ B) h =
    current_level-behind A f (x ∷ B) ∙ (current_level-behind (f ∷ []) x B ∙ (sym (current_level-behind (e ∷ []) x B) ∙ sym (current_level-behind A e (x ∷ B))))

pub literals-replaced : (A : Trail) (e f : Entry) (B : Trail) → f.lit ≡ e.lit → literals (A ++ f ∷ B) ≡ literals (A ++ e ∷ B)
literals-replaced A e f B h = literals-at A f B ∙ (ap (λ (l : Literal). literals A ++ l ∷ literals B) h ∙ sym (literals-at A e B))

-- what is lawful behind entries is lawful behind others of the same literals and level
IsGrounded-alike : (K : List Clause) (A B : Trail) (e : Entry) (r : Option ℕ) → literals A ≡ literals B → current_level A ≡ current_level B → IsGrounded K A e r → IsGrounded K B e r
IsGrounded-alike K A B e (Some n) l c g = (g.0 ∙ c, subst (λ (P : List Literal). IsReason K P e.lit n) l g.1)
IsGrounded-alike K A B e None l c (inl g) = inl (g.0, sym c ∙ g.1)
IsGrounded-alike K A B e None l c (inr g) = inr (g ∙ ap (λ n. n + 1) c)

IsLawfulAfter-alike : (K : List Clause) (A B T : Trail) → literals A ≡ literals B → current_level A ≡ current_level B → IsLawfulAfter K A T → IsLawfulAfter K B T
IsLawfulAfter-alike K A B [] l c h = tt
IsLawfulAfter-alike K A B (e ∷ T) l c h = (
  record { is_new = subst (λ (P : List Literal). has_var P e.lit.var ≡ false) l h.0.is_new; grounded = IsGrounded-alike K A B e e.reason l c h.0.grounded },
  IsLawfulAfter-alike K (A ++ e ∷ []) (B ++ e ∷ []) T (literals-at A e [] ∙ (ap (λ (P : List Literal). P ++ e.lit ∷ []) l ∙ sym (literals-at B e [])))
      (current_level-push A e ∙ sym (current_level-push B e)) h.1,
)

IsLawfulAfter-replaced : (K : List Clause) (before A : Trail) (e f : Entry) (B : Trail) → f.lit ≡ e.lit → f.level ≡ e.level → IsLawfulEntry K (before ++ A) f
    → IsLawfulAfter K before (A ++ e ∷ B) → IsLawfulAfter K before (A ++ f ∷ B)
IsLawfulAfter-replaced K before [] e f B l v new h = (
  subst (λ (x : Trail). IsLawfulEntry K x f) (append-nil before) new,
  IsLawfulAfter-alike K (before ++ e ∷ []) (before ++ f ∷ []) B (sym (literals-replaced before e f [] l)) (sym (current_level-replaced before e f [] v)) h.1,
)
IsLawfulAfter-replaced K before (a ∷ A) e f B l v new h =
    (h.0, IsLawfulAfter-replaced K (before ++ a ∷ []) A e f B l v (subst (λ (x : Trail). IsLawfulEntry K x f) (sym (append_assoc before (a ∷ []) A)) new) h.1)

-- the trail with the unit's clause as a reason is lawful
pub IsLawful-with_reason : (K : List Clause) (before : Trail) (e : Entry) (es : Trail) (n : ℕ) → e.reason ≡ Some n → IsLawful K (before ++ e ∷ es)
    → IsLawful (K ++ (e.lit ∷ []) ∷ []) (before ++ with_reason e (length K + 1) ∷ es)
IsLawful-with_reason K before e es n reason lawful =
    IsLawfulAfter-replaced (K ++ c ∷ []) [] before e (with_reason e (length K + 1)) es refl refl (record { is_new = entry.is_new; grounded = (level, by_unit) }) (IsLawful-append K (c ∷ []) (before ++ e ∷ es) lawful)
  where
    c : Clause
    c = e.lit ∷ []

    entry : IsLawfulEntry K before e
    entry = entry-place K (before ++ e ∷ es) before e es lawful refl

    level : e.level ≡ current_level before
    level = (subst (IsGrounded K before e) reason entry.grounded).0

    by_unit : IsReason (K ++ c ∷ []) (literals before) e.lit (length K + 1)
    by_unit =
        let there : clause_at (K ++ c ∷ []) (length K + 1) ≡ c = clause_at-push K c in
        let many = length-append K (c ∷ []) in
        record {
          numbered = (omega arith, omega (arith, many));
          holds = subst (λ (d : Clause). has d e.lit ≡ true) (sym there) (has-head e.lit []);
          others = subst (λ (d : Clause). is_false (literals before) (without d e.lit) ≡ true) (sym there) alone;
        }
      where
        alone : is_false (literals before) (without (e.lit ∷ []) e.lit) ≡ true
        alone = let one = same-refl e.lit in rw one refl

-- it has the same cube
pub cube_of-with_reason : (before : Trail) (e : Entry) (es : Trail) (n m : ℕ) → e.reason ≡ Some n → cube_of (before ++ with_reason e m ∷ es) ≡ cube_of (before ++ e ∷ es)
cube_of-with_reason before e es n m reason =
    ap literals (filter-append (λ x. is_given (Some x)) before (with_reason e m ∷ es) ∙ (ap (λ (U : Trail). filter (λ x. is_given (Some x)) before ++ U) (out (with_reason e m) m refl ∙ sym (out e n reason))
    ∙ sym (filter-append (λ x. is_given (Some x)) before (e ∷ es))))
  where
    out : (x : Entry) (k : ℕ) → x.reason ≡ Some k → filter (λ y. is_given (Some y)) (x ∷ es) ≡ filter (λ y. is_given (Some y)) es
    out x k r =
        let none : is_given (Some x) ≡ false = ap (λ o. nat_eq x.level 0 && not (is_some o)) r ∙ and-false_right (nat_eq x.level 0) false refl in
        rw none refl

-- units over what is left of clauses are units over all
IsUnit-left : (A L : List Clause) (l : Literal) (r : Option ℕ) → AreLeft A L → IsUnit L l r → IsUnit A l r
IsUnit-left A L l None h u = tt
IsUnit-left A L l (Some n) h u = go (AreLeft-at A L n h)
  where
    go : (clause_at L n ≡ clause_at A n) ⊎ (clause_at L n ≡ forgotten) → IsUnit A l (Some n)
    go (inl e) = (
      u.0,
      subst (λ k. n ≤ k) (AreLeft-length A L h) u.1,
      subst (λ (c : Clause). has c l ≡ true) e u.2,
      subst (λ (c : Clause). has_two c ≡ false) e u.3,
    )
    go (inr e) = absurd (true_false (has_two forgotten) refl (subst (λ (c : Clause). has_two c ≡ false) e u.3))

pub AreUnits-left : (A L : List Clause) (T : Trail) → AreLeft A L → AreUnits L T → AreUnits A T
AreUnits-left A L [] h u = tt
AreUnits-left A L (e ∷ T) h u = (IsUnit-left A L e.lit e.reason h u.0, AreUnits-left A L T h u.1)

-- the line of a unit replays over all clauses
IsReplayed-unit : (V : ℕ) (K : List Clause) (Q : List Literal) (C : List Clause) (before : Trail) (e : Entry) (es : Trail) (lines : List Line) (n : ℕ) → current_level (before ++ e ∷ es) ≡ 0
    → e.reason ≡ Some n → AreUnits C before → IsSearchOf V K Q C (before ++ e ∷ es) lines → IsReplayed V (length K) Q (K ++ clauses_of lines) (unit_line C before e.lit n)
IsReplayed-unit V K Q C before e es lines n level reason units i =
    subst (λ (q : List Literal). IsReplayed V (length K) q all (unit_line C before e.lit n)) i.cube (record {
      passes = subst (λ (line : Line). Passes (length K) (cube_of T) all line) (sym same_line) (Passes-unit_line (length K) all T before e es n lawful level refl reason (AreUnits-left all C before left units));
      one_sign = has_both_signs-unit_line all T before e es n lawful refl reason;
      over = IsOver-from_AreOver V ((e.lit ∷ []) ++ negations (cube_of T)) over;
    })
  where
    T : Trail
    T = before ++ e ∷ es

    all : List Clause
    all = K ++ clauses_of lines

    left : AreLeft all C
    left = AreLeft-all V K Q C T lines i

    lawful : IsLawful all T
    lawful = IsLawful-left all C T left i.lawful

    same_line : unit_line C before e.lit n ≡ unit_line all before e.lit n
    same_line =
        let entry = entry-place C T before e es i.lawful refl in
        let clause : clause_at C n ≡ clause_at all n = (IsReason-left all C (literals before) e.lit n left entry.is_new (subst (IsGrounded C before e) reason entry.grounded).1).0 in
        ap (λ (c : Clause). record { clause = e.lit ∷ []; hints = reasons_against before (without c e.lit) ++ n ∷ []; forgets = [] }) clause

    on_trail : AreOver V (literals T)
    on_trail = AreOver-from_IsOver V (literals T) i.variables

    over : AreOver V ((e.lit ∷ []) ++ negations (cube_of T))
    over l a = elim (has-cases e.lit l (negations (cube_of T)) a) [
      | inl x ↦ subst (λ (k : Literal). IsVariable V k.var) (sym x) (on_trail e.lit (has-literals_at T e (at-place T before e es refl)))
      | inr x ↦ on_trail (negated l) (has-from_cube_of all T (negated l) lawful (has-from_negations (cube_of T) l x)).0
    ]

-- no hint of it is the number of a forgotten clause
reasons-left : (C : List Clause) (T : Trail) (c : Clause) (k n : ℕ) → AreUnits C T → clause_at C k ≡ forgotten → nat_eq k n ≡ false → is_among k (reasons_against T c ++ n ∷ []) ≡ false
reasons-left C [] c k n u f other = or-none (nat_eq k n) false other refl
reasons-left C (e ∷ T) c k n u f other = go (has c (negated e.lit)) e.reason u.0 (reasons-left C T c k n u.1 f other)
  where
    go : (b : Bool) (r : Option ℕ) → IsUnit C e.lit r → is_among k (reasons_against T c ++ n ∷ []) ≡ false → is_among k (with_number (if b then r else None) (reasons_against T c) ++ n ∷ []) ≡ false
    go false r v more = more
    go true None v more = more
    go true (Some m) v more =
        or-none (nat_eq k m) (is_among k (reasons_against T c ++ n ∷ [])) (false_unless (nat_eq k m) (λ t. true_false (has_two forgotten) refl (ap has_two (sym f ∙ ap (clause_at C) (eqb-true k m t)) ∙ v.3))) more

-- what a search keeps, where a unit becomes a clause
pub IsSearchOf-unit : (V : ℕ) (K : List Clause) (Q : List Literal) (C : List Clause) (before : Trail) (e : Entry) (es : Trail) (lines : List Line) (n : ℕ) → current_level (before ++ e ∷ es) ≡ 0
    → e.reason ≡ Some n → AreUnits C before → IsSearchOf V K Q C (before ++ e ∷ es) lines
    → IsSearchOf V K Q (C ++ (e.lit ∷ []) ∷ []) (before ++ with_reason e (length C + 1) ∷ es) (lines ++ unit_line C before e.lit n ∷ [])
IsSearchOf-unit V K Q C before e es lines n level reason units i = record {
  learnt = i.learnt ++ line.clause ∷ [];
  are_clauses = ap (λ (c : List Clause). c ++ line.clause ∷ []) i.are_clauses ∙ append_assoc K i.learnt (line.clause ∷ []);
  left = subst (λ (c : List Clause). AreLeft c (i.learnt ++ line.clause ∷ [])) (sym (map-append (λ (x : Line). x.clause) lines (line ∷ [])))
      (AreLeft-append (clauses_of lines) i.learnt (line.clause ∷ []) (line.clause ∷ []) i.left (AreLeft-refl (line.clause ∷ [])));
  over = All-push (IsOver V) C line.clause i.over (IsOver-left V line.clause (negations Q) replayed.over);
  lawful = IsLawful-with_reason C before e es n reason i.lawful;
  open_below = λ below less. let same_level = current_level-replaced before e (with_reason e (length C + 1)) es refl in absurd (omega (arith, less, same_level, level));
  cube = cube_of-with_reason before e es n (length C + 1) reason ∙ i.cube;
  variables = subst (IsOver V) (sym (literals-replaced before e (with_reason e (length C + 1)) es refl)) i.variables;
  replayed = AreReplayed-push V (length K) Q K lines line i.replayed replayed;
  forgetting = AreForgetting-line V K Q C (before ++ e ∷ es) lines line i refl clear;
  gone = gone-line V K Q C (before ++ e ∷ es) lines line i refl;
}
  where
    line : Line
    line = unit_line C before e.lit n

    clear : (k : ℕ) → clause_at C k ≡ forgotten → is_among k (reasons_against before (without (clause_at C n) e.lit) ++ n ∷ []) ≡ false
    clear k f = reasons-left C before (without (clause_at C n) e.lit) k n units f
        (false_unless (nat_eq k n) (λ t. IsReason-forgotten C (literals before) e.lit n entry.is_new (subst (IsGrounded C before e) reason entry.grounded).1 (ap (clause_at C) (sym (eqb-true k n t)) ∙ f)))
      where
        entry : IsLawfulEntry C before e
        entry = entry-place C (before ++ e ∷ es) before e es i.lawful refl

    replayed : IsReplayed V (length K) Q (K ++ clauses_of lines) line
    replayed = IsReplayed-unit V K Q C before e es lines n level reason units i

pub IsInvariant-IsSearchOf : (rule : Rule) → IsRule rule → (V : ℕ) (vs : List ℕ) → ((v : ℕ) → IsAmong vs v → IsVariable V v) → (K : List Clause) (Q : List Literal)
    → IsInvariant (Unit {0}) rule vs (IsSearchOf V K Q)
IsInvariant-IsSearchOf rule g V vs within K Q = record {
  propagated = λ C T U lines a h i. IsSearchOf-Propagates rule g V K Q C T U a lines h i;
  unit = λ C before e es lines n level reason units i. IsSearchOf-unit V K Q C before e es lines n level reason (units tt) i;
  decided = λ C T lines l h v f i. IsSearchOf-decide V K Q C T lines l (h tt) (within l.var v) f i;
  learnt = λ R C T lines n ns level h above low own unused i. IsSearchOf-learnt V R K Q C T lines n ns level h above low own (unused tt) i;
}
