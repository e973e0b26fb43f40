-- The variables of the reasons against a clause, literal by literal.
use Rattle.std.proofs.Common.{◌≡◌, ℕ, Bool, true, false, ◌&&◌, ◌||◌, ◌+◌, ◌<◌, ◌≤◌, List, [], ◌∷◌, ◌++◌, length, take, get_or, Option, Some, None, refl, ap, sym, subst, ◌∙◌, nat_lt, inl, inr, if◌then◌else◌, IsPermutation}
use Rattle.std.specs.List.{list_any}
use Rattle.std.proofs.lemmas.List.Folds.{list_any-append}
use Rattle.std.proofs.lemmas.List.{take_more}
use Rattle.theory.specs.Literals.{Literal, Clause, negated, has, has_var}
use Rattle.theory.specs.Trails.{Trail, Entry, literals, entry_of, level_at}
use Rattle.theory.specs.Propagation.{clause_at}
use Rattle.theory.specs.Lawful.{IsGrounded, IsLawful}
use Rattle.theory.specs.Scores.{is_seen}
use Rattle.theory.specs.Units.{with_number, reasons_against}
use Rattle.theory.proofs.literals.LiteralLemmas.{or-cases, or-left, or-right}
use Rattle.theory.proofs.literals.LiteralSets.{negated-negated, has-cases, has-equal}
use Rattle.theory.proofs.trails.TrailEntries.{IsAt, entry_of_literal, entry_of-at, IsLawfulEntry-at}
use Rattle.cdcl.proofs.ArrangedClauses.{vars-arranged}

or-none : (a : Bool) → a || false ≡ a
or-none true = refl
or-none false = refl

or-and-none : (old a : Bool) → old ≡ old || (a && false)
or-and-none true a = refl
or-and-none false true = refl
or-and-none false false = refl

or-both : (n a b : Bool) → n || (a || b) ≡ (n || a) || (n || b)
or-both true a b = refl
or-both false a b = refl

or-first : (n a b : Bool) → n || (a || b) ≡ (n || a) || b
or-first true a b = refl
or-first false a b = refl

or-second : (n a b : Bool) → n || (a || b) ≡ a || (n || b)
or-second true true b = refl
or-second true false b = refl
or-second false a b = refl

and-spread : (p a b : Bool) → p && (a || b) ≡ (p && a) || (p && b)
and-spread true a b = refl
and-spread false a b = refl

both : (a b : Bool) → (a ≡ true → b ≡ true) → (b ≡ true → a ≡ true) → a ≡ b
both true b to from = sym (to refl)
both false true to from = from refl
both false false to from = refl

-- what is seen of two parts of a clause, one behind the other
seen-parts : (old p a b : Bool) → (old || (p && a)) || (p && b) ≡ old || (p && (a || b))
seen-parts true p a b = refl
seen-parts false p a b = sym (and-spread p a b)

any-with_number : (p : ℕ → Bool) (o : Option ℕ) (ns : List ℕ) → list_any p (with_number o ns) ≡ list_any p (with_number o []) || list_any p ns
any-with_number p None ns = refl
any-with_number p (Some n) ns = ap (λ b. b || list_any p ns) (sym (or-none (p n)))

-- the reasons against a clause are those against its parts
any-against_both : (p : ℕ → Bool) (a b : Bool) (r : Option ℕ) (A B C : List ℕ) → list_any p C ≡ list_any p A || list_any p B
    → list_any p (with_number (if a || b then r else None) C) ≡ list_any p (with_number (if a then r else None) A) || list_any p (with_number (if b then r else None) B)
any-against_both p true true None A B C h = h
any-against_both p true false None A B C h = h
any-against_both p false true None A B C h = h
any-against_both p false false r A B C h = h
any-against_both p true true (Some n) A B C h = ap (λ x. p n || x) h ∙ or-both (p n) (list_any p A) (list_any p B)
any-against_both p true false (Some n) A B C h = ap (λ x. p n || x) h ∙ or-first (p n) (list_any p A) (list_any p B)
any-against_both p false true (Some n) A B C h = ap (λ x. p n || x) h ∙ or-second (p n) (list_any p A) (list_any p B)

any-against_append : (p : ℕ → Bool) (T : Trail) (c d : Clause) → list_any p (reasons_against T (c ++ d)) ≡ list_any p (reasons_against T c) || list_any p (reasons_against T d)
any-against_append p [] c d = refl
any-against_append p (e ∷ T) c d =
    rw list_any-append (any-against_both p (has c (negated e.lit)) (has d (negated e.lit)) e.reason (reasons_against T c) (reasons_against T d) (reasons_against T (c ++ d)) (any-against_append p T c d))

-- no reason is one against no literal
none-against : (p : ℕ → Bool) (T : Trail) → list_any p (reasons_against T []) ≡ false
none-against p [] = refl
none-against p (e ∷ T) = none-against p T

-- a reason against a literal is that of an entry that makes it false
record IsAgainst (p : ℕ → Bool) (T : Trail) (l : Literal) : Type 0 where
  entry : Entry
  at : IsAt T entry
  is : l ≡ negated entry.lit
  passes : list_any p (with_number entry.reason []) ≡ true

against-later : (p : ℕ → Bool) (x : Entry) (T : Trail) (l : Literal) → IsAgainst p T l → IsAgainst p (x ∷ T) l
against-later p x T l f = record {
  entry = f.entry;
  at = record { before = x ∷ f.at.before; behind = f.at.behind; split = ap (λ U. x ∷ U) f.at.split };
  is = f.is;
  passes = f.passes;
}

against-entry : (p : ℕ → Bool) (T : Trail) (l : Literal) → list_any p (reasons_against T (l ∷ [])) ≡ true → IsAgainst p T l
against-entry p [] l h = absurd (cc)
against-entry p (x ∷ T) l h = go (has (l ∷ []) (negated x.lit)) refl h (against-entry p T l)
  where
    R : List ℕ
    R = reasons_against T (l ∷ [])

    here : has (l ∷ []) (negated x.lit) ≡ true → list_any p (with_number x.reason []) ≡ true → IsAgainst p (x ∷ T) l
    here t q = elim (has-cases l (negated x.lit) [] t) [
      | inl i ↦ record { entry = x; at = record { before = []; behind = T; split = refl }; is = sym i; passes = q }
      | inr none ↦ absurd (cc)
    ]

    go : (b : Bool) → has (l ∷ []) (negated x.lit) ≡ b → list_any p (with_number (if b then x.reason else None) R) ≡ true → (list_any p R ≡ true → IsAgainst p T l) → IsAgainst p (x ∷ T) l
    go false e t more = against-later p x T l (more t)
    go true e t more = elim (or-cases (list_any p (with_number x.reason [])) (list_any p R) (sym (any-with_number p x.reason R) ∙ t)) [
      | inl i ↦ here e i
      | inr r ↦ against-later p x T l (more r)
    ]

-- and the reason of such an entry is one against it
entry-against : (p : ℕ → Bool) (A : Trail) (e : Entry) (B : Trail) (l : Literal) → negated e.lit ≡ l → list_any p (with_number e.reason []) ≡ true → list_any p (reasons_against (A ++ e ∷ B) (l ∷ [])) ≡ true
entry-against p [] e B l is h =
    let there : has (l ∷ []) (negated e.lit) ≡ true = has-equal l (negated e.lit) [] is in
    rw there (any-with_number p e.reason (reasons_against B (l ∷ [])) ∙ or-left (list_any p (with_number e.reason [])) (list_any p (reasons_against B (l ∷ []))) h)
entry-against p (a ∷ A) e B l is h =
    let first : Option ℕ = if has (l ∷ []) (negated a.lit) then a.reason else None in
    any-with_number p first (reasons_against (A ++ e ∷ B) (l ∷ [])) ∙ or-right (list_any p (with_number first [])) (list_any p (reasons_against (A ++ e ∷ B) (l ∷ []))) (entry-against p A e B l is h)

-- the entry that makes a literal false
pub record MakesFalse (T : Trail) (l : Literal) : Type 0 where
  pub entry : Entry
  pub at : IsAt T entry
  pub is : negated entry.lit ≡ l
  pub found : entry_of T l.var ≡ Some entry

pub makes_false : (K : List Clause) (T : Trail) (l : Literal) → IsLawful K T → has (literals T) (negated l) ≡ true → MakesFalse T l
makes_false K T l lawful h =
    let f = entry_of_literal T (negated l) h in
    record {
      entry = f.0;
      at = f.1;
      is = ap negated f.2 ∙ negated-negated l;
      found = subst (λ (x : Literal). entry_of T x.var ≡ Some f.0) f.2 (entry_of-at K T f.0 lawful f.1);
    }

-- the reason against a false literal is that of its variable's entry
any-against_one : (p : ℕ → Bool) (K : List Clause) (T : Trail) (l : Literal) (e : Entry) → IsLawful K T → has (literals T) (negated l) ≡ true → entry_of T l.var ≡ Some e
    → list_any p (reasons_against T (l ∷ [])) ≡ list_any p (with_number e.reason [])
any-against_one p K T l e lawful h found = both (list_any p (reasons_against T (l ∷ []))) (list_any p (with_number e.reason [])) to from
  where
    one : (d : Entry) → entry_of T l.var ≡ Some d → d ≡ e
    one d k = let same : Some d ≡ Some e = sym k ∙ found in cc

    to : list_any p (reasons_against T (l ∷ [])) ≡ true → list_any p (with_number e.reason []) ≡ true
    to t =
        let a = against-entry p T l t in
        let there : entry_of T l.var ≡ Some a.entry = ap (λ (x : Literal). entry_of T x.var) a.is ∙ entry_of-at K T a.entry lawful a.at in
        subst (λ (x : Entry). list_any p (with_number x.reason []) ≡ true) (one a.entry there) a.passes

    from : list_any p (with_number e.reason []) ≡ true → list_any p (reasons_against T (l ∷ [])) ≡ true
    from t =
        let m = makes_false K T l lawful h in
        let passes = subst (λ (x : Entry). list_any p (with_number x.reason []) ≡ true) (sym (one m.entry m.found)) t in
        subst (λ (U : Trail). list_any p (reasons_against U (l ∷ [])) ≡ true) (sym m.at.split) (entry-against p m.at.before m.entry m.at.behind l m.is passes)

-- the entry that is found for a variable
pub found : (T : Trail) (var v : ℕ) (o : Option Entry) → var ≡ v → o ≡ entry_of T var → entry_of T v ≡ o
found T var v o is there = ap (entry_of T) (sym is) ∙ sym there

-- a reason is the number of a clause
pub reason-inside : (K : List Clause) (T : Trail) (l : Literal) (e : Entry) (n : ℕ) → IsLawful K T → has (literals T) (negated l) ≡ true → entry_of T l.var ≡ Some e → e.reason ≡ Some n → (1 ≤ n) × (n ≤ length K)
reason-inside K T l e n lawful h found reason =
    let m = makes_false K T l lawful h in
    let one : m.entry ≡ e = let same : Some m.entry ≡ Some e = sym m.found ∙ found in cc in
    let is : m.entry.reason ≡ Some n = ap (λ (x : Entry). x.reason) one ∙ reason in
    (subst (IsGrounded K m.at.before m.entry) is (IsLawfulEntry-at K T m.entry m.at lawful).grounded).1.numbered

-- what is seen of a false literal's reason, whose clause is d in another order
pub seen-reason : (K : List Clause) (T : Trail) (l : Literal) (e : Entry) (n : ℕ) (d : Clause) (v : ℕ) → IsLawful K T → has (literals T) (negated l) ≡ true → entry_of T l.var ≡ Some e → e.reason ≡ Some n
    → IsPermutation (clause_at K n) d → nat_lt 0 (level_at (entry_of T v)) && has_var d v ≡ is_seen K T (reasons_against T (l ∷ [])) v
seen-reason K T l e n d v lawful h found reason same =
    ap (λ b. nat_lt 0 (level_at (entry_of T v)) && b)
    (vars-arranged (clause_at K n) d v same
    ∙ (sym (or-none (has_var (clause_at K n) v))
    ∙ (ap (λ o. list_any (λ m. has_var (clause_at K m) v) (with_number o [])) (sym reason)
    ∙ sym (any-against_one (λ m. has_var (clause_at K m) v) K T l e lawful h found))))

-- nothing is seen where it has none
pub seen-none : (K : List Clause) (T : Trail) (l : Literal) (e : Entry) (old : Bool) (v : ℕ) → IsLawful K T → has (literals T) (negated l) ≡ true → entry_of T l.var ≡ Some e → e.reason ≡ None
    → old ≡ old || is_seen K T (reasons_against T (l ∷ [])) v
seen-none K T l e old v lawful h found reason =
    let none : list_any (λ m. has_var (clause_at K m) v) (reasons_against T (l ∷ [])) ≡ false = any-against_one (λ m. has_var (clause_at K m) v) K T l e lawful h found ∙ ap (λ o. list_any (λ m. has_var (clause_at K m) v) (with_number o [])) reason in
    rw none (or-and-none old (nat_lt 0 (level_at (entry_of T v))))

-- one literal more
seen-more : (K : List Clause) (T : Trail) (c : Clause) (l : Literal) (v : ℕ) (old before after : Bool) → before ≡ old || is_seen K T (reasons_against T c) v
    → after ≡ before || is_seen K T (reasons_against T (l ∷ [])) v → after ≡ old || is_seen K T (reasons_against T (c ++ l ∷ [])) v
seen-more K T c l v old before after h step =
    let p : ℕ → Bool = λ n. has_var (clause_at K n) v in
    let above : Bool = nat_lt 0 (level_at (entry_of T v)) in
    step ∙ (ap (λ b. b || is_seen K T (reasons_against T (l ∷ [])) v) h
    ∙ (seen-parts old above (list_any p (reasons_against T c)) (list_any p (reasons_against T (l ∷ [])))
    ∙ ap (λ b. old || (above && b)) (sym (any-against_append p T c (l ∷ [])))))

-- no literal yet
pub seen-no_literal : (K : List Clause) (T : Trail) (old : Bool) (v : ℕ) → old ≡ old || is_seen K T (reasons_against T []) v
seen-no_literal K T old v = rw (none-against (λ n. has_var (clause_at K n) v) T) (or-and-none old (nat_lt 0 (level_at (entry_of T v))))

-- the literal at a place behind those before it
pub seen-next : (K : List Clause) (T : Trail) (c : Clause) (i : ℕ) (l : Literal) (v : ℕ) (old before after : Bool) → i < length c → l ≡ get_or c i l → before ≡ old || is_seen K T (reasons_against T (take i c)) v
    → after ≡ before || is_seen K T (reasons_against T (l ∷ [])) v → after ≡ old || is_seen K T (reasons_against T (take (i + 1) c)) v
seen-next K T c i l v old before after less at h step =
    let more : take (i + 1) c ≡ take i c ++ l ∷ [] = take_more c i l less ∙ ap (λ x. take i c ++ x ∷ []) (sym at) in
    rw more (seen-more K T (take i c) l v old before after h step)
