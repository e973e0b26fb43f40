-- Propagation from true literals over true clauses. The first three lemmas are the same as in
-- theory/proofs/searching/AgreeingModels.antt, where they are private.
use Rattle.std.proofs.Common.{◌≡◌, ℕ, Bool, true, false, List, [], ◌∷◌, ◌++◌, nat_eq, refl, sym, ap, subst, ◌∙◌, inl, inr, eqb-true}
use Rattle.theory.specs.Literals.{Literal, Clause, has_var}
use Rattle.theory.specs.Truth.{AreTrue, is_true, are_true}
use Rattle.theory.specs.Trails.{Trail, literals}
use Rattle.theory.specs.Propagation.{Closed, conflict, clause_at, Rule, IsRule, Propagates, clashes, grows, rests, unit_entry}
use Rattle.theory.proofs.literals.LiteralLemmas.{or-cases, or-left, or-right}
use Rattle.theory.proofs.literals.ClauseLemmas.{clause_at-true, least_false-found}
use Rattle.theory.proofs.literals.TrueClauses.{AreTrue-append, unit-true, is_false-false}
use Rattle.theory.proofs.trails.TrailLists.{literals-append}
use Rattle.theory.proofs.searching.SearchSoundness.{Propagates-says}

-- the first part of true literals is true
pub AreTrue-front : (m : ℕ → Bool) (P R : List Literal) → AreTrue m (P ++ R) → AreTrue m P
AreTrue-front m [] R t = tt
AreTrue-front m (l ∷ P) R t = (t.0, AreTrue-front m P R t.1)

pub AreTrue-back : (m : ℕ → Bool) (P R : List Literal) → AreTrue m (P ++ R) → AreTrue m R
AreTrue-back m [] R t = t
AreTrue-back m (l ∷ P) R t = AreTrue-back m P R t.1

-- of one sign, both are true
one-value : (s p q : Bool) → is_true (λ x. p) (record { var = 0; positive = s }) ≡ true → is_true (λ x. q) (record { var = 0; positive = s }) ≡ true → p ≡ q
one-value true p q h k = h ∙ sym k
one-value false true q h k = absurd (cc)
one-value false false true h k = absurd (cc)
one-value false false false h k = refl

-- a variable of literals that are true under both
pub agree-on : (m n : ℕ → Bool) (P : List Literal) (u : ℕ) → AreTrue m P → AreTrue n P → has_var P u ≡ true → m u ≡ n u
agree-on m n [] u a b h = absurd (cc)
agree-on m n (l ∷ P) u a b h = elim (or-cases (nat_eq u l.var) (has_var P u) h) [
  | inl it ↦ (let v = eqb-true u l.var it in ap m v ∙ one-value l.positive (m l.var) (n l.var) a.0 b.0 ∙ ap n (sym v))
  | inr rest ↦ agree-on m n P u a.1 b.1 rest
]

-- what is propagated from true literals over true clauses is true
pub Propagates-true : (rule : Rule) → IsRule rule → (m : ℕ → Bool) (K : List Clause) (T U : Trail) (a : Closed) → are_true m K ≡ true → Propagates rule K T a U → AreTrue m (literals T) → AreTrue m (literals U)
Propagates-true rule g m K T U a t (clashes h) p = p
Propagates-true rule g m K T U a t (rests h i) p = p
Propagates-true rule g m K T U a t (grows {u = u} h i more) p =
    let f = g.gives T K u i in
    let unit : is_true m u.1 ≡ true = unit-true m (literals T) (clause_at K u.0) u.1 p f.2 (clause_at-true m K u.0 t f.0 f.1) in
    Propagates-true rule g m K (T ++ unit_entry T u ∷ []) U a t more
    (subst (AreTrue m) (sym (literals-append T (unit_entry T u ∷ []))) (AreTrue-append m (literals T) (u.1 ∷ []) p (unit, tt)))

-- so there is no conflict
pub no-conflict : (rule : Rule) → IsRule rule → (m : ℕ → Bool) (K : List Clause) (T U : Trail) (n : ℕ) → are_true m K ≡ true → Propagates rule K T (conflict n) U → AreTrue m (literals T) → ⊥
no-conflict rule g m K T U n t r p =
    let found = least_false-found (literals U) K n (Propagates-says rule K T U (conflict n) r) in
    let no = is_false-false m (literals U) (clause_at K n) (Propagates-true rule g m K T U (conflict n) t r p) found.holds in
    let yes = clause_at-true m K n t found.from found.to in
    cc

-- a variable of the front, and of the literal at the end
pub has_var-front : (P R : List Literal) (v : ℕ) → has_var P v ≡ true → has_var (P ++ R) v ≡ true
has_var-front [] R v h = absurd (cc)
has_var-front (l ∷ P) R v h = elim (or-cases (nat_eq v l.var) (has_var P v) h) [
  | inl it ↦ or-left (nat_eq v l.var) (has_var (P ++ R) v) it
  | inr rest ↦ or-right (nat_eq v l.var) (has_var (P ++ R) v) (has_var-front P R v rest)
]

pub has_var-back : (P R : List Literal) (v : ℕ) → has_var R v ≡ true → has_var (P ++ R) v ≡ true
has_var-back [] R v h = h
has_var-back (l ∷ P) R v h = or-right (nat_eq v l.var) (has_var (P ++ R) v) (has_var-back P R v h)

-- propagation takes no variable off
pub Propagates-has_var : (rule : Rule) (K : List Clause) (T U : Trail) (a : Closed) (v : ℕ) → Propagates rule K T a U → has_var (literals T) v ≡ true → has_var (literals U) v ≡ true
Propagates-has_var rule K T U a v (clashes h) p = p
Propagates-has_var rule K T U a v (rests h i) p = p
Propagates-has_var rule K T U a v (grows {u = u} h i more) p =
    Propagates-has_var rule K (T ++ unit_entry T u ∷ []) U a v more
    (subst (λ P. has_var P v ≡ true) (sym (literals-append T (unit_entry T u ∷ []))) (has_var-front (literals T) (u.1 ∷ []) v p))
