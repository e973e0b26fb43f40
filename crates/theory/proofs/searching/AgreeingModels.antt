-- Assignments that satisfy the formula and a cube agree below the least variable that propagation
-- from the cube leaves free.
use Rattle.std.proofs.Common.{◌≡◌, ℕ, ◌<◌, ◌≤◌, Bool, true, false, List, [], ◌∷◌, ◌++◌, nat_eq, refl, sym, ap, subst, ◌∙◌, inl, inr, eqb-true}
use Rattle.theory.specs.Literals.{Literal, Clause, has_var}
use Rattle.theory.specs.Truth.{Formula, AreTrue, is_true, are_true}
use Rattle.theory.specs.Trails.{Trail, literals, cube_trail}
use Rattle.theory.specs.Propagation.{Closed, quiet, clause_at, Rule, IsRule, by_number, Propagates, clashes, grows, rests, unit_entry}
use Rattle.theory.specs.Checked.{IsLeastSplit}
use Rattle.theory.proofs.literals.LiteralLemmas.{or-cases}
use Rattle.theory.proofs.literals.ClauseLemmas.{clause_at-true}
use Rattle.theory.proofs.literals.TrueClauses.{AreTrue-append, unit-true}
use Rattle.theory.proofs.trails.TrailLists.{literals-append, literals-cube}
use Rattle.theory.proofs.searching.Rules.{IsRule-by_number}
use Rattle.theory.proofs.trees.FirstModel.{assigned-below}

-- a variable of literals that are true under both
agree-on : (m n : ℕ → Bool) (P : List Literal) (u : ℕ) → AreTrue m P → AreTrue n P → has_var P u ≡ true → m u ≡ n u
agree-on m n [] u a b h = absurd (cc)
agree-on m n (l ∷ P) u a b h = elim (or-cases (nat_eq u l.var) (has_var P u) h) [
  | inl it ↦ (let v = eqb-true u l.var it in ap m v ∙ one l.positive (m l.var) (n l.var) a.0 b.0 ∙ ap n (sym v))
  | inr rest ↦ agree-on m n P u a.1 b.1 rest
]
  where
    one : (s p q : Bool) → is_true (λ x. p) (record { var = 0; positive = s }) ≡ true → is_true (λ x. q) (record { var = 0; positive = s }) ≡ true → p ≡ q
    one true p q h k = h ∙ sym k
    one false true q h k = absurd (cc)
    one false false true h k = absurd (cc)
    one false false false h k = refl

-- what is propagated from true literals over true clauses is true
Propagates-true : (rule : Rule) → IsRule rule → (m : ℕ → Bool) (K : List Clause) (T U : Trail) (a : Closed) → are_true m K ≡ true → Propagates rule K T a U → AreTrue m (literals T) → AreTrue m (literals U)
Propagates-true rule g m K T U a t (clashes h) p = p
Propagates-true rule g m K T U a t (rests h i) p = p
Propagates-true rule g m K T U a t (grows {u = u} h i more) p =
    let f = g.gives T K u i in
    let unit : is_true m u.1 ≡ true = unit-true m (literals T) (clause_at K u.0) u.1 p f.2 (clause_at-true m K u.0 t f.0 f.1) in
    Propagates-true rule g m K (T ++ unit_entry T u ∷ []) U a t more
    (subst (AreTrue m) (sym (literals-append T (unit_entry T u ∷ []))) (AreTrue-append m (literals T) (u.1 ∷ []) p (unit, tt)))

-- Below the least free variable all that satisfies the formula and the cube agrees.
pub least-agree : (F : Formula) (Q : List Literal) (x : ℕ) (m n : ℕ → Bool) → IsLeastSplit F Q x → are_true m F.clauses ≡ true → AreTrue m Q
    → are_true n F.clauses ≡ true → AreTrue n Q → (u : ℕ) → 1 ≤ u → u < x → m u ≡ n u
least-agree F Q x m n s a p b q u one below = agree-on m n (literals s.trail) u (on_trail m a p) (on_trail n b q) (assigned-below F.vars x u s.trail s.least one below)
  where
    on_trail : (k : ℕ → Bool) → are_true k F.clauses ≡ true → AreTrue k Q → AreTrue k (literals s.trail)
    on_trail k c r = Propagates-true by_number IsRule-by_number k F.clauses (cube_trail Q) s.trail quiet c s.rests (subst (AreTrue k) (sym (literals-cube Q)) r)
