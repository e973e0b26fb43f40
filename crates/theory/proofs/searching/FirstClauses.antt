-- The first clauses of a search stay in front, as they were.
use Rattle.std.proofs.Common.{◌≡◌, ℕ, ◌+◌, ◌<◌, true, List, [], ◌∷◌, ◌++◌, length, refl, ap, sym, ◌∙◌, append-nil, append_assoc, length-append, nat_eq, arith}
use Rattle.std.specs.List.{list_any}
use Rattle.theory.specs.Literals.{Clause}
use Rattle.theory.specs.Trails.{Trail, up_to}
use Rattle.theory.specs.Propagation.{Rule}
use Rattle.theory.specs.Learning.{Line, learn_removing}
use Rattle.theory.specs.Forgetting.{forgetting, forget}
use Rattle.theory.specs.Units.{unit_line}
use Rattle.theory.proofs.literals.LiteralSets.{false_unless}
use Rattle.theory.proofs.searching.ForgettingNumbers.{length-forget, forget-append, forget-none}
use Rattle.theory.proofs.searching.Invariants.{AreLearnt, IsInvariant}

-- K, and behind it one clause for each line
pub record BeginsWith (K C : List Clause) (T : Trail) (lines : List Line) : Type 0 where
  pub learnt : List Clause
  pub are_clauses : C ≡ K ++ learnt
  pub many : length learnt ≡ length lines

BeginsWith-learnt : (K C : List Clause) (T U : Trail) (lines : List Line) (line : Line) (ns : List ℕ) → AreLearnt ns C lines → BeginsWith K C T lines
    → BeginsWith K (forget ns 1 C ++ line.clause ∷ []) U (lines ++ line ∷ [])
BeginsWith-learnt K C T U lines line ns own i = record {
  learnt = forget ns (1 + length K) i.learnt ++ line.clause ∷ [];
  are_clauses = ap (λ (D : List Clause). D ++ line.clause ∷ []) split ∙ append_assoc K (forget ns (1 + length K) i.learnt) (line.clause ∷ []);
  many =
      let one = length-append (forget ns (1 + length K) i.learnt) (line.clause ∷ []) in
      let other = length-append lines (line ∷ []) in
      let same = length-forget ns (1 + length K) i.learnt in
      let before = i.many in
      omega (arith, one, other, same, before);
}
  where
    later : (k : ℕ) → list_any (nat_eq k) ns ≡ true → length K < k
    later k t =
        let parts : length C ≡ length K + length i.learnt = ap length i.are_clauses ∙ length-append K i.learnt in
        let before = i.many in
        let first = (own.within k t).0 in
        omega (arith, parts, before, first)

    front : forget ns 1 K ≡ K
    front = forget-none ns 1 K (λ k low high. false_unless (list_any (nat_eq k) ns) (λ t. let above = later k t in absurd (omega (arith, above, high))))

    split : forget ns 1 C ≡ K ++ forget ns (1 + length K) i.learnt
    split = ap (forget ns 1) i.are_clauses ∙ (forget-append ns 1 K i.learnt ∙ ap (λ (c : List Clause). c ++ forget ns (1 + length K) i.learnt) front)

pub BeginsWith-begin : (K : List Clause) (T : Trail) → BeginsWith K K T []
BeginsWith-begin K T = record { learnt = []; are_clauses = sym (append-nil K); many = refl }

pub IsInvariant-BeginsWith : (rule : Rule) (vs : List ℕ) (K : List Clause) → IsInvariant ⊥ rule vs (BeginsWith K)
IsInvariant-BeginsWith rule vs K = record {
  propagated = λ C T U lines a h i. record { learnt = i.learnt; are_clauses = i.are_clauses; many = i.many };
  unit = λ C before e es lines n level reason units i. record {
    learnt = i.learnt ++ (e.lit ∷ []) ∷ [];
    are_clauses = ap (λ (D : List Clause). D ++ (e.lit ∷ []) ∷ []) i.are_clauses ∙ append_assoc K i.learnt ((e.lit ∷ []) ∷ []);
    many =
        let one = length-append i.learnt ((e.lit ∷ []) ∷ []) in
        let other = length-append lines (unit_line C before e.lit n ∷ []) in
        let before = i.many in
        omega (arith, one, other, before);
  };
  decided = λ C T lines l calm v free i. record { learnt = i.learnt; are_clauses = i.are_clauses; many = i.many };
  learnt = λ R C T lines n ns level h above low own unused i. BeginsWith-learnt K C T (up_to T level) lines (forgetting ns (learn_removing R C T n)) ns own i;
}
