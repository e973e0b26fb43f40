-- A checked tree without a satisfied leaf leaves no model.
use Rattle.std.proofs.Common.{◌≡◌, ℕ, zero, suc, Bool, true, false, not, List, [], ◌∷◌, ◌++◌, length, refl, ap, arith, Option, Some, None}
use Rattle.std.proofs.lemmas.List.Elements.{All-append}
use Rattle.theory.specs.Literals.{Literal, positive, negative, IsVariable}
use Rattle.theory.specs.Truth.{Formula, Assignment, IsOver, AreTrue, are_true}
use Rattle.theory.specs.Trees.{Tree, satisfied, refutation, split, false_half, true_half, first_model, or_else}
use Rattle.theory.specs.Checked.{IsCheckedTree}
use Rattle.theory.proofs.literals.TrueClauses.{AreTrue-append}
use Rattle.theory.proofs.searching.ReplayedLines.{AreRefutation-refutes}

pub push-over : (V : ℕ) (Q : List Literal) (l : Literal) → IsOver V Q → IsVariable V l.var → IsOver V (Q ++ l ∷ [])
push-over V Q l o v = All-append (λ k. IsVariable V k.var) Q (l ∷ []) o only
  where
    only : IsOver V (l ∷ [])
    only zero e i = v
    only (suc k) e i = absurd (omega arith)

pub checked-unsatisfiable : (m : ℕ → Bool) (F : Formula) (Q : List Literal) (t : Tree) → IsCheckedTree F Q t → first_model t ≡ None → are_true m F.clauses ≡ true → AreTrue m Q → ⊥
checked-unsatisfiable m F Q (satisfied M) h e a q = cc
checked-unsatisfiable m F Q (refutation lines) h e a q = AreRefutation-refutes m F.vars (length F.clauses) Q F.clauses lines h a q
checked-unsatisfiable m F Q (split x l r) h e a q =
    go (m x) refl (checked-unsatisfiable m F (false_half Q x) l h.1 (parts (first_model l) (first_model r) e).0 a)
    (checked-unsatisfiable m F (true_half Q x) r h.2 (parts (first_model l) (first_model r) e).1 a)
  where
    parts : (o p : Option Assignment) → or_else o p ≡ None → (o ≡ None) × (p ≡ None)
    parts None p k = (refl, k)
    parts (Some M) p k = absurd (cc)

    go : (b : Bool) → m x ≡ b → (AreTrue m (false_half Q x) → ⊥) → (AreTrue m (true_half Q x) → ⊥) → ⊥
    go true v left right = right (AreTrue-append m Q (positive x ∷ []) q (v, tt))
    go false v left right = left (AreTrue-append m Q (negative x ∷ []) q (ap not v, tt))
