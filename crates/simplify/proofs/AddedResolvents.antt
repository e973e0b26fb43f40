-- Resolvents are added one after the other.
use Rattle.std.proofs.Common.{◌≡◌, ℕ, ◌+◌, zero, suc, ◌<◌, List, [], ◌∷◌, ◌++◌, map, length, take, ap, sym, ◌∙◌, Some, slice_get, arith}
use Rattle.std.proofs.lemmas.List.{append_assoc, map-append}
use Rattle.theory.specs.Literals.{Clause}
use Rattle.theory.specs.Learning.{Line}
use Rattle.theory.proofs.literals.Membership.{slice_get-below}
use Rattle.simplify.specs.Entries.{Entries}
use Rattle.simplify.specs.Stored.{with_clauses}

take-next : {X : Type 0} (xs : List X) (i : ℕ) (x : X) → slice_get xs i ≡ Some x → take (i + 1) xs ≡ take i xs ++ x ∷ []
take-next [] i x e = absurd (cc)
take-next (y ∷ xs) zero x e = let one : y ≡ x = cc in ap (λ z. z ∷ []) one
take-next (y ∷ xs) (suc i) x e = ap (λ k. take k (y ∷ xs)) (next i) ∙ ap (λ ys. y ∷ ys) (take-next xs i x e)
  where
    next : (i : ℕ) → suc i + 1 ≡ suc (i + 1)
    next i = omega arith

module _ (ls : List Line) (i p n : ℕ) (c : Clause) (below : i < length ls) (clause : (l : Line) → slice_get ls i ≡ Some l → l.clause ≡ c)
    (pair : (l : Line) → slice_get ls i ≡ Some l → (l.hints ≡ p ∷ n ∷ []) × (l.forgets ≡ [])) where
  abbrev the_line : Line
  the_line = record { clause = c; hints = p ∷ n ∷ []; forgets = [] }

  line-next : take (i + 1) ls ≡ take i ls ++ the_line ∷ []
  line-next =
      let it = slice_get-below ls i below in
      let a = clause it.0 it.1 in
      let b = pair it.0 it.1 in
      take-next ls i it.0 it.1 ∙ ap (λ (l : Line). take i ls ++ l ∷ []) (λ k. record { clause = a k; hints = b.0 k; forgets = b.1 k })

  pub lines-next : (old : List Line) → old ++ take i ls ++ the_line ∷ [] ≡ old ++ take (i + 1) ls
  lines-next old = append_assoc old (take i ls) (the_line ∷ []) ∙ ap (λ xs. old ++ xs) (sym line-next)

  pub entries-next : (K : Entries) → with_clauses K (take i ls) ++ Some c ∷ [] ≡ with_clauses K (take (i + 1) ls)
  entries-next K =
      append_assoc K (map (λ (l : Line). Some l.clause) (take i ls)) (Some c ∷ [])
      ∙ ap (λ xs. K ++ xs) (sym (map-append (λ (l : Line). Some l.clause) (take i ls) (the_line ∷ [])) ∙ ap (map (λ (l : Line). Some l.clause)) (sym line-next))
