-- The clauses that are left are written one after the other.
use Rattle.std.proofs.Common.{◌≡◌, ℕ, suc, ◌+◌, [], ◌∷◌, ◌++◌, map, ap, sym, ◌∙◌, arith}
use Rattle.theory.specs.Truth.{Formula}
use Rattle.theory.specs.Proofs.{numbers_from}
use Rattle.simplify.specs.Entries.{Entries}
use Rattle.simplify.specs.Left.{left_at}
use Rattle.simplify.proofs.EntryChanges.{numbers-push, map-push}

pub left-next : (F : Formula) (K : Entries) (i : ℕ) → map (left_at F K) (numbers_from 1 i) ++ left_at F K (i + 1) ∷ [] ≡ map (left_at F K) (numbers_from 1 (i + 1))
left-next F K i =
    ap (λ n. map (left_at F K) (numbers_from 1 i) ++ left_at F K n ∷ []) place
    ∙ (sym (map-push (left_at F K) (numbers_from 1 i) (1 + i))
    ∙ (ap (map (left_at F K)) (sym (numbers-push 1 i)) ∙ ap (λ n. map (left_at F K) (numbers_from 1 n)) next))
  where
    place : i + 1 ≡ 1 + i
    place = omega arith

    next : suc i ≡ i + 1
    next = omega arith
