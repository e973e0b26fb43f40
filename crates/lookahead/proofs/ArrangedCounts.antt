-- Counting a clause's literals in another order.
use Rattle.std.proofs.Common.{◌≡◌, ℕ, ◌+◌, ◌-◌, ◌<◌, ◌≤◌, ◌&&◌, not, List, [], All, length, get_or, ap, subst, sym, ◌∙◌, if◌then◌else◌, IsPermutation, arith}
use Rattle.std.proofs.lemmas.List.Elements.{All-get_or}
use Rattle.std.proofs.lemmas.Option.{unwrap_or-slice_get}
use Rattle.theory.specs.Literals.{Literal, Clause, has, has_both_signs}
use Rattle.theory.specs.Truth.{IsOver}
use Rattle.theory.specs.Propagation.{clause_at}
use Rattle.kernel.proofs.Arranged.{has-permuted}
use Rattle.kernel.proofs.Reordered.{over-permuted, both_signs-permuted}

-- the clause of a number is over the variables in any order
pub arranged-over : (V : ℕ) (K : List Clause) (n : ℕ) (d : Clause) → 1 ≤ n → n ≤ length K → All (IsOver V) K → IsPermutation (clause_at K n) d → IsOver V d
arranged-over V K n d low high over p =
    over-permuted V (clause_at K n) d p (subst (IsOver V) (sym (unwrap_or-slice_get K (n - 1) [])) (All-get_or (IsOver V) K (n - 1) [] (omega (arith, low, high)) over))

-- a literal counts where it counts in the other order
pub counts-permuted : (c d : Clause) (l : Literal) (n : ℕ) → IsPermutation c d → n + (if has d l && not (has_both_signs d) then 1 else 0) ≡ n + (if has c l && not (has_both_signs c) then 1 else 0)
counts-permuted c d l n p = sym (λ i. n + (if has-permuted c d l p i && not (both_signs-permuted c d p i) then 1 else 0))
