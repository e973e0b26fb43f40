-- Whether a learnt clause was forgotten, and whether it may be, is told by its literals in any
-- order.
use Rattle.std.proofs.Common.{◌≡◌, ℕ, ◌+◌, ◌-◌, ◌<◌, ◌≤◌, ◌&&◌, not, nat_lt, true, false, List, ◌∷◌, length, drop, get_or, refl, ap, sym, subst, ◌∙◌, inl, inr, if◌then◌else◌, IsPermutation}
use Rattle.std.proofs.lemmas.List.Sorted.{length_permutation}
use Rattle.theory.specs.Literals.{Clause, has_both_signs}
use Rattle.theory.specs.Plans.{Constants}
use Rattle.theory.specs.Trails.{Trail}
use Rattle.theory.specs.Propagation.{clause_at}
use Rattle.theory.specs.Forgetting.{Mark, candidates, may_go, is_reason}
use Rattle.kernel.proofs.Reordered.{both_signs-permuted}
use Rattle.cdcl.specs.Forgetful.{IsPlain}
use Rattle.cdcl.proofs.ForgettingLemmas.{candidates-next, length-plain}

-- a clause with both signs was forgotten, and has two literals
two-plain : (V : ℕ) (c : Clause) → IsPlain V c → has_both_signs c ≡ true → length c ≡ 2
two-plain V c (inl h) both = absurd (let clash : true ≡ false = sym both ∙ h.0 in cc)
two-plain V c (inr e) both = ap (λ (d : Clause). length d) e

pub two-arranged : (V : ℕ) (c d : Clause) → IsPlain V c → IsPermutation c d → has_both_signs d ≡ true → length d ≡ 2
two-arranged V c d plain p both = length_permutation c d p ∙ two-plain V c plain (both_signs-permuted c d p ∙ both)

pub length-arranged : (V : ℕ) (c d : Clause) → IsPlain V c → IsPermutation c d → has_both_signs d ≡ false → length d ≤ V
length-arranged V c d plain p none = subst (λ n. n ≤ V) (sym (length_permutation c d p)) (length-plain V c plain (both_signs-permuted c d p ∙ none))

-- the candidates of one clause more
pub candidates-arranged : (c : Constants) (T : Trail) (K : List Clause) (marks : List Mark) (from at : ℕ) (m : Mark) (d : Clause) → 1 ≤ from → from - 1 + at < length K → at < length marks
    → IsPermutation (clause_at K (from + at)) d → m ≡ get_or marks at m
    → candidates c T (from + at) (drop (from - 1 + at) K) (drop at marks)
    ≡ (if may_go c T (from + at) d m then record { number = from + at; glue = m.glue; size = length d } ∷ candidates c T (from + (at + 1)) (drop (from - 1 + (at + 1)) K) (drop (at + 1) marks)
    else candidates c T (from + (at + 1)) (drop (from - 1 + (at + 1)) K) (drop (at + 1) marks))
candidates-arranged c T K marks from at m d some inside within p is =
    let given = clause_at K (from + at) in
    let signs = both_signs-permuted given d p in
    let long = sym (length_permutation given d p) in
    candidates-next c T K marks from at m given some inside within refl is ∙ (λ i. if nat_lt c.kept_glue m.glue && (not m.used && (not (signs i) && not (is_reason T (from + at))))
    then record { number = from + at; glue = m.glue; size = long i } ∷ candidates c T (from + (at + 1)) (drop (from - 1 + (at + 1)) K) (drop (at + 1) marks)
    else candidates c T (from + (at + 1)) (drop (from - 1 + (at + 1)) K) (drop (at + 1) marks))
