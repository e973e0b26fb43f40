-- The negations of the variables that pass a test.
use Rattle.std.proofs.Common.{◌≡◌, ℕ, zero, suc, ◌-◌, ◌+◌, Bool, true, false, not, List, [], ◌∷◌, ◌++◌, map, filter, length, get_or, refl, ap, ◌∙◌, cond, arith, append-nil, add-one, sym}
use Rattle.theory.specs.Literals.{positive, negative, IsVariable}
use Rattle.theory.specs.Truth.{Formula, value}
use Rattle.theory.specs.Pure.{occurs, is_pure, pure_literals}
use Rattle.theory.proofs.searching.PureVariables.{negatives, negatives-suc}

-- two tests that agree on the variables 1 to V have the same negatives
pub negatives-same : (p q : ℕ → Bool) (V : ℕ) → ((v : ℕ) → IsVariable V v → p v ≡ q v) → negatives p V ≡ negatives q V
negatives-same p q zero agree = refl
negatives-same p q (suc V) agree =
    negatives-suc p V
    ∙ ap (λ ls. ls ++ map negative (filter p (suc V ∷ []))) (negatives-same p q V (λ v r. agree v (r.0, let b = r.1 in omega arith)))
    ∙ ap (λ b. negatives q V ++ map negative (cond b (suc V ∷ []) [])) (agree (suc V) (omega arith, omega arith))
    ∙ sym (negatives-suc q V)

-- one variable more, which passes or not
pub negatives-taken : (p : ℕ → Bool) (V : ℕ) → p (V + 1) ≡ true → negatives p (V + 1) ≡ negatives p V ++ negative (V + 1) ∷ []
negatives-taken p V = rw add-one (λ h. negatives-suc p V ∙ ap (λ b. negatives p V ++ map negative (cond b (suc V ∷ []) [])) h)

pub negatives-left : (p : ℕ → Bool) (V : ℕ) → p (V + 1) ≡ false → negatives p (V + 1) ≡ negatives p V
negatives-left p V = rw add-one (λ h. negatives-suc p V ∙ ap (λ b. negatives p V ++ map negative (cond b (suc V ∷ []) [])) h ∙ append-nil (negatives p V))

-- the mark of the variable whose place is one below its number
pub value-place : (marks : List Bool) (i : ℕ) → value marks (i + 1) ≡ get_or marks i false
value-place marks i = let e : i + 1 - 1 ≡ i = omega arith in ap (λ k. get_or marks k false) e

-- where each variable's mark says whether it stands in a clause without a negation, the negations
-- of the others are the pure literals
pub negatives-pure : (F : Formula) (marks : List Bool) → length marks ≡ F.vars
    → ((v : ℕ) → IsVariable F.vars v → value marks v ≡ occurs F.clauses (positive v)) → negatives (λ w. not (value marks w)) (length marks) ≡ pure_literals F
negatives-pure F marks long says =
    ap (negatives (λ w. not (value marks w))) long ∙ negatives-same (λ w. not (value marks w)) (is_pure F.clauses) F.vars (λ v r. ap not (says v r))
