-- The lines of the prelude, one more at the end, and within the limits of a proof's text.
use Rattle.std.proofs.Common.{◌≡◌, ℕ, ◌+◌, ◌≤◌, List, [], ◌∷◌, ◌++◌, length, suc, refl, ap, ◌∙◌, All, arith}
use Rattle.std.proofs.lemmas.List.Elements.{All-nil, All-cons, All-head, All-tail}
use Rattle.theory.specs.Literals.{Literal, IsVariable}
use Rattle.theory.specs.Truth.{Formula, IsOver}
use Rattle.theory.specs.Pure.{pure_literals}
use Rattle.theory.specs.Steps.{add}
use Rattle.theory.specs.Reading.{large, IsWithinLimits}
use Rattle.theory.specs.ProofReading.{IsLiteral, IsNumber, IsGroup, IsStep, max_literal, max_number}
use Rattle.theory.specs.Proofs.{unit_steps, prelude}
use Rattle.theory.proofs.searching.PureVariables.{IsOver-pure_literals, length-pure_literals}

pub unit_steps-push : (n : ℕ) (ls : List Literal) (l : Literal)
    → unit_steps n (ls ++ l ∷ []) ≡ unit_steps n ls ++ add (record { id = n + length ls; clause = l ∷ []; hints = []; groups = [] }) ∷ []
unit_steps-push n [] l = let number : n ≡ n + 0 = omega arith in ap (λ k. add (record { id = k; clause = l ∷ []; hints = []; groups = [] }) ∷ []) number
unit_steps-push n (k ∷ ls) l =
    let number : n + 1 + length ls ≡ n + length (k ∷ ls) = omega arith in
    ap (λ steps. add (record { id = n; clause = k ∷ []; hints = []; groups = [] }) ∷ steps)
    (unit_steps-push (n + 1) ls l ∙ ap (λ i. unit_steps (n + 1) ls ++ add (record { id = i; clause = l ∷ []; hints = []; groups = [] }) ∷ []) number)

pub length-unit_steps : (n : ℕ) (ls : List Literal) → length (unit_steps n ls) ≡ length ls
length-unit_steps n [] = refl
length-unit_steps n (l ∷ ls) = ap (λ k. suc k) (length-unit_steps (n + 1) ls)

IsStep-unit_steps : (V n : ℕ) (ls : List Literal) → V ≤ max_literal → 1 ≤ n → n + length ls ≤ max_number → IsOver V ls → All IsStep (unit_steps n ls)
IsStep-unit_steps V n [] few one fits over = All-nil IsStep
IsStep-unit_steps V n (l ∷ ls) few one fits over =
    let here = All-head (λ k. IsVariable V k.var) l ls over in
    let low = here.0 in
    let high = here.1 in
    All-cons IsStep (add (record { id = n; clause = l ∷ []; hints = []; groups = [] })) (unit_steps (n + 1) ls)
    (record {
      id = (one, omega arith);
      clause = All-cons IsLiteral l [] (low, omega arith) (All-nil IsLiteral);
      hints = All-nil IsNumber;
      groups = All-nil IsGroup;
    })
    (IsStep-unit_steps V (n + 1) ls few (omega arith) (omega arith) (All-tail (λ k. IsVariable V k.var) l ls over))

pub IsStep-prelude : (F : Formula) → IsWithinLimits large F → All IsStep (prelude F)
IsStep-prelude F within =
    let vars = within.vars in
    let clauses = within.clauses in
    let few = length-pure_literals F in
    IsStep-unit_steps F.vars (length F.clauses + 1) (pure_literals F) (omega arith) (omega arith) (omega arith) (IsOver-pure_literals F)
