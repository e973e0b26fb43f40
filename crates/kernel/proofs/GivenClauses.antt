-- What is remembered of clauses that are forgotten.
use Rattle.std.proofs.Common.{◌≡◌, ℕ, ◌+◌, Bool, List, [], ◌∷◌, refl, if◌then◌else◌}
use Rattle.theory.specs.Literals.{Clause}
use Rattle.theory.specs.Forgetting.{forgotten, forget}
use Rattle.kernel.specs.Forgetting.{Tells}
use Rattle.kernel.specs.Given.{without_named}

-- the test and the numbers tell the same clauses
pub forget-named : (gone : ℕ → Bool) (numbers : List ℕ) (n : ℕ) (K : List Clause) → Tells gone numbers → without_named gone n K ≡ forget numbers (n + 1) K
forget-named gone numbers n [] tells = refl
forget-named gone numbers n (c ∷ K) tells = λ i. (if tells n i then forgotten else c) ∷ forget-named gone numbers (n + 1) K tells i
