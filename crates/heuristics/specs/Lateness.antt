-- The candidates of which all but the first quarter are forgotten.
use Rattle.std.specs.Prelude.{ℕ, ◌≤◌, List, nat_eq, count_by}
use Rattle.theory.specs.Forgetting.{Candidate}

-- no two have the same number
abbrev pub AreOfDistinctNumbers : List Candidate → Type 0
AreOfDistinctNumbers all = (n : ℕ) → count_by (λ a. nat_eq n a.number) all ≤ 1
