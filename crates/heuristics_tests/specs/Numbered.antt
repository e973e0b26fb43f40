-- Candidates that are numbered one after the other.
use Rattle.std.specs.Prelude.{◌≡◌, ℕ, ◌≤◌, List, nat_eq, count_by}
use Rattle.theory.specs.Forgetting.{Candidate}
use Rattle.heuristics.specs.Lateness.{AreOfDistinctNumbers}

-- distinct numbers below a bound
pub record AreNumberedBelow (bound : ℕ) (all : List Candidate) : Type 0 where
  pub distinct : AreOfDistinctNumbers all
  pub none : (n : ℕ) → bound ≤ n → count_by (λ a. nat_eq n a.number) all ≡ 0
