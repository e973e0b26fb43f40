-- By what variables are decided.
use Rattle.std.specs.Prelude.{◌≡◌, ℕ, ◌+◌, length}
use Rattle.heuristics.specs.Rankings.{vars_of}
use Rattle.session.specs.declared.choice.Choice.{Choice}

-- there is room for the variables 1 to V
pub record HasChoice (V : ℕ) (c : Choice) : Type 0 where
  pub scores : vars_of c.scores ≡ V
  pub saved : length c.saved.items ≡ V + 1
