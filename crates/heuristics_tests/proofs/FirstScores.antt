-- How many variables the first scores have.
use Rattle.std.proofs.Common.{◌≡◌, ℕ, length, ap, ◌∙◌}
use Rattle.std.proofs.lemmas.List.{length-map}
use Rattle.theory.specs.Plans.{Constants}
use Rattle.theory.specs.Trails.{variables}
use Rattle.theory.specs.Scores.{Scores, first_scores}
use Rattle.theory.proofs.searching.ModelLemmas.{length-variables}
use Rattle.heuristics.specs.Rankings.{Ranking, vars_of}

pub first-vars : (c : Constants) (V : ℕ) (r : Ranking) → r.scores ≡ first_scores c V → vars_of r ≡ V
first-vars c V r e = ap (λ (s : Scores). length s.scores) e ∙ length-map (variables V) (λ (v : ℕ). 0) ∙ length-variables V
