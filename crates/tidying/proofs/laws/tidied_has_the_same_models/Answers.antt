use Rattle.std.proofs.Common.{IsTrue, subst, sym}
use Rattle.theory.specs.Truth.{value}
use Rattle.tidying.proofs.TextLemmas.{same-truth}
use Rattle.tidying.proofs.laws.tidied_has_the_same_models.Goals as goal

pub returns : goal.returns
returns c = λ F M. (
  λ h. record { values = h.values; clauses = subst (λ b. IsTrue b) (same-truth (value M) F.clauses) h.clauses },
  λ h. record { values = h.values; clauses = subst (λ b. IsTrue b) (sym (same-truth (value M) F.clauses)) h.clauses },
)
