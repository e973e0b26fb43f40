use Rattle.std.proofs.Common.{◌∙◌, ap}
use Rattle.kernel.specs.Forgetting.{names}
use Rattle.kernel.specs.Given.{without_named}
use Rattle.kernel.specs.declared.clauses.named.Named.{Named}
use Rattle.kernel.proofs.GivenClauses.{forget-named}
use Rattle.kernel.proofs.clauses.given.Given.forget.Goals as goal

pub returns : goal.returns
returns c numbers tells = rw (← c.self.view_is) (c.by.ensures ∙ (ap (λ (n : Named). without_named (names n) 0 c.self.inside.last.clauses) c.of.ensures ∙ forget-named (names c.args.named.now) numbers 0 c.self.inside.last.clauses tells))
