use Rattle.std.proofs.Common.{nat_lt, refl, sym, subst, if◌then◌else◌}
use Rattle.theory.specs.Trails.{up_to}
use Rattle.session.specs.Asking.{IsAssumed}
use Rattle.session.proofs.AskedLemmas.{IsAsked-back, IsAsked-with}
use Rattle.session.proofs.search.Search.go_back.Goals as goal

pub returns-clause-asked : goal.returns-clause-asked
returns-clause-asked c =
    let s = c.args.self.now in
    let A = c.args.assumptions.now in
    let level = c.args.level in
    let U = up_to s.kernel.trail level in
    let back = IsAsked-back c.args.formula.now A s c.requires.asked level c.requires.level in
    IsAsked-with c.args.formula.now A _ _ back c.back_to.ensures refl refl c.release.ensures refl
    (subst (λ n. IsAssumed A n c.min-self.result U) (sym c.assumed_at-self.ensures) (subst (λ b. IsAssumed A (if nat_lt level s.base then 0 else s.assumed) b U) (sym c.min-self.ensures) back.assumed))
