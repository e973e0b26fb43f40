use Rattle.std.proofs.Common.{◌≡◌, ap, arith}
use Rattle.theory.specs.Trails.{current_level, up_to}
use Rattle.theory.proofs.trails.TrailLevels.{current_level-up_to}
use Rattle.kernel.specs.State.{State}
use Rattle.session.proofs.LoadedLemmas.{IsLoaded-settled}
use Rattle.session.proofs.search.Search.settle.Goals as goal

pub returns-in_ok-self-clause-loaded : goal.returns-in_ok-self-clause-loaded
returns-in_ok-self-clause-loaded c =
    let s = c.go_back.new.self in
    let top = current_level-up_to c.args.self.now.kernel.trail 0 in
    let same : current_level s.kernel.trail ≡ current_level (up_to c.args.self.now.kernel.trail 0) = ap (λ (k : State). current_level k.trail) c.go_back.ensures.kernel in
    IsLoaded-settled c.args.formula.now c.args.assumptions.now s c.in_ok-self.field-0 c.go_back.ensures.asked (omega (arith, top, same)) c.in_ok-self.ensures
