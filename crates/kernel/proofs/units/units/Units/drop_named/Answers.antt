use Rattle.std.proofs.Common.{rules, not}
use Rattle.std.proofs.lemmas.Fn.{filter_same}
use Rattle.kernel.specs.Forgetting.{names}
use Rattle.kernel.proofs.LeftLists.{units-left}
use Rattle.kernel.proofs.units.units.Units.drop_named.Goals as goal

pub returns : goal.returns
returns c =
    let r = c.retain.ensures.filtered in
    let kept = filter_same _ (λ x. not (names c.args.named.now x.0)) _ (λ x b f' k. search rules) _ _ r.1 in
    rw (← c.self.view_is, c.drop_named.ensures) (units-left (names c.args.named.now) c.self.inside.queue _ _ _ kept r.2)
