use Rattle.std.proofs.Common.{◌≡◌, ◌-◌, get_or, ap, ◌∙◌, arith}
use Rattle.theory.specs.Trails.{Entry}
use Rattle.trail.proofs.Ordered.{up_to-kept}
use Rattle.trail.proofs.trail.count_up_to.Goals as goal

pub returns-then-last-level-clause-entries : goal.returns-then-last-level-clause-entries
returns-then-last-level-clause-entries c =
    let level : c.last.inside.level ≡ (get_or c.args.entries.now (c.loop-count.count - 1) c.index-entries-count.result).level = ap (λ (e : Entry). e.level) (c.last.view_is ∙ c.index-entries-count.is) in
    up_to-kept c.args.entries.now c.loop-count.count c.args.level c.index-entries-count.result c.requires c.loop-count-test.true c.loop-count.invariant.within (omega arith) c.loop-count.invariant.same
