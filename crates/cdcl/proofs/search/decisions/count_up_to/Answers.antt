use Rattle.std.proofs.Common.{◌≡◌, ◌-◌, get_or, ap, ◌∙◌, arith}
use Rattle.theory.specs.Trails.{Trail, Entry}
use Rattle.cdcl.proofs.TrailFronts.{up_to-kept}
use Rattle.cdcl.proofs.search.decisions.count_up_to.Goals as goal

pub returns-then-last-level-clause-entries : goal.returns-then-last-level-clause-entries
returns-then-last-level-clause-entries c =
    let T = c.args.kernel.now.trail in
    let level : c.last.inside.level ≡ (get_or T (c.loop-count.count - 1) c.index-trail-count.result).level =
    ap (λ (e : Entry). e.level) (c.last.view_is ∙ (c.index-trail-count.is ∙ ap (λ (U : Trail). get_or U (c.loop-count.count - 1) c.index-trail-count.result) c.trail-trail.ensures.trail)) in
    up_to-kept c.args.kernel.now.clauses T c.loop-count.count c.args.level c.index-trail-count.result c.trail-trail.ensures.lawful c.loop-count-test.true c.loop-count.invariant.within (let low = c.if-last-level.true in omega arith) c.loop-count.invariant.same
