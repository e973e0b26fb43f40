use Rattle.std.proofs.Common.{◌<◌, ◌^◌, arith}
use Rattle.heuristics.proofs.RecentGlues.{kept-few, kept-most, sum-most}
use Rattle.heuristics.proofs.restarts.GlueAverages.add.Goals as goal

pub push-self-inside-requires-clause-sum : goal.push-self-inside-requires-clause-sum
push-self-inside-requires-clause-sum c =
    let i = c.self.invariant in
    let window = i.1.window.1 in
    let capacity = i.2 in
    let few = i.3 in
    let most = sum-most c.self.inside.recent.items (omega arith) i.4 in
    let is = i.0 in
    (i.0, omega arith)

pub invariant_of-self : goal.invariant_of-self
invariant_of-self c =
    let i = c.self.invariant in
    let e = c.push-self-inside.ensures in
    let glue = c.requires.glue in
    let total = i.5 in
    let count : c.self.inside.count < 2 ^ 30 = rw (← c.self.view_is) at c.requires.count in
    rw e.recent (rw e.recent at e.sum, i.1, i.2, kept-few c.self.inside.recent.capacity c.args.glue c.self.inside.recent.items, kept-most c.self.inside.recent.capacity c.args.glue (2 ^ 27) c.self.inside.recent.items glue i.4, omega arith, omega arith)
