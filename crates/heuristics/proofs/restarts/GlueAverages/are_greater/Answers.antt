use Rattle.std.proofs.Common.{arith}
use Rattle.heuristics.proofs.RecentGlues.{sum-most}
use Rattle.heuristics.proofs.restarts.GlueAverages.are_greater.Goals as goal

pub is_above-requires-clause-sum : goal.is_above-requires-clause-sum
is_above-requires-clause-sum c =
    let i = c.self.invariant in
    let window = i.1.window.1 in
    let capacity = i.2 in
    let few = i.3 in
    let most = sum-most c.self.inside.recent.items (omega arith) i.4 in
    let is = i.0 in
    let count = i.6 in
    (omega arith, omega arith)
