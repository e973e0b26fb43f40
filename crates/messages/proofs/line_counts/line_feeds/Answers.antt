use Rattle.std.proofs.Common.{◌≤◌, ◌∙◌, length, arith}
use Rattle.messages.proofs.LineFeeds.{part-counted, part-few}
use Rattle.messages.proofs.line_counts.line_feeds.Goals as goal

pub loop-at-preserved : goal.loop-at-preserved
loop-at-preserved c =
    let i = c.loop-at.invariant in
    let end = c.min-end.ensures in
    let rises : c.loop-at.at ≤ c.min-end.result = omega (arith, end, c.loop-at-test.true) in
    let within : c.min-end.result ≤ length c.args.piece.now = omega (arith, end) in
    let part = c.from-count.ensures ∙ c.few_line_feeds.ensures in
    let few = part-few c.args.piece.now c.loop-at.at c.min-end.result c.from-count.result rises within part in
    let before = i.few in
    record {
      counted = part-counted c.args.piece.now c.loop-at.at c.min-end.result c.from-count.result rises within part c.loop-at.count i.counted;
      few = omega (arith, few, before, rises);
      within = within;
    }
