use Rattle.std.proofs.Common.{◌∙◌}
use Rattle.simplify.proofs.EliminatedRows.{ends-more, clauses-more, next-there}
use Rattle.simplify.proofs.eliminated.put_clauses.Goals as goal

pub loop-number-preserved : goal.loop-number-preserved
loop-number-preserved c =
    let literals = c.loop-number.literals.items in
    let longer = c.extend_from_slice.new.self.items in
    let ends = c.loop-number.ends.items in
    let more = c.push.new.self.items in
    let is = c.in_ok-extend_from_slice.ensures.items in
    let last = c.len.ensures ∙ c.extend_from_slice.new.self.ok.0 in
    let clauses = clauses-more literals longer c.clause.result.now ends more c.len.result c.loop-number.invariant.ends is last c.in_ok-push.ensures.items in record {
      ends = ends-more literals longer c.clause.result.now ends more c.len.result c.loop-number.invariant.ends is last c.in_ok-push.ensures.items;
      clauses = next-there c.args.database.now.entries c.args.numbers.now c.loop-number.number-index c.clause.result.now _ _ _ c.loop-number-test.true c.clause.ensures.clause c.loop-number.invariant.clauses clauses;
    }
