use Rattle.std.proofs.Common.{◌∙◌}
use Rattle.gathering.proofs.AheadLemmas.{true-put}
use Rattle.gathering.proofs.ahead.facts_from.Goals as goal

pub loop-number-preserved : goal.loop-number-preserved
loop-number-preserved g c =
    let inv = c.loop-number.invariant in
    record {
      own = λ F plan are.
          true-put g.S.KeepsFacts.facts F plan c.args.store.now c.loop-number.store c.loop-number.facts.items c.put_fact.new.facts.items c.in_ok-fact.fact inv.kept are c.in_ok-fact.ensures.given c.in_ok-put_fact.ensures (inv.own F plan are);
      kept = c.in_order.ensures.kept ∙ inv.kept;
    }
