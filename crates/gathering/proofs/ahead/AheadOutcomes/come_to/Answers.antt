use Rattle.theory.specs.Beginnings.{begun_by}
use Rattle.gathering.proofs.ahead.AheadOutcomes.come_to.Goals as goal

pub returns-then-is_stocked-clause-gives : goal.returns-then-is_stocked-clause-gives
returns-then-is_stocked-clause-gives g c =
    let F = begun_by c.args.plan.search c.args.formula.now in
    let search = c.args.plan.search in
    record {
      stored = c.requires.stored;
      ready = record { checkers = c.requires.ready.checkers; ahead = c.drop_passed.ensures.checked search F (c.forget_others.ensures.checked search F c.requires.ready.ahead) };
    }

pub returns-then-is_stocked-clause-own : goal.returns-then-is_stocked-clause-own
returns-then-is_stocked-clause-own g c = λ own.
    let F = begun_by c.args.plan.search c.args.formula.now in
    record { stored = own.stored; ahead = c.drop_passed.ensures.own F c.args.plan (c.forget_others.ensures.own F c.args.plan own.ahead) }

pub returns-clause-gives : goal.returns-clause-gives
returns-clause-gives g c =
    let after = c.in_ok-check_next.ensures.gives in
    record { stored = after.stored; ready = record { checkers = after.ready.checkers; ahead = c.drop_passed-2.ensures.checked c.args.plan.search (begun_by c.args.plan.search c.args.formula.now) after.ready.ahead } }

pub returns-clause-own : goal.returns-clause-own
returns-clause-own g c = λ own.
    let F = begun_by c.args.plan.search c.args.formula.now in
    let plan = c.args.plan in
    let after = c.in_ok-check_next.ensures.own (record { stored = own.stored; ahead = c.drop_passed.ensures.own F plan (c.forget_others.ensures.own F plan own.ahead) }) in
    record { stored = after.stored; ahead = c.drop_passed-2.ensures.own F plan after.ahead }

pub check_next-requires-after_bounds : goal.check_next-requires-after_bounds
check_next-requires-after_bounds g c κs within =
    let F = begun_by c.args.plan.search c.args.formula.now in
    let search = c.args.plan.search in
    record {
      stored = c.requires.stored;
      ready = record { checkers = c.requires.ready.checkers; ahead = c.drop_passed.ensures.checked search F (c.forget_others.ensures.checked search F c.requires.ready.ahead) };
    }
