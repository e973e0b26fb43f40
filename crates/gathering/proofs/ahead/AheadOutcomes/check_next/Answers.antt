use Rattle.std.proofs.lemmas.List.Elements.{All-nil, All-same}
use Rattle.std.proofs.lemmas.Result.{on_ok_weaker}
use Rattle.packs.specs.Checking.{IsChecking}
use Rattle.gathering.proofs.ahead.AheadOutcomes.check_next.Goals as goal

pub returns-clause-gives : goal.returns-clause-gives
returns-clause-gives g c =
    let F = c.args.formula.now in
    let plan = c.args.plan in
    let is = IsChecking plan.search F in
    let none = All-same is c.next_loads.new.checkers.items _ c.in_ok-loads.ensures.none (All-nil is) in
    on_ok_weaker c.take_home.result
    (λ ready. record { stored = record { checker = c.requires.stored.checker; solver = c.requires.stored.solver }; ready = ready })
    (c.take_home.ensures.checked F plan c.in_ok-homes.ensures.home (record { checkers = none; ahead = c.requires.ready.ahead }))
