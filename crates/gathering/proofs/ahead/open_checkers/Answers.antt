use Rattle.std.proofs.lemmas.List.Elements.{All-same, All-push}
use Rattle.packs.specs.Checking.{IsChecking}
use Rattle.gathering.proofs.ahead.open_checkers.Goals as goal

pub loop-preserved : goal.loop-preserved
loop-preserved c =
    let is = IsChecking c.args.plan.search c.args.formula.now in
    All-same is c.push.new.self.items _ c.in_ok-push.ensures.items (All-push is c.loop.checkers.items c.in_ok-open_checker.field-0 c.loop.invariant c.in_ok-open_checker.ensures)
