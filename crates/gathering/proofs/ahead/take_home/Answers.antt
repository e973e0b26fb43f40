use Rattle.std.proofs.Common.{Some}
use Rattle.std.proofs.lemmas.List.Elements.{All-same, All-push, All-pop}
use Rattle.std.proofs.lemmas.Result.{IfOk-at_ok}
use Rattle.theory.specs.Beginnings.{begun_by}
use Rattle.packs.specs.Checking.{IsChecking}
use Rattle.cubes.specs.Solved.{AreCheckedResults, AreTrueResults}
use Rattle.gathering.specs.Ahead.{IsHome, IsOwnHome}
use Rattle.gathering.proofs.ahead.take_home.Goals as goal

pub homes-preserved : goal.homes-preserved
homes-preserved c =
    let inv = c.homes.invariant in
    record {
      checked = λ F plan all ready.
          let was = inv.checked F plan all ready in
          let popped = All-pop (IsHome F plan) c.homes.homes.items c.pop.new.self.items (Some c.in-Some.home) c.in-Some.ensures.items was.0 in
          let is = IsChecking plan.search F in (
            popped.0,
            record {
              checkers = All-same is c.push.new.self.items _ c.in_ok-push.ensures.items (All-push is c.homes.checkers.items c.in-Some.home.checker was.1.checkers popped.1.checker);
              ahead = c.in_ok-put_reversed.ensures.checked plan.search (begun_by plan.search F) was.1.ahead (IfOk-at_ok (λ rs. AreCheckedResults plan.search (begun_by plan.search F) rs.items) c.in_ok-results.was popped.1.results);
            },
          );
      own = λ F plan all ready.
          let was = inv.own F plan all ready in
          let popped = All-pop (IsOwnHome F plan) c.homes.homes.items c.pop.new.self.items (Some c.in-Some.home) c.in-Some.ensures.items was.0 in
          (popped.0, c.in_ok-put_reversed.ensures.own (begun_by plan.search F) plan was.1 (IfOk-at_ok (λ rs. AreTrueResults (begun_by plan.search F) plan rs.items) c.in_ok-results.was popped.1));
    }
