use Rattle.std.proofs.Common.{Some, [], ◌∷◌, ◌++◌, ◌∙◌}
use Rattle.std.proofs.lemmas.List.Elements.{All-same, All-push, All-pop}
use Rattle.packs.specs.Checking.{IsChecking}
use Rattle.gathering.specs.declared.loads.Load.{Load}
use Rattle.gathering.specs.Ahead.{IsTrueLoad}
use Rattle.gathering.proofs.AheadLemmas.{true-same}
use Rattle.gathering.proofs.ahead.next_loads.Goals as goal

pub checkers-preserved : goal.checkers-preserved
checkers-preserved g c =
    let inv = c.checkers.invariant in
    let load : Load = record { checker = c.in-Some.checker; facts = c.in_ok-facts.facts } in
    record {
      checkers = λ search F all.
          let was = inv.checkers search F all in
          let popped = All-pop (IsChecking search F) c.checkers.checkers.items c.pop.new.self.items (Some c.in-Some.checker) c.in-Some.ensures.items was.0 in
          let is = λ (d : Load). IsChecking search F d.checker in
          (popped.0, All-same is c.push.new.self.items (c.checkers.loads.items ++ load ∷ []) c.in_ok-push.ensures.items (All-push is c.checkers.loads.items load was.1 popped.1));
      own = λ F plan are.
          let facts = c.in_ok-facts.ensures.own F plan (true-same g.S.KeepsFacts.facts F plan c.args.store.now c.checkers.store inv.kept are) in
          All-same (IsTrueLoad F plan) c.push.new.self.items (c.checkers.loads.items ++ load ∷ []) c.in_ok-push.ensures.items (All-push (IsTrueLoad F plan) c.checkers.loads.items load (inv.own F plan are) facts);
      kept = c.facts_from.ensures.kept ∙ inv.kept;
    }
