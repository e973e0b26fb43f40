use Rattle.std.proofs.Common.{◌≡◌, List, [], ◌∷◌, sym, subst, rules}
use Rattle.pool.specs.Hands.{HandView}
use Rattle.pool.specs.Pools.{AreAllOf}
use Rattle.pool_tests.proofs.FewHands.{all_of_one}
use Rattle.pool_tests.proofs.pairs.close_one.Goals as goal

pub close-requires : goal.close-requires
close-requires c =
    let items : c.push.new.self.items ≡ c.args.hand ∷ [] = search rules in
    subst (λ (l : List HandView). AreAllOf c.args.pool l) (sym items) (all_of_one c.args.pool c.args.hand c.requires)
