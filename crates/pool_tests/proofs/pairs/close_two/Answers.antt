use Rattle.std.proofs.Common.{◌≡◌, List, [], ◌∷◌, sym, subst, rules}
use Rattle.pool.specs.Hands.{HandView}
use Rattle.pool.specs.Pools.{AreAllOf}
use Rattle.pool_tests.proofs.FewHands.{all_of_two}
use Rattle.pool_tests.proofs.pairs.close_two.Goals as goal

pub close-requires : goal.close-requires
close-requires c =
    let items : c.push-2.new.self.items ≡ c.args.two ∷ c.args.one ∷ [] = search rules in
    subst (λ (l : List HandView). AreAllOf c.args.pool l) (sym items) (all_of_two c.args.pool c.args.one c.args.two c.requires)
