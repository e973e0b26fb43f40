use Rattle.std.proofs.Common.{rules, map}
use Rattle.std.proofs.lemmas.List.Sorted.{IsPermutation-map, All-permutation}
use Rattle.theory.specs.Plans.{ordered_within}
use Rattle.theory.specs.Pure.{searched}
use Rattle.theory.specs.Work.{IsWork}
use Rattle.cubes.specs.Solved.{results_by}
use Rattle.cubes.proofs.FreshHands.{new-vars, home-all, home-works}
use Rattle.cubes_tests.proofs.AnyOrder.{all-in_any_order}
use Rattle.cubes_tests.proofs.harvests.harvested.Goals as goal

pub all_work-requires : goal.all_work-requires
all_work-requires g c = (search rules, new-vars c.args.formula.now.vars c.in_ok-pool.pool c.in_ok-pool.all.items (rw c.vars.ensures.vars at c.in_ok-pool.ensures.hands))

pub harvest-requires-clause-pool : goal.harvest-requires-clause-pool
harvest-requires-clause-pool g c =
    all-in_any_order c.in_ok-pool.pool (map (λ w. w.hand) c.in_ok-works.works.items) (map (λ w. w.hand) c.reverse.new.self.items) (IsPermutation-map (λ w. w.hand) c.in_ok-works.works.items c.reverse.new.self.items c.reverse.ensures.permutation)
    (home-all (λ lines. lines) (searched c.args.formula.now) (ordered_within 1) c.in_ok-pool.pool c.in_ok-pool.all.items c.in_ok-works.works.items (rw c.vars.ensures.vars at c.in_ok-pool.ensures.hands) c.in_ok-works.ensures.len c.in_ok-works.ensures.each)

pub harvest-requires-clause-works : goal.harvest-requires-clause-works
harvest-requires-clause-works g c =
    All-permutation (λ w. IsWork (searched c.args.formula.now) (ordered_within 1) w.short_of_memory w.hand.ledger (results_by (λ lines. lines) w.solved.items)) c.in_ok-works.works.items c.reverse.new.self.items c.reverse.ensures.permutation
    (home-works (λ lines. lines) (searched c.args.formula.now) (ordered_within 1) c.in_ok-pool.pool c.in_ok-pool.all.items c.in_ok-works.works.items (rw c.vars.ensures.vars at c.in_ok-pool.ensures.hands) c.in_ok-works.ensures.len c.in_ok-works.ensures.each)
