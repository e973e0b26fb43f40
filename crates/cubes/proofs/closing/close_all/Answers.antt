use Rattle.std.proofs.Common.{◌<◌, ◌^◌, length, rules, arith}
use Rattle.theory.specs.Beginnings.{begun_by}
use Rattle.cubes.proofs.HarvestParts.{harvested}
use Rattle.cubes.proofs.closing.close_all.Goals as goal

pub returns-clause-harvested : goal.returns-clause-harvested
returns-clause-harvested g c plan worked =
    let few : length c.in_ok-_closing._closing.left.items < 2 ^ 64 = search (rules, arith) in
    harvested g.L.KeepsLines.lines (begun_by plan.search c.args.formula.now) plan c.args.pool c.args.works.items c.in_ok-hands.hands.items c.in_ok-hands.results.items
    c.in_ok-_closing._closing.left.items c.in_ok-_closing._closing.least c.in_ok-_closing._closing.undone c.in_ok-_closing.ensures.some c.requires.pool worked c.requires.long
    c.in_ok-hands.ensures.hands c.requires.root c.in_ok-hands.ensures.results c.in_ok-_closing.ensures.once c.in_ok-_closing.ensures.order few
