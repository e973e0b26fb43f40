use Rattle.std.proofs.Common.{◌≤◌, arith}
use Rattle.cubes.proofs.DividingLemmas.{first-known, IsDividing-asked}
use Rattle.cubes.proofs.division.dividing.DividingSearch.ask.Goals as goal

pub returns-clause-division : goal.returns-clause-division
returns-clause-division g c F plan d wanted =
    first-known c.args.self.now.search.constants F plan c.args.self.now.asked c.in_ok-first.first c.search_first.new.search c.in_ok-self.field-0 d.search d.asked wanted (c.in_ok-first.ensures.says F d.ready)
    (c.in_ok-first.ensures.kept.0 F d.ready) c.in_ok-self.ensures.divided c.in_ok-self.ensures.whole

pub returns-clause-kept : goal.returns-clause-kept
returns-clause-kept g c F plan d =
    let other = c.requires.2 in
    let wanted : 2 ≤ plan.divide = let one = other.divide in let two = d.divide in let more = c.requires.3 in omega arith in
    IsDividing-asked F plan c.args.self.now c.search_first.new.search c.in_ok-self.field-0 d c.in_ok-first.ensures.kept
    (first-known c.args.self.now.search.constants F plan c.args.self.now.asked c.in_ok-first.first c.search_first.new.search c.in_ok-self.field-0 d.search d.asked wanted (c.in_ok-first.ensures.says F d.ready)
    (c.in_ok-first.ensures.kept.0 F d.ready) c.in_ok-self.ensures.divided c.in_ok-self.ensures.whole)
