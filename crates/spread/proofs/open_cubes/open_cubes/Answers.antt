use Rattle.std.proofs.Common.{◌∷◌, subst, reverse, sym, ap, Bool}
use Rattle.spread.specs.OpenCubes.{said_in, LeavesOpen}
use Rattle.spread.proofs.OpenCubeLemmas.{same-way, end-on, last-first, is-empty}
use Rattle.spread.proofs.open_cubes.open_cubes.Goals as goal

pub returns-in_default : goal.returns-in_default
returns-in_default c =
    let F = c.args.formula.now in
    let said = said_in c.args.words.now in
    let all = reverse c.args.way.items in
    let none = is-empty c.cubes.way.items c.cubes.way.len c.cubes.way.ok.0 c.in_default.ensures.cases.0 in
    subst (λ (m : Bool). LeavesOpen F said all c.cubes.left.cubes.items m) (sym c.cubes.invariant.no_model)
    (end-on F said all c.cubes.left.cubes.items (reverse c.cubes.way.items) (ap reverse none) c.cubes.invariant.way)

pub returns-then-branch : goal.returns-then-branch
returns-then-branch c =
    let F = c.args.formula.now in
    let said = said_in c.args.words.now in
    let all = reverse c.args.way.items in
    c.in_ok-take_up.ensures.model all (same-way F said all c.cubes.left.cubes.items (reverse c.cubes.way.items) (c.in-Some.cube ∷ reverse c.pop.new.self.items)
    (last-first c.pop.new.self.items c.cubes.way.items c.in-Some.cube c.in-Some.ensures.items) c.cubes.invariant.way) c.if-branch.true

pub cubes-preserved : goal.cubes-preserved
cubes-preserved c =
    let F = c.args.formula.now in
    let said = said_in c.args.words.now in
    let all = reverse c.args.way.items in
    record {
      way = c.in_ok-take_up.ensures.goes_on all (same-way F said all c.cubes.left.cubes.items (reverse c.cubes.way.items) (c.in-Some.cube ∷ reverse c.pop.new.self.items)
          (last-first c.pop.new.self.items c.cubes.way.items c.in-Some.cube c.in-Some.ensures.items) c.cubes.invariant.way) c.if-branch.false;
      no_model = c.cubes.invariant.no_model;
    }
