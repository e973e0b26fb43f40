use Rattle.std.proofs.Common.{arith, ◌+◌, filter, drop}
use Rattle.simplify.proofs.UnitPlaces.{is_unit_at, holder-there, holder-has, unit-at, no_unit-at, none-before, unit-found, no_unit-found}
use Rattle.simplify.proofs.sides.unit_place.Goals as goal

pub clause-requires : goal.clause-requires
clause-requires c = holder-there c.args.lit c.args.database.now.entries c.args.numbers.now c.loop-place.place c.requires c.loop-place-test.true

pub returns-then-clause-eq1-clause-some : goal.returns-then-clause-eq1-clause-some
returns-then-clause-eq1-clause-some c =
    let l = c.args.lit in
    let K = c.args.database.now.entries in
    let ns = c.args.numbers.now in
    let i = c.loop-place.place in
    let d = c.clause.result.now in
    let has_it = holder-has l K ns i d c.requires c.loop-place-test.true c.clause.ensures.clause in (
      c.loop-place-test.true,
      (
        filter (is_unit_at l K) (drop (i + 1) ns),
        unit-found l K ns i c.requires c.loop-place-test.true c.loop-place.invariant (unit-at c.args.database.now.vars l K _ d c.clause.ensures.clause c.clause.ensures.set has_it c.if-clause-eq1.true),
      ),
    )

pub loop-place-preserved : goal.loop-place-preserved
loop-place-preserved c =
    let l = c.args.lit in
    let K = c.args.database.now.entries in
    none-before (is_unit_at l K) c.args.numbers.now c.loop-place.place c.loop-place-test.true c.loop-place.invariant
    (no_unit-at c.args.database.now.vars l K _ c.clause.result.now c.clause.ensures.clause c.clause.ensures.set c.if-clause-eq1.false)

pub returns-clause-none : goal.returns-clause-none
returns-clause-none c = λ e. no_unit-found c.args.lit c.args.database.now.entries c.args.numbers.now c.loop-place.place c.requires (let t = c.loop-place-test.false in omega arith) c.loop-place.invariant
