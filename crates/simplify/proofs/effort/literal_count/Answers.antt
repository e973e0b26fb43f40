use Rattle.std.proofs.Common.{◌≡◌, ◌<◌, ◌∙◌, length, ap, arith}
use Rattle.theory.specs.Literals.{Clause}
use Rattle.theory.specs.Trying.{size}
use Rattle.simplify.proofs.Sizes.{sizes-most, next-size}
use Rattle.simplify.proofs.effort.literal_count.Goals as goal

pub overflow_add-count : goal.overflow_add-count
overflow_add-count c =
    let K = c.args.formula.now.clauses in
    let end = c.clause_count-place-end.ensures.count in
    let within : c.loop-place.place < length K = omega arith in
    let next = next-size K c.loop-place.place c.clause.result.now within c.clause.ensures.clause in
    let len : c.in_ok-count.field-0 ≡ size c.clause.result.now = c.in_ok-count.ensures in
    let most = sizes-most K in
    let few = c.literal_count-most.ensures.few in
    let all = c.literal_count-most.ensures.count in
    let before = c.loop-place.invariant in
    omega arith

pub loop-place-preserved : goal.loop-place-preserved
loop-place-preserved c =
    let K = c.args.formula.now.clauses in
    let end = c.clause_count-place-end.ensures.count in
    let within : c.loop-place.place < length K = omega arith in
    let next = next-size K c.loop-place.place c.clause.result.now within c.clause.ensures.clause in
    let len : c.in_ok-count.field-0 ≡ size c.clause.result.now = c.in_ok-count.ensures in
    let before = c.loop-place.invariant in
    omega arith

pub returns-clause-few : goal.returns-clause-few
returns-clause-few c =
    let most = sizes-most c.args.formula.now.clauses in
    let few = c.literal_count-most.ensures.few in
    let all = c.literal_count-most.ensures.count in
    let done = c.loop-place.invariant in
    omega arith
