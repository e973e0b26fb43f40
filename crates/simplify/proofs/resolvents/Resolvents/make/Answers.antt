use Rattle.std.proofs.Common.{◌≡◌, ◌^◌, ◌≤◌, sym, subst, sum_by, get_or, All, arith}
use Rattle.theory.specs.Literals.{positive, negative}
use Rattle.theory.specs.Learning.{Line}
use Rattle.simplify.specs.Entries.{IsSet}
use Rattle.simplify.proofs.PairSums.{pair_size, place-sum, place-lines, row-fits, pairs-small, pairs-sets, there-only, lines-done}
use Rattle.simplify.proofs.resolvents.Resolvents.make.Goals as goal

pub put_row-requires-clause-few : goal.put_row-requires-clause-few
put_row-requires-clause-few c =
    let K = c.args.database.now.entries in
    let x = c.args.variable in
    let few : c.args.database.now.vars ≤ 100000000 = subst (λ n. n ≤ 100000000) c.vars-vars.ensures.vars c.vars-vars.ensures.few in
    let all = pairs-small c.args.database.now.vars K c.args.left.now c.args.right.now few c.vars-vars.ensures.sets (there-only K (positive x) _ c.requires.left) (there-only K (negative x) _ c.requires.right) c.requires.few in
    let fits = row-fits K c.args.left.now c.args.right.now c.loop-number.number-index c.loop-number.work c.loop-number-test.true c.loop-number.invariant.work all in
    let small : sum_by (pair_size K (get_or c.args.left.now c.loop-number.number-index 0)) c.args.right.now ≤ 2 ^ 62 = omega arith in
    small

pub overflow_add-work : goal.overflow_add-work
overflow_add-work c =
    let K = c.args.database.now.entries in
    let x = c.args.variable in
    let few : c.args.database.now.vars ≤ 100000000 = subst (λ n. n ≤ 100000000) c.vars-vars.ensures.vars c.vars-vars.ensures.few in
    let all = pairs-small c.args.database.now.vars K c.args.left.now c.args.right.now few c.vars-vars.ensures.sets (there-only K (positive x) _ c.requires.left) (there-only K (negative x) _ c.requires.right) c.requires.few in
    let fits = row-fits K c.args.left.now c.args.right.now c.loop-number.number-index c.loop-number.work c.loop-number-test.true c.loop-number.invariant.work all in
    let is : c.in_ok-work.field-0 ≡ sum_by (pair_size K (get_or c.args.left.now c.loop-number.number-index 0)) c.args.right.now = c.in_ok-work.ensures.work in
    omega arith

pub loop-number-preserved : goal.loop-number-preserved
loop-number-preserved c =
    let K = c.args.database.now.entries in
    let more = place-sum K c.args.left.now c.args.right.now c.loop-number.number-index c.loop-number-test.true in
    let is : c.in_ok-work.field-0 ≡ sum_by (pair_size K (get_or c.args.left.now c.loop-number.number-index 0)) c.args.right.now = c.in_ok-work.ensures.work in
    let before = c.loop-number.invariant.work in record {
      work = omega arith;
      lines = place-lines c.args.variable K c.args.left.now c.args.right.now c.loop-number.number-index c.loop-number.self c.put_row.new.self _ c.loop-number-test.true c.loop-number.invariant.lines c.in_ok-work.ensures.lines;
    }

pub returns-clause-small : goal.returns-clause-small
returns-clause-small c =
    let K = c.args.database.now.entries in
    let x = c.args.variable in
    let few : c.args.database.now.vars ≤ 100000000 = subst (λ n. n ≤ 100000000) c.vars-vars.ensures.vars c.vars-vars.ensures.few in
    let all = pairs-small c.args.database.now.vars K c.args.left.now c.args.right.now few c.vars-vars.ensures.sets (there-only K (positive x) _ c.requires.left) (there-only K (negative x) _ c.requires.right) c.requires.few in
    let done = c.loop-number.invariant.work in
    omega arith

pub returns-clause-sets : goal.returns-clause-sets
returns-clause-sets c =
    let K = c.args.database.now.entries in
    let x = c.args.variable in
    let all = lines-done x K c.args.left.now c.args.right.now c.loop-number.number-index c.loop-number.self _ c.loop-number-test.false c.loop-number.invariant.lines in
    subst (All (λ (l : Line). IsSet c.args.database.now.vars l.clause)) (sym all)
    (pairs-sets c.args.database.now.vars x K c.args.left.now c.args.right.now c.vars-vars.ensures.sets (there-only K (positive x) _ c.requires.left) (there-only K (negative x) _ c.requires.right))
