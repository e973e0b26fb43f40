use Rattle.std.proofs.Common.{◌+◌, ◌-◌, ◌++◌, ap, ◌∙◌, not, filter}
use Rattle.theory.specs.Proofs.{numbers_from}
use Rattle.join.specs.Deleted.{is_marked}
use Rattle.join.proofs.DeletedLemmas.{left-next, left-passed, mark-at}
use Rattle.join.proofs.deleted.put_unmarked.Goals as goal
use Rattle.join.proofs.deleted.put_unmarked.Goals.{then-not-marks-number+in_ok-push, else-not-marks-number}

pub loop-number-preserved : goal.loop-number-preserved
loop-number-preserved c =
    let n = c.loop-number.number in
    let end = c.args.end in
    let p = is_marked c.args.first c.args.marks.now in
    let out = c.loop-number.out.items in
    let mark = mark-at c.args.first n c.args.marks.now c.loop-number.auto.number in
    elim c.if-not-marks-number.branch [
      | then-not-marks-number+in_ok-push w ↦ rw w.out-is
          (ap (λ xs. xs ++ filter (λ k. not (p k)) (numbers_from (n + 1) (end - (n + 1)))) w.in_ok-push.ensures.items
          ∙ left-next p n end out c.loop-number-test.true (ap not (mark ∙ w.if-not-marks-number.true))
          ∙ c.loop-number.invariant)
      | else-not-marks-number w ↦ rw w.out-is (left-passed p n end out c.loop-number-test.true (ap not (mark ∙ w.if-not-marks-number.false)) ∙ c.loop-number.invariant)
    ]
