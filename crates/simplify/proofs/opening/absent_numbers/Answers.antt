use Rattle.std.proofs.Common.{ap, sym, ◌∙◌, ◌++◌, ◌∷◌, [], ◌+◌, ◌<◌, length, arith}
use Rattle.std.proofs.lemmas.List.{take_all}
use Rattle.simplify.specs.Opening.{absent_in}
use Rattle.simplify.proofs.AbsentNumbers.{absent-there, absent-next}
use Rattle.simplify.proofs.opening.absent_numbers.Goals as goal
use Rattle.simplify.proofs.opening.absent_numbers.Goals.{then-not-is_there+in_ok-push, else-not-is_there}

pub loop-before-preserved : goal.loop-before-preserved
loop-before-preserved c =
    let K = c.args.database.now.entries in
    let i = c.loop-before.before in
    let below : i < length K = (let a = c.loop-before-test.true in let b = c.last-before-end.ensures.last in omega arith) in
    elim c.if-not-is_there.branch [
      | then-not-is_there+in_ok-push w ↦ rw w.numbers-is (w.in_ok-push.ensures.items ∙ (rw w.from.ensures (ap (λ ns. ns ++ (i + 1) ∷ []) c.loop-before.invariant ∙ sym (absent-next K i below (sym w.if-not-is_there.ensures)))))
      | else-not-is_there w ↦ rw w.numbers-is (c.loop-before.invariant ∙ sym (absent-there K i below (sym w.if-not-is_there.ensures)))
    ]

pub returns : goal.returns
returns c = c.loop-before.invariant ∙ ap (absent_in 1) (take_all c.loop-before.before c.args.database.now.entries (let a = c.loop-before-test.false in let b = c.last-before-end.ensures.last in omega arith))
