use Rattle.std.proofs.Common.{◌≤◌, ◌∙◌, not, length, ap, sym, arith}
use Rattle.theory.specs.Truth.{value, IsOver}
use Rattle.cnf.specs.Pieces.{pieces}
use Rattle.cnf.proofs.Pieces.{length-pieces}
use Rattle.simplify.proofs.ExtendedModels.{is_without}
use Rattle.simplify.proofs.EliminatedRows.{any-here, any-behind, all-here, all-behind}
use Rattle.simplify.proofs.eliminated.needs.Goals as goal

pub is_true_without-requires : goal.is_true_without-requires
is_true_without-requires c =
    let long = length-pieces 0 c.args.literals.now c.args.ends.now in
    let within : c.args.to ≤ length (pieces 0 c.args.literals.now c.args.ends.now) = omega arith in
    all-here (IsOver (length c.args.values.now)) (pieces 0 c.args.literals.now c.args.ends.now) c.loop-place.place c.args.to c.literals_at.result.now (omega arith) within c.literals_at.ensures c.loop-place.invariant.over

pub returns-then-not-is_true_without : goal.returns-then-not-is_true_without
returns-then-not-is_true_without c =
    let long = length-pieces 0 c.args.literals.now c.args.ends.now in
    let within : c.args.to ≤ length (pieces 0 c.args.literals.now c.args.ends.now) = omega arith in
    let here = any-here (is_without (value c.args.values.now) c.args.variable) (pieces 0 c.args.literals.now c.args.ends.now) c.loop-place.place c.args.to c.literals_at.result.now (omega arith) within c.literals_at.ensures
    (ap not (sym c.is_true_without.ensures) ∙ ap not c.if-not-is_true_without.true) in
    sym here ∙ c.loop-place.invariant.any

pub loop-place-preserved : goal.loop-place-preserved
loop-place-preserved c =
    let long = length-pieces 0 c.args.literals.now c.args.ends.now in
    let within : c.args.to ≤ length (pieces 0 c.args.literals.now c.args.ends.now) = omega arith in record {
      any = any-behind (is_without (value c.args.values.now) c.args.variable) (pieces 0 c.args.literals.now c.args.ends.now) c.loop-place.place c.args.to c.literals_at.result.now (omega arith) within c.literals_at.ensures
          (ap not (sym c.is_true_without.ensures) ∙ ap not c.if-not-is_true_without.false) ∙ c.loop-place.invariant.any;
      over = all-behind (IsOver (length c.args.values.now)) (pieces 0 c.args.literals.now c.args.ends.now) c.loop-place.place c.args.to c.literals_at.result.now (omega arith) within c.literals_at.ensures c.loop-place.invariant.over;
    }
