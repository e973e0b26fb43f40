use Rattle.std.proofs.Common.{◌≡◌, ◌<◌, ◌≤◌, ◌∙◌, not, length, ◌⊎◌, inl, inr, ap, ap₂, sym, arith, ◌++◌}
use Rattle.std.proofs.lemmas.List.{take_rest}
use Rattle.theory.specs.Literals.{Clause}
use Rattle.theory.proofs.literals.LiteralLemmas.{same-eq}
use Rattle.simplify.proofs.Merging.{AreThere, merge-begin, merge-left, merge-right, merge-both, merge-pivot, merge-opposite, merge-end}
use Rattle.simplify.proofs.resolvent.resolve.Goals as goal
use Rattle.simplify.proofs.resolvent.resolve.Goals.{then-same, else-same+else-var-variable, then-loop-i-test+else-j-right, else-loop-i-test}

pub loop-i-init : goal.loop-i-init
loop-i-init c =
    let room = c.in_ok-reserve.ensures.ok in record {
      merging = merge-begin c.args.variable c.args.left.now c.args.right.now c.args.out.now.items c.reserve.new.self.items c.requires.left c.requires.right c.requires.variable c.requires.negation c.reserve.ensures.items;
      within_left = omega arith;
      within_right = omega arith;
      room = omega arith;
    }

pub loop-i-preserved-then-var : goal.loop-i-preserved-then-var
loop-i-preserved-then-var c =
    let there : AreThere c.args.left.now c.args.right.now c.loop-i.i c.loop-i.j c.index-left-i.result c.index-right-j.result = record {
      within_left = omega arith;
      within_right = omega arith;
      left = c.index-left-i.is;
      right = c.index-right-j.is;
    } in
    let less : c.index-left-i.result.var < c.index-right-j.result.var = omega (arith, c.var.ensures.var, c.var-in-loop-i.ensures.var) in
    let merging = merge-left c.args.variable c.args.left.now c.args.right.now c.args.out.now.items c.loop-i.out.items c.loop-i.i c.loop-i.j _ _ c.push_reserved.new.self.items c.loop-i.invariant.merging there less c.push_reserved.ensures.items in record {
      merging = merging;
      within_left = omega arith;
      within_right = omega arith;
      room = omega arith;
    }

pub loop-i-preserved-then-var-2 : goal.loop-i-preserved-then-var-2
loop-i-preserved-then-var-2 c =
    let there : AreThere c.args.left.now c.args.right.now c.loop-i.i c.loop-i.j c.index-left-i.result c.index-right-j.result = record {
      within_left = omega arith;
      within_right = omega arith;
      left = c.index-left-i.is;
      right = c.index-right-j.is;
    } in
    let less : c.index-right-j.result.var < c.index-left-i.result.var = omega (arith, c.var-else-var.ensures.var, c.var-else-var-2.ensures.var) in
    let merging = merge-right c.args.variable c.args.left.now c.args.right.now c.args.out.now.items c.loop-i.out.items c.loop-i.i c.loop-i.j _ _ c.push_reserved-then-var-2.new.self.items c.loop-i.invariant.merging there less c.push_reserved-then-var-2.ensures.items in record {
      merging = merging;
      within_left = omega arith;
      within_right = omega arith;
      room = omega arith;
    }

pub loop-i-preserved : goal.loop-i-preserved
loop-i-preserved c =
    let there : AreThere c.args.left.now c.args.right.now c.loop-i.i c.loop-i.j c.index-left-i.result c.index-right-j.result = record {
      within_left = omega arith;
      within_right = omega arith;
      left = c.index-left-i.is;
      right = c.index-right-j.is;
    } in
    let equal : c.index-left-i.result.var ≡ c.index-right-j.result.var = omega (arith, c.var.ensures.var, c.var-in-loop-i.ensures.var, c.var-else-var.ensures.var, c.var-else-var-2.ensures.var) in
    elim c.if-same.branch [
      | then-same w ↦
          let one = same-eq c.index-left-i.result c.index-right-j.result (sym c.same.ensures ∙ w.if-same.true) in
          let merging = merge-both c.args.variable c.args.left.now c.args.right.now c.args.out.now.items c.loop-i.out.items c.loop-i.i c.loop-i.j _ _ w.push_reserved-then-same.new.self.items c.loop-i.invariant.merging there one w.push_reserved-then-same.ensures.items in
          rw w.out-is (record { merging = merging; within_left = omega arith; within_right = omega arith; room = omega arith })
      | else-same+else-var-variable w ↦
          let pivot = sym w.var-else-same.ensures.var ∙ w.if-var-variable.false in
          let merging = merge-pivot c.args.variable c.args.left.now c.args.right.now c.args.out.now.items c.loop-i.out.items c.loop-i.i c.loop-i.j _ _ c.loop-i.invariant.merging there equal pivot in
          rw w.out-is (record { merging = merging; within_left = omega arith; within_right = omega arith; room = omega arith })
    ]

pub returns-then-var-variable-clause-one_sign : goal.returns-then-var-variable-clause-one_sign
returns-then-var-variable-clause-one_sign c =
    let there : AreThere c.args.left.now c.args.right.now c.loop-i.i c.loop-i.j c.index-left-i.result c.index-right-j.result = record {
      within_left = omega arith;
      within_right = omega arith;
      left = c.index-left-i.is;
      right = c.index-right-j.is;
    } in
    let equal : c.index-left-i.result.var ≡ c.index-right-j.result.var = omega (arith, c.var.ensures.var, c.var-in-loop-i.ensures.var, c.var-else-var.ensures.var, c.var-else-var-2.ensures.var) in
    sym (ap not (merge-opposite c.args.variable c.args.left.now c.args.right.now c.args.out.now.items c.loop-i.out.items c.loop-i.i c.loop-i.j _ _ c.loop-i.invariant.merging there equal
    (sym c.same.ensures ∙ c.if-same.false) (λ e. c.if-var-variable.true (c.var-else-same.ensures.var ∙ e))))

pub returns-clause-one_sign : goal.returns-clause-one_sign
returns-clause-one_sign c =
    let past : (length c.args.left.now ≤ c.loop-i.i) ⊎ (length c.args.right.now ≤ c.loop-i.j) = elim c.loop-i-test.branch [
      | then-loop-i-test+else-j-right w ↦ inr w.if-j-right.false
      | else-loop-i-test w ↦ inl w.loop-i-test.false
    ] in
    (merge-end c.args.variable c.args.left.now c.args.right.now c.args.out.now.items c.loop-i.out.items c.loop-i.i c.loop-i.j c.loop-i.invariant.merging past).1

pub returns-clause-set : goal.returns-clause-set
returns-clause-set c t =
    let past : (length c.args.left.now ≤ c.loop-i.i) ⊎ (length c.args.right.now ≤ c.loop-i.j) = elim c.loop-i-test.branch [
      | then-loop-i-test+else-j-right w ↦ inr w.if-j-right.false
      | else-loop-i-test w ↦ inl w.loop-i-test.false
    ] in
    let all = merge-end c.args.variable c.args.left.now c.args.right.now c.args.out.now.items c.loop-i.out.items c.loop-i.i c.loop-i.j c.loop-i.invariant.merging past in
    let first = c.push_rest.ensures.items in
    let second = c.push_rest-2.ensures.items in
    second ∙ (ap₂ (λ (a b : Clause). a ++ b) (first ∙ ap (λ (a : Clause). c.loop-i.out.items ++ a) (take_rest c.args.left.now c.loop-i.i)) (take_rest c.args.right.now c.loop-i.j) ∙ all.0)
