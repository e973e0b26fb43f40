use Rattle.std.proofs.Common.{◌≡◌, ◌||◌, arith, ◌+◌, ◌-◌, ◌∙◌, ℕ, take, drop, length, subst, sym, refl, ap, []}
use Rattle.theory.specs.Literals.{Clause, has_var, without}
use Rattle.theory.specs.Trails.{literals}
use Rattle.theory.specs.Learning.{with_literals}
use Rattle.theory.proofs.literals.LiteralSets.{Refutes-from_is_false, has-without}
use Rattle.cdcl.specs.Marks.{IsSet}
use Rattle.cdcl.specs.Numbers.{is_one_of}
use Rattle.cdcl.proofs.SetLemmas.{drop-before, has-at, without-same, without-other}
use Rattle.cdcl.proofs.JoinedSets.{CanJoin-one, IsSet-moved}
use Rattle.cdcl.proofs.MetVariables.{met-more}
use Rattle.cdcl.proofs.analysis.marks.put_others.Goals as goal
use Rattle.cdcl.proofs.analysis.marks.put_others.Goals.{then-not-same+in_ok-put, else-not-same}

pub put-requires-clause-marks : goal.put-requires-clause-marks
put-requires-clause-marks c =
    CanJoin-one _ (without c.args.clause.now c.args.except) c.index-clause-count.result _ c.loop-done.marks c.requires.marks
    (has-without c.args.clause.now c.args.except c.index-clause-count.result
    (has-at c.args.clause.now (length c.args.clause.now - 1 - c.loop-done.done) c.index-clause-count.result (omega arith) c.index-clause-count.is) (sym c.if-not-same.ensures))
    (c.loop-done.invariant.set c.requires.marks.set c.requires.marks.bound c.requires.marks.below
    (IsSet-moved c.args.kernel.now _ _ c.args.marks.now _ refl refl refl c.reserve.ensures.items c.requires.marks.is))

pub loop-done-preserved : goal.loop-done-preserved
loop-done-preserved c =
    let rest = drop (length c.args.clause.now - c.loop-done.done) c.args.clause.now in
    let here = ap (λ d. without d c.args.except) (drop-before c.args.clause.now c.loop-done.done c.index-clause-count.result (omega arith) c.index-clause-count.is) in
    elim c.if-not-same.branch [
      | then-not-same+in_ok-put w ↦ (
          let other = here ∙ without-other rest c.args.except c.index-clause-count.result (sym w.if-not-same.ensures) in
          rw w.marks-is
          record {
            set = λ S bound f h. subst (λ (d : Clause). IsSet c.args.kernel.now [] (with_literals d S) bound w.put.new.marks) (sym other)
                (w.in_ok-put.ensures.set _ bound
                (Refutes-from_is_false (literals (take bound c.args.kernel.now.trail)) (without c.args.clause.now c.args.except) f c.index-clause-count.result
                (has-without c.args.clause.now c.args.except c.index-clause-count.result
                (has-at c.args.clause.now (length c.args.clause.now - 1 - c.loop-done.done) c.index-clause-count.result (omega arith) c.index-clause-count.is) (sym w.if-not-same.ensures)))
                (c.loop-done.invariant.set S bound f h));
            met = λ v. subst (λ (d : Clause). is_one_of w.put.new.marks.seen.items v ≡ (has_var d v || is_one_of c.reserve.new.self.items v)) (sym other)
                (met-more c.index-clause-count.result (without rest c.args.except) _ _ _ v (w.in_ok-put.ensures.met v) (c.loop-done.invariant.met v));
            room = let room = c.loop-done.invariant.room in w.put.ensures.room (length c.args.clause.now - (c.loop-done.done + 1)) (omega arith);
          })
      | else-not-same w ↦ (
          let same = here ∙ without-same rest c.args.except c.index-clause-count.result (sym w.if-not-same.ensures) in
          rw w.marks-is
          record {
            set = λ S bound f h. subst (λ (d : Clause). IsSet c.args.kernel.now [] (with_literals d S) bound c.loop-done.marks) (sym same) (c.loop-done.invariant.set S bound f h);
            met = λ v. subst (λ (d : Clause). is_one_of c.loop-done.marks.seen.items v ≡ (has_var d v || is_one_of c.reserve.new.self.items v)) (sym same) (c.loop-done.invariant.met v);
            room = let room = c.loop-done.invariant.room in omega arith;
          })
    ]

pub returns-clause-set : goal.returns-clause-set
returns-clause-set c S bound f h =
    let most = c.loop-done.auto.done-end in
    let end : length c.args.clause.now - c.loop-done.done ≡ 0 = omega (arith, c.loop-done-test.false) in
    subst (λ (i : ℕ). IsSet c.args.kernel.now [] (with_literals (without (drop i c.args.clause.now) c.args.except) S) bound c.loop-done.marks) end
    (c.loop-done.invariant.set S bound f (IsSet-moved c.args.kernel.now S bound c.args.marks.now _ refl refl refl c.reserve.ensures.items h))

pub returns-clause-met : goal.returns-clause-met
returns-clause-met c v =
    let most = c.loop-done.auto.done-end in
    let end : length c.args.clause.now - c.loop-done.done ≡ 0 = omega (arith, c.loop-done-test.false) in
    rw (← c.reserve.ensures.items)
    (subst (λ (i : ℕ). is_one_of c.loop-done.marks.seen.items v ≡ (has_var (without (drop i c.args.clause.now) c.args.except) v || is_one_of c.reserve.new.self.items v)) end
    (c.loop-done.invariant.met v))
