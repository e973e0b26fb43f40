use Rattle.std.proofs.Common.{◌≡◌, ◌||◌, arith, ◌+◌, ◌-◌, ℕ, take, drop, length, subst, sym, refl, []}
use Rattle.theory.specs.Literals.{has_var}
use Rattle.theory.specs.Trails.{literals}
use Rattle.theory.specs.Learning.{with_literals}
use Rattle.theory.proofs.literals.LiteralSets.{Refutes-from_is_false}
use Rattle.cdcl.specs.Marks.{IsSet}
use Rattle.cdcl.specs.Numbers.{is_one_of}
use Rattle.cdcl.proofs.SetLemmas.{drop-before, has-at}
use Rattle.cdcl.proofs.JoinedSets.{CanJoin-one, IsSet-moved}
use Rattle.cdcl.proofs.MetVariables.{met-more}
use Rattle.cdcl.proofs.analysis.marks.put_all.Goals as goal

pub put-requires-clause-marks : goal.put-requires-clause-marks
put-requires-clause-marks c =
    CanJoin-one _ c.args.clause.now c.index-clause-count.result _ c.loop-done.marks c.requires.marks
    (has-at c.args.clause.now (length c.args.clause.now - 1 - c.loop-done.done) c.index-clause-count.result (omega arith) c.index-clause-count.is)
    (c.loop-done.invariant.set c.requires.marks.set c.requires.marks.bound c.requires.marks.below
    (IsSet-moved c.args.kernel.now _ _ c.args.marks.now _ refl refl refl c.reserve.ensures.items c.requires.marks.is))

pub loop-done-preserved : goal.loop-done-preserved
loop-done-preserved c =
    let rest = drop (length c.args.clause.now - c.loop-done.done) c.args.clause.now in
    let here = drop-before c.args.clause.now c.loop-done.done c.index-clause-count.result (omega arith) c.index-clause-count.is in
    record {
      set = λ S bound f h. subst (λ d. IsSet c.args.kernel.now [] (with_literals d S) bound c.put.new.marks) (sym here)
          (c.in_ok-put.ensures.set _ bound
          (Refutes-from_is_false (literals (take bound c.args.kernel.now.trail)) c.args.clause.now f c.index-clause-count.result
          (has-at c.args.clause.now (length c.args.clause.now - 1 - c.loop-done.done) c.index-clause-count.result (omega arith) c.index-clause-count.is))
          (c.loop-done.invariant.set S bound f h));
      met = λ v. subst (λ d. is_one_of c.put.new.marks.seen.items v ≡ (has_var d v || is_one_of c.reserve.new.self.items v)) (sym here)
          (met-more c.index-clause-count.result rest _ _ _ v (c.in_ok-put.ensures.met v) (c.loop-done.invariant.met v));
      room = let room = c.loop-done.invariant.room in c.put.ensures.room (length c.args.clause.now - (c.loop-done.done + 1)) (omega arith);
    }

pub returns-clause-set : goal.returns-clause-set
returns-clause-set c S bound f h =
    let most = c.loop-done.auto.done-end in
    let end : length c.args.clause.now - c.loop-done.done ≡ 0 = omega (arith, c.loop-done-test.false) in
    subst (λ (i : ℕ). IsSet c.args.kernel.now [] (with_literals (drop i c.args.clause.now) S) bound c.loop-done.marks) end
    (c.loop-done.invariant.set S bound f (IsSet-moved c.args.kernel.now S bound c.args.marks.now _ refl refl refl c.reserve.ensures.items h))

pub returns-clause-met : goal.returns-clause-met
returns-clause-met c v =
    let most = c.loop-done.auto.done-end in
    let end : length c.args.clause.now - c.loop-done.done ≡ 0 = omega (arith, c.loop-done-test.false) in
    rw (← c.reserve.ensures.items)
    (subst (λ (i : ℕ). is_one_of c.loop-done.marks.seen.items v ≡ (has_var (drop i c.args.clause.now) v || is_one_of c.reserve.new.self.items v)) end (c.loop-done.invariant.met v))
