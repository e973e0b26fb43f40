use Rattle.std.proofs.Common.{subst, ap, sym, []}
use Rattle.std.proofs.lemmas.Result.{on_ok_weaker}
use Rattle.theory.specs.Literals.{Literal, negated, without}
use Rattle.theory.specs.Trails.{Entry}
use Rattle.theory.specs.Learning.{with_literals}
use Rattle.cdcl.specs.Marks.{IsSet, CanJoin, Meets}
use Rattle.cdcl.proofs.JoinedSets.{CanResolve-none, CanJoin-taken}
use Rattle.cdcl.proofs.analysis.marks.resolve.Goals as goal

pub take-requires-clause-marks : goal.take-requires-clause-marks
take-requires-clause-marks c = CanResolve-none _ c.args.entry _ _ c.requires.marks

pub put_others-requires-clause-marks : goal.put_others-requires-clause-marks
put_others-requires-clause-marks c =
    subst (λ (e : Entry). CanJoin c.args.kernel.now (without c.args.reason.now e.lit) c.take.new.marks) (sym c.entry.view_is)
    (CanJoin-taken _ c.args.entry _ _ c.take.new.marks c.requires.marks (c.take.ensures.set c.requires.marks.joins.set c.requires.marks.joins.bound c.requires.marks.at c.requires.marks.joins.is))

pub returns-clause-set : goal.returns-clause-set
returns-clause-set c = on_ok_weaker c.put_others.result
    (λ made S bound at f h. (
    let lit = ap (λ (e : Entry). e.lit) c.entry.view_is in
    subst (λ (l : Literal). IsSet c.args.kernel.now [] (with_literals (without c.args.reason.now l) (without S (negated c.args.entry.lit))) bound c.put_others.new.marks) lit
    (made (without S (negated c.args.entry.lit)) bound (rw (← lit) at f) (c.take.ensures.set S bound at h))
    ))
    c.put_others.ensures.set

pub returns-clause-met : goal.returns-clause-met
returns-clause-met c = on_ok_weaker c.put_others.result
    (λ made. (
    let lit = ap (λ (e : Entry). e.lit) c.entry.view_is in
    rw (← c.take.ensures.seen) (subst (λ (l : Literal). Meets c.take.new.marks (without c.args.reason.now l) c.put_others.new.marks) lit made)
    ))
    c.put_others.ensures.met
