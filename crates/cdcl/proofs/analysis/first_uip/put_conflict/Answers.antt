use Rattle.std.proofs.Common.{[], length, ◌∙◌, ◌||◌, false, ap, subst}
use Rattle.theory.specs.Literals.{Clause}
use Rattle.theory.proofs.trails.LawfulTrails.{least_false-at}
use Rattle.cdcl.specs.Marks.{IsSet}
use Rattle.cdcl.proofs.ArrangedClauses.{false-arranged, begun-arranged, vars-arranged}
use Rattle.cdcl.proofs.JoinedSets.{IsSet-clear, false-whole}
use Rattle.cdcl.proofs.analysis.first_uip.put_conflict.Goals as goal

pub arranged-requires : goal.arranged-requires
arranged-requires c = let at = least_false-at _ _ _ c.requires.conflict in (at.0, at.1)

pub put_all-requires-clause-marks : goal.put_all-requires-clause-marks
put_all-requires-clause-marks c = record {
  lawful = c.trail-trail.ensures.lawful;
  over = c.trail-trail.ensures.over;
  few = c.requires.few;
  set = [];
  bound = length c.args.kernel.now.trail;
  is = IsSet-clear c.args.kernel.now _ c.args.marks.now c.requires.long c.requires.clear;
  below = false-whole c.args.kernel.now.trail _ (false-arranged _ _ _ c.arranged.ensures (least_false-at _ _ _ c.requires.conflict).2);
}

pub returns-clause-set : goal.returns-clause-set
returns-clause-set c =
    let conflict = (least_false-at _ _ _ c.requires.conflict).2 in
    subst (λ (S : Clause). IsSet c.args.kernel.now [] S (length c.args.kernel.now.trail) c.put_all.new.marks)
    (begun-arranged c.args.kernel.now _ c.arranged.result.now c.trail-trail.ensures.lawful c.arranged.ensures conflict)
    (c.in_ok-put_all.ensures.set [] (length c.args.kernel.now.trail) (false-whole c.args.kernel.now.trail _ (false-arranged _ _ _ c.arranged.ensures conflict))
    (IsSet-clear c.args.kernel.now _ c.args.marks.now c.requires.long c.requires.clear))

pub returns-clause-met : goal.returns-clause-met
returns-clause-met c v =
    rw c.requires.clear.unseen at (c.in_ok-put_all.ensures.met v) ∙ ap (λ b. b || false) (vars-arranged _ c.arranged.result.now v c.arranged.ensures)
