use Rattle.std.proofs.Common.{◌≡◌, ◌∙◌, ◌∷◌, None, ap, sym, arith}
use Rattle.lrat.specs.CheckFaults.{faults_of}
use Rattle.lrat.specs.Slots.{there}
use Rattle.lrat.proofs.GroupLemmas.{groups_fault-next, IsNamed-more, no_fault}
use Rattle.lrat.proofs.CountLemmas.{candidates-more}
use Rattle.lrat.proofs.groups.first_fault.Goals as goal

pub loop-group-preserved : goal.loop-group-preserved
loop-group-preserved c =
    let inv = c.loop-group.invariant in
    let L = inv.left.0 in
    let none : c.in_ok-fault.fault ≡ None = no_fault c.in_ok-fault.fault (sym c.is_some.ensures ∙ c.if-is_some.false) in
    record {
      left = (
        c.group-item.result.candidate ∷ L,
        IsNamed-more _ _ L c.candidate.result c.group-item.result.candidate c.candidate.ensures.candidate inv.left.1 c.in_ok-insert.ensures.updates.0,
        groups_fault-next (there c.args.clauses.now) c.args.held.now.literals c.args.pivot L c.args.groups.now c.loop-group.group-index c.group-item.result c.loop-group-test.true c.group-item.is
            (ap faults_of (sym none) ∙ (rw inv.kept at (c.in_ok-fault.ensures.fault L inv.left.1))) ∙ inv.left.2,
      );
      named = record {
        list = c.group-item.result.candidate ∷ inv.named.list;
        named = IsNamed-more _ _ inv.named.list c.candidate.result c.group-item.result.candidate c.candidate.ensures.candidate inv.named.named c.in_ok-insert.ensures.updates.0;
        candidates = candidates-more (there c.args.clauses.now) c.args.held.now.literals c.args.pivot inv.named.list c.group-item.result
            (ap faults_of (sym none) ∙ (rw inv.kept at (c.in_ok-fault.ensures.fault inv.named.list inv.named.named))) inv.named.candidates;
        many = (let many = inv.named.many in omega arith);
      };
      kept = c.go_back.ensures.left c.args.held.now.literals (sym c.len-mark.ensures) (rw inv.kept at c.group_fault.ensures.extends);
      vars = c.go_back.ensures.vars ∙ (c.group_fault.ensures.vars ∙ inv.vars);
    }
