use Rattle.std.proofs.Common.{◌≡◌, true, false, [], None, ◌∙◌, ap, sym}
use Rattle.lrat.specs.Slots.{there}
use Rattle.lrat.proofs.GroupLemmas.{no_fault, rat-empty, rat-pivot, groups-found, groups-passed}
use Rattle.theory.specs.Checking.{groups_fault}
use Rattle.lrat.proofs.groups.rat_fault.Goals as goal

pub returns-then-is_empty-clause-fault : goal.returns-then-is_empty-clause-fault
returns-then-is_empty-clause-fault c =
    rat-empty (there c.args.clauses.now) c.args.held.now.literals c.args.clause.now c.args.groups.now (sym c.is_empty.ensures ∙ c.if-is_empty.true)

pub returns-then-is_some-clause-fault : goal.returns-then-is_some-clause-fault
returns-then-is_some-clause-fault c =
    let K = there c.args.clauses.now in
    let P = c.args.held.now.literals in
    groups-found K P c.negated-pivot.result c.args.groups.now _ c.in_ok-fault.fault c.in_ok-fault.ensures.fault (sym c.is_some.ensures ∙ c.if-is_some.true)
    ∙ ap (λ q. groups_fault K P q [] c.args.groups.now) c.negated-pivot.ensures
    ∙ rat-pivot K P c.args.clause.now c.args.groups.now c.index-clause-0.result (sym c.is_empty.ensures ∙ c.if-is_empty.false) c.index-clause-0.is

pub returns-then-branch-clause-fault : goal.returns-then-branch-clause-fault
returns-then-branch-clause-fault c =
    let K = there c.args.clauses.now in
    let P = c.args.held.now.literals in
    let none : c.in_ok-fault.fault ≡ None = no_fault c.in_ok-fault.fault (sym c.is_some.ensures ∙ c.if-is_some.false) in
    groups-passed K P c.negated-pivot.result c.args.groups.now _ c.in_ok-fault.fault true c.in_ok-fault.ensures.fault none
    (λ L h. sym c.if-branch.true ∙ (rw (c.in_ok-fault.ensures.kept none) at (c.in_ok-all_are_dealt_with.ensures.dealt_with L h)))
    ∙ ap (λ q. groups_fault K P q [] c.args.groups.now) c.negated-pivot.ensures
    ∙ rat-pivot K P c.args.clause.now c.args.groups.now c.index-clause-0.result (sym c.is_empty.ensures ∙ c.if-is_empty.false) c.index-clause-0.is

pub returns-clause-fault : goal.returns-clause-fault
returns-clause-fault c =
    let K = there c.args.clauses.now in
    let P = c.args.held.now.literals in
    let none : c.in_ok-fault.fault ≡ None = no_fault c.in_ok-fault.fault (sym c.is_some.ensures ∙ c.if-is_some.false) in
    groups-passed K P c.negated-pivot.result c.args.groups.now _ c.in_ok-fault.fault false c.in_ok-fault.ensures.fault none
    (λ L h. sym c.if-branch.false ∙ (rw (c.in_ok-fault.ensures.kept none) at (c.in_ok-all_are_dealt_with.ensures.dealt_with L h)))
    ∙ ap (λ q. groups_fault K P q [] c.args.groups.now) c.negated-pivot.ensures
    ∙ rat-pivot K P c.args.clause.now c.args.groups.now c.index-clause-0.result (sym c.is_empty.ensures ∙ c.if-is_empty.false) c.index-clause-0.is
