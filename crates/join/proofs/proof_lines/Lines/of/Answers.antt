use Rattle.join.specs.declared.proof_lines.Lines.{Lines}
use Rattle.join.proofs.JoinLemmas.{few-units, begun-steps, accepted-steps, within-steps, IsBetweenNodes-begun}
use Rattle.join.proofs.proof_lines.Lines.of.Goals as goal

pub with_room-requires-clause-units : goal.with_room-requires-clause-units
with_room-requires-clause-units c = few-units c.args.formula.now c.args.search c.args.tree c.in_ok-units.units.items c.vars-vars.ensures.within c.in_ok-units.ensures

pub returns-clause-steps : goal.returns-clause-steps
returns-clause-steps c =
    let l : Lines = record { joiner = c.in_ok-joiner.joiner; nodes = c.from.result; need = c.match-of.need } in
    let j = c.in_ok-joiner.ensures in
    begun-steps l c.args.formula.now c.args.search c.clause_count-clauses.result c.args.tree c.in_ok-units.units.items c.nodes_of.result.items c.clause_count-clauses.ensures.count j.joined j.clauses c.from.ensures.0
    c.in_ok-units.ensures c.nodes_of.ensures

pub returns-clause-within : goal.returns-clause-within
returns-clause-within c =
    within-steps c.args.formula.now c.args.search c.args.tree _ c.vars-vars.ensures.within c.requires (returns-clause-steps c)

pub returns-clause-accepted : goal.returns-clause-accepted
returns-clause-accepted c =
    accepted-steps c.args.formula.now c.args.search c.args.tree _ c.requires (returns-clause-steps c)

pub returns-clause-lawful : goal.returns-clause-lawful
returns-clause-lawful c =
    let l : Lines = record { joiner = c.in_ok-joiner.joiner; nodes = c.from.result; need = c.match-of.need } in
    let j = c.in_ok-joiner.ensures in
    IsBetweenNodes-begun l c.args.formula.now c.args.search c.clause_count-clauses.result c.args.tree c.in_ok-units.units.items c.nodes_of.result.items c.vars-vars.ensures.within c.clause_count-clauses.ensures.count j.lawful j.clauses
    j.between c.from.ensures.0 c.in_ok-units.ensures c.requires c.nodes_of.ensures
