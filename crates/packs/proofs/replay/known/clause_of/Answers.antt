use Rattle.std.proofs.Common.{◌-◌, sym, ◌∙◌, length, arith}
use Rattle.std.proofs.lemmas.Option.{slice_get_past}
use Rattle.theory.specs.Pure.{unit_clauses}
use Rattle.theory.proofs.searching.PureVariables.{IsOver-unit_clauses}
use Rattle.packs.proofs.KnownLemmas.{numbered-third, length-units, over-at}
use Rattle.packs.proofs.replay.known.clause_of.Goals as goal

pub returns-then-behind-units-clause-over : goal.returns-then-behind-units-clause-over
returns-then-behind-units-clause-over c =
    over-at c.args.formula.now.vars (unit_clauses c.args.units.now) _ c.unit_at.result.now (IsOver-unit_clauses c.args.formula.now.vars c.args.units.now c.requires.units) c.unit_at.ensures

pub returns-then-line-len-clause-clause : goal.returns-then-line-len-clause-clause
returns-then-line-len-clause-clause c =
    let units = length-units c.args.units.now in
    sym (numbered-third c.args.formula.now.clauses (unit_clauses c.args.units.now) c.args.lines.now c.args.number _ (omega arith) (omega (arith, units)) ∙ c.get.ensures)

pub returns-then-line-len-clause-over : goal.returns-then-line-len-clause-over
returns-then-line-len-clause-over c = over-at c.args.formula.now.vars c.args.lines.now _ c.get.result.now c.requires.lines c.get.ensures

pub returns-else-line-len-clause-clause : goal.returns-else-line-len-clause-clause
returns-else-line-len-clause-clause c =
    let units = length-units c.args.units.now in
    let place = c.args.number - 1 - c.clause_count-first.result - length c.args.units.now in
    sym (numbered-third c.args.formula.now.clauses (unit_clauses c.args.units.now) c.args.lines.now c.args.number place (omega arith) (omega (arith, units)) ∙ slice_get_past c.args.lines.now place (omega arith))
