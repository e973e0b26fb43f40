use Rattle.std.proofs.Common.{sym, ◌∙◌, arith}
use Rattle.std.proofs.lemmas.Bool.{eqb-true, eqb-false}
use Rattle.join.proofs.BeforeLemmas.{before-deletion, before-addition}
use Rattle.join.proofs.before.LinesBefore.take_up.Goals as goal

pub returns-then-is_empty-clause-line : goal.returns-then-is_empty-clause-line
returns-then-is_empty-clause-line c =
    let l = c.args.self.now in
    let none = eqb-true _ 0 (sym c.is_empty.ensures ∙ c.if-is_empty.true) in
    let numbers = l.line.numbers.ok in
    λ rows. before-deletion l.last l.line.clause.items l.line.numbers.items l.forgets.items rows _ (omega arith) c.delete.ensures.line

pub returns-clause-line : goal.returns-clause-line
returns-clause-line c =
    let l = c.args.self.now in
    let some = eqb-false _ 0 (sym c.is_empty.ensures ∙ c.if-is_empty.false) in
    let numbers = l.line.numbers.ok in
    λ rows. before-addition l.last l.line.clause.items l.line.numbers.items l.forgets.items rows (omega arith)
