use Rattle.std.proofs.Common.{sym, ◌∙◌, arith}
use Rattle.std.proofs.lemmas.Bool.{eqb-false}
use Rattle.join.proofs.DueLemmas.{made-deletion}
use Rattle.join.proofs.joiner.Joiner.next_deletion.Goals as goal

pub returns-clause-made : goal.returns-clause-made
returns-clause-made c =
    let l = c.args.self.now in
    let some = eqb-false _ 0 (sym c.is_empty.ensures ∙ c.if-is_empty.false) in
    let numbers = l.due.ok in
    made-deletion l c.delete.new.numbers c.delete.new.self c.requires.lawful c.requires.units c.requires.stage (omega arith) c.delete.ensures.none c.delete.ensures.line
