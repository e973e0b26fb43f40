use Rattle.std.proofs.Common.{◌≡◌, ◌≤◌, ◌++◌, drop}
use Rattle.theory.specs.Texts.{clause_words}
use Rattle.join.specs.Lines.{pieces}
use Rattle.join.proofs.answer.ValueLines.put_literals.Given as goal

-- the literals that are left give the rest
abbrev pub invariant-loop-lit : goal.invariant-loop-lit
invariant-loop-lit l = record {
  rest : l.self.text.items ++ pieces l.self.width (clause_words (drop l.lit-index l.lits))
      ≡ l.initial.self.text.items ++ pieces l.initial.self.width (clause_words l.lits);
  width : l.self.width ≤ 78;
}
