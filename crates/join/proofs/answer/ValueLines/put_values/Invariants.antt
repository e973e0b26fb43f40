use Rattle.std.proofs.Common.{◌≡◌, ◌+◌, ◌≤◌, ◌++◌, drop}
use Rattle.theory.specs.Texts.{clause_words, assigned_literals}
use Rattle.join.specs.Lines.{pieces}
use Rattle.join.proofs.answer.ValueLines.put_values.Given as goal

-- the variables that are left give the rest
abbrev pub invariant-loop-index : goal.invariant-loop-index
invariant-loop-index l = record {
  rest : l.self.text.items ++ pieces l.self.width (clause_words (assigned_literals (l.index + 1) (drop l.index l.values)))
      ≡ l.initial.self.text.items ++ pieces l.initial.self.width (clause_words (assigned_literals 1 l.values));
  width : l.self.width ≤ 78;
}
