use Rattle.std.proofs.Common.{◌≡◌, ◌++◌, map, drop}
use Rattle.theory.specs.Texts.{literal_text}
use Rattle.lrat_text.specs.Words.{spaced}
use Rattle.tidying.proofs.clause_text.append_clause.Given as goal

-- the literals that are left complete the text
abbrev pub invariant-loop-lit : goal.invariant-loop-lit
invariant-loop-lit l = l.text.items ++ spaced (map literal_text (drop l.lit-index l.clause)) ≡ l.fn.text.items ++ spaced (map literal_text l.clause)
