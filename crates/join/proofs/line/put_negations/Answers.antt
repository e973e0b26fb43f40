use Rattle.std.proofs.Common.{arith, map, append-nil, ap, ◌++◌, ◌∙◌, sym}
use Rattle.std.proofs.lemmas.List.{at_drop_all}
use Rattle.join.proofs.CubeLemmas.{opposite, negations-path}
use Rattle.join.proofs.line.put_negations.Goals as goal

pub returns : goal.returns
returns c =
    rw (negations-path, ← c.splits-splits.ensures)
    (sym (append-nil c.loop-split.clause.items) ∙ (ap (λ r. c.loop-split.clause.items ++ r) (sym (at_drop_all (map opposite) c.splits-splits.result.now c.loop-split.split-index (omega arith))) ∙ c.loop-split.invariant))
