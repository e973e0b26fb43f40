use Rattle.std.proofs.Common.{◌≡◌, ◌++◌, ℕ, List, drop}
use Rattle.lrat_forms.specs.Comments.{uncommented}
use Rattle.lrat_forms.specs.declared.comments.Line.TheVariants.{Comment}
use Rattle.lrat_forms.proofs.comments.comment_count.Given as goal

-- the bytes so far are passed over
abbrev pub invariant-loop-at : goal.invariant-loop-at
invariant-loop-at l = (rest : List ℕ) → uncommented Comment (l.bytes ++ rest) ≡ uncommented Comment (drop l.at l.bytes ++ rest)
