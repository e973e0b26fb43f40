use Rattle.std.proofs.Common.{nat_lt, ap, ◌∙◌}
use Rattle.lookahead.proofs.HeldCounts.{held-ranked}
use Rattle.lookahead.proofs.ranking.is_held.Goals as goal

pub returns : goal.returns
returns c K V counted within = ap (nat_lt 1) (c.rank_of.ensures K V counted within) ∙ held-ranked K c.args.var
