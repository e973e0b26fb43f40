use Rattle.std.proofs.Common.{sym, ◌∙◌}
use Rattle.lrat_forms.proofs.CommentLemmas.{plain-take, unmarked-plain}
use Rattle.lrat_forms.proofs.comments.plain_count.Goals as goal

pub returns-else-has_mark-clause-plain : goal.returns-else-has_mark-clause-plain
returns-else-has_mark-clause-plain c = plain-take c.args.line _ c.args.bytes.now (unmarked-plain c.args.line c.args.bytes.now (sym c.has_mark.ensures ∙ c.if-has_mark.false))
