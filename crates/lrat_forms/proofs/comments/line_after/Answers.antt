use Rattle.std.proofs.Common.{sym, ◌∙◌, rules}
use Rattle.lrat_forms.proofs.CommentLemmas.{after-last}
use Rattle.lrat_forms.proofs.comments.line_after.Goals as goal

pub returns-else-is_empty : goal.returns-else-is_empty
returns-else-is_empty c = c.line_behind.ensures ∙ sym (after-last c.args.line c.args.bytes.now (search rules))
