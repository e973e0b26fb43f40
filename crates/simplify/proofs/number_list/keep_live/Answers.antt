use Rattle.std.proofs.Common.{rules}
use Rattle.std.proofs.lemmas.Fn.{filter_same}
use Rattle.simplify.specs.Tables.{is_live}
use Rattle.simplify.proofs.number_list.keep_live.Goals as goal

pub returns : goal.returns
returns c = filter_same _ (is_live c.args.there.now) _ (λ x b f r. search rules) _ _ c.retain.ensures.filtered
