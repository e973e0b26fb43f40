use Rattle.std.proofs.Common.{◌∙◌}
use Rattle.lrat_text.proofs.WordLemmas.{clause-text}
use Rattle.lrat_text.proofs.write.write_clause.Goals as goal

pub returns : goal.returns
returns c =
    c.in_ok-append_end.ensures.ok ∙ clause-text c.args.id c.args.clause.now c.args.hints.now c.args.out.now.items c.append_clause.new.out.items c.in_ok-append_clause.ensures.ok
