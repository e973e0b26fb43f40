use Rattle.std.proofs.Common.{◌∙◌, sym}
use Rattle.session.proofs.AskedLemmas.{IsCore-conflict}
use Rattle.session.proofs.search.Search.on_conflict.Goals as goal

pub returns-then-level-eq0-clause-says : goal.returns-then-level-eq0-clause-says
returns-then-level-eq0-clause-says c =
    IsCore-conflict c.args.formula.now c.args.assumptions.now c.args.self.now c.requires.asked c.args.number c.requires.conflict (sym c.level.ensures ∙ c.if-level-eq0.true) c.new.result.items c.new.ensures.items
