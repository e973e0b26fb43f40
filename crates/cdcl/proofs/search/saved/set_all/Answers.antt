use Rattle.std.proofs.Common.{◌∙◌, Bool, List, ap, get_or, true, false}
use Rattle.cdcl.proofs.ListsInPlace.{mapped-read}
use Rattle.cdcl.proofs.search.saved.set_all.Goals as goal

pub returns-then-have_all_changed-clause-set : goal.returns-then-have_all_changed-clause-set
returns-then-have_all_changed-clause-set c n inside =
    ap (λ (xs : List Bool). get_or xs n false) c.fill.ensures ∙ mapped-read (λ (v : Bool). true) c.args.values.now n false false inside
