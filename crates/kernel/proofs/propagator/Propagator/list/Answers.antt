use Rattle.std.proofs.Common.{◌∙◌, ◌++◌, ◌∷◌, [], List, get_or, map, set}
use Rattle.kernel.specs.declared.watches.watch.Watch.{Watch}
use Rattle.kernel.specs.EntryLists.{entries_of}
use Rattle.kernel.proofs.propagator.Propagator.list.Goals as goal

pub returns-clause-lists : goal.returns-clause-lists
returns-clause-lists c =
    let old : List (List Watch) = map entries_of c.args.self.now.lists in
    c.in_ok-push.ensures.entries ∙ (λ i. set old (c.code.ensures i) (get_or old (c.code.ensures i) [] ++ c.of.ensures i ∷ []))
