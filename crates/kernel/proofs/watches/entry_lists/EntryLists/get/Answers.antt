use Rattle.std.proofs.Common.{◌∙◌, arith}
use Rattle.kernel.proofs.Rooms.{place-within, read-place}
use Rattle.kernel.proofs.watches.entry_lists.EntryLists.get.Goals as goal

pub overflow_add-list : goal.overflow_add-list
overflow_add-list c = let low = place-within c.self.inside.entries.items c.self.inside.heads.items c.self.inside.rooms.items c.args.self.now c.self.view_is c.self.invariant.0 c.args.list.at c.requires.at c.args.list.from c.args.place c.requires.from c.requires.place in let few = c.self.invariant.1 in omega (arith, low, few)

pub index-requires : goal.index-requires
index-requires c = let low = place-within c.self.inside.entries.items c.self.inside.heads.items c.self.inside.rooms.items c.args.self.now c.self.view_is c.self.invariant.0 c.args.list.at c.requires.at c.args.list.from c.args.place c.requires.from c.requires.place in omega (arith, low, c.self.inside.entries.ok.0)

pub returns : goal.returns
returns c = c.index.ensures ∙ read-place c.self.inside.entries.items c.self.inside.heads.items c.self.inside.rooms.items c.args.self.now c.self.view_is c.self.invariant.0 c.args.list.at c.requires.at c.args.list.from c.args.place c.index.result.now c.requires.from c.requires.place
