use Rattle.std.proofs.Common.{◌+◌, set, arith}
use Rattle.std.proofs.lemmas.List.{length-set}
use Rattle.kernel.proofs.Rooms.{place-within, written-place, apart-as-many}
use Rattle.kernel.proofs.watches.entry_lists.EntryLists.set.Goals as goal

pub overflow_add-list : goal.overflow_add-list
overflow_add-list c = let low = place-within c.self.inside.entries.items c.self.inside.heads.items c.self.inside.rooms.items c.args.self.now c.self.view_is c.self.invariant.0 c.args.list.at c.requires.at c.args.list.from c.args.place c.requires.from c.requires.place in let few = c.self.invariant.1 in omega (arith, low, few)

pub index_mut-requires : goal.index_mut-requires
index_mut-requires c = let low = place-within c.self.inside.entries.items c.self.inside.heads.items c.self.inside.rooms.items c.args.self.now c.self.view_is c.self.invariant.0 c.args.list.at c.requires.at c.args.list.from c.args.place c.requires.from c.requires.place in omega (arith, low, c.self.inside.entries.ok.0)

pub invariant_of-self : goal.invariant_of-self
invariant_of-self c =
    let long = length-set c.self.inside.entries.items (c.args.list.from + c.args.place) c.args.entry in
    let few = c.self.invariant.1 in
    (apart-as-many c.self.inside.entries.items c.self.inside.heads.items c.self.inside.rooms.items c.args.self.now c.self.view_is c.self.invariant.0 c.args.list.at c.requires.at (set c.self.inside.entries.items (c.args.list.from + c.args.place) c.args.entry) long, omega (arith, long, few))

pub returns : goal.returns
returns c = written-place c.self.inside.entries.items c.self.inside.heads.items c.self.inside.rooms.items c.args.self.now c.self.view_is c.self.invariant.0 c.args.list.at c.requires.at c.args.list.from c.args.place c.args.entry c.requires.from c.requires.place
