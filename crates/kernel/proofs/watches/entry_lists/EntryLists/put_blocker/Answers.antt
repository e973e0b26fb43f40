use Rattle.std.proofs.Common.{◌≡◌, ◌+◌, ◌∙◌, set, ap, sym, arith}
use Rattle.std.proofs.lemmas.List.{length-set}
use Rattle.kernel.specs.declared.watches.watch.Watch.{Watch}
use Rattle.kernel.specs.EntryLists.{nth_list}
use Rattle.kernel.proofs.Places.{At-one}
use Rattle.kernel.proofs.Rooms.{place-within, read-place, written-place, apart-as-many}
use Rattle.kernel.proofs.watches.entry_lists.EntryLists.put_blocker.Goals as goal

pub overflow_add-list : goal.overflow_add-list
overflow_add-list c = let low = place-within c.self.inside.entries.items c.self.inside.heads.items c.self.inside.rooms.items c.args.self.now c.self.view_is c.self.invariant.0 c.args.list.at c.requires.at c.args.list.from c.args.place c.requires.from c.requires.place in let few = c.self.invariant.1 in omega (arith, low, few)

pub index_mut-entry-requires : goal.index_mut-entry-requires
index_mut-entry-requires c = let low = place-within c.self.inside.entries.items c.self.inside.heads.items c.self.inside.rooms.items c.args.self.now c.self.view_is c.self.invariant.0 c.args.list.at c.requires.at c.args.list.from c.args.place c.requires.from c.requires.place in omega (arith, low, c.self.inside.entries.ok.0)

pub invariant_of-self : goal.invariant_of-self
invariant_of-self c =
    let long = length-set c.self.inside.entries.items (c.args.list.from + c.args.place) c.put_blocker.new.self in
    let few = c.self.invariant.1 in
    (apart-as-many c.self.inside.entries.items c.self.inside.heads.items c.self.inside.rooms.items c.args.self.now c.self.view_is c.self.invariant.0 c.args.list.at c.requires.at (set c.self.inside.entries.items (c.args.list.from + c.args.place) c.put_blocker.new.self) long, omega (arith, long, few))

pub returns : goal.returns
returns c e at =
    let was = c.index_mut-entry.result.now in
    let list = nth_list c.args.self.now c.args.list.at in
    let read : was ≡ e = At-one list.room c.args.place was e (at.0, sym (c.index_mut-entry.ensures.value ∙ read-place c.self.inside.entries.items c.self.inside.heads.items c.self.inside.rooms.items c.args.self.now c.self.view_is c.self.invariant.0 c.args.list.at c.requires.at c.args.list.from c.args.place was c.requires.from c.requires.place)) at in
    written-place c.self.inside.entries.items c.self.inside.heads.items c.self.inside.rooms.items c.args.self.now c.self.view_is c.self.invariant.0 c.args.list.at c.requires.at c.args.list.from c.args.place c.put_blocker.new.self c.requires.from c.requires.place
    ∙ ap (λ (x : Watch). set c.args.self.now c.args.list.at (record list { room = set list.room c.args.place x })) (c.put_blocker.ensures ∙ ap (λ (x : Watch). record x { blocker = c.args.blocker }) read)
