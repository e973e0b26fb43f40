use Rattle.std.proofs.Common.{◌≡◌, ◌≤◌, ◌++◌, ◌∙◌, List, [], ◌∷◌, length, get_or, set, map, ap, arith}
use Rattle.kernel.specs.declared.watches.watch.Watch.{Watch}
use Rattle.kernel.specs.EntryLists.{entries_of, nth_list}
use Rattle.kernel.proofs.Rooms.{head-inside, room-inside, room-long, fits, len-is, pushed-list, moved-entries, grown-room}
use Rattle.kernel.proofs.watches.entry_lists.EntryLists.push.Goals as goal

pub index-requires : goal.index-requires
index-requires c =
    let inside = head-inside c.self.inside.entries.items c.self.inside.heads.items c.self.inside.rooms.items c.args.self.now c.self.view_is c.self.invariant.0 c.args.at c.requires in
    omega (arith, inside, c.self.inside.heads.ok.0)

pub index-requires-2 : goal.index-requires-2
index-requires-2 c =
    let inside = room-inside c.self.inside.entries.items c.self.inside.heads.items c.self.inside.rooms.items c.args.self.now c.self.view_is c.self.invariant.0 c.args.at c.requires in
    omega (arith, inside, c.self.inside.rooms.ok.0)

pub put_behind-requires-clause-room : goal.put_behind-requires-clause-room
put_behind-requires-clause-room c =
    let long = room-long c.self.inside.entries.items c.self.inside.heads.items c.self.inside.rooms.items c.args.self.now c.self.view_is c.self.invariant.0 c.args.at c.requires c.index.result.now c.index.ensures c.index-2.result.now c.index-2.ensures in
    let len = len-is c.self.inside.entries.items c.self.inside.heads.items c.self.inside.rooms.items c.args.self.now c.self.view_is c.self.invariant.0 c.args.at c.requires c.index.result.now c.index.ensures c.index-2.result.now c.index-2.ensures in
    omega (arith, long, len, c.if-index.true)

pub returns-then-index-clause-entries : goal.returns-then-index-clause-entries
returns-then-index-clause-entries c =
    let long = room-long c.self.inside.entries.items c.self.inside.heads.items c.self.inside.rooms.items c.args.self.now c.self.view_is c.self.invariant.0 c.args.at c.requires c.index.result.now c.index.ensures c.index-2.result.now c.index-2.ensures in
    let len = len-is c.self.inside.entries.items c.self.inside.heads.items c.self.inside.rooms.items c.args.self.now c.self.view_is c.self.invariant.0 c.args.at c.requires c.index.result.now c.index.ensures c.index-2.result.now c.index-2.ensures in
    rw c.put_behind.ensures (pushed-list c.args.self.now c.args.at c.args.entry (omega (arith, long, len, c.if-index.true)))

pub put_behind-requires-2-clause-room : goal.put_behind-requires-2-clause-room
put_behind-requires-2-clause-room c =
    let long = room-long c.self.inside.entries.items c.self.inside.heads.items c.self.inside.rooms.items c.args.self.now c.self.view_is c.self.invariant.0 c.args.at c.requires c.index.result.now c.index.ensures c.index-2.result.now c.index-2.ensures in
    let len = len-is c.self.inside.entries.items c.self.inside.heads.items c.self.inside.rooms.items c.args.self.now c.self.view_is c.self.invariant.0 c.args.at c.requires c.index.result.now c.index.ensures c.index-2.result.now c.index-2.ensures in
    let low = (fits c.self.inside.entries.items c.self.inside.heads.items c.self.inside.rooms.items c.args.self.now c.self.view_is c.self.invariant.0 c.args.at c.requires c.index.result.now c.index.ensures c.index-2.result.now c.index-2.ensures).0 in
    grown-room c.args.self.now c.args.at c.in_ok-grow.ensures.ok.0 c.in_ok-grow.ensures.ok.1 c.grow.new.self c.requires (omega (arith, long, len, low)) c.in_ok-grow.ensures.ok.2 c.in_ok-grow.ensures.ok.3

pub returns-clause-entries : goal.returns-clause-entries
returns-clause-entries c =
    let long = room-long c.self.inside.entries.items c.self.inside.heads.items c.self.inside.rooms.items c.args.self.now c.self.view_is c.self.invariant.0 c.args.at c.requires c.index.result.now c.index.ensures c.index-2.result.now c.index-2.ensures in
    let len = len-is c.self.inside.entries.items c.self.inside.heads.items c.self.inside.rooms.items c.args.self.now c.self.view_is c.self.invariant.0 c.args.at c.requires c.index.result.now c.index.ensures c.index-2.result.now c.index-2.ensures in
    let low = (fits c.self.inside.entries.items c.self.inside.heads.items c.self.inside.rooms.items c.args.self.now c.self.view_is c.self.invariant.0 c.args.at c.requires c.index.result.now c.index.ensures c.index-2.result.now c.index-2.ensures).0 in
    let within : (nth_list c.args.self.now c.args.at).len ≤ length (nth_list c.args.self.now c.args.at).room = omega (arith, long, len, low) in
    let more = grown-room c.args.self.now c.args.at c.in_ok-grow.ensures.ok.0 c.in_ok-grow.ensures.ok.1 c.grow.new.self c.requires within c.in_ok-grow.ensures.ok.2 c.in_ok-grow.ensures.ok.3 in
    let same : map entries_of c.grow.new.self ≡ map entries_of c.args.self.now =
    ap (map entries_of) c.in_ok-grow.ensures.ok.2 ∙ moved-entries c.args.self.now c.args.at c.in_ok-grow.ensures.ok.0 c.in_ok-grow.ensures.ok.1 within in
    ap (map entries_of) c.put_behind-2.ensures ∙ pushed-list c.grow.new.self c.args.at c.args.entry more
    ∙ ap (λ (es : List (List Watch)). set es c.args.at (get_or es c.args.at [] ++ c.args.entry ∷ [])) same
