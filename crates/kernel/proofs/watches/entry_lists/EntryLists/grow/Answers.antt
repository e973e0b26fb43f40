use Rattle.std.proofs.Common.{◌≡◌, ◌≤◌, ◌+◌, ◌-◌, ◌++◌, ◌∙◌, length, take, drop, ap, arith, rules, replicate, ◌*◌}
use Rattle.std.proofs.lemmas.List.{length-append, length-replicate}
use Rattle.kernel.specs.EntryLists.{in_rooms}
use Rattle.kernel.proofs.Rooms.{head-inside, room-inside, its-room, its-room-is, fits, len-is, grown, part-long, more-rooms, filled}
use Rattle.kernel.proofs.watches.entry_lists.EntryLists.grow.Goals as goal

pub index-head-requires : goal.index-head-requires
index-head-requires c =
    let inside = head-inside c.self.inside.entries.items c.self.inside.heads.items c.self.inside.rooms.items c.args.self.now c.self.view_is c.self.invariant.0 c.args.at c.requires in
    omega (arith, inside, c.self.inside.heads.ok.0)

pub copy_behind-requires : goal.copy_behind-requires
copy_behind-requires c =
    let f = fits c.self.inside.entries.items c.self.inside.heads.items c.self.inside.rooms.items c.args.self.now c.self.view_is c.self.invariant.0 c.args.at c.requires c.index-head.result.now c.index-head.ensures (its-room c.self.inside.entries.items c.self.inside.heads.items c.self.inside.rooms.items c.args.self.now c.self.view_is c.self.invariant.0 c.args.at c.requires) (its-room-is c.self.inside.entries.items c.self.inside.heads.items c.self.inside.rooms.items c.args.self.now c.self.view_is c.self.invariant.0 c.args.at c.requires) in
    let a = f.0 in
    let b = f.1 in
    omega (arith, a, b)

pub returns-in_err-copy_behind-clause-err : goal.returns-in_err-copy_behind-clause-err
returns-in_err-copy_behind-clause-err c =
    let ys = c.in_err-copy_behind.ensures.behind.0 in
    let same : in_rooms c.copy_behind.new.entries.items c.self.inside.heads.items c.self.inside.rooms.items ≡ c.args.self.now =
    ap (λ es. in_rooms es c.self.inside.heads.items c.self.inside.rooms.items) c.in_err-copy_behind.ensures.behind.1
    ∙ more-rooms c.self.inside.entries.items ys c.self.inside.heads.items c.self.inside.rooms.items c.self.invariant.0 ∙ c.self.view_is in
    search (rules, same)

pub returns-in_err-resize-clause-err : goal.returns-in_err-resize-clause-err
returns-in_err-resize-clause-err c =
    let ys = c.in_ok-copy_behind.ensures.behind.0 in
    let same : in_rooms c.resize.new.self.items c.self.inside.heads.items c.self.inside.rooms.items ≡ c.args.self.now =
    ap (λ es. in_rooms es c.self.inside.heads.items c.self.inside.rooms.items) (c.in_err-resize.ensures.items ∙ c.in_ok-copy_behind.ensures.behind.1)
    ∙ more-rooms c.self.inside.entries.items ys c.self.inside.heads.items c.self.inside.rooms.items c.self.invariant.0 ∙ c.self.view_is in
    search (rules, same)

pub index_mut-requires : goal.index_mut-requires
index_mut-requires c =
    let inside = head-inside c.self.inside.entries.items c.self.inside.heads.items c.self.inside.rooms.items c.args.self.now c.self.view_is c.self.invariant.0 c.args.at c.requires in
    omega (arith, inside, c.self.inside.heads.ok.0)

pub index_mut-requires-2 : goal.index_mut-requires-2
index_mut-requires-2 c =
    let inside = room-inside c.self.inside.entries.items c.self.inside.heads.items c.self.inside.rooms.items c.args.self.now c.self.view_is c.self.invariant.0 c.args.at c.requires in
    omega (arith, inside, c.self.inside.rooms.ok.0)

pub returns-clause-ok : goal.returns-clause-ok
returns-clause-ok c =
    let es = c.self.inside.entries.items in
    let h = c.index-head.result.now in
    let f = fits c.self.inside.entries.items c.self.inside.heads.items c.self.inside.rooms.items c.args.self.now c.self.view_is c.self.invariant.0 c.args.at c.requires c.index-head.result.now c.index-head.ensures (its-room c.self.inside.entries.items c.self.inside.heads.items c.self.inside.rooms.items c.args.self.now c.self.view_is c.self.invariant.0 c.args.at c.requires) (its-room-is c.self.inside.entries.items c.self.inside.heads.items c.self.inside.rooms.items c.args.self.now c.self.view_is c.self.invariant.0 c.args.at c.requires) in
    let copied = take h.len (drop h.from es) in
    let rest = replicate (c.len-from.result + 2 * c.max-room.result - c.copy_behind.new.entries.len) c.no_entry.result in
    let begins : c.len-from.result ≡ length es = c.len-from.ensures ∙ c.self.inside.entries.ok.0 in
    let long : length copied ≡ h.len = let a = f.0 in let b = f.1 in part-long es h.from h.len (omega (arith, a, b)) in
    let all = length-append es copied in
    let room = c.max-room.ensures in
    let low : length (es ++ copied) ≤ c.len-from.result + 2 * c.max-room.result = omega (arith, all, long, begins, room) in
    let made : c.resize.new.self.items ≡ es ++ (copied ++ rest) = filled es copied rest c.copy_behind.new.entries.items c.resize.new.self.items (c.len-from.result + 2 * c.max-room.result) c.in_ok-copy_behind.ensures.ok low c.in_ok-resize.ensures.items in
    let many = length-replicate (c.len-from.result + 2 * c.max-room.result - c.copy_behind.new.entries.len) c.no_entry.result in
    let sum : length c.copy_behind.new.entries.items ≡ length (es ++ copied) = ap length c.in_ok-copy_behind.ensures.ok in
    let kept = c.copy_behind.new.entries.ok.0 in
    let size : 2 * c.max-room.result ≡ h.len + length rest = omega (arith, many, sum, kept, all, long, begins, room) in
    let count = len-is c.self.inside.entries.items c.self.inside.heads.items c.self.inside.rooms.items c.args.self.now c.self.view_is c.self.invariant.0 c.args.at c.requires c.index-head.result.now c.index-head.ensures (its-room c.self.inside.entries.items c.self.inside.heads.items c.self.inside.rooms.items c.args.self.now c.self.view_is c.self.invariant.0 c.args.at c.requires) (its-room-is c.self.inside.entries.items c.self.inside.heads.items c.self.inside.rooms.items c.args.self.now c.self.view_is c.self.invariant.0 c.args.at c.requires) in
    (c.len-from.result, rest, grown c.self.inside.entries.items c.self.inside.heads.items c.self.inside.rooms.items c.args.self.now c.self.view_is c.self.invariant.0 c.args.at c.requires c.index-head.result.now c.index-head.ensures (its-room c.self.inside.entries.items c.self.inside.heads.items c.self.inside.rooms.items c.args.self.now c.self.view_is c.self.invariant.0 c.args.at c.requires) (its-room-is c.self.inside.entries.items c.self.inside.heads.items c.self.inside.rooms.items c.args.self.now c.self.view_is c.self.invariant.0 c.args.at c.requires) c.len-from.result (2 * c.max-room.result) c.resize.new.self.items rest begins made size, omega (arith, many, sum, kept, all, long, begins, room), omega (arith, size, room, count), omega (arith, size, room, count))
