use Rattle.std.proofs.Common.{◌≡◌, ◌++◌, ◌∙◌, ℕ, List, length, ap, sym}
use Rattle.kernel.proofs.Rooms.{length-rooms, empty-rooms}
use Rattle.kernel.proofs.watches.entry_lists.EntryLists.with_room.Goals as goal

pub returns-clause-long : goal.returns-clause-long
returns-clause-long c =
    let own : c.extend_from_slice.new.self.items ≡ c.args.rooms.now = c.in_ok-extend_from_slice.ensures.items ∙ ap (λ (rs : List ℕ). rs ++ c.args.rooms.now) c.in_ok-own.ensures.items in
    let many = c.in_ok-heads.ensures.apart.as_many in
    length-rooms c.resize.new.self.items c.in_ok-heads.heads.items c.extend_from_slice.new.self.items (many ∙ ap length (sym own)) ∙ many

pub returns-clause-empty : goal.returns-clause-empty
returns-clause-empty c = empty-rooms c.resize.new.self.items c.in_ok-heads.heads.items c.extend_from_slice.new.self.items c.in_ok-heads.ensures.empty
